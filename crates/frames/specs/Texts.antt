-- The program's answers.
use Rattle.std.specs.Prelude.{◌≡◌, ℕ, Bool, List, Some, None, Ok, Err, codes, Option, Result}
use Rattle.body.specs.Faults.{fault_text}
use Rattle.body.specs.Changes.{change_words, change_allows}
use Rattle.body.specs.Claims.{claim_words, claim_allows}
use Rattle.body.specs.declared.WireFault.{WireFault}
use Rattle.dump.specs.declared.BodyKind.{BodyKind}
use Rattle.dump.specs.declared.BodyKind.TheVariants.{Change, Claim}
use Rattle.frame.specs.Texts.{frame_text}
use Rattle.frame.specs.declared.Frame.{Frame}
use Rattle.wire.specs.Reading.{Reads}

abbrev pub result_text : {B : Type 0} → (B → List ℕ) → Result (Frame B) WireFault → List ℕ
result_text words (Ok f) = frame_text words f
result_text words (Err e) = fault_text e

-- the text of what reading a block answers
pub record BlockText {B : Type 0} (words : B → List ℕ) (allows : List ℕ → ℕ → Bool) (count : ℕ) (block text : List ℕ) : Type 0 where
  pub answer : Result (Frame B) WireFault
  pub reads : Reads words allows count block answer
  pub shown : text ≡ result_text words answer

-- what is answered to a line that means this
abbrev pub LineText : Option (BodyKind × List ℕ) → List ℕ → Type 0
LineText None text = text ≡ codes "not hex"
LineText (Some (Change, block)) text = BlockText change_words change_allows 4 block text
LineText (Some (Claim, block)) text = BlockText claim_words claim_allows 2 block text
