-- Reading bytes: words are judged in their order, and the first that is at fault ends it.
use Rattle.std.specs.Prelude.{◌≡◌, ℕ, ◌+◌, ◌*◌, Bool, cond, List, [], ◌∷◌, ◌++◌, length, Some, None, Ok, Err, Option, Result, ◌==◌}
use Rattle.body.specs.declared.WireFault.{WireFault}
use Rattle.body.specs.declared.WireRefusal.TheVariants.{EndsTooSoon, UnknownKind, OutOfRange, LeftOver}
use Rattle.frame.specs.Kinds.{kind_named, kind_number}
use Rattle.frame.specs.declared.Frame.{Frame}
use Rattle.frame.specs.declared.FrameKind.{FrameKind}
use Rattle.wire.specs.Bytes.{word_of}
use Rattle.wire.specs.Layout.{kind_count, kind_allows, frame_words}

-- the first byte of the word behind these, which the kind stands before
abbrev pub place : List ℕ → ℕ
place before = 4 + 4 * length before

-- what follows these words is no word of the frame: it has all that are due, or is cut off
abbrev pub stopped : ℕ → List ℕ → WireFault
stopped due before = record { refusal = cond (length before == due) LeftOver EndsTooSoon; byte = place before }

abbrev pub unfit_word : List ℕ → WireFault
unfit_word before = record { refusal = OutOfRange; byte = place before }

-- the words behind the kind, of which `due` are due and `before` have been read, or the first fault
unfoldable pub words_on : (List ℕ → ℕ → Bool) → ℕ → List ℕ → List ℕ → Result (List ℕ) WireFault
words_on allows due before [] = cond (length before == due) (Ok before) (Err (stopped due before))
words_on allows due before (a ∷ []) = Err (stopped due before)
words_on allows due before (a ∷ b ∷ []) = Err (stopped due before)
words_on allows due before (a ∷ b ∷ c ∷ []) = Err (stopped due before)
words_on allows due before (a ∷ b ∷ c ∷ d ∷ more) =
    cond (length before == due) (Err (stopped due before)) (
    cond (allows before (word_of a b c d)) (words_on allows due (before ++ word_of a b c d ∷ []) more) (
    Err (unfit_word before)))

abbrev pub behind_kind : FrameKind → Result (List ℕ) WireFault → Result (List ℕ) WireFault
behind_kind kind (Ok ws) = Ok (kind_number kind ∷ ws)
behind_kind kind (Err e) = Err e

abbrev pub words_by_kind : (List ℕ → ℕ → Bool) → ℕ → Option FrameKind → List ℕ → Result (List ℕ) WireFault
words_by_kind allows count (Some kind) more =
    behind_kind kind (words_on (kind_allows allows kind) (kind_count count kind) [] more)
words_by_kind allows count None more = Err (record { refusal = UnknownKind; byte = 0 })

-- the words of a frame's bytes, or the first fault: a body has `count` words, each of which `allows` judges
abbrev pub words_read : (List ℕ → ℕ → Bool) → ℕ → List ℕ → Result (List ℕ) WireFault
words_read allows count [] = Err (record { refusal = EndsTooSoon; byte = 0 })
words_read allows count (a ∷ []) = Err (record { refusal = EndsTooSoon; byte = 0 })
words_read allows count (a ∷ b ∷ []) = Err (record { refusal = EndsTooSoon; byte = 0 })
words_read allows count (a ∷ b ∷ c ∷ []) = Err (record { refusal = EndsTooSoon; byte = 0 })
words_read allows count (a ∷ b ∷ c ∷ d ∷ more) = words_by_kind allows count (kind_named (word_of a b c d)) more

-- the answer that reading gives: the frame with these words, or the fault
abbrev pub Reads : {B : Type 0} → (B → List ℕ) → (List ℕ → ℕ → Bool) → ℕ → List ℕ → Result (Frame B) WireFault → Type 0
Reads words allows count bs (Ok f) = words_read allows count bs ≡ Ok (frame_words words f)
Reads words allows count bs (Err e) = words_read allows count bs ≡ Err e

-- reading these bytes can answer nothing else than this frame
abbrev pub ReadsBack : {B : Type 0} → (B → List ℕ) → (List ℕ → ℕ → Bool) → ℕ → List ℕ → Frame B → Type 0
ReadsBack {B} words allows count bs f = (r : Result (Frame B) WireFault) → Reads words allows count bs r → r ≡ Ok f
