-- How the reader goes through the words behind the kind. Nothing that the public contracts rest on.
use Rattle.std.specs.Prelude.{◌≡◌, ℕ, ◌+◌, Bool, cond, List, [], length, drop, Ok, Err, Result, nat_le}
use Rattle.body.specs.declared.WireFault.{WireFault}
use Rattle.body.specs.declared.WireRefusal.TheVariants.{EndsTooSoon}
use Rattle.frame.specs.Contents.{kind_of}
use Rattle.frame.specs.declared.Frame.{Frame}
use Rattle.frame.specs.declared.FrameKind.{FrameKind}
use Rattle.wire.specs.Bytes.{word_at}
use Rattle.wire.specs.Layout.{kind_count, kind_allows, rest_words}
use Rattle.wire.specs.Reading.{place, unfit_word, words_on}

-- the word behind these, if it is there and in range
abbrev pub next_word : (List ℕ → ℕ → Bool) → List ℕ → List ℕ → Result ℕ WireFault
next_word allows before bs =
    cond (nat_le (place before + 4) (length bs)) (
    cond (allows before (word_at bs (place before))) (Ok (word_at bs (place before))) (
    Err (unfit_word before))) (
    Err (record { refusal = EndsTooSoon; byte = place before }))

-- the words that are due stand in a slice, or the first fault is answered
abbrev pub Fills : (List ℕ → ℕ → Bool) → ℕ → List ℕ → List ℕ → Result (Unit {0}) WireFault → Type 0
Fills allows due bs words (Ok u) = words_on allows due [] (drop 4 bs) ≡ Ok words
Fills allows due bs words (Err e) = words_on allows due [] (drop 4 bs) ≡ Err e

-- the frame of a kind whose words stand behind the kind, or the first fault
abbrev pub RestReads : {B : Type 0} → (B → List ℕ) → (List ℕ → ℕ → Bool) → ℕ → FrameKind → List ℕ → Result (Frame B) WireFault → Type 0
RestReads words allows count kind bs (Ok f) =
    (kind_of f.payload.content ≡ kind) ×
    (words_on (kind_allows allows kind) (kind_count count kind) [] (drop 4 bs) ≡ Ok (rest_words words f))
RestReads words allows count kind bs (Err e) = words_on (kind_allows allows kind) (kind_count count kind) [] (drop 4 bs) ≡ Err e
