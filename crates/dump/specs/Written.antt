-- How a block is written as a line, and that every such line is read back.
use Rattle.std.specs.Prelude.{◌≡◌, ℕ, ◌+◌, ◌-◌, ◌/◌, ◌%◌, ◌<◌, cond, List, [], ◌∷◌, ◌++◌, Some, codes, nat_lt}
use Rattle.std.specs.List.{AllByRecursion}
use Rattle.dump.specs.declared.line.BodyKind.{BodyKind}
use Rattle.dump.specs.declared.line.BodyKind.TheVariants.{Change, Claim}
use Rattle.dump.specs.Lines.{line_means}
use Rattle.dump.specs.Trim.{space}

-- the digits `0` to `9` begin at 48, and `a` to `f` at 97
abbrev pub digit_char : ℕ → ℕ
digit_char d = cond (nat_lt d 10) (d + 48) (d - 10 + 97)

abbrev pub hex_of : List ℕ → List ℕ
hex_of [] = []
hex_of (b ∷ bs) = digit_char (b / 16) ∷ (digit_char (b % 16) ∷ hex_of bs)

abbrev pub name_of : BodyKind → List ℕ
name_of Change = codes "change"
name_of Claim = codes "claim"

abbrev pub written : BodyKind → List ℕ → List ℕ
written k bs = name_of k ++ (space ∷ hex_of bs)

abbrev pub ReadBack : Type 0
ReadBack = (k : BodyKind) (bs : List ℕ) → AllByRecursion (λ b. b < 256) bs → line_means (written k bs) ≡ Some (k, bs)
