-- Lines and what they mean, to show that `line_means` says what is meant.
use Rattle.std.specs.Prelude.{◌≡◌, [], ◌∷◌, ◌++◌, Some, None, codes}
use Rattle.dump.specs.declared.line.BodyKind.TheVariants.{Change, Claim}
use Rattle.dump.specs.Lines.{line_means}
use Rattle.dump.specs.Trim.{carriage_return}

-- a block, the empty block, digits of either case, words that stand apart, a last word that is cut short
abbrev pub GoodLines : Type 0
GoodLines =
    (line_means (codes "change 0102") ≡ Some (Change, 1 ∷ 2 ∷ []))
    × (line_means (codes "claim") ≡ Some (Claim, []))
    × (line_means (codes "  claim  aBcDeF09  10 " ++ carriage_return ∷ [])
    ≡ Some (Claim, 171 ∷ 205 ∷ 239 ∷ 9 ∷ 16 ∷ []))
    × (line_means (codes "claim 00000005 0000") ≡ Some (Claim, 0 ∷ 0 ∷ 0 ∷ 5 ∷ 0 ∷ 0 ∷ []))

-- no kind, another kind, a longer word, a space inside a word, one digit too many, a character that is no digit
abbrev pub BadLines : Type 0
BadLines =
    (line_means (codes " ") ≡ None)
    × (line_means (codes "Claim 00") ≡ None)
    × (line_means (codes "claims 00") ≡ None)
    × (line_means (codes "change 0000 0000") ≡ None)
    × (line_means (codes "change 00000005 000") ≡ None)
    × (line_means (codes "change 0x05") ≡ None)
    × (line_means (codes "claim 00" ++ carriage_return ∷ codes "00") ≡ None)

abbrev pub Examples : Type 0
Examples = GoodLines × BadLines
