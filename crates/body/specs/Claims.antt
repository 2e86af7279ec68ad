-- Number claims: made of series and count, and seen as words and as rows.
use Rattle.std.specs.Prelude.{ℕ, Bool, false, ◌&&◌, List, [], ◌∷◌, Some, None, Option, nat_le, nat_lt}
use Rattle.body.specs.Checked.{checked}
use Rattle.body.specs.Ranges.{claim_ok}
use Rattle.body.specs.declared.claim.NumberClaim.{NumberClaim}
use Rattle.body.specs.declared.claim.ClaimRow.{ClaimRow}

abbrev pub claim_of : ℕ → ℕ → Option NumberClaim
claim_of s n = checked (claim_ok s n) (λ p. Some (record { series = s; count = n; ok = p })) None

abbrev pub claim_words : NumberClaim → List ℕ
claim_words b = b.series ∷ (b.count ∷ [])

abbrev pub claim_allows : List ℕ → ℕ → Bool
claim_allows [] w = nat_lt w 16
claim_allows (s ∷ []) w = nat_le 1 w && nat_le w 1000000
claim_allows (s ∷ n ∷ more) w = false

abbrev pub claim_rebuilt : List ℕ → Option NumberClaim
claim_rebuilt [] = None
claim_rebuilt (s ∷ []) = None
claim_rebuilt (s ∷ n ∷ []) = claim_of s n
claim_rebuilt (s ∷ n ∷ x ∷ more) = None

abbrev pub claim_row : NumberClaim → ClaimRow
claim_row b = record { series = b.series; count = b.count }

abbrev pub claim_remade : ClaimRow → Option NumberClaim
claim_remade x = claim_of x.series x.count
