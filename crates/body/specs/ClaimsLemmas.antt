-- A claim is what its words and its row make.
use Rattle.std.specs.Prelude.{◌≡◌, ℕ, true, List, [], ◌∷◌, length, Some, None, refl}
use Rattle.std.proofs.Common.{sym, ap, arith}
use Rattle.std.proofs.lemmas.Bool.Decides.{nat_tests}
use Rattle.body.specs.Words.{in_order}
use Rattle.body.specs.Ranges.{claim_ok}
use Rattle.body.specs.Claims.{claim_of, claim_words, claim_allows, claim_row, claim_remade}
use Rattle.body.specs.declared.claim.NumberClaim.{NumberClaim}
use Rattle.body.specs.declared.claim.ClaimRow.{ClaimRow}
use Rattle.body.specs.CheckedLemmas.{checked_true, checked_some}

pub claim_of_self : (b : NumberClaim) → claim_of b.series b.count ≡ Some b
claim_of_self b = checked_true (claim_ok b.series b.count) _ None b.ok

pub claim_plain : (x : ClaimRow) (b : NumberClaim) → claim_remade x ≡ Some b → claim_row b ≡ x
claim_plain x b e =
    let m = checked_some (claim_ok x.series x.count) (λ p. record { series = x.series; count = x.count; ok = p }) b e in
    ap claim_row (sym m.1)

pub claim_written : (ws : List ℕ) → length ws ≡ 2 → in_order claim_allows [] ws ≡ true → (b : NumberClaim) × (claim_words b ≡ ws)
claim_written [] l h = absurd (omega arith)
claim_written (s ∷ []) l h = absurd (omega arith)
claim_written (s ∷ n ∷ []) l h = (record { series = s; count = n; ok = grind (arith, nat_tests) }, refl)
claim_written (s ∷ n ∷ x ∷ more) l h = absurd (omega arith)
