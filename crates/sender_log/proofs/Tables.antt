-- The table of how far the receivers are behind, receiver by receiver.
use Rattle.std.proofs.Common.{◌≡◌, ℕ, ◌+◌, ◌<◌, Bool, true, false, cond, not, ◌&&◌, eqb, ltb, sym, refl, ap, ◌∙◌, ap₂}
use Rattle.std.proofs.lemmas.Bool.{cond-true, cond-false}
use Rattle.transport.specs.Members.{hears_in, opened}
use Rattle.transport.specs.Tables.{at_pair}
use Rattle.transport.specs.declared.Members.{Members}
use Rattle.transport.specs.declared.PairTable.{PairTable}
use Rattle.transport.proofs.TableLaws.{cond_pair, below_last, below_here, below_next, below_apart}
use Rattle.sender_log.specs.Behind.{FurtherBehind}

module _ (m : Members) (before now : PairTable ℕ) (s : ℕ) where
  -- the receiver k is still as before
  pub further_next : (k : ℕ) → FurtherBehind m before now s k → k < 8 → at_pair 0 now s k ≡ at_pair 0 before s k
  further_next k b h = b s k h ∙ cond-false _ _ _ (below_last s k (hears_in m s k))

  -- a receiver that hears is one further behind
  pub further_step : (k : ℕ) (next : PairTable ℕ) (v : ℕ) → FurtherBehind m before now s k → k < 8 → hears_in m s k ≡ true → v ≡ at_pair 0 now s k + 1 →
      ((i j : ℕ) → j < 8 → at_pair 0 next i j ≡ cond (eqb i s && eqb j k) v (at_pair 0 now i j)) →
      FurtherBehind m before next s (k + 1)
  further_step k next v b hk hh hv w i j hj =
      w i j hj ∙ sym (cond_pair i s j k _ _ _ here (λ ne. ap (λ c. cond c (at_pair 0 before i j + 1) (at_pair 0 before i j)) (below_apart i j s k (hears_in m i j) ne) ∙ sym (b i j hj)))
    where
      here : i ≡ s → j ≡ k → cond (eqb i s && (ltb j (k + 1) && hears_in m i j)) (at_pair 0 before i j + 1) (at_pair 0 before i j) ≡ v
      here p q =
          cond-true _ _ _ (below_here i j s k (hears_in m i j) p q (ap₂ (hears_in m) p q ∙ hh)) ∙
          (ap₂ (λ a b. at_pair 0 before a b + 1) p q ∙ (ap (λ x. x + 1) (sym (further_next k b hk)) ∙ sym hv))

  pub further_skip : (k : ℕ) → FurtherBehind m before now s k → hears_in m s k ≡ false → FurtherBehind m before now s (k + 1)
  further_skip k b hh i j hj = b i j hj ∙ ap (λ c. cond c (at_pair 0 before i j + 1) (at_pair 0 before i j)) (below_next i j s k (hears_in m i j) (λ p q. ap₂ (hears_in m) p q ∙ hh))

  -- all receivers were gone through
  pub further_all : FurtherBehind m before now s m.size → (i j : ℕ) → j < 8 →
      at_pair 0 now i j ≡ cond (eqb i s && hears_in m i j) (at_pair 0 before i j + 1) (at_pair 0 before i j)
  further_all b i j h = b i j h ∙ ap (λ c. cond (eqb i s && c) (at_pair 0 before i j + 1) (at_pair 0 before i j)) (all (ltb j m.size) (opened m j) (not (eqb j i)))
    where
      all : (a x y : Bool) → (a && ((a && x) && y)) ≡ ((a && x) && y)
      all true x y = refl
      all false x y = refl
