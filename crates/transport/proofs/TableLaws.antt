-- Tables of pairs, when one is made and when one is written.
use Rattle.std.proofs.Common.{◌≡◌, ℕ, zero, suc, ◌+◌, ◌*◌, ◌<◌, Bool, true, false, subst, cond, ◌&&◌, eqb, ltb, List, length, get_or, set, replicate, sym, refl, ap, ◌∙◌, ap₂, inl, inr, arith}
use Rattle.std.proofs.lemmas.List.{get_or-set_same, get_or-set_other, set_past}
use Rattle.std.proofs.lemmas.Bool.{and_parts, and_from, eqb-true, eq-eqb, cases_eq, cases_lt, cond_both}
use Rattle.std.proofs.lemmas.Bool.Decides.{nat_tests}

pub same_everywhere : {T : Type 0} (n k : ℕ) (v : T) → get_or (replicate n v) k v ≡ v
same_everywhere zero k v = refl
same_everywhere (suc n) zero v = refl
same_everywhere (suc n) (suc k) v = same_everywhere n k v

pub pair_true : (i s j d : ℕ) → (eqb i s && eqb j d) ≡ true → (i ≡ s) × (j ≡ d)
pair_true i s j d h = let p = and_parts (eqb i s) (eqb j d) h in (eqb-true i s p.0, eqb-true j d p.1)

pub pair_false : (i s j d : ℕ) → (eqb i s && eqb j d) ≡ false → i ≡ s → j ≡ d → ⊥
pair_false i s j d h p q = grind (arith, nat_tests)

pub pair_self : (s d : ℕ) → (eqb s s && eqb d d) ≡ true
pair_self s d = and_from (eqb s s) (eqb d d) (eq-eqb s s refl) (eq-eqb d d refl)

pub pair_apart : (i s j d : ℕ) → (i ≡ s → j ≡ d → ⊥) → (eqb i s && eqb j d) ≡ false
pair_apart i s j d h = grind (arith, nat_tests)

-- what is b at one pair and c at any other
pub cond_pair : {X : Type 0} (i s j d : ℕ) (x b c : X) → (i ≡ s → j ≡ d → x ≡ b) → ((i ≡ s → j ≡ d → ⊥) → x ≡ c) → x ≡ cond (eqb i s && eqb j d) b c
cond_pair i s j d x b c here else =
    cond_both (eqb i s && eqb j d) b c (λ z. x ≡ z)
    (λ e. let p = pair_true i s j d e in here p.0 p.1)
    (λ e. else (pair_false i s j d e))

-- a function of pairs that is changed at one pair
pub at_one : {A : Type 0} (a b c : ℕ → ℕ → A) (s d : ℕ) → a s d ≡ b s d → ((i j : ℕ) → (i ≡ s → j ≡ d → ⊥) → a i j ≡ c i j) →
    (i j : ℕ) → a i j ≡ cond (eqb i s && eqb j d) (b i j) (c i j)
at_one a b c s d here else i j = cond_pair i s j d _ _ _ (λ p q. ap₂ a p q ∙ (here ∙ sym (ap₂ b p q))) (else i j)

-- a test of the pairs from s, as far as the receivers below k
pub below_none : (i j s : ℕ) (x : Bool) → (eqb i s && (ltb j 0 && x)) ≡ false
below_none i j s x = grind (arith, nat_tests)

pub below_last : (s k : ℕ) (x : Bool) → (eqb s s && (ltb k k && x)) ≡ false
below_last s k x = grind (arith, nat_tests)

pub below_here : (i j s k : ℕ) (x : Bool) → i ≡ s → j ≡ k → x ≡ true → (eqb i s && (ltb j (k + 1) && x)) ≡ true
below_here i j s k x p q e = grind (arith, nat_tests)

-- one receiver more changes it only there, and only where the test holds
pub below_next : (i j s k : ℕ) (x : Bool) → (i ≡ s → j ≡ k → x ≡ false) → (eqb i s && (ltb j k && x)) ≡ (eqb i s && (ltb j (k + 1) && x))
below_next i j s k true ne = grind (arith, nat_tests)
below_next i j s k false ne = grind (arith, nat_tests)

pub below_apart : (i j s k : ℕ) (x : Bool) → (i ≡ s → j ≡ k → ⊥) → (eqb i s && (ltb j (k + 1) && x)) ≡ (eqb i s && (ltb j k && x))
below_apart i j s k x ne = sym (below_next i j s k x (λ p q. absurd (ne p q)))

-- a table of eight rows of eight, written at one pair
pub written : {T : Type 0} (xs : List T) (none v : T) (s d : ℕ) → length xs ≡ 64 → s < 8 → d < 8 → (i j : ℕ) → j < 8 →
    get_or (set xs (s * 8 + d) v) (i * 8 + j) none ≡ cond (eqb i s && eqb j d) v (get_or xs (i * 8 + j) none)
written xs none v s d l hs hd i j hj = cond_pair i s j d _ _ _
    (λ p q. let e : i * 8 + j ≡ s * 8 + d = omega arith in
    ap (λ k. get_or (set xs (s * 8 + d) v) k none) e ∙ get_or-set_same xs (s * 8 + d) v none (omega arith))
    (λ ne. get_or-set_other xs (s * 8 + d) (i * 8 + j) v none (λ e. ne (omega arith) (omega arith)))

-- what holds of each number of a row holds after a write of one of which it holds
pub after_set : (P : ℕ → Type 0) (xs : List ℕ) (i v : ℕ) → P v → ((k : ℕ) → P (get_or xs k 0)) → (k : ℕ) → P (get_or (set xs i v) k 0)
after_set P xs i v h all k =
    elim (cases_eq k i) [ inl e ↦ at_same k e | inr e ↦ subst P (sym (get_or-set_other xs i k v 0 e)) (all k) ]
  where
    at_same : (k : ℕ) → k ≡ i → P (get_or (set xs i v) k 0)
    at_same k e = elim (cases_lt i (length xs)) [
      | inl l ↦ subst P (sym (ap (λ y. get_or (set xs i v) y 0) e ∙ get_or-set_same xs i v 0 l)) h
      | inr l ↦ subst P (sym (ap (λ y. get_or y k 0) (set_past xs i v l))) (all k)
    ]
