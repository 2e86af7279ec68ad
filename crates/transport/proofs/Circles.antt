-- Places along a circle, and what lies there when one is added or taken.
use Rattle.std.proofs.Common.{◌≡◌, ℕ, zero, suc, ◌+◌, ◌-◌, ◌<◌, ◌≤◌, [], ◌∷◌, ◌++◌, map, length, Some, sym, refl, ap, ◌∙◌, ap₂, add-zero, zero-add, arith}
use Rattle.std.specs.List.{range_with_len}
use Rattle.std.proofs.lemmas.List.FromFn.{length-map-range_with_len, map-range_with_len_more}
use Rattle.std.proofs.lemmas.Bool.Decides.{nat_tests}
use Rattle.transport.specs.Nets.{first, rest}
use Rattle.transport.specs.Circles.{around, along}

pub around_below : (limit start k : ℕ) → start < limit → k ≤ limit → around limit start k < limit
around_below limit start k h l = grind (arith, nat_tests)

pub around_apart : (limit start k m : ℕ) → start < limit → k < m → m < limit → around limit start k ≡ around limit start m → ⊥
around_apart limit start k m h l r e = grind (arith, nat_tests)

pub around_step : (limit start k : ℕ) → start < limit → k + 1 < limit → around limit (around limit start 1) k ≡ around limit start (k + 1)
around_step limit start k h l = grind (arith, nat_tests)

-- k steps back from a place, and forward again
pub around_back : (limit end k : ℕ) → end < limit → k ≤ limit → around limit (around limit end (limit - k)) k ≡ end
around_back limit end k h l = grind (arith, nat_tests)

-- the same place lies k steps before end, and k + 1 steps before the next
pub around_behind : (limit end k : ℕ) → end < limit → k < limit →
    around limit (around limit end 1) (limit - (k + 1)) ≡ around limit end (limit - k)
around_behind limit end k h l = grind (arith, nat_tests)

-- one step on from k + 1 steps before end is k steps before it
pub around_nearer : (limit end k : ℕ) → end < limit → k < limit →
    around limit end (limit - k) ≡ around limit (around limit end (limit - (k + 1))) 1
around_nearer limit end k h l = grind (arith, nat_tests)

map_counting_same : {A : Type 0} (f g : ℕ → A) (a b n : ℕ) → ((k : ℕ) → k < n → f (a + k) ≡ g (b + k)) →
    map f (range_with_len a n) ≡ map g (range_with_len b n)
map_counting_same f g a b zero h = refl
map_counting_same f g a b (suc n) h =
    ap₂ ◌∷◌
    (let e = h 0 (omega arith) in rw (add-zero, add-zero) at e)
    (map_counting_same f g (a + 1) (b + 1) n (λ k l.
    let e = h (k + 1) (omega arith) in
    let p : a + 1 + k ≡ a + (k + 1) = omega arith in
    let q : b + 1 + k ≡ b + (k + 1) = omega arith in
    ap f p ∙ (e ∙ ap g (sym q))))

module _ {A : Type 0} (limit : ℕ) where
  pub length_along : (at : ℕ → A) (start held : ℕ) → length (along at limit start held) ≡ held
  length_along at start held = length-map-range_with_len _ 0 held

  -- what lies along a circle hangs only on what lies at the places of it
  pub along_same : (at to : ℕ → A) (start held : ℕ) → ((k : ℕ) → k < held → at (around limit start k) ≡ to (around limit start k)) →
      along at limit start held ≡ along to limit start held
  along_same at to start held h =
      map_counting_same _ _ 0 0 held (λ k l. let e : 0 + k ≡ k = zero-add k in
      ap (λ j. at (around limit start j)) e ∙ (h k l ∙ ap (λ j. to (around limit start j)) (sym e)))

  -- one more behind the last
  pub along_more : (at to : ℕ → A) (start held : ℕ) (x : A) →
      ((k : ℕ) → k < held → to (around limit start k) ≡ at (around limit start k)) → to (around limit start held) ≡ x →
      along to limit start (held + 1) ≡ along at limit start held ++ x ∷ []
  along_more at to start held x h e =
      map-range_with_len_more _ 0 held held (zero-add held) ∙
      ap₂ (λ xs y. xs ++ (y ∷ [])) (along_same to at start held h) e

  -- the first one taken
  pub along_rest : (at : ℕ → A) (start held : ℕ) → start < limit → held + 1 ≤ limit →
      along at limit (around limit start 1) held ≡ rest (along at limit start (suc held))
  along_rest at start held hs hh =
      map_counting_same _ _ 0 1 held (λ k l.
      ap at
      (let e : 0 + k ≡ k = zero-add k in
      let m : 1 + k ≡ k + 1 = omega arith in
      ap (around limit (around limit start 1)) e ∙ (around_step limit start k hs (omega arith) ∙ ap (around limit start) (sym m))))

  pub along_first : (at : ℕ → A) (start held : ℕ) → start < limit → first (along at limit start (suc held)) ≡ Some (at start)
  along_first at start held hs = ap (λ k. Some (at k)) (around_none start hs)
    where
      around_none : (s : ℕ) → s < limit → around limit s 0 ≡ s
      around_none s h = grind (arith, nat_tests)
