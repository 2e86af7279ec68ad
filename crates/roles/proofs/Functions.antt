-- Functions from numbers: what a change at one place leaves, and what the tests below a number tell.
use Rattle.std.proofs.Common.{◌≡◌, ℕ, zero, suc, ◌+◌, ◌-◌, ◌<◌, Bool, true, false, cond, ◌||◌, eqb, List, length, get_or, set, Some, None, Option, Decides, sym, refl, ap, ◌∙◌, add-one, inl, inr, arith}
use mathlib.Core.Path.{fun_ext}
use Rattle.std.proofs.lemmas.List.{get_or-set_same, get_or-set_other}
use Rattle.std.proofs.lemmas.Bool.{cond_both, or_from, cases_eq}
use Rattle.std.proofs.lemmas.Bool.Decides.{Decides-below_or, nat_tests}
use Rattle.roles.specs.Functions.{put, any_below, highest}

-- the value that was put
pub put_same : {A : Type 0} (f : ℕ → A) (i : ℕ) (a : A) → put f i a i ≡ a
put_same f i a = grind (arith, nat_tests)

-- elsewhere nothing changes
pub put_other : {A : Type 0} (f : ℕ → A) (i : ℕ) (a : A) (j : ℕ) → (j ≡ i → ⊥) → put f i a j ≡ f j
put_other f i a j h = grind (arith, nat_tests)

-- to put what is there changes nothing
pub put_own : {A : Type 0} (f : ℕ → A) (i : ℕ) → put f i (f i) ≡ f
put_own f i = fun_ext (λ j. grind (arith, nat_tests))

-- what holds of the value that was put, and of each other, holds everywhere
pub put_all : {A : Type 0} (P : A → Type 0) (f : ℕ → A) (i : ℕ) (a : A) → P a → ((j : ℕ) → P (f j)) → (j : ℕ) → P (put f i a j)
put_all P f i a h all j = cond_both (eqb j i) a (f j) P (λ _. h) (λ _. all j)

-- what is read of each element of an array, when one is written
pub column_put : {A C : Type 0} (f : A → C) (xs : List A) (i : ℕ) (v d : A) → i < length xs →
    (λ a. f (get_or (set xs i v) a d)) ≡ put (λ a. f (get_or xs a d)) i (f v)
column_put f xs i v d h = fun_ext (λ a. grind (arith, nat_tests, get_or-set_same xs i v d h, get_or-set_other xs i a v d))

-- an array that is written is its function changed at one place
pub array_put : {A : Type 0} (xs : List A) (i : ℕ) (v d : A) → i < length xs → (λ a. get_or (set xs i v) a d) ≡ put (λ a. get_or xs a d) i v
array_put xs i v d h = column_put (λ x. x) xs i v d h

-- whether some number below n passes the test, with that number
pub any_below_tells : (n : ℕ) (p : ℕ → Bool) → Decides (any_below n p) ((j : ℕ) × (j < n) × (p j ≡ true))
any_below_tells n p = Decides-below_or p (λ j. p j ≡ true) (λ m. any_below m p) (λ j. (λ e. e, λ e. e)) refl (λ _. refl) n

-- one that passes is enough
pub any_below_at : (n : ℕ) (p : ℕ → Bool) (j : ℕ) → j < n → p j ≡ true → any_below n p ≡ true
any_below_at n p j h e = (any_below_tells n p).1 (j, h, e)

-- if there is none, each fails
pub any_below_fails : (n : ℕ) (p : ℕ → Bool) (j : ℕ) → j < n → any_below n p ≡ false → p j ≡ false
any_below_fails n p j h e = let at = any_below_at n p j h in grind arith

-- if each fails, there is none
pub any_below_none : (n : ℕ) (p : ℕ → Bool) → ((j : ℕ) → j < n → p j ≡ false) → any_below n p ≡ false
any_below_none n p h = let found = (any_below_tells n p).0 in grind arith

-- one number more
pub any_below_more : (n : ℕ) (p : ℕ → Bool) → any_below (n + 1) p ≡ (p n || any_below n p)
any_below_more n p = rw add-one refl

-- one number more, which fails too
pub none_below_more : (n : ℕ) (p : ℕ → Bool) → any_below n p ≡ false → p n ≡ false → any_below (n + 1) p ≡ false
none_below_more n p h e = any_below_more n p ∙ or_from (p n) (any_below n p) e h

-- the highest, with one number more
pub highest_more : (n : ℕ) (p : ℕ → Bool) → highest (n + 1) p ≡ cond (p n) (Some n) (highest n p)
highest_more n p = rw add-one refl

-- the same, counted down
pub highest_last : (n : ℕ) (p : ℕ → Bool) → 0 < n → highest n p ≡ cond (p (n - 1)) (Some (n - 1)) (highest (n - 1) p)
highest_last n p h = let e : n ≡ n - 1 + 1 = omega arith in ap (λ m. highest m p) e ∙ highest_more (n - 1) p

-- the highest is below the bound, and passes the test
pub highest_found : (n : ℕ) (p : ℕ → Bool) (h : ℕ) → highest n p ≡ Some h → (h < n) × (p h ≡ true)
highest_found zero p h e = absurd (let z : ◌≡◌ {A = ℕ} 0 1 = cc in omega arith)
highest_found (suc n) p h e = let f = highest_found n p h in grind arith

-- the highest number of which a test holds: it passes, and none above it does
abbrev pub Highest : ℕ → (ℕ → Bool) → Option ℕ → Type 0
Highest n p None = (k : ℕ) → k < n → p k ≡ false
Highest n p (Some h) = (h < n) × (p h ≡ true) × ((k : ℕ) → h < k → k < n → p k ≡ false)

-- who is the highest is what `highest` gives
pub highest_is : (n : ℕ) (p : ℕ → Bool) (r : Option ℕ) → Highest n p r → r ≡ highest n p
highest_is zero p None l = refl
highest_is zero p (Some h) l = absurd (omega (arith, l.0))
highest_is (suc n) p None l =
    let i = highest_is n p None (λ k h. l k (omega arith)) in
    let e = l n (omega arith) in grind arith
highest_is (suc n) p (Some h) l = elim (cases_eq h n) [
  | inl e ↦ let f : p n ≡ true = sym (ap p e) ∙ l.1 in grind arith
  | inr e ↦ let i = highest_is n p (Some h) (omega (arith, l.0), l.1, λ k a b. l.2 k a (omega arith)) in
      let f = l.2 n (omega (arith, l.0)) (omega arith) in grind arith
]
