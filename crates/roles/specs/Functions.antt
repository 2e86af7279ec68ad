-- Functions from numbers: what is kept for each printer, or at each place.
use Rattle.std.specs.Prelude.{ℕ, zero, suc, Bool, false, cond, ◌||◌, Some, None, Option, ◌==◌}

-- a function changed at one place
abbrev pub put : {A : Type 0} → (ℕ → A) → ℕ → A → ℕ → A
put f i a j = cond (j == i) a (f j)

-- a test that holds of some number below n
abbrev pub any_below : ℕ → (ℕ → Bool) → Bool
any_below zero p = false
any_below (suc n) p = p n || any_below n p

-- the highest number below n of which a test holds
abbrev pub highest : ℕ → (ℕ → Bool) → Option ℕ
highest zero p = None
highest (suc n) p = cond (p n) (Some n) (highest n p)
