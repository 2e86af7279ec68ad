-- A loop over the places of an array that changes those of which a test holds.
use Rattle.std.specs.Prelude.{◌≡◌, ℕ, Bool, cond, ◌&&◌, List, nat_lt, slice_index_or}

-- the places below k are done: those that pass the test became what f makes of them, and all others are as before
abbrev pub Swept : {A : Type 0} → A → (ℕ → A) → (ℕ → Bool) → (A → A) → List A → ℕ → Type 0
Swept d old test f xs k = (i : ℕ) → slice_index_or xs i d ≡ cond (nat_lt i k && test i) (f (old i)) (old i)
