-- The first of several.
use Rattle.std.specs.Prelude.{ℕ, zero, suc, Some, None, Option}

abbrev pub or_else : {A : Type 0} → Option A → Option A → Option A
or_else (Some a) o = Some a
or_else None o = o

-- the first that f gives at k, k + 1, .., as many places as j
unfoldable pub first_from : {A : Type 0} → ℕ → ℕ → (ℕ → Option A) → Option A
first_from zero k f = None
first_from (suc j) k f = or_else (f k) (first_from j (suc k) f)
