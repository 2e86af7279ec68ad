-- What lies along a circle of places.
use Rattle.std.specs.Prelude.{ℕ, ◌+◌, ◌-◌, cond, List, map, nat_lt}
use Rattle.std.specs.List.{range_with_len}

-- the place k steps after start, in a circle of limit places
abbrev pub around : ℕ → ℕ → ℕ → ℕ
around limit start k = cond (nat_lt k (limit - start)) (start + k) (k - (limit - start))

-- what lies at so many places from start on
abbrev pub along : {A : Type 0} → (ℕ → A) → ℕ → ℕ → ℕ → List A
along at limit start held = map (λ k. at (around limit start k)) (range_with_len 0 held)
