-- The circle of a pair.
use Rattle.std.specs.Prelude.{ℕ, ◌<◌, ◌≤◌}
use Rattle.ring.specs.declared.circle.Circle.{Circle}

abbrev pub empty_circle : Circle
empty_circle = record { start = 0; held = 0 }

-- a circle of so many places
abbrev pub Within : ℕ → Circle → Type 0
Within limit c = (c.start < limit) × (c.held ≤ limit)
