-- The digits of a block as numbers.
use Rattle.std.specs.Prelude.{ℕ, ◌+◌, ◌*◌, List, map, slice_index}
use Rattle.dump.specs.declared.digit.Digit.{Digit}

abbrev pub values : List Digit → List ℕ
values digits = map (λ d. d.value) digits

-- two digits as a byte, the high one first
abbrev pub pair_byte : List Digit → ℕ
pair_byte pair = slice_index (values pair) 0 * 16 + slice_index (values pair) 1
