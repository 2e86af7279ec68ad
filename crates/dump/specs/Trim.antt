-- A line without the blanks at its two ends.
use Rattle.std.specs.Prelude.{ℕ, ◌-◌, Bool, ◌||◌, List, length, take, drop, ◌==◌}
use Rattle.std.specs.List.{prefix_len, suffix_len}

abbrev pub space : ℕ
space = 32

abbrev pub carriage_return : ℕ
carriage_return = 13

abbrev pub blank : ℕ → Bool
blank c = c == space || c == carriage_return

-- `prefix_len` counts the blanks at the front, up to the first other character
abbrev pub without_front : List ℕ → List ℕ
without_front cs = drop (prefix_len blank cs) cs

-- `suffix_len` counts the blanks at the end, back to the last other character
abbrev pub without_end : List ℕ → List ℕ
without_end cs = take (length cs - suffix_len blank cs) cs

abbrev pub trimmed : List ℕ → List ℕ
trimmed cs = without_end (without_front cs)
