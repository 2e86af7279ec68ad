-- A block in hex: words of eight digits that may stand apart, and two digits to a byte.
use Rattle.std.specs.Prelude.{ℕ, ◌+◌, ◌-◌, ◌*◌, ◌%◌, Bool, cond, ◌&&◌, List, [], ◌∷◌, ◌++◌, length, Some, None, fold, Option, ◌==◌}
use Rattle.std.specs.Int.{is_in_range}
use Rattle.std.specs.Option.{option_map, option_and_then}
use Rattle.dump.specs.Trim.{space}

-- what a digit stands for: the characters 48 to 57 are `0` to `9`, 97 to 102 are `a` to `f`, 65 to 70 are `A` to `F`
abbrev pub digit_value : ℕ → Option ℕ
digit_value c =
    cond (is_in_range 48 57 c) (Some (c - 48))
    (cond (is_in_range 97 102 c) (Some (c - 97 + 10))
    (cond (is_in_range 65 70 c) (Some (c - 65 + 10))
    None))

-- the digits so far are whole words of eight
abbrev pub whole_words : List ℕ → Bool
whole_words ds = length ds % 8 == 0

-- The digits so far and a character c, with the value that c has as a digit: a digit is added, a space between words
-- is passed over, and no other character may stand here.
abbrev pub with_char : List ℕ → ℕ → Option ℕ → Option (List ℕ)
with_char ds c (Some d) = Some (ds ++ d ∷ [])
with_char ds c None = cond (c == space && whole_words ds) (Some ds) None

-- one character on; once a character is bad, nothing that follows mends it
abbrev pub digits_step : Option (List ℕ) → ℕ → Option (List ℕ)
digits_step digits c = option_and_then (λ ds. with_char ds c (digit_value c)) digits

-- the values of all digits of a text, or none where a character is bad
abbrev pub digits_of : List ℕ → Option (List ℕ)
digits_of cs = fold digits_step (Some []) cs

-- two digits make a byte, the high one first; none where one digit is left over
abbrev pub bytes_of : List ℕ → Option (List ℕ)
bytes_of [] = Some []
bytes_of (high ∷ []) = None
bytes_of (high ∷ (low ∷ ds)) = option_map (λ bs. (high * 16 + low) ∷ bs) (bytes_of ds)

-- the bytes that a text has in hex
abbrev pub hex_block : List ℕ → Option (List ℕ)
hex_block cs = option_and_then bytes_of (digits_of cs)
