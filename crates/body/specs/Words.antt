-- Words: numbers of 32 bits.
use Rattle.std.specs.Prelude.{ℕ, Bool, true, ◌&&◌, List, [], ◌∷◌, ◌++◌, nat_lt}

abbrev pub is_word : ℕ → Bool
is_word w = nat_lt w 4294967296

-- each of these is a word, and is in range after those before it
abbrev pub in_order : (List ℕ → ℕ → Bool) → List ℕ → List ℕ → Bool
in_order allows before [] = true
in_order allows before (w ∷ ws) = is_word w && (allows before w && in_order allows (before ++ w ∷ []) ws)
