-- A word and its four bytes give each other.
use Rattle.std.proofs.Common.{◌≡◌, ℕ, zero, suc, ◌/◌, ◌%◌, ◌<◌, List, [], ◌∷◌, get_or, refl, arith}
use Rattle.std.proofs.lemmas.Nat.{from_be_bytes-to_be_bytes_4, be_bytes_4}
use Rattle.wire.specs.Bytes.{word_bytes, word_of}

-- numbers of 8 bits
abbrev pub Bytes : List ℕ → Type 0
Bytes bs = (i : ℕ) → get_or bs i 0 < 256

pub word_again : (w : ℕ) → w < 4294967296 → word_of (w / 16777216 % 256) (w / 65536 % 256) (w / 256 % 256) (w % 256) ≡ w
word_again w h = from_be_bytes-to_be_bytes_4 w h

pub bytes_again : (a b c d : ℕ) → Bytes (a ∷ b ∷ c ∷ d ∷ []) → word_bytes (word_of a b c d) ≡ a ∷ (b ∷ (c ∷ (d ∷ [])))
bytes_again a b c d small = be_bytes_4 (a ∷ b ∷ c ∷ d ∷ []) (word_of a b c d) refl small refl

-- the first four of some bytes
pub four_small : (a b c d : ℕ) (bs : List ℕ) → Bytes (a ∷ b ∷ c ∷ d ∷ bs) → Bytes (a ∷ b ∷ c ∷ d ∷ [])
four_small a b c d bs small zero = small 0
four_small a b c d bs small (suc zero) = small 1
four_small a b c d bs small (suc (suc zero)) = small 2
four_small a b c d bs small (suc (suc (suc zero))) = small 3
four_small a b c d bs small (suc (suc (suc (suc i)))) = omega arith

pub word_small : (a b c d : ℕ) → a < 256 → b < 256 → c < 256 → d < 256 → word_of a b c d < 4294967296
word_small a b c d p q r s = omega arith
