-- The bytes that digits make, two at a time.
use Rattle.std.proofs.Common.{◌≡◌, suc, ◌+◌, ◌*◌, ◌/◌, ◌%◌, List, [], ◌∷◌, length, map, Some, None, refl, ap, arith}
use Rattle.std.specs.Option.{option_map}
use Rattle.std.specs.Simd.{first_chunks}
use Rattle.dump.specs.Hex.{bytes_of}
use Rattle.dump.specs.Digits.{values, pair_byte}
use Rattle.dump.specs.declared.digit.Digit.{Digit}

pub bytes_of_even : (ds : List Digit) → length ds % 2 ≡ 0
    → bytes_of (values ds) ≡ Some (map pair_byte (first_chunks 2 (length ds / 2) ds))
bytes_of_even [] h = refl
bytes_of_even (d ∷ []) h = absurd (omega arith)
bytes_of_even (high ∷ (low ∷ ds)) h =
    let half : suc (suc (length ds)) / 2 ≡ suc (length ds / 2) = omega arith in
    rw half (ap (option_map (λ bs. (high.value * 16 + low.value) ∷ bs)) (bytes_of_even ds (omega arith)))

pub bytes_of_odd : (ds : List Digit) → length ds % 2 ≡ 1 → bytes_of (values ds) ≡ None
bytes_of_odd [] h = absurd (omega arith)
bytes_of_odd (d ∷ []) h = refl
bytes_of_odd (high ∷ (low ∷ ds)) h =
    ap (option_map (λ bs. (high.value * 16 + low.value) ∷ bs)) (bytes_of_odd ds (omega arith))
