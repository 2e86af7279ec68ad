-- Writing bytes to the front of a buffer.
use Rattle.std.specs.Prelude.{ℕ, ◌*◌, ◌/◌, Bool, cond, List, ◌++◌, length, drop, Ok, Err, Result, nat_le}
use Rattle.body.specs.declared.WireFault.{WireFault}
use Rattle.body.specs.declared.WireRefusal.TheVariants.{EndsTooSoon}

abbrev pub holds : List ℕ → List ℕ → Bool
holds out bytes = nat_le (length bytes) (length out)

-- the first byte of the first word that a buffer is too short for
abbrev pub too_short : List ℕ → WireFault
too_short out = record { refusal = EndsTooSoon; byte = length out / 4 * 4 }

abbrev pub write_answer : List ℕ → List ℕ → Result ℕ WireFault
write_answer out bytes = cond (holds out bytes) (Ok (length bytes)) (Err (too_short out))

abbrev pub write_after : List ℕ → List ℕ → List ℕ
write_after out bytes = cond (holds out bytes) (bytes ++ drop (length bytes) out) out
