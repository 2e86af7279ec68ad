-- What stands for rows beyond the last, and in slots that hold nothing.
use Rattle.std.specs.Prelude.{ℕ, []}
use native.Mathlib.Omega.{arith}
use Rattle.roles.specs.declared.RecordKind.TheVariants.{Data}
use Rattle.backlog.specs.declared.rows.Row.{Row}
use Rattle.backlog.specs.declared.rows.Held.{Held}
use Rattle.backlog.specs.declared.rows.Stub.{Stub}

abbrev pub no_held : Held
no_held = record { kind = Data; assigned = (0, record { 0 = 0 }) }

abbrev pub no_stub : Stub
no_stub = record { number = record { 0 = 0 }; sender = 0; message = record { 0 = 0 } }

abbrev pub no_row : {A : Type 0} (n : ℕ) → Row A n
no_row n = record { passed = 0; count = 0; slots = []; few = omega arith; low = omega arith }
