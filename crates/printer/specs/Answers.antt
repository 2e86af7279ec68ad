-- What a printer's step answers.
use Rattle.std.specs.Prelude.{ℕ, Bool, cond, List, [], ◌∷◌, Some, None, Ok, Err, Option, Result}
use Rattle.transport.specs.declared.TransportFault.{TransportFault}
use Rattle.refusals.specs.Faults.{refused_by, carried_up}
use Rattle.refusals.specs.declared.PrinterFault.{PrinterFault}
use Rattle.refusals.specs.declared.PrinterRefusal.{PrinterRefusal}

abbrev pub Answer : Type 0
Answer = Result (Unit {0}) PrinterFault

-- the first refusal that applies
abbrev pub first_refusal : List (Bool × PrinterRefusal) → Option PrinterRefusal
first_refusal [] = None
first_refusal (r ∷ rest) = cond r.0 (Some r.1) (first_refusal rest)

-- a refusal by printer me, or what follows without one
abbrev pub unless : ℕ → Option PrinterRefusal → Answer → Answer
unless me (Some r) a = Err (refused_by me r)
unless me None a = a

-- a transport's answer, passed up
abbrev pub passed_up : Result (Unit {0}) TransportFault → Answer
passed_up (Ok u) = Ok u
passed_up (Err f) = Err (carried_up f)
