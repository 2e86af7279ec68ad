-- What a call answers: a refusal by its number, the printer that it names and the layer that found it, or what was asked.
use Rattle.std.specs.Prelude.{ℕ, Bool, true, false, cond, List, [], ◌∷◌, Ok, Err}
use Rattle.transport.specs.declared.Layer.{Layer}
use Rattle.transport.specs.declared.Layer.TheVariants.{Hall}
use Rattle.refusals.specs.Faults.{fault_number, fault_printer, fault_layer}
use Rattle.printer.specs.Answers.{Answer}

pub record Refusal : Type 0 where
  pub number : ℕ
  pub printer : ℕ
  pub layer : Layer

-- an answer to a call or a question
pub data Outcome (A : Type 0) : Type 0 where
  accepted : A → Outcome A
  refused : Refusal → Outcome A

abbrev pub is_accepted : {A : Type 0} → Outcome A → Bool
is_accepted (accepted a) = true
is_accepted (refused r) = false

-- a refusal of the hall's own
abbrev pub by_hall : {A : Type 0} → ℕ → ℕ → Outcome A
by_hall number p = refused (record { number = number; printer = p; layer = Hall })

-- the first of the hall's refusals that applies, each a test with its number, and else what follows
abbrev pub past : {A : Type 0} → ℕ → List (Bool × ℕ) → Outcome A → Outcome A
past p [] o = o
past p (t ∷ rest) o = cond t.0 (by_hall t.1 p) (past p rest o)

-- what a printer's step answered, passed up
abbrev pub told : Answer → Outcome (Unit {0})
told (Ok u) = accepted u
told (Err f) = refused (record { number = fault_number f; printer = fault_printer f; layer = fault_layer f })
