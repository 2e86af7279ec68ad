-- The faults of the wire.
use Rattle.std.specs.Prelude.{ℕ, List, ◌++◌, codes, decimal}
use Rattle.body.specs.declared.faults.WireRefusal.{WireRefusal}
use Rattle.body.specs.declared.faults.WireRefusal.TheVariants.{EndsTooSoon, UnknownKind, OutOfRange, LeftOver}
use Rattle.body.specs.declared.faults.WireFault.{WireFault}

abbrev pub refusal_number : WireRefusal → ℕ
refusal_number EndsTooSoon = 24
refusal_number UnknownKind = 25
refusal_number OutOfRange = 26
refusal_number LeftOver = 27

-- a value outside its ranges is not made
abbrev pub unfit : WireFault
unfit = record { refusal = OutOfRange; byte = 0 }

abbrev pub fault_text : WireFault → List ℕ
fault_text e = codes "refused " ++ (decimal (refusal_number e.refusal) ++ (codes " byte " ++ decimal e.byte))
