use Rattle.std.proofs.Common.{◌≡◌, take, Some, vec_items}
use Rattle.dump.specs.Digits.{values}
use Rattle.dump.specs.Hex.{digits_of}
use Rattle.dump.proofs.hex.digits_of.Given as goal

abbrev pub invariant-loop-c : goal.invariant-loop-c
invariant-loop-c l = digits_of (take l.c-index l.text) ≡ Some (values (vec_items l.digits))
