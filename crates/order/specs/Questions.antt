-- Questions: they change nothing.
use Rattle.std.specs.Prelude.{ℕ, zero, suc, ◌-◌, ◌*◌, Bool, cond, not, ◌&&◌, ◌||◌, List, [], ◌∷◌, length, is_some, Some, None, Option, ◌==◌, nat_le}
use Rattle.frame.specs.declared.RoleNumber.{RoleNumber}
use Rattle.transport.specs.Nets.{most_posts}
use Rattle.roles.specs.Functions.{any_below}
use Rattle.roles.specs.declared.Seat.{Seat}
use Rattle.table.specs.Dues.{due}
use Rattle.table.specs.declared.PrinterState.{PrinterState}
use Rattle.table.specs.declared.Record.{Record}
use Rattle.order.specs.Leaving.{Notice, frame_waits}
use Rattle.order.specs.Refusals.{Outcome, accepted, past}
use Rattle.order.specs.Scenes.{Scene, stands, list_of}
use Rattle.order.specs.Steps.{no_printer}

-- what stands at a place, from 0
abbrev pub nth : {A : Type 0} → List A → ℕ → Option A
nth [] i = None
nth (a ∷ rest) zero = Some a
nth (a ∷ rest) (suc i) = nth rest i

module _ {B R : Type 0} (s : Scene B R) where
  abbrev pub length_outcome : ℕ → Outcome ℕ
  length_outcome p = past p ((no_printer s p, 4) ∷ []) (accepted (s.printer p).length)

  -- the record at a position, from 1; none beyond the list's length
  abbrev pub record_at : ℕ → ℕ → Option (Record R)
  record_at p i = cond (nat_le 1 i && nat_le i (s.printer p).length) (nth (list_of s p) (i - 1)) None

  abbrev pub record_outcome : ℕ → ℕ → Outcome (Option (Record R))
  record_outcome p i =
      past p ((no_printer s p, 4) ∷ (not (length s.lists == s.size * s.places), 6) ∷ []) (accepted (record_at p i))

  abbrev pub state_outcome : ℕ → Outcome PrinterState
  state_outcome p = past p ((no_printer s p, 4) ∷ []) (accepted (s.printer p).duty.state)

  -- what p's configuration says of q
  abbrev pub configuration_outcome : ℕ → ℕ → Outcome Seat
  configuration_outcome p q = past p ((no_printer s p || no_printer s q, 4) ∷ []) (accepted ((s.printer p).conf q))

  abbrev pub sequencer_outcome : ℕ → Outcome (ℕ × RoleNumber)
  sequencer_outcome p = past p ((no_printer s p, 4) ∷ []) (accepted (s.printer p).duty.sequencer)

  -- a frame waits for a standing printer, or it has a frame due
  abbrev pub is_busy : ℕ → Bool
  is_busy q = stands s q && (frame_waits s q || is_some (due s.size q (s.printer q)))

  abbrev pub is_settled : Bool
  is_settled = not (any_below s.size is_busy)

  -- spare is free below this bound
  abbrev pub spare_bound : ℕ → ℕ
  spare_bound p = most_posts s.net p

-- writing a notice off spends it
abbrev pub write_off_outcome : Notice → Outcome (Unit {0})
write_off_outcome m = past m.printer ((m.spent, 28) ∷ []) (accepted tt)
