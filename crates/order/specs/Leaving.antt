-- Stopping a printer, and removing one that is stopped.
use Rattle.std.specs.Prelude.{ℕ, zero, suc, ◌+◌, Bool, false, cond, not, ◌&&◌, ◌||◌, [], ◌∷◌, is_some, ◌==◌, nat_lt}
use Rattle.transport.specs.Nets.{after_close, oldest}
use Rattle.roles.specs.Functions.{any_below}
use Rattle.backlog.specs.Tickets.{tickets_held}
use Rattle.table.specs.Departures.{left_by}
use Rattle.order.specs.Refusals.{Outcome, accepted, past}
use Rattle.order.specs.Scenes.{Scene, stopped, removed, is_stopped, stands, stores_misfit, desk_at, with_desk, with_net, with_presence}
use Rattle.order.specs.Steps.{no_printer, not_standing}

-- what a stop answers: the printer that it is for, to be removed later; spent once it is
pub record Notice : Type 0 where
  pub printer : ℕ
  pub spent : Bool

module _ {B R : Type 0} (s : Scene B R) where
  abbrev pub another_stands : ℕ → Bool
  another_stands p = any_below s.size (λ q. stands s q && not (q == p))

  abbrev pub stop_outcome : ℕ → Outcome Notice
  stop_outcome p =
      past p ((no_printer s p, 4) ∷ (not_standing s p, 5) ∷ (not (another_stands p), 19) ∷ []) (accepted (record { printer = p; spent = false }))

  abbrev pub after_stop : ℕ → Scene B R
  after_stop p = with_net (with_presence s p stopped) (after_close s.net p)

  -- a frame waits for printer q
  abbrev pub frame_waits : ℕ → Bool
  frame_waits q = any_below s.size (λ x. is_some (oldest s.net x q))

  abbrev pub some_frame_waits : Bool
  some_frame_waits = any_below s.size (λ q. stands s q && frame_waits q)

  -- the list of q has no room for a record of each held ticket and one more
  abbrev pub lacks_places : ℕ → Bool
  lacks_places q = nat_lt s.places ((s.printer q).length + tickets_held s.size (s.printer q).holding + 1)

  abbrev pub some_lacks_places : Bool
  some_lacks_places = any_below s.size (λ q. stands s q && lacks_places q)

  abbrev pub remove_outcome : Notice → Outcome (Unit {0})
  remove_outcome m = past m.printer (
      (stores_misfit s, 6)
      ∷ (m.spent, 20)
      ∷ (no_printer s m.printer || not (is_stopped (s.presence m.printer)), 21)
      ∷ (some_frame_waits, 22)
      ∷ (some_lacks_places, 23)
      ∷ []) (accepted tt)

-- the standing printers below k see x leave, one after the other
abbrev pub seen_leaving : {B R : Type 0} → ℕ → ℕ → Scene B R → Scene B R
seen_leaving x zero s = s
seen_leaving x (suc k) s =
    let t = seen_leaving x k s in
    cond (stands t k) (with_desk t k (left_by t.size (t.delay k) k (desk_at t k) x)) t

abbrev pub after_remove : {B R : Type 0} → Scene B R → ℕ → Scene B R
after_remove s x = with_presence (seen_leaving x s.size s) x removed
