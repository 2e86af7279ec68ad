-- The calls of one printer: what each answers, and the scene after it if it is accepted.
use Rattle.std.specs.Prelude.{ℕ, Bool, not, ◌||◌, [], ◌∷◌, ◌==◌, nat_lt, slice_set}
use Rattle.frame.specs.declared.Content.{Content}
use Rattle.transport.specs.Nets.{after_post, after_take, oldest}
use Rattle.roles.specs.declared.RecordKind.{RecordKind}
use Rattle.roles.specs.declared.RecordKind.TheVariants.{Data, Up, Down}
use Rattle.table.specs.Dues.{due}
use Rattle.table.specs.Records.{shelf_place}
use Rattle.printer.specs.Making.{make_answer, made, next_number, data_content, up_content, down_content, change_answer, sequenced_by}
use Rattle.printer.specs.Posts.{own_frame}
use Rattle.printer.specs.Taking.{take_answer, taken}
use Rattle.printer.specs.Transmitting.{transmit_answer, transmitted, after_transmit}
use Rattle.order.specs.Refusals.{Outcome, past, told}
use Rattle.order.specs.Scenes.{Scene, is_standing, stores_misfit, shelf_of, desk_at, with_printer, with_shelf, with_desk, with_net}

module _ {B R : Type 0} (s : Scene B R) where
  abbrev pub no_printer : ℕ → Bool
  no_printer p = not (nat_lt p s.size)

  abbrev pub not_standing : ℕ → Bool
  not_standing p = not (is_standing (s.presence p))

  -- printer p makes a message of this kind
  abbrev pub make_told : RecordKind → ℕ → Outcome (Unit {0})
  make_told kind p = told (make_answer kind p (s.printer p) s.net)

  abbrev pub send_outcome : ℕ → Outcome (Unit {0})
  send_outcome p = past p ((no_printer p, 4) ∷ (not_standing p, 5) ∷ (stores_misfit s, 6) ∷ []) (make_told Data p)

  abbrev pub switch_outcome : RecordKind → ℕ → Outcome (Unit {0})
  switch_outcome kind p = past p ((no_printer p, 4) ∷ (not_standing p, 5) ∷ []) (make_told kind p)

  abbrev pub change_outcome : ℕ → ℕ → Outcome (Unit {0})
  change_outcome p q =
      past p ((no_printer p || no_printer q, 4) ∷ (not_standing p, 5) ∷ []) (told (change_answer p (s.printer p) q))

  abbrev pub transmit_outcome : ℕ → Outcome (Unit {0})
  transmit_outcome p = past p ((no_printer p, 4) ∷ (not_standing p, 5) ∷ (stores_misfit s, 6) ∷ [])
      (told (transmit_answer s.size p (s.printer p) s.places s.net))

  abbrev pub take_outcome : ℕ → ℕ → Outcome (Unit {0})
  take_outcome p x = past p ((no_printer p || (no_printer x || p == x), 4) ∷ (not_standing p, 5) ∷ (stores_misfit s, 6) ∷ [])
      (told (take_answer p x (s.printer p) s.places s.net))

  -- p has made a message with this content
  abbrev pub after_made : RecordKind → ℕ → Content B → Scene B R
  after_made kind p content = with_net (with_printer s p (made kind p (s.printer p))) (after_post s.net (own_frame p (s.printer p) content))

  abbrev pub after_send : (B → R) → ℕ → B → Scene B R
  after_send row p b =
      with_shelf (after_made Data p (data_content p (s.printer p) b)) p (slice_set (shelf_of s p) (shelf_place p (next_number p (s.printer p)).0) (row b))

  abbrev pub after_raise : ℕ → Scene B R
  after_raise p = after_made Up p (up_content p (s.printer p))

  abbrev pub after_lower : ℕ → Scene B R
  after_lower p = after_made Down p (down_content p (s.printer p))

  abbrev pub after_change : ℕ → ℕ → Scene B R
  after_change p q = with_printer s p (sequenced_by (s.printer p) q)

  abbrev pub after_transmits : ℕ → Scene B R
  after_transmits p =
      with_net (with_desk s p (transmitted s.size (s.delay p) p (desk_at s p) (due s.size p (s.printer p))))
      (after_transmit p (s.printer p) s.net (due s.size p (s.printer p)))

  abbrev pub after_takes : (B → R) → ℕ → ℕ → Scene B R
  after_takes row p x =
      with_net (with_desk s p (taken row s.size (s.delay p) p x (desk_at s p) (oldest s.net x p))) (after_take s.net x p)
