-- What a change of one row makes of a backlog's meaning.
use Rattle.std.proofs.Common.{◌≡◌, ℕ, ◌<◌, List, length, get_or, set, ap, ◌∙◌}
use Rattle.std.proofs.lemmas.List.{get_or_default}
use Rattle.roles.specs.Functions.{put}
use Rattle.roles.proofs.Functions.{column_put}
use Rattle.backlog.specs.Blanks.{no_row}
use Rattle.backlog.specs.Holdings.{Row, holding_of, message_row, ticket_row, with_messages, with_tickets}
use Rattle.backlog.specs.declared.backlog.Backlog.{Backlog}
use Rattle.backlog.specs.declared.rows.Held.{Held}
use Rattle.backlog.specs.declared.rows.Row as rows
use Rattle.backlog.specs.declared.rows.Stub.{Stub}

-- one element of an array is changed: to what v reads of it, f is applied
column_changed : {A C : Type 0} (v : A → C) (xs : List A) (i x : ℕ) (old new d : A) (f : C → C) →
    i ≡ x → i < length xs → v new ≡ f (v (get_or xs i old)) →
    (λ a. v (get_or (set xs i new) a d)) ≡ put (λ a. v (get_or xs a d)) x (f (v (get_or xs x d)))
column_changed v xs i x old new d f e l h =
    column_put v xs i new d l
    ∙ ap (put (λ a. v (get_or xs a d)) i) (h ∙ ap (λ r. f (v r)) (get_or_default xs i old d l))
    ∙ ap (λ j. put (λ a. v (get_or xs a d)) j (f (v (get_or xs j d)))) e

module _ (b : Backlog) (i x : ℕ) where
  pub messages_changed : (old new : rows.Row Held 8) (f : Row Held → Row Held) →
      i ≡ x → i < length b.messages → message_row new ≡ f (message_row (get_or b.messages i old)) →
      let h = holding_of b in
      holding_of (record { messages = set b.messages i new; tickets = b.tickets }) ≡ with_messages h (put h.messages x (f (h.messages x)))
  messages_changed old new f e l h = ap (with_messages (holding_of b)) (column_changed message_row b.messages i x old new (no_row 8) f e l h)

  pub tickets_changed : (old new : rows.Row Stub 16) (f : Row Stub → Row Stub) →
      i ≡ x → i < length b.tickets → ticket_row new ≡ f (ticket_row (get_or b.tickets i old)) →
      let h = holding_of b in
      holding_of (record { messages = b.messages; tickets = set b.tickets i new }) ≡ with_tickets h (put h.tickets x (f (h.tickets x)))
  tickets_changed old new f e l h = ap (with_tickets (holding_of b)) (column_changed ticket_row b.tickets i x old new (no_row 16) f e l h)
