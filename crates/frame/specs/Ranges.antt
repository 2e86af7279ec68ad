-- The ranges of a frame's parts.
use Rattle.std.specs.Prelude.{ℕ, ◌+◌, Bool, true, ◌&&◌, nat_le, nat_lt}
use Rattle.body.specs.Words.{is_word}
use Rattle.frame.specs.declared.counters.MessageNumber.{MessageNumber}
use Rattle.frame.specs.declared.counters.RoleNumber.{RoleNumber}
use Rattle.frame.specs.declared.counters.TicketNumber.{TicketNumber}
use Rattle.frame.specs.declared.content.Content.{Content}
use Rattle.frame.specs.declared.content.Content.TheVariants.{Data, Up, Down, Ticket, Reassign, Clock}

abbrev pub is_printer : ℕ → Bool
is_printer q = nat_le q 7

-- the number of a message that was sent
abbrev pub is_message : MessageNumber → Bool
is_message n = nat_le 1 n.0 && is_word n.0

-- a message's number, sequencer and role number
abbrev pub assigned_ok : MessageNumber → ℕ → RoleNumber → Bool
assigned_ok n q r = is_message n && (is_printer q && is_word r.0)

-- a content in a frame with clock k
abbrev pub content_ok : {B : Type 0} → ℕ → Content B → Bool
content_ok k (Data n q r b) = assigned_ok n q r
content_ok k (Up n q r) = assigned_ok n q r
content_ok k (Down n q r) = assigned_ok n q r
content_ok k (Ticket s n) = nat_le 1 k && (is_printer s && is_message n)
content_ok k (Reassign l c q r) =
    nat_lt l.0 c.0 && (nat_le c.0 (l.0 + 7) && (is_word c.0 && (is_printer q && is_word r.0)))
content_ok k Clock = true

abbrev pub payload_ok : {B : Type 0} → TicketNumber → Content B → Bool
payload_ok k c = is_word k.0 && content_ok k.0 c
