-- Frames made of their parts.
use Rattle.std.specs.Prelude.{ℕ, Some, None, Option}
use Rattle.body.specs.Checked.{checked}
use Rattle.frame.specs.Ranges.{is_printer, payload_ok}
use Rattle.frame.specs.declared.counters.TicketNumber.{TicketNumber}
use Rattle.frame.specs.declared.content.Content.{Content}
use Rattle.frame.specs.declared.printer_number.PrinterNumber.{PrinterNumber}
use Rattle.frame.specs.declared.payload.Payload.{Payload}
use Rattle.frame.specs.declared.frame.Frame.{Frame}

abbrev pub printer_of : ℕ → Option PrinterNumber
printer_of s = checked (is_printer s) (λ p. Some (record { value = s; ok = p })) None

abbrev pub payload_of : {B : Type 0} → TicketNumber → Content B → Option (Payload B)
payload_of k c = checked (payload_ok k c) (λ p. Some (record { clock = k; content = c; ok = p })) None

-- a frame, if both of its parts could be made
abbrev pub framed : {B : Type 0} → Option PrinterNumber → Option (Payload B) → Option (Frame B)
framed (Some s) (Some p) = Some (record { sender = s; payload = p })
framed (Some s) None = None
framed None p = None

abbrev pub frame_of : {B : Type 0} → ℕ → TicketNumber → Content B → Option (Frame B)
frame_of s k c = framed (printer_of s) (payload_of k c)
