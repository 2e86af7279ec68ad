-- Frames as plain rows.
use Rattle.std.specs.Prelude.{ℕ, Some, None, Option}
use Rattle.frame.specs.Frames.{frame_of}
use Rattle.frame.specs.declared.counters.MessageNumber.{MessageNumber}
use Rattle.frame.specs.declared.counters.RoleNumber.{RoleNumber}
use Rattle.frame.specs.declared.counters.TicketNumber.{TicketNumber}
use Rattle.frame.specs.declared.content.Content.{Content}
use Rattle.frame.specs.declared.content.Content.TheVariants.{Data, Up, Down, Ticket, Reassign, Clock}
use Rattle.frame.specs.declared.frame.Frame.{Frame}
use Rattle.frame.specs.declared.frame_row.FrameRow.{FrameRow}

-- a content with its body, if any, as a row
abbrev pub content_row : {B R : Type 0} → (B → R) → Content B → Content R
content_row row (Data n q r b) = Data n q r (row b)
content_row row (Up n q r) = Up n q r
content_row row (Down n q r) = Down n q r
content_row row (Ticket s n) = Ticket s n
content_row row (Reassign l c q r) = Reassign l c q r
content_row row Clock = Clock

abbrev pub frame_row : {B R : Type 0} → (B → R) → Frame B → FrameRow R
frame_row row f =
    record { sender = f.sender.value; clock = f.payload.clock; content = content_row row f.payload.content }

-- a data content, if there is a body
abbrev pub with_body : {B : Type 0} → MessageNumber → ℕ → RoleNumber → Option B → Option (Content B)
with_body n q r (Some b) = Some (Data n q r b)
with_body n q r None = None

-- the content of a row, if its body can be made
abbrev pub content_remade : {B R : Type 0} → (R → Option B) → Content R → Option (Content B)
content_remade remade (Data n q r b) = with_body n q r (remade b)
content_remade remade (Up n q r) = Some (Up n q r)
content_remade remade (Down n q r) = Some (Down n q r)
content_remade remade (Ticket s n) = Some (Ticket s n)
content_remade remade (Reassign l c q r) = Some (Reassign l c q r)
content_remade remade Clock = Some Clock

-- a frame, if there is a content
abbrev pub frame_with : {B : Type 0} → ℕ → TicketNumber → Option (Content B) → Option (Frame B)
frame_with s k (Some c) = frame_of s k c
frame_with s k None = None

abbrev pub frame_remade : {B R : Type 0} → (R → Option B) → FrameRow R → Option (Frame B)
frame_remade remade x = frame_with x.sender x.clock (content_remade remade x.content)
