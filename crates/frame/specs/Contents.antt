-- The kind of a content.
use Rattle.frame.specs.declared.frame_kind.FrameKind.{FrameKind}
use Rattle.frame.specs.declared.frame_kind.FrameKind.TheVariants as kinds
use Rattle.frame.specs.declared.content.Content.{Content}
use Rattle.frame.specs.declared.content.Content.TheVariants.{Data, Up, Down, Ticket, Reassign, Clock}

abbrev pub kind_of : {B : Type 0} → Content B → FrameKind
kind_of (Data n q r b) = kinds.Data
kind_of (Up n q r) = kinds.Up
kind_of (Down n q r) = kinds.Down
kind_of (Ticket s n) = kinds.Ticket
kind_of (Reassign l c q r) = kinds.Reassign
kind_of Clock = kinds.Clock
