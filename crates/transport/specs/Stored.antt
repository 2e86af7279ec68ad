-- Frames in cells that held anything before.
use Rattle.std.specs.Prelude.{Option, refl}
use Rattle.std.specs.Option.{unwrap_or}
use Rattle.frame.specs.Rows.{frame_remade}
use Rattle.frame.specs.declared.Content.TheVariants.{Clock}
use Rattle.frame.specs.declared.Frame.{Frame}
use Rattle.frame.specs.declared.FrameRow.{FrameRow}

-- the frame that stands for a row which no frame gives; none such is ever stored
abbrev pub idle : {B : Type 0} → Frame B
idle = record { sender = record { value = 0; ok = refl }; payload = record { clock = record { 0 = 0 }; content = Clock; ok = refl } }

abbrev pub or_idle : {B : Type 0} → Option (Frame B) → Frame B
or_idle found = unwrap_or found idle

-- the frame that a cell holds
abbrev pub stored : {B R : Type 0} → (R → Option B) → FrameRow R → Frame B
stored remade x = or_idle (frame_remade remade x)

-- what a cell beyond the last would hold
abbrev pub blank : {R : Type 0} → FrameRow R
blank = record { sender = 0; clock = record { 0 = 0 }; content = Clock }
