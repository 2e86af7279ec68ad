-- The kinds of frames and their numbers.
use Rattle.std.specs.Prelude.{ℕ, cond, Some, None, Option, ◌==◌}
use Rattle.body.specs.declared.WireFault.{WireFault}
use Rattle.body.specs.declared.WireRefusal.TheVariants.{UnknownKind}
use Rattle.frame.specs.declared.frame_kind.FrameKind.{FrameKind}
use Rattle.frame.specs.declared.frame_kind.FrameKind.TheVariants.{Data, Up, Down, Ticket, Reassign, Clock}

abbrev pub kind_number : FrameKind → ℕ
kind_number Data = 0
kind_number Up = 1
kind_number Down = 2
kind_number Ticket = 3
kind_number Reassign = 4
kind_number Clock = 5

abbrev pub kind_named : ℕ → Option FrameKind
kind_named k =
    cond (k == 0) (Some Data) (cond (k == 1) (Some Up) (cond (k == 2) (Some Down)
    (cond (k == 3) (Some Ticket) (cond (k == 4) (Some Reassign) (cond (k == 5) (Some Clock) None)))))

-- a kind is a frame's first word
abbrev pub no_such_kind : WireFault
no_such_kind = record { refusal = UnknownKind; byte = 0 }
