-- What a printer posts.
use Rattle.std.specs.Prelude.{ℕ}
use Rattle.frame.specs.Frames.{frame_of}
use Rattle.frame.specs.declared.Content.{Content}
use Rattle.frame.specs.declared.Frame.{Frame}
use Rattle.frame.specs.declared.TicketNumber.{TicketNumber}
use Rattle.transport.specs.Nets.{Net, post_answer}
use Rattle.transport.specs.Stored.{or_idle}
use Rattle.table.specs.Printers.{Printer}
use Rattle.printer.specs.Answers.{Answer, passed_up}

-- the frame of these parts; what printers post is always in its ranges
abbrev pub frame_from : {B : Type 0} → ℕ → TicketNumber → Content B → Frame B
frame_from me clock content = or_idle (frame_of me clock content)

-- the frame of a printer under its present clock
abbrev pub own_frame : {B : Type 0} → ℕ → Printer → Content B → Frame B
own_frame me p content = frame_from me (record { 0 = p.clocks.own }) content

abbrev pub posting_answer : {B : Type 0} → Net B → ℕ → Answer
posting_answer t me = passed_up (post_answer t me)

-- a frame with this clock was posted
abbrev pub posted_at : ℕ → Printer → Printer
posted_at clock p = record {
  clocks = record { own = clock; posted = clock; heard = p.clocks.heard };
  duty = p.duty;
  conf = p.conf;
  holding = p.holding;
  length = p.length;
}
