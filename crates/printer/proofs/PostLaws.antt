-- What a transport's answer to a post tells.
use Rattle.std.proofs.Common.{◌≡◌, ℕ, Bool, true, false, cond, Some, None, Ok, Err, Option, Result, sym, refl, ap}
use Rattle.frame.specs.declared.Frame.{Frame}
use Rattle.frame.proofs.Parts.{frame_of_self}
use Rattle.transport.specs.Nets.{Net, accepts, post_answer, after_post}
use Rattle.transport.specs.Stored.{or_idle}
use Rattle.transport.specs.declared.TransportFault.{TransportFault}
use Rattle.transport.proofs.NetLaws.{post_refused}
use Rattle.printer.specs.Answers.{Answer, unless}
use Rattle.printer.specs.Posts.{frame_from}
use Rattle.refusals.specs.declared.PrinterFault.{PrinterFault}
use Rattle.refusals.specs.declared.PrinterRefusal.{PrinterRefusal}

-- a frame is made of its parts
pub frame_from_self : {B : Type 0} (f : Frame B) → f ≡ frame_from f.sender.value f.payload.clock f.payload.content
frame_from_self f = sym (ap or_idle (frame_of_self f))

not_accepted : {E : Type 0} (b : Bool) (x y : E) → ◌≡◌ {A = Result (Unit {0}) E} (Err x) (cond b (Ok tt) (Err y)) → b ≡ false
not_accepted true x y e = cc
not_accepted false x y e = refl

-- a post that was refused changes nothing
pub refused_same : {B : Type 0} (t : Net B) (f : Frame B) (e : TransportFault) → Err e ≡ post_answer t f.sender.value → after_post t f ≡ t
refused_same t f e h = sym (post_refused t f (not_accepted (accepts t f.sender.value) e _ h))

-- a printer's own refusal comes before what the transport answers
pub refused_unless : (me : ℕ) (o : Option PrinterRefusal) (a : Answer) (f : PrinterFault) → Err f ≡ unless me o (Ok tt) → Err f ≡ unless me o a
refused_unless me None a f e = cc
refused_unless me (Some r) a f e = e
