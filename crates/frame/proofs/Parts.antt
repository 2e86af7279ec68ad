-- A frame and its parts are what their numbers make.
use Rattle.std.proofs.Common.{◌≡◌, Some, None, ap, ◌∙◌}
use Rattle.body.specs.CheckedLemmas.{checked_true}
use Rattle.frame.specs.Ranges.{is_printer, payload_ok}
use Rattle.frame.specs.Frames.{printer_of, payload_of, frame_of, framed}
use Rattle.frame.specs.declared.printer_number.PrinterNumber.{PrinterNumber}
use Rattle.frame.specs.declared.payload.Payload.{Payload}
use Rattle.frame.specs.declared.frame.Frame.{Frame}

pub printer_of_self : (s : PrinterNumber) → printer_of s.value ≡ Some s
printer_of_self s = checked_true (is_printer s.value) _ None s.ok

pub payload_of_self : {B : Type 0} (p : Payload B) → payload_of p.clock p.content ≡ Some p
payload_of_self p = checked_true (payload_ok p.clock p.content) _ None p.ok

pub frame_of_self : {B : Type 0} (f : Frame B) → frame_of f.sender.value f.payload.clock f.payload.content ≡ Some f
frame_of_self f =
    ap (λ s. framed s (payload_of f.payload.clock f.payload.content)) (printer_of_self f.sender) ∙
    ap (framed (Some f.sender)) (payload_of_self f.payload)
