-- A frame that was stored is found again.
use Rattle.std.proofs.Common.{◌≡◌, ℕ, Some, Option, ap}
use Rattle.frame.specs.Frames.{frame_of}
use Rattle.frame.specs.Rows.{frame_row, frame_remade}
use Rattle.frame.specs.declared.Content.{Content}
use Rattle.frame.specs.declared.Frame.{Frame}
use Rattle.frame.specs.declared.FrameRow.{FrameRow}
use Rattle.frame.specs.declared.TicketNumber.{TicketNumber}
use Rattle.frame.proofs.Parts.{frame_of_self}
use Rattle.frame.proofs.RowLaws.{frame_again}
use Rattle.transport.specs.Stored.{stored, or_idle}

pub stored_from : {B R : Type 0} (remade : R → Option B) (x : FrameRow R) (f : Frame B) → frame_remade remade x ≡ Some f → stored remade x ≡ f
stored_from remade x f e = ap or_idle e

pub stored_again : {B R : Type 0} (row : B → R) (remade : R → Option B) → ((b : B) → remade (row b) ≡ Some b) → (f : Frame B) →
    stored remade (frame_row row f) ≡ f
stored_again row remade law f = stored_from remade (frame_row row f) f (frame_again row remade law f)

-- frames of the same numbers are the same
pub same_frame : {B : Type 0} (x y : Frame B) → x.sender.value ≡ y.sender.value → x.payload.clock ≡ y.payload.clock →
    x.payload.content ≡ y.payload.content → x ≡ y
same_frame x y p q r =
    let e : frame_of x.sender.value x.payload.clock x.payload.content ≡ frame_of y.sender.value y.payload.clock y.payload.content =
    ap₃ p q r in
    let f = frame_of_self x in
    let g = frame_of_self y in
    cc
  where
    ap₃ : {B : Type 0} {s t : ℕ} {k l : TicketNumber} {c d : Content B} → s ≡ t → k ≡ l → c ≡ d → frame_of s k c ≡ frame_of t l d
    ap₃ a b h = λ i. frame_of (a i) (b i) (h i)
