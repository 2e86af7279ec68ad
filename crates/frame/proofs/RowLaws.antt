-- A frame is what its row makes, and a row that no frame gives makes none.
use Rattle.std.proofs.Common.{◌≡◌, ℕ, IfSome, Some, None, Option, sym, refl, ap, ◌∙◌, arith}
use Rattle.body.specs.CheckedLemmas.{checked_some}
use Rattle.frame.specs.Ranges.{is_printer, payload_ok}
use Rattle.frame.specs.Frames.{printer_of, payload_of, frame_of, framed}
use Rattle.frame.specs.Rows.{content_row, content_remade, with_body, frame_row, frame_remade, frame_with}
use Rattle.frame.specs.declared.counters.TicketNumber.{TicketNumber}
use Rattle.frame.specs.declared.content.Content.{Content}
use Rattle.frame.specs.declared.content.Content.TheVariants.{Data, Up, Down, Ticket, Reassign, Clock}
use Rattle.frame.specs.declared.printer_number.PrinterNumber.{PrinterNumber}
use Rattle.frame.specs.declared.payload.Payload.{Payload}
use Rattle.frame.specs.declared.frame.Frame.{Frame}
use Rattle.frame.specs.declared.frame_row.FrameRow.{FrameRow}
use Rattle.frame.proofs.Parts.{frame_of_self}

-- a frame has the numbers that it was made of
pub frame_of_parts : {B : Type 0} (s : ℕ) (k : TicketNumber) (c : Content B) (f : Frame B) → frame_of s k c ≡ Some f →
    (f.sender.value ≡ s) × (f.payload.clock ≡ k) × (f.payload.content ≡ c)
frame_of_parts {B} s k c f e = go (printer_of s) (payload_of k c) refl refl e where
  go : (o : Option PrinterNumber) (u : Option (Payload B)) → printer_of s ≡ o → payload_of k c ≡ u → framed o u ≡ Some f →
      (f.sender.value ≡ s) × (f.payload.clock ≡ k) × (f.payload.content ≡ c)
  go (Some x) (Some y) p q h =
      let a = checked_some (is_printer s) (λ t. record { value = s; ok = t }) x p in
      let b = checked_some (payload_ok k c) (λ t. record { clock = k; content = c; ok = t }) y q in
      let d : f ≡ record { sender = x; payload = y } = cc in (
        ap (λ (w : Frame B). w.sender.value) d ∙ sym (ap (λ (w : PrinterNumber). w.value) a.1),
        ap (λ (w : Frame B). w.payload.clock) d ∙ sym (ap (λ (w : Payload B). w.clock) b.1),
        ap (λ (w : Frame B). w.payload.content) d ∙ sym (ap (λ (w : Payload B). w.content) b.1),
      )
  go (Some x) None p q h = absurd (let z : ◌≡◌ {A = ℕ} 0 1 = cc in omega arith)
  go None u p q h = absurd (let z : ◌≡◌ {A = ℕ} 0 1 = cc in omega arith)

module _ {B R : Type 0} (row : B → R) (remade : R → Option B) where
  pub content_again : ((b : B) → remade (row b) ≡ Some b) → (c : Content B) → content_remade remade (content_row row c) ≡ Some c
  content_again law (Data n q r b) = ap (with_body n q r) (law b)
  content_again law (Up n q r) = refl
  content_again law (Down n q r) = refl
  content_again law (Ticket s n) = refl
  content_again law (Reassign l c q r) = refl
  content_again law Clock = refl

  pub frame_again : ((b : B) → remade (row b) ≡ Some b) → (f : Frame B) → frame_remade remade (frame_row row f) ≡ Some f
  frame_again law f =
      ap (frame_with f.sender.value f.payload.clock) (content_again law f.payload.content) ∙ frame_of_self f

  pub content_plain : ((x : R) (b : B) → remade x ≡ Some b → row b ≡ x) → (x : Content R) (c : Content B) →
      content_remade remade x ≡ Some c → content_row row c ≡ x
  content_plain law (Data n q r y) c e = go (remade y) refl e where
    go : (o : Option B) → remade y ≡ o → with_body n q r o ≡ Some c → content_row row c ≡ Data n q r y
    go (Some b) p h =
        let d : c ≡ Data n q r b = cc in
        ap (content_row row) d ∙ ap (Data n q r) (law y b p)
    go None p h = absurd (let z : ◌≡◌ {A = ℕ} 0 1 = cc in omega arith)
  content_plain law (Up n q r) c e = let d : c ≡ Up n q r = cc in ap (content_row row) d
  content_plain law (Down n q r) c e = let d : c ≡ Down n q r = cc in ap (content_row row) d
  content_plain law (Ticket s n) c e = let d : c ≡ Ticket s n = cc in ap (content_row row) d
  content_plain law (Reassign l h q r) c e = let d : c ≡ Reassign l h q r = cc in ap (content_row row) d
  content_plain law Clock c e = let d : c ≡ Clock = cc in ap (content_row row) d

  pub frame_plain : ((x : R) (b : B) → remade x ≡ Some b → row b ≡ x) → (x : FrameRow R) (f : Frame B) →
      frame_remade remade x ≡ Some f → frame_row row f ≡ x
  frame_plain law x f e = go (content_remade remade x.content) refl e where
    go : (o : Option (Content B)) → content_remade remade x.content ≡ o → frame_with x.sender x.clock o ≡ Some f → frame_row row f ≡ x
    go (Some c) p h =
        let m = frame_of_parts x.sender x.clock c f h in
        let q = ap (content_row row) m.2 ∙ content_plain law x.content c p in
        λ i. record { sender = m.0 i; clock = m.1 i; content = q i }
    go None p h = absurd (let z : ◌≡◌ {A = ℕ} 0 1 = cc in omega arith)

  pub frame_plain_cases : ((x : R) (b : B) → remade x ≡ Some b → row b ≡ x) → (x : FrameRow R) (o : Option (Frame B)) →
      o ≡ frame_remade remade x → IfSome o (λ f. frame_row row f ≡ x)
  frame_plain_cases law x (Some f) e = frame_plain law x f (sym e)
  frame_plain_cases law x None e = tt
