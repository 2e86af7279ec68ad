-- The words of a frame are in range, and words in range are those of a frame.
use Rattle.std.proofs.Common.{◌≡◌, ℕ, suc, ◌≤◌, Bool, true, ◌&&◌, List, [], ◌∷◌, ◌++◌, length, Some, Option, refl, ap, ◌∙◌, arith}
use Rattle.std.proofs.lemmas.Bool.Decides.{nat_tests}
use Rattle.body.specs.Words.{in_order, is_word}
use Rattle.frame.specs.Ranges.{is_printer, payload_ok}
use Rattle.frame.specs.Contents.{kind_of}
use Rattle.frame.specs.Rows.{with_body, frame_with}
use Rattle.frame.specs.declared.TicketNumber.{TicketNumber}
use Rattle.frame.specs.declared.Frame.{Frame}
use Rattle.frame.specs.declared.Content.{Content}
use Rattle.frame.specs.declared.Content.TheVariants.{Data, Up, Down, Ticket, Reassign, Clock}
use Rattle.frame.specs.declared.FrameKind.{FrameKind}
use Rattle.frame.specs.declared.FrameKind.TheVariants as kinds
use Rattle.frame.proofs.Parts.{frame_of_self}
use Rattle.wire.specs.Layout.{kind_count, kind_allows, content_words, rest_words}
use Rattle.wire.specs.Rebuilt.{content_rebuilt, frame_rebuilt}

-- a body's words behind the others are judged as the body's alone
pub body_order : (allows : List ℕ → ℕ → Bool) (s k n q r : ℕ) (vs before : List ℕ) →
    in_order (kind_allows allows kinds.Data) (s ∷ k ∷ n ∷ q ∷ r ∷ before) vs ≡ in_order allows before vs
body_order allows s k n q r [] before = refl
body_order allows s k n q r (w ∷ vs) before =
    ap (λ t. is_word w && (allows before w && t)) (body_order allows s k n q r vs (before ++ w ∷ []))

module _ {B : Type 0} (words : B → List ℕ) (allows : List ℕ → ℕ → Bool) (count : ℕ) where
  parts_ranged : ((b : B) → in_order allows [] (words b) ≡ true) → (s : ℕ) (k : TicketNumber) (c : Content B) →
      is_printer s ≡ true → payload_ok k c ≡ true →
      in_order (kind_allows allows (kind_of c)) [] (s ∷ (k.0 ∷ content_words words c)) ≡ true
  parts_ranged law s k (Data n q r b) p o =
      let e = body_order allows s k.0 n.0 q r.0 (words b) [] ∙ law b in
      grind (arith, nat_tests)
  parts_ranged law s k (Up n q r) p o = grind (arith, nat_tests)
  parts_ranged law s k (Down n q r) p o = grind (arith, nat_tests)
  parts_ranged law s k (Ticket t n) p o = grind (arith, nat_tests)
  parts_ranged law s k (Reassign l c q r) p o = grind (arith, nat_tests)
  parts_ranged law s k Clock p o = grind (arith, nat_tests)

  pub frame_ranged : ((b : B) → in_order allows [] (words b) ≡ true) → (f : Frame B) →
      in_order (kind_allows allows (kind_of f.payload.content)) [] (rest_words words f) ≡ true
  frame_ranged law f = parts_ranged law f.sender.value f.payload.clock f.payload.content f.sender.ok f.payload.ok

  content_long : ((b : B) → length (words b) ≡ count) → (c : Content B) →
      suc (suc (length (content_words words c))) ≡ kind_count count (kind_of c)
  content_long law (Data n q r b) = omega (arith, law b)
  content_long law (Up n q r) = refl
  content_long law (Down n q r) = refl
  content_long law (Ticket t n) = refl
  content_long law (Reassign l c q r) = refl
  content_long law Clock = refl

  pub frame_long : ((b : B) → length (words b) ≡ count) → (f : Frame B) →
      length (rest_words words f) ≡ kind_count count (kind_of f.payload.content)
  frame_long law f = content_long law f.payload.content

  content_rebuilds : (rebuilt : List ℕ → Option B) → ((b : B) → rebuilt (words b) ≡ Some b) → (c : Content B) →
      content_rebuilt rebuilt (kind_of c) (content_words words c) ≡ Some c
  content_rebuilds rebuilt law (Data n q r b) = ap (with_body n q r) (law b)
  content_rebuilds rebuilt law (Up n q r) = refl
  content_rebuilds rebuilt law (Down n q r) = refl
  content_rebuilds rebuilt law (Ticket t n) = refl
  content_rebuilds rebuilt law (Reassign l c q r) = refl
  content_rebuilds rebuilt law Clock = refl

  pub frame_rebuilds : (rebuilt : List ℕ → Option B) → ((b : B) → rebuilt (words b) ≡ Some b) → (f : Frame B) →
      frame_rebuilt rebuilt (kind_of f.payload.content) (rest_words words f) ≡ Some f
  frame_rebuilds rebuilt law f =
      ap (frame_with f.sender.value f.payload.clock) (content_rebuilds rebuilt law f.payload.content) ∙ frame_of_self f

  -- a frame of a kind with these words behind the kind
  abbrev pub Spelled : FrameKind → List ℕ → Type 0
  Spelled kind ws = (f : Frame B) × (kind_of f.payload.content ≡ kind) × (rest_words words f ≡ ws)

  abbrev Ranged : FrameKind → List ℕ → Type 0
  Ranged kind ws = in_order (kind_allows allows kind) [] ws ≡ true

  -- sender and clock, with a content that is in range behind them
  abbrev with_content : (s k : ℕ) (c : Content B) → is_printer s ≡ true → payload_ok (record { 0 = k }) c ≡ true →
      Spelled (kind_of c) (s ∷ (k ∷ content_words words c))
  with_content s k c p o =
      (record { sender = record { value = s; ok = p }; payload = record { clock = record { 0 = k }; content = c; ok = o } }, refl, refl)

  -- what is known of the words of a message with a body
  data_ranges : (s k n q r : ℕ) (vs : List ℕ) → Ranged kinds.Data (s ∷ k ∷ n ∷ q ∷ r ∷ vs) →
      (is_printer s ≡ true) × ((b : B) → payload_ok (record { 0 = k }) (Data (record { 0 = n }) q (record { 0 = r }) b) ≡ true) ×
      (in_order allows [] vs ≡ true)
  data_ranges s k n q r vs h =
      let e = body_order allows s k n q r vs [] in
      ((grind (arith, nat_tests)), (λ b. grind (arith, nat_tests)), (grind (arith, nat_tests)))

  data_spelled : ((ws : List ℕ) → length ws ≡ count → in_order allows [] ws ≡ true → (b : B) × (words b ≡ ws)) →
      (s k n q r : ℕ) (vs : List ℕ) → Ranged kinds.Data (s ∷ k ∷ n ∷ q ∷ r ∷ vs) → length vs ≡ count →
      Spelled kinds.Data (s ∷ k ∷ n ∷ q ∷ r ∷ vs)
  data_spelled law s k n q r vs h l =
      let t = data_ranges s k n q r vs h in
      let m = law vs l t.2 in
      let f = with_content s k (Data (record { 0 = n }) q (record { 0 = r }) m.0) t.0 (t.1 m.0) in
      (f.0, refl, ap (λ xs. s ∷ (k ∷ (n ∷ (q ∷ (r ∷ xs))))) m.1)

  module _ (law : (ws : List ℕ) → length ws ≡ count → in_order allows [] ws ≡ true → (b : B) × (words b ≡ ws)) where
    content_spelled : (kind : FrameKind) (s k : ℕ) (xs : List ℕ) → Ranged kind (s ∷ k ∷ xs) →
        suc (suc (length xs)) ≡ kind_count count kind → Spelled kind (s ∷ k ∷ xs)
    content_spelled kinds.Data s k [] h l = absurd (omega arith)
    content_spelled kinds.Data s k (t ∷ []) h l = absurd (omega arith)
    content_spelled kinds.Data s k (t ∷ u ∷ []) h l = absurd (omega arith)
    content_spelled kinds.Data s k (n ∷ q ∷ r ∷ vs) h l = data_spelled law s k n q r vs h (omega arith)
    content_spelled kinds.Up s k [] h l = absurd (omega arith)
    content_spelled kinds.Up s k (t ∷ []) h l = absurd (omega arith)
    content_spelled kinds.Up s k (t ∷ u ∷ []) h l = absurd (omega arith)
    content_spelled kinds.Up s k (n ∷ q ∷ r ∷ []) h l = with_content s k (Up (record { 0 = n }) q (record { 0 = r })) (grind (arith, nat_tests)) (grind (arith, nat_tests))
    content_spelled kinds.Up s k (t ∷ u ∷ v ∷ w ∷ xs) h l = absurd (omega arith)
    content_spelled kinds.Down s k [] h l = absurd (omega arith)
    content_spelled kinds.Down s k (t ∷ []) h l = absurd (omega arith)
    content_spelled kinds.Down s k (t ∷ u ∷ []) h l = absurd (omega arith)
    content_spelled kinds.Down s k (n ∷ q ∷ r ∷ []) h l = with_content s k (Down (record { 0 = n }) q (record { 0 = r })) (grind (arith, nat_tests)) (grind (arith, nat_tests))
    content_spelled kinds.Down s k (t ∷ u ∷ v ∷ w ∷ xs) h l = absurd (omega arith)
    content_spelled kinds.Ticket s k [] h l = absurd (omega arith)
    content_spelled kinds.Ticket s k (t ∷ []) h l = absurd (omega arith)
    content_spelled kinds.Ticket s k (t ∷ n ∷ []) h l = with_content s k (Ticket t (record { 0 = n })) (grind (arith, nat_tests)) (grind (arith, nat_tests))
    content_spelled kinds.Ticket s k (t ∷ u ∷ v ∷ xs) h l = absurd (omega arith)
    content_spelled kinds.Reassign s k [] h l = absurd (omega arith)
    content_spelled kinds.Reassign s k (t ∷ []) h l = absurd (omega arith)
    content_spelled kinds.Reassign s k (t ∷ u ∷ []) h l = absurd (omega arith)
    content_spelled kinds.Reassign s k (t ∷ u ∷ v ∷ []) h l = absurd (omega arith)
    content_spelled kinds.Reassign s k (n ∷ c ∷ q ∷ r ∷ []) h l =
        with_content s k (Reassign (record { 0 = n }) (record { 0 = c }) q (record { 0 = r })) (grind (arith, nat_tests)) (grind (arith, nat_tests))
    content_spelled kinds.Reassign s k (t ∷ u ∷ v ∷ w ∷ x ∷ xs) h l = absurd (omega arith)
    content_spelled kinds.Clock s k [] h l = with_content s k Clock (grind (arith, nat_tests)) (grind (arith, nat_tests))
    content_spelled kinds.Clock s k (t ∷ xs) h l = absurd (omega arith)

    at_least_two : (kind : FrameKind) → 2 ≤ kind_count count kind
    at_least_two kinds.Data = omega arith
    at_least_two kinds.Up = omega arith
    at_least_two kinds.Down = omega arith
    at_least_two kinds.Ticket = omega arith
    at_least_two kinds.Reassign = omega arith
    at_least_two kinds.Clock = omega arith

    pub frame_spelled : (kind : FrameKind) (ws : List ℕ) → Ranged kind ws → length ws ≡ kind_count count kind → Spelled kind ws
    frame_spelled kind [] h l = absurd (let t = at_least_two kind in omega arith)
    frame_spelled kind (s ∷ []) h l = absurd (let t = at_least_two kind in omega arith)
    frame_spelled kind (s ∷ k ∷ xs) h l = content_spelled kind s k xs h l
