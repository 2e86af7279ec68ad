-- What a step on one ring does to what the rings mean.
use Rattle.std.proofs.Common.{◌≡◌, ℕ, suc, ◌+◌, ◌-◌, ◌*◌, ◌/◌, ◌%◌, ◌<◌, Bool, true, cond, ◌&&◌, eqb, List, [], ◌∷◌, ◌++◌, length, get_or, set, Some, Option, sym, refl, ap, ap₂, ◌∙◌, arith}
use lib.Arith.{digits_lt, digits_div, digits_mod}
use Rattle.std.proofs.lemmas.List.{get_or-set_same, get_or-set_other}
use Rattle.std.proofs.lemmas.Bool.{cond-true, cond-false}
use Rattle.frame.specs.declared.Frame.{Frame}
use Rattle.frame.specs.declared.FrameRow.{FrameRow}
use Rattle.transport.specs.Circles.{around, along}
use Rattle.transport.specs.Members.{reaches}
use Rattle.transport.specs.Nets.{Net, first, rest, oldest, after_take}
use Rattle.transport.specs.Stored.{stored, blank}
use Rattle.transport.specs.Tables.{at_pair}
use Rattle.transport.specs.declared.Members.{Members}
use Rattle.transport.specs.declared.PairTable.{PairTable}
use Rattle.transport.proofs.Circles.{around_below, around_apart, along_same, along_more, along_rest, along_first, length_along}
use Rattle.transport.proofs.Kept.{counts_below, counts_few, waits_counts, kept_there, kept_oldest, table_taken}
use Rattle.transport.proofs.NetLaws.{net_path, cond_same}
use Rattle.transport.proofs.TableLaws.{at_one, pair_self, pair_apart}
use Rattle.ring.specs.Circles.{empty_circle, Within}
use Rattle.ring.specs.Rings.{cell, frame_at, circle_frames, ring_net, pushed}
use Rattle.ring.specs.declared.circle.Circle.{Circle}

-- the cells of a pair lie below those of all pairs
pub cell_below : {i j p n limit : ℕ} → i < n → j < n → p < limit → (i * n + j) * limit + p < n * n * limit
cell_below hi hj hp = digits_lt (digits_lt hi hj) hp

-- equal cells have equal pairs and places
pub cell_same : (n limit i j p a b q : ℕ) → j < n → b < n → p < limit → q < limit → cell n limit i j p ≡ cell n limit a b q →
    (i ≡ a) × (j ≡ b) × (p ≡ q)
cell_same n limit i j p a b q hj hb hp hq e =
    let r : i * n + j ≡ a * n + b = sym (digits_div (i * n + j) hp) ∙ (ap (λ x. x / limit) e ∙ digits_div (a * n + b) hq) in
    let s : p ≡ q = sym (digits_mod (i * n + j) hp) ∙ (ap (λ x. x % limit) e ∙ digits_mod (a * n + b) hq) in (
      sym (digits_div i hj) ∙ (ap (λ x. x / n) r ∙ digits_div a hb),
      sym (digits_mod i hj) ∙ (ap (λ x. x % n) r ∙ digits_mod a hb),
      s,
    )

-- the table and cells of rings that are changed at one pair
module _ {B R : Type 0} (remade : R → Option B) (m : Members) (limit : ℕ) (t : PairTable Circle) (cells : List (FrameRow R)) where
  abbrev pub net : Net B
  net = ring_net remade m limit t cells

  -- the circle of a pair
  abbrev pub C : ℕ → ℕ → Circle
  C i j = at_pair empty_circle t i j

  abbrev all : ℕ → ℕ → Bool
  all i j = true

  abbrev kept : PairTable Circle → List (FrameRow R) → ℕ → ℕ → List (Frame B)
  kept t' cells' i j = circle_frames remade m.size limit cells' i j (at_pair empty_circle t' i j)

  pub ring_waits : (i j : ℕ) → reaches m i j ≡ true → length (net.waiting i j) ≡ (C i j).held
  ring_waits i j h = ap length (kept_there m limit all (kept t cells) i j h) ∙ length_along limit (frame_at remade m.size limit cells i j) (C i j).start (C i j).held

  -- where something waits, the pair is reached and its circle holds some
  pub ring_reaches : (i j : ℕ) → (length (net.waiting i j) ≡ 0 → ⊥) → reaches m i j ≡ true
  ring_reaches i j h = waits_counts m limit all (kept t cells) i j h

  pub ring_few : (i j : ℕ) → reaches m i j ≡ true → (i < 8) × (j < 8)
  ring_few i j h = counts_few m limit all (kept t cells) i j h

  ring_below : (i j : ℕ) → reaches m i j ≡ true → (i < m.size) × (j < m.size)
  ring_below i j h = counts_below m limit all (kept t cells) i j h

  pub ring_first : (s d : ℕ) → reaches m s d ≡ true → (C s d).start < limit → ((C s d).held ≡ 0 → ⊥) →
      oldest net s d ≡ Some (frame_at remade m.size limit cells s d (C s d).start)
  ring_first s d hr hs hh =
      let at = frame_at remade m.size limit cells s d in
      let e : suc ((C s d).held - 1) ≡ (C s d).held = omega arith in
      kept_oldest m limit all (kept t cells) s d hr ∙
      (sym (ap (λ k. first (along at limit (C s d).start k)) e) ∙ along_first limit at (C s d).start ((C s d).held - 1) hs)

  pub ring_taken : (t' : PairTable Circle) (v : Circle) (s d : ℕ) → reaches m s d ≡ true → Within limit (C s d) → ((C s d).held ≡ 0 → ⊥) →
      v.start ≡ around limit (C s d).start 1 → v.held ≡ (C s d).held - 1 →
      ((i j : ℕ) → j < 8 → at_pair empty_circle t' i j ≡ cond (eqb i s && eqb j d) v (C i j)) →
      ring_net remade m limit t' cells ≡ after_take net s d
  ring_taken t' v s d hr hw hh hs hv w =
      let at = frame_at remade m.size limit cells s d in
      let e : suc ((C s d).held - 1) ≡ (C s d).held = omega arith in
      table_taken m limit all (circle_frames remade m.size limit cells) empty_circle t t' v s d hr
      (ap₂ (along at limit) hs hv ∙
      (along_rest limit at (C s d).start ((C s d).held - 1) hw.0 (omega arith) ∙
      ap (λ k. rest (along at limit (C s d).start k)) e)) w

  pub ring_pushed : (t' : PairTable Circle) (v : Circle) (s d at : ℕ) (row : FrameRow R) → reaches m s d ≡ true →
      ((i j : ℕ) → j < 8 → Within limit (C i j)) → (C s d).held < limit → v.start ≡ (C s d).start → v.held ≡ (C s d).held + 1 →
      at ≡ cell m.size limit s d (around limit (C s d).start (C s d).held) → at < length cells →
      ((i j : ℕ) → j < 8 → at_pair empty_circle t' i j ≡ cond (eqb i s && eqb j d) v (C i j)) →
      ring_net remade m limit t' (set cells at row) ≡ pushed net s d (stored remade row)
  ring_pushed t' v s d at row hr hw rm hs hv ea la w =
      net_path _ _ refl refl (λ j. refl) (at_one next.waiting (λ i j. net.waiting i j ++ stored remade row ∷ []) net.waiting s d here else)
    where
      next : Net B
      next = ring_net remade m limit t' (set cells at row)

      F' : ℕ → ℕ → ℕ → Frame B
      F' = frame_at remade m.size limit (set cells at row)

      end : ℕ
      end = around limit (C s d).start (C s d).held

      within : end < limit
      within = let h = hw s d (ring_few s d hr).1 in around_below limit (C s d).start (C s d).held h.0 h.1

      same : (i j q : ℕ) → j < m.size → q < limit → (i ≡ s → j ≡ d → q ≡ end → ⊥) → F' i j q ≡ frame_at remade m.size limit cells i j q
      same i j q hj hq ne = ap (stored remade) (get_or-set_other cells at (cell m.size limit i j q) row blank (λ e.
          let r = cell_same m.size limit i j q s d end hj (ring_below s d hr).1 hq within (e ∙ ea) in
          ne r.0 r.1 r.2))

      here : next.waiting s d ≡ net.waiting s d ++ stored remade row ∷ []
      here =
          let h = hw s d (ring_few s d hr).1 in
          kept_there m limit all (kept t' (set cells at row)) s d hr ∙
          (ap (circle_frames remade m.size limit (set cells at row) s d) (w s d (ring_few s d hr).1 ∙ cond-true _ _ _ (pair_self s d)) ∙
          (ap₂ (along (F' s d) limit) hs hv ∙
          (along_more limit (frame_at remade m.size limit cells s d) (F' s d) (C s d).start (C s d).held (stored remade row)
          (λ k l. same s d (around limit (C s d).start k) (ring_below s d hr).1
          (around_below limit (C s d).start k h.0 (omega arith))
          (λ _ _ e. around_apart limit (C s d).start k (C s d).held h.0 l rm e))
          (ap (stored remade) (ap (λ y. get_or (set cells at row) y blank) (sym ea) ∙ get_or-set_same cells at row blank la)) ∙
          ap (λ z. z ++ stored remade row ∷ []) (sym (kept_there m limit all (kept t cells) s d hr)))))

      else : (i j : ℕ) → (i ≡ s → j ≡ d → ⊥) → next.waiting i j ≡ net.waiting i j
      else i j ne = cond_same (reaches m i j) _ _ [] (λ e.
          let h = hw i j (ring_few i j e).1 in
          ap (circle_frames remade m.size limit (set cells at row) i j) (w i j (ring_few i j e).1 ∙ cond-false _ _ _ (pair_apart i s j d ne)) ∙
          along_same limit (F' i j) (frame_at remade m.size limit cells i j) (C i j).start (C i j).held (λ k l.
          same i j (around limit (C i j).start k) (ring_below i j e).1 (around_below limit (C i j).start k h.0 (omega arith)) (λ u v _. ne u v)))
