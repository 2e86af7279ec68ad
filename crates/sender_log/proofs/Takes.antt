-- What waits for a receiver, and a frame taken: its cursor one frame nearer to the end of the log.
use Rattle.std.proofs.Common.{◌≡◌, ℕ, suc, ◌+◌, ◌-◌, ◌<◌, ◌≤◌, Bool, true, false, cond, not, ◌&&◌, eqb, ltb, List, length, get_or, Some, sym, refl, ap, ◌∙◌, arith}
use Rattle.std.proofs.lemmas.Bool.{lt-ltb}
use Rattle.frame.specs.declared.Frame.{Frame}
use Rattle.frame.specs.declared.FrameRow.{FrameRow}
use Rattle.transport.specs.Circles.{along}
use Rattle.transport.specs.Members.{hears_in}
use Rattle.transport.specs.Nets.{Net, after_take, rest, first, oldest}
use Rattle.transport.specs.Stored.{blank}
use Rattle.transport.specs.Tables.{at_pair}
use Rattle.transport.specs.declared.Members.{Members}
use Rattle.transport.specs.declared.PairTable.{PairTable}
use Rattle.transport.proofs.Circles.{around_below, around_nearer, along_rest, along_first, length_along}
use Rattle.transport.proofs.Kept.{counts_below, counts_few, waits_counts, kept_there, kept_oldest, table_taken}
use Rattle.sender_log.specs.Logs.{carries, others, cell, cursor, last_frames, log_net}

module _ {B R : Type 0} (frame : FrameRow R → Frame B) (limit : ℕ) (cells : List (FrameRow R)) where
  -- the frame at a place of a log
  abbrev at : ℕ → ℕ → Frame B
  at i p = frame (get_or cells (cell limit i p) blank)

  pub last_rest : (i end behind : ℕ) → end < limit → behind + 1 ≤ limit →
      last_frames frame limit cells i end behind ≡ rest (last_frames frame limit cells i end (behind + 1))
  last_rest i end behind h l =
      let c : cursor limit end (behind + 1) < limit = around_below limit end (limit - (behind + 1)) h (omega arith) in
      let m : suc behind ≡ behind + 1 = omega arith in
      ap (λ p. along (at i) limit p behind) (around_nearer limit end behind h (omega arith)) ∙
      (along_rest limit (at i) (cursor limit end (behind + 1)) behind c l ∙
      ap (λ k. rest (along (at i) limit (cursor limit end (behind + 1)) k)) m)

  pub last_first : (i end behind : ℕ) → end < limit → behind ≤ limit → (behind ≡ 0 → ⊥) →
      first (last_frames frame limit cells i end behind) ≡ Some (at i (cursor limit end behind))
  last_first i end behind h l ne =
      let c : cursor limit end behind < limit = around_below limit end (limit - behind) h (omega arith) in
      let m : suc (behind - 1) ≡ behind = omega arith in
      sym (ap (λ k. first (along (at i) limit (cursor limit end behind) k)) m) ∙
      along_first limit (at i) (cursor limit end behind) (behind - 1) c

-- a sender that there is carries to those that hear it
pub carries_heard : (m : Members) (i j : ℕ) → i < m.size → carries m i j ≡ hears_in m i j
carries_heard m i j h = go (not (eqb j i)) (ltb i m.size) (ltb j m.size) (get_or m.open j false) (lt-ltb i m.size h)
  where
    go : (d a b c : Bool) → a ≡ true → (d && (a && (b && c))) ≡ ((b && (b && c)) && d)
    go true true true true e = refl
    go true true true false e = refl
    go true true false c e = refl
    go false a true true e = refl
    go false a true false e = refl
    go false a false c e = refl
    go true false b c e = absurd (cc)

module _ {B R : Type 0} (frame : FrameRow R → Frame B) (m : Members) (limit : ℕ) (ends : List ℕ) (t : PairTable ℕ) (cells : List (FrameRow R)) where
  abbrev pub net : Net B
  net = log_net frame m limit ends t cells

  abbrev kept : PairTable ℕ → ℕ → ℕ → List (Frame B)
  kept t' i j = last_frames frame limit cells i (get_or ends i 0) (at_pair 0 t' i j)

  pub log_waits : (i j : ℕ) → carries m i j ≡ true → length (net.waiting i j) ≡ at_pair 0 t i j
  log_waits i j h =
      ap length (kept_there m limit others (kept t) i j h) ∙
      length_along limit (at frame limit cells i) (cursor limit (get_or ends i 0) (at_pair 0 t i j)) (at_pair 0 t i j)

  -- where something waits, the pair carries frames
  pub log_carries : (i j : ℕ) → (length (net.waiting i j) ≡ 0 → ⊥) → carries m i j ≡ true
  log_carries i j h = waits_counts m limit others (kept t) i j h

  pub log_few : (i j : ℕ) → carries m i j ≡ true → (i < 8) × (j < 8)
  log_few i j h = counts_few m limit others (kept t) i j h

  pub log_below : (i j : ℕ) → carries m i j ≡ true → (i < m.size) × (j < m.size)
  log_below i j h = counts_below m limit others (kept t) i j h

  -- the oldest frame of a pair lies at the receiver's cursor
  pub log_first : (s d : ℕ) → carries m s d ≡ true → get_or ends s 0 < limit → at_pair 0 t s d ≤ limit → (at_pair 0 t s d ≡ 0 → ⊥) →
      oldest net s d ≡ Some (frame (get_or cells (cell limit s (cursor limit (get_or ends s 0) (at_pair 0 t s d))) blank))
  log_first s d h he hl ne =
      kept_oldest m limit others (kept t) s d h ∙ last_first frame limit cells s (get_or ends s 0) (at_pair 0 t s d) he hl ne

  pub log_taken : (t' : PairTable ℕ) (v s d : ℕ) → carries m s d ≡ true → get_or ends s 0 < limit → at_pair 0 t s d ≤ limit → (at_pair 0 t s d ≡ 0 → ⊥) →
      v ≡ at_pair 0 t s d - 1 →
      ((i j : ℕ) → j < 8 → at_pair 0 t' i j ≡ cond (eqb i s && eqb j d) v (at_pair 0 t i j)) →
      log_net frame m limit ends t' cells ≡ after_take net s d
  log_taken t' v s d h he hl ne hv w =
      let end = get_or ends s 0 in
      let e : at_pair 0 t s d - 1 + 1 ≡ at_pair 0 t s d = omega arith in
      table_taken m limit others (λ i j. last_frames frame limit cells i (get_or ends i 0)) 0 t t' v s d h
      (ap (last_frames frame limit cells s end) hv ∙
      (last_rest frame limit cells s end (at_pair 0 t s d - 1) he (omega arith) ∙
      ap (λ k. rest (last_frames frame limit cells s end k)) e)) w
