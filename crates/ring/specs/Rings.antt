-- What rings over one row of cells stand for.
use Rattle.std.specs.Prelude.{ℕ, ◌+◌, ◌*◌, true, cond, ◌&&◌, List, [], ◌∷◌, ◌++◌, Option, ◌==◌, slice_index_or}
use Rattle.frame.specs.declared.Frame.{Frame}
use Rattle.frame.specs.declared.FrameRow.{FrameRow}
use Rattle.transport.specs.Circles.{along}
use Rattle.transport.specs.Members.{kept_net}
use Rattle.transport.specs.Nets.{Net}
use Rattle.transport.specs.Stored.{stored, blank}
use Rattle.transport.specs.Tables.{at_pair}
use Rattle.transport.specs.declared.Members.{Members}
use Rattle.transport.specs.declared.PairTable.{PairTable}
use Rattle.ring.specs.Circles.{empty_circle}
use Rattle.ring.specs.declared.circle.Circle.{Circle}

-- the cell of place p in the circle of the pair i, j, among n printers
abbrev pub cell : ℕ → ℕ → ℕ → ℕ → ℕ → ℕ
cell n limit i j p = (i * n + j) * limit + p

module _ {B R : Type 0} (remade : R → Option B) where
  -- the frame at a place of a pair's circle
  abbrev pub frame_at : ℕ → ℕ → List (FrameRow R) → ℕ → ℕ → ℕ → Frame B
  frame_at n limit cells i j p = stored remade (slice_index_or cells (cell n limit i j p) blank)

  -- the frames along a circle of a pair
  abbrev pub circle_frames : ℕ → ℕ → List (FrameRow R) → ℕ → ℕ → Circle → List (Frame B)
  circle_frames n limit cells i j c = along (frame_at n limit cells i j) limit c.start c.held

  abbrev pub ring_net : Members → ℕ → PairTable Circle → List (FrameRow R) → Net B
  ring_net m limit circles cells =
      kept_net m limit (λ i j. true) (λ i j. circle_frames m.size limit cells i j (at_pair empty_circle circles i j))

-- one frame more for one pair
abbrev pub pushed : {B : Type 0} → Net B → ℕ → ℕ → Frame B → Net B
pushed t s d f = record {
  size = t.size;
  limit = t.limit;
  opened = t.opened;
  waiting = λ i j. cond (i == s && j == d) (t.waiting i j ++ f ∷ []) (t.waiting i j);
}
