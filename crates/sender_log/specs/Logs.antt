-- What a log of frames for each sender, over one row of cells, and a cursor for each receiver stand for.
use Rattle.std.specs.Prelude.{ℕ, ◌+◌, ◌-◌, ◌*◌, Bool, not, ◌&&◌, List, ◌==◌, slice_index, slice_index_or}
use Rattle.frame.specs.declared.Frame.{Frame}
use Rattle.frame.specs.declared.FrameRow.{FrameRow}
use Rattle.transport.specs.Circles.{around, along}
use Rattle.transport.specs.Members.{reaches, kept_net}
use Rattle.transport.specs.Nets.{Net}
use Rattle.transport.specs.Stored.{blank}
use Rattle.transport.specs.Tables.{at_pair}
use Rattle.transport.specs.declared.Members.{Members}
use Rattle.transport.specs.declared.PairTable.{PairTable}

-- the cell of a place in the log of sender i
abbrev pub cell : ℕ → ℕ → ℕ → ℕ
cell limit i place = i * limit + place

-- the place in a log of a receiver that is so many frames behind its end
abbrev pub cursor : ℕ → ℕ → ℕ → ℕ
cursor limit end behind = around limit end (limit - behind)

-- no log is read by its own sender
abbrev pub others : ℕ → ℕ → Bool
others i j = not (j == i)

-- whether frames may wait for a pair: not from a printer to itself, and not where the receiver is closed
abbrev pub carries : Members → ℕ → ℕ → Bool
carries m i j = others i j && reaches m i j

module _ {B R : Type 0} (frame : FrameRow R → Frame B) where
  -- the last frames of a log, as many as a receiver is behind its end
  abbrev pub last_frames : ℕ → List (FrameRow R) → ℕ → ℕ → ℕ → List (Frame B)
  last_frames limit cells i end behind =
      along (λ p. frame (slice_index_or cells (cell limit i p) blank)) limit (cursor limit end behind) behind

  abbrev pub log_net : Members → ℕ → List ℕ → PairTable ℕ → List (FrameRow R) → Net B
  log_net m limit ends behinds cells =
      kept_net m limit others (λ i j. last_frames limit cells i (slice_index ends i) (at_pair 0 behinds i j))
