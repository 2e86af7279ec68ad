-- Which printers are open, who hears whom, and the net of what is kept for each pair of them.
use Rattle.std.specs.Prelude.{ℕ, Bool, false, cond, not, ◌&&◌, List, [], ◌==◌, nat_lt, slice_index_or}
use Rattle.frame.specs.declared.Frame.{Frame}
use Rattle.transport.specs.Nets.{Net}
use Rattle.transport.specs.declared.members.Members.{Members}

-- whether j is open: none is that there is not
abbrev pub opened : Members → ℕ → Bool
opened m j = nat_lt j m.size && slice_index_or m.open j false

-- what `is_open` and `hears` of a net say, where its printers are these
abbrev pub is_open_in : Members → ℕ → Bool
is_open_in m j = nat_lt j m.size && opened m j

abbrev pub hears_in : Members → ℕ → ℕ → Bool
hears_in m s j = is_open_in m j && not (j == s)

-- whether frames may wait for a pair: both printers are there, and the receiver is open
abbrev pub reaches : Members → ℕ → ℕ → Bool
reaches m i j = nat_lt i m.size && opened m j

-- what is kept for each pair counts where frames may wait for it, and where `also` says so
abbrev pub kept_net : {B : Type 0} → Members → ℕ → (ℕ → ℕ → Bool) → (ℕ → ℕ → List (Frame B)) → Net B
kept_net m limit also kept = record {
  size = m.size;
  limit = limit;
  opened = opened m;
  waiting = λ i j. cond (also i j && reaches m i j) (kept i j) [];
}
