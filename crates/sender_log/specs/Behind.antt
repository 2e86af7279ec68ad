-- Receivers further behind the end of a log.
use Rattle.std.specs.Prelude.{◌≡◌, ℕ, ◌+◌, ◌<◌, cond, ◌&&◌, ◌==◌, nat_lt}
use Rattle.transport.specs.Members.{hears_in}
use Rattle.transport.specs.Tables.{at_pair}
use Rattle.transport.specs.declared.Members.{Members}
use Rattle.transport.specs.declared.PairTable.{PairTable}

-- now is before, but that each receiver below k that hears s is one frame further behind
abbrev pub FurtherBehind : Members → PairTable ℕ → PairTable ℕ → ℕ → ℕ → Type 0
FurtherBehind m before now s k = (i j : ℕ) → j < 8 →
    at_pair 0 now i j ≡ cond (i == s && (nat_lt j k && hears_in m i j)) (at_pair 0 before i j + 1) (at_pair 0 before i j)
