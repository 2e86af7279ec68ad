use Rattle.std.proofs.Common.{◌≡◌, [], take}
use Rattle.wire.specs.Layout.{kind_count, kind_allows}
use Rattle.wire.proofs.Filled.{read_on}
use Rattle.wire.proofs.read.fill_words.Given as goal

-- what the rest of the bytes gives behind the words so far is what all of them give
abbrev pub invariant-loop-n : goal.invariant-loop-n
invariant-loop-n g l =
    read_on (kind_allows g.B.Body.allows l.kind) (kind_count g.B.Body.count l.kind) [] l.bytes ≡
    read_on (kind_allows g.B.Body.allows l.kind) (kind_count g.B.Body.count l.kind) (take l.n l.words) l.bytes
