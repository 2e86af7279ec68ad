use Rattle.std.proofs.Common.{◌≡◌, length}
use Rattle.wire.specs.Layout.{frame_words}
use Rattle.wire.proofs.Written.{front}
use Rattle.wire.proofs.write.put_words.Given as goal

-- the first i words stand at the front
abbrev pub invariant-loop-i : goal.invariant-loop-i
invariant-loop-i g l =
    (length l.out ≡ length l.initial.out) ×
    (l.out ≡ front (frame_words g.B.Body.words l.frame) l.initial.out l.i)
