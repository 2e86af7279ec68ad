use Rattle.std.proofs.Common.{◌-◌, take, drop, codes}
use Rattle.std.specs.List.{flat_map}
use Rattle.std.specs.Fmt.{HasWritten, IsPlainFormatter}
use Rattle.frame.specs.Texts.{led}
use Rattle.frame.proofs.showing.write_body.Given as goal

-- the words before i are written
abbrev pub invariant-loop-i : goal.invariant-loop-i
invariant-loop-i g l =
    IsPlainFormatter l.initial.f →
    HasWritten g.W.Write.write_str_gives l.initial.f (flat_map (led (codes ",")) (take (l.i - 1) (drop 1 (g.B.Body.words l.body)))) l.f
