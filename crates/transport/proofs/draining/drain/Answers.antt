use Rattle.std.proofs.Common.{◌≡◌, true, false, drop, is_some, sym, ap, ◌∙◌, arith}
use Rattle.transport.specs.Nets.{first, queue, after_take}
use Rattle.transport.proofs.Takes.{takes_more, takes_over, takes_oldest, some_left, none_left}
use Rattle.transport.proofs.draining.drain.Goals as goal

pub loop-count-preserved : goal.loop-count-preserved
loop-count-preserved g c =
    let t = g.T.Transport.meaning c.args.t.now in
    let s = c.args.sender in
    let d = c.args.receiver in
    let k = c.loop-count.count in
    let inv = c.loop-count.invariant.0 in
    let f : is_some (first (drop k (queue t s d))) ≡ true =
    sym (c.if-not-take_one.ensures.answer ∙ ap is_some (takes_oldest t s d k _ inv)) in
    let l = some_left k (queue t s d) f in
    (c.if-not-take_one.ensures.after ∙ (ap (λ m. after_take m s d) inv ∙ takes_more t s d k), (omega arith))

pub returns-then-not-take_one : goal.returns-then-not-take_one
returns-then-not-take_one g c =
    let t = g.T.Transport.meaning c.args.t.now in
    let s = c.args.sender in
    let d = c.args.receiver in
    let k = c.loop-count.count in
    let inv = c.loop-count.invariant.0 in
    let f : is_some (first (drop k (queue t s d))) ≡ false =
    sym (c.if-not-take_one.ensures.answer ∙ ap is_some (takes_oldest t s d k _ inv)) in
    let l = none_left k (queue t s d) f in
    record {
      answer = omega arith;
      after =
          c.if-not-take_one.ensures.after ∙
          (ap (λ m. after_take m s d) inv ∙ (takes_more t s d k ∙ takes_over t s d k l));
    }
