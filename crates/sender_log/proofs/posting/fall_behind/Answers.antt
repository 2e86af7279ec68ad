use Rattle.std.proofs.Common.{◌+◌, ◌<◌, sym, ap, ◌∙◌, subst, arith}
use Rattle.sender_log.specs.Behind.{FurtherBehind}
use Rattle.sender_log.proofs.Tables.{further_next, further_step, further_skip}
use Rattle.sender_log.proofs.posting.fall_behind.Goals as goal
use Rattle.sender_log.proofs.posting.fall_behind.Goals.{then-hears, else-hears}

pub overflow_add-behind : goal.overflow_add-behind
overflow_add-behind c =
    let m = c.args.members.now in
    let k = c.loop-receiver.receiver in
    let few = m.few in
    let n = further_next m c.args.behinds.now c.loop-receiver.behinds c.args.sender.value k c.loop-receiver.invariant (omega arith) in
    let r = c.requires k (omega arith) (sym c.if-hears.ensures) in
    let e = c.get-behind.ensures 0 in
    omega arith

pub loop-receiver-preserved : goal.loop-receiver-preserved
loop-receiver-preserved c =
    let m = c.args.members.now in
    let before = c.args.behinds.now in
    let now = c.loop-receiver.behinds in
    let s = c.args.sender.value in
    let k = c.loop-receiver.receiver in
    let few = m.few in
    let k8 : k < 8 = omega arith in
    elim c.if-hears.branch [
      | then-hears w ↦
          subst (λ x. FurtherBehind m before x s (k + 1)) (sym w.behinds-is)
          (further_step m before now s k w.set.new.self _ c.loop-receiver.invariant k8 (sym c.hears.ensures ∙ w.if-hears.true)
          (ap (λ x. x + 1) (w.get-behind.ensures 0)) (w.set.ensures 0))
      | else-hears w ↦
          subst (λ x. FurtherBehind m before x s (k + 1)) (sym w.behinds-is)
          (further_skip m before now s k c.loop-receiver.invariant (sym c.hears.ensures ∙ w.if-hears.false))
    ]
