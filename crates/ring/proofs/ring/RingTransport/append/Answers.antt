use Rattle.std.proofs.Common.{◌≡◌, ◌<◌, vec_items, sym, ap, ◌∙◌, subst, arith}
use Rattle.transport.specs.Nets.{accepts, after_post, hears}
use Rattle.transport.specs.Stored.{stored}
use Rattle.transport.proofs.NetLaws.{accepts_below}
use Rattle.transport.proofs.StoredLaws.{stored_from}
use Rattle.ring.specs.Meaning.{ring_meaning}
use Rattle.ring.specs.Rings.{pushed}
use Rattle.ring.proofs.Steps.{ring_waits}
use Rattle.ring.proofs.Posts.{part_posted, part_none, part_all, part_skip, part_step, part_room, hears_reaches}
use Rattle.ring.proofs.ring.RingTransport.append.Goals as goal
use Rattle.ring.proofs.ring.RingTransport.append.Goals.{then-hears, else-hears}

pub loop-receiver-init : goal.loop-receiver-init
loop-receiver-init g c =
    sym (part_none (ring_meaning g.B.Body.remade c.args.self.now) (stored g.B.Body.remade c.to_row-row.result))

pub push-requires : goal.push-requires
push-requires g c =
    let rem = g.B.Body.remade in
    let u = c.loop-receiver.self in
    let m = ring_meaning rem c.args.self.now in
    let f = c.args.frame in
    let s = f.sender.value in
    let j = c.loop-receiver.receiver in
    let o = stored_from rem c.to_row-row.result f c.to_row-row.ensures.again in
    let i : ring_meaning rem u ≡ part_posted m f j = c.loop-receiver.invariant ∙ ap (λ x. part_posted m x j) o in
    let b = accepts_below m s c.requires in
    let z = ap (λ x. x.size) i in
    let p : s < u.members.size = omega arith in
    let h = sym c.if-hears.ensures in
    let q = hears_reaches u.members s j p h in
    let k : j < m.size = omega arith in
    let r = part_room m f j (ring_meaning rem u) i k h c.requires in
    let l = ring_waits rem u.members u.limit u.circles (vec_items u.cells) s j q in
    record { reached = q; has_room = subst (λ x. x < u.limit) l r }

pub loop-receiver-preserved : goal.loop-receiver-preserved
loop-receiver-preserved g c =
    let rem = g.B.Body.remade in
    let m = ring_meaning rem c.args.self.now in
    let f = stored rem c.to_row-row.result in
    let s = c.args.frame.sender.value in
    let j = c.loop-receiver.receiver in
    let o : s ≡ f.sender.value = ap (λ x. x.sender.value) (sym (stored_from rem c.to_row-row.result c.args.frame c.to_row-row.ensures.again)) in
    let e = ap (λ x. hears x s j) c.loop-receiver.invariant in
    elim c.if-hears.branch [
      | then-hears w ↦
          ap (ring_meaning rem) w.self-is ∙
          (w.push.ensures ∙
          (ap (λ x. pushed x s j f) c.loop-receiver.invariant ∙
          (ap (λ x. pushed (part_posted m f j) x j f) o ∙
          part_step m f j (ap (accepts m) (sym o) ∙ c.requires) (ap (λ x. hears m x j) (sym o) ∙ (sym e ∙ (sym c.hears.ensures ∙ w.if-hears.true))))))
      | else-hears w ↦
          ap (ring_meaning rem) w.self-is ∙
          (c.loop-receiver.invariant ∙
          part_skip m f j (ap (λ x. hears m x j) (sym o) ∙ (sym e ∙ (sym c.hears.ensures ∙ w.if-hears.false))))
    ]

pub returns : goal.returns
returns g c =
    let m = ring_meaning g.B.Body.remade c.args.self.now in
    let f = stored g.B.Body.remade c.to_row-row.result in
    let e : c.loop-receiver.receiver ≡ c.args.self.now.members.size = omega arith in
    c.loop-receiver.invariant ∙
    (ap (part_posted m f) e ∙ (part_all m f ∙ ap (after_post m) (stored_from g.B.Body.remade c.to_row-row.result c.args.frame c.to_row-row.ensures.again)))
