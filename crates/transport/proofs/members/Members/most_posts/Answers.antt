use Rattle.std.proofs.Common.{◌≡◌, ℕ, ◌-◌, cond, sym, ◌∙◌, arith}
use Rattle.std.proofs.lemmas.Bool.{cond-true, lt-ltb}
use Rattle.transport.specs.Members.{hears_in}
use Rattle.transport.specs.Nets.{least_below}
use Rattle.transport.proofs.NetLaws.{least_at}
use Rattle.transport.proofs.members.Members.most_posts.Goals as goal

pub returns-then-waiting-limit : goal.returns-then-waiting-limit
returns-then-waiting-limit g c =
    let m = c.args.self.now in
    let s = c.args.sender in
    let k = c.loop-receiver.receiver in
    let most = c.args.limit in
    let room = λ (j : ℕ). cond (hears_in m s j) (most - g.Q.Queues.queued c.args.queues.now s j) most in
    let full : room k ≡ 0 = cond-true _ _ _ (sym c.if-hears.ensures) ∙ (let e = c.waiting-waiting.ensures in let h = c.if-waiting-limit.true in omega arith) in
    let least : least_below m.size room most ≡ 0 = let l = least_at m.size room most k c.loop-receiver-test.true in omega arith in
    sym (cond-true _ _ _ (lt-ltb s m.size c.if-sender-self.false) ∙ least)
