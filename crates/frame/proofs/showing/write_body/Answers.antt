use Rattle.std.proofs.Common.{◌≡◌, ◌-◌, ◌<◌, ◌≤◌, [], ◌++◌, length, take, drop, codes, ap, ap₂, ◌∙◌, arith, rules}
use Rattle.std.specs.List.{flat_map}
use Rattle.std.proofs.lemmas.Grind.{put_two}
use Rattle.frame.specs.Texts.{led}
use Rattle.frame.proofs.Commas.{comma, commas_more, commas_all}
use Rattle.frame.proofs.showing.write_body.Goals as goal

pub loop-i-preserved : goal.loop-i-preserved
loop-i-preserved g c = λ plain.
    let ws = g.B.Body.words c.args.body in
    let n : length ws ≡ g.B.Body.count = g.met.B.Body.counted c.args.body in
    let l : c.loop-i.i < length ws = omega (arith, n, c.word_count-i-end.ensures) in
    let before = c.loop-i.invariant plain in
    let one = c.write-in-loop-i.ensures.writes before.plain (search rules) in
    put_two _ _ _ _ _ _ _ before one
    (ap (λ w. flat_map (led comma) (take (c.loop-i.i - 1) (drop 1 ws)) ++ led comma w) c.word-in-loop-i.ensures ∙
    commas_more [] ws c.loop-i.i c.loop-i.auto.i l)

pub returns : goal.returns
returns g c = λ plain fine.
    let ws = g.B.Body.words c.args.body in
    let n : length ws ≡ g.B.Body.count = g.met.B.Body.counted c.args.body in
    let l : length ws ≤ c.loop-i.i = omega (arith, n, c.word_count-i-end.ensures) in
    let first = c.write.ensures.writes plain (search rules) in
    put_two _ _ _ _ _ _ _ first (c.loop-i.invariant first.plain)
    (ap₂ (λ w x. led (codes " body=") w ++ flat_map (led comma) x) c.word.ensures (commas_all ws c.loop-i.i l))
