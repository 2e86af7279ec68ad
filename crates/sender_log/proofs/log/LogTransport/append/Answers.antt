use Rattle.std.proofs.Common.{◌≡◌, ◌*◌, ◌<◌, ◌≤◌, length, set, vec_items, refl, ◌∙◌, arith, rules}
use Rattle.transport.specs.Stored.{stored}
use Rattle.transport.proofs.StoredLaws.{stored_from}
use Rattle.transport.proofs.TableLaws.{after_set}
use Rattle.sender_log.specs.Logs.{log_net}
use Rattle.sender_log.proofs.Posts.{log_within, log_posted}
use Rattle.sender_log.proofs.Tables.{further_all}
use Rattle.sender_log.proofs.log.LogTransport.append.Goals as goal

pub invariant_of-self : goal.invariant_of-self
invariant_of-self g c =
    let t = c.args.self.now in
    let s = c.args.frame.sender.value in
    record {
      limit_ok = t.limit_ok;
      cells_ok = t.cells_ok;
      ends_ok = after_set (λ x. x < t.limit) t.ends s _ (c.place_after.ensures.within (t.ends_ok s) (omega (arith, t.limit_ok))) t.ends_ok;
      behinds_ok = log_within (stored g.B.Body.remade) t.members t.limit t.ends t.behinds (vec_items t.cells) c.fall_behind.new.behinds s
          t.behinds_ok (further_all t.members t.behinds c.fall_behind.new.behinds s c.fall_behind.ensures) c.requires;
    }

pub returns : goal.returns
returns g c =
    let t = c.args.self.now in
    let s = c.args.frame.sender.value in
    let f = stored g.B.Body.remade in
    let le : length t.ends ≡ 8 = search rules in
    let lc : t.members.size * t.limit ≤ length (vec_items t.cells) = let m = t.cells_ok in let o = t.cells.ok.0 in omega arith in
    (λ i. log_net f t.members t.limit (set t.ends s (c.place_after.ensures.value i)) c.fall_behind.new.behinds
    (set (vec_items t.cells) (c.cell_index-at.ensures.value i) c.to_row.result)) ∙
    log_posted f t.members t.limit t.ends t.behinds (vec_items t.cells) c.fall_behind.new.behinds c.to_row.result c.args.frame s refl
    (stored_from g.B.Body.remade c.to_row.result c.args.frame c.to_row.ensures.again) le lc t.ends_ok t.behinds_ok
    (further_all t.members t.behinds c.fall_behind.new.behinds s c.fall_behind.ensures) c.requires
