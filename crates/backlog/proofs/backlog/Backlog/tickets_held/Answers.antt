use Rattle.std.proofs.Common.{◌≡◌, ◌∙◌, ◌+◌, ℕ, get_or, refl, rules, arith}
use borrow.Author.Tests.{tests}
use Rattle.std.specs.List.{range_with_len}
use Rattle.std.proofs.lemmas.Iterator.{YieldsList-from_map, YieldsList-from_range}
use Rattle.std.proofs.lemmas.Iterator.Consumers.{sum_by_from_yields_List, fits_by_from_yields_list}
use Rattle.roles.proofs.Ranges.{sum_below, sum_at_most}
use Rattle.backlog.specs.Blanks.{no_row}
use Rattle.backlog.specs.Holdings.{holding_of}
use Rattle.backlog.specs.Tickets.{tickets_held}
use Rattle.backlog.specs.declared.backlog.Backlog.{Backlog}
use Rattle.backlog.proofs.TicketLaws.{tickets_held_more}
use Rattle.backlog.proofs.backlog.Backlog.tickets_held.Goals as goal

abbrev count : Backlog → ℕ → ℕ
count b i = ((holding_of b).tickets i).count

pub sum-requires-clause-fits : goal.sum-requires-clause-fits
sum-requires-clause-fits c =
    let b = c.args.self.now in
    let n = c.args.count.value in
    let fits = sum_at_most (count b) 16 (λ i. (get_or b.tickets i (no_row 16)).few) n in
    fits_by_from_yields_list (count b) (range_with_len 0 n) c.map.result _
    (YieldsList-from_map _ (count b) (YieldsList-from_range 0 n n c.map.ensures.source (omega arith)) c.map.ensures.closure (λ x r q k. search (rules, tests)))
    (omega arith)

pub returns : goal.returns
returns c =
    let b = c.args.self.now in
    let n = c.args.count.value in
    let more : (m : ℕ) → tickets_held (m + 1) (holding_of b) ≡ tickets_held m (holding_of b) + count b m = λ m. omega (arith, tickets_held_more m (holding_of b)) in
    let held : c.sum.result ≡ tickets_held n (holding_of b) =
    sum_by_from_yields_List (count b) (range_with_len 0 n) c.map.result _ c.sum.ensures.ran
    (YieldsList-from_map _ (count b) (YieldsList-from_range 0 n n c.map.ensures.source (omega arith)) c.map.ensures.closure (λ x r q k. search (rules, tests)))
    ∙ sum_below (count b) (λ m. tickets_held m (holding_of b)) refl more n in
    search (rules, held)
