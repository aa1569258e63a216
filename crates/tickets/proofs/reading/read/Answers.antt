use Rattle.std.proofs.Common.{◌≡◌, length, sym, ap, ◌∙◌, arith}
use Rattle.layouts.specs.Plans.{edges}
use Rattle.std.proofs.lemmas.Result.{err_from_is_err_and}
use Rattle.tickets.specs.Packs.{unpacked}
use Rattle.tickets.specs.Reads.{multipliers_read}
use Rattle.tickets.specs.Tickets.{counts, ticket}
use Rattle.tickets.proofs.Whole.{all_read, only_written}
use Rattle.tickets.proofs.Parted.{parts_decline}
use Rattle.tickets.proofs.reading.read.Goals as goal

pub returns-in_err-word-clause-number : goal.returns-in_err-word-clause-number
returns-in_err-word-clause-number g c =
    let p = err_from_is_err_and c.from_residual.result c.from_residual.ensures.1 in
    let e = edges (g.L.Layout.plan c.args.layout.now).rows in
    let long : length c.args.work.now ≡ e = omega (arith, c.if-work-from.false, c.from.ensures, c.edges.ensures) in
    rw (p.1, p.2) (parts_decline (length c.args.work.now) e _ _ c.in_err-word.field-0.0 long c.in_err-word.ensures.number)

pub returns-clause-written : goal.returns-clause-written
returns-clause-written g c =
    let codec = g.W.TicketWeight.codec in
    let n = counts (g.L.Layout.plan c.args.layout.now) in
    let bs = c.args.bytes.now in
    let both = c.in_ok-word.ensures in
    let long : length c.args.work.now ≡ n.edges = omega (arith, c.if-work-from.false, c.from.ensures, c.edges.ensures) in
    let all = all_read g.W.Weight.kind codec n bs c.in_ok-word.records.now c.read_multipliers.new.work (length c.args.work.now) long both.number both.value.1 c.read_multipliers.ensures in
    (only_written g.W.Weight.kind codec n bs (length c.args.work.now) (λ i. (c.type_inv.bytes i).fits) all.0).0
    ∙ ap (λ p. ticket codec n (unpacked n.cells p) (multipliers_read g.W.Weight.kind codec n bs)) (sym both.value.0)
    ∙ ap (ticket codec n (unpacked n.cells c.in_ok-word.word.now)) (sym all.1)
