use Rattle.std.proofs.Common.{sym, ◌∙◌, arith}
use Rattle.reader.proofs.Fits.{costs_total}
use Rattle.reader.proofs.Rounds.{improved_by, improved_not}
use Rattle.reader.proofs.reading.Progress.improve.Goals as goal

pub sum_marked-requires-clause-small : goal.sum_marked-requires-clause-small
sum_marked-requires-clause-small g c =
    let t = costs_total g.W.Weight.kind (g.L.Layout.plan c.args.table.now.layout.now) c.args.costs.now c.requires.costs c.requires.small in
    omega arith

pub returns-then-is_met_by-clause-after : goal.returns-then-is_met_by-clause-after
returns-then-is_met_by-clause-after g c carried kept trial =
    c.lower.ensures.after carried kept trial
    ∙ improved_by g.W.Weight.kind (g.L.Layout.plan c.args.table.now.layout.now) c.args.costs.now c.args.given.now _ _ (sym c.is_met_by.ensures ∙ c.if-is_met_by.true) c.sum_marked.ensures.value

pub returns-else-is_met_by-clause-after : goal.returns-else-is_met_by-clause-after
returns-else-is_met_by-clause-after g c carried kept trial =
    improved_not g.W.Weight.kind (g.L.Layout.plan c.args.table.now.layout.now) c.args.costs.now c.args.given.now _ (sym c.is_met_by.ensures ∙ c.if-is_met_by.false)
