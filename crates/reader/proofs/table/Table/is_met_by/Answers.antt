use Rattle.std.proofs.Common.{length, get_or, sym, ap, ◌∙◌, arith}
use Rattle.dual.specs.Choice.{odd}
use Rattle.dual.specs.Bound.{at}
use Rattle.model.specs.Words.{bits}
use Rattle.reader.proofs.Moved.{row_met, row_unmet, row_taken}
use Rattle.reader.proofs.table.Table.is_met_by.Goals as goal

pub odd_dark-requires : goal.odd_dark-requires
odd_dark-requires g c k l =
    let p = g.L.Layout.plan c.args.self.now.layout.now in
    let e = row_taken p.rows c.rows-row-items.result.now c.edge_cells.result.now c.of.result.now c.loop-row.row-index _ c.rows-row-items.ensures c.loop-row-test.true c.edge_cells.ensures c.of.ensures in
    let a = ap (λ xs. get_or xs k 0) e in
    let n = ap length e in
    let b = p.below c.loop-row.row-index k (omega (arith, c.rows-row-items.ensures.all)) (omega arith) in
    omega (arith, c.requires)

pub returns-then-odd_dark : goal.returns-then-odd_dark
returns-then-odd_dark g c =
    let rows = (g.L.Layout.plan c.args.self.now.layout.now).rows in
    let x = bits c.args.word.now in
    let e = row_taken rows c.rows-row-items.result.now c.edge_cells.result.now c.of.result.now c.loop-row.row-index _ c.rows-row-items.ensures c.loop-row-test.true c.edge_cells.ensures c.of.ensures in
    sym (row_unmet rows x c.loop-row.row-index (omega (arith, c.rows-row-items.ensures.all)) (ap (λ cs. odd (at x cs)) (sym e) ∙ sym c.odd_dark.ensures ∙ c.if-odd_dark.true))

pub loop-row-preserved : goal.loop-row-preserved
loop-row-preserved g c =
    let rows = (g.L.Layout.plan c.args.self.now.layout.now).rows in
    let x = bits c.args.word.now in
    let e = row_taken rows c.rows-row-items.result.now c.edge_cells.result.now c.of.result.now c.loop-row.row-index _ c.rows-row-items.ensures c.loop-row-test.true c.edge_cells.ensures c.of.ensures in
    row_met rows x c.loop-row.row-index (omega (arith, c.rows-row-items.ensures.all)) c.loop-row.invariant
    (ap (λ cs. odd (at x cs)) (sym e) ∙ sym c.odd_dark.ensures ∙ c.if-odd_dark.false)
