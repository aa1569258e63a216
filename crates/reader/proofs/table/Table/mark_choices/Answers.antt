use Rattle.std.proofs.Common.{◌<◌, length, ap, ◌∙◌, arith, rules}
use Rattle.weights.specs.Kinds.{meanings}
use Rattle.dual.specs.Choice.{chosen}
use Rattle.model.specs.Words.{bytes}
use Rattle.reader.proofs.Spans.{row_marked}
use Rattle.reader.proofs.Tables.{span_same, range_same}
use Rattle.reader.proofs.table.Table.mark_choices.Goals as goal

pub loop-row-preserved : goal.loop-row-preserved
loop-row-preserved g c =
    let rows = (g.L.Layout.plan c.args.self.now.layout.now).rows in
    let h : c.loop-row.row-index < length rows = omega (arith, c.rows-row-items.ensures.all) in
    let s = span_same rows c.loop-row.row-index _ _ c.from-start.result c.from-end.result c.from-start.ensures c.from-end.ensures (c.rows-row-items.ensures.each c.loop-row.row-index _ h) in
    row_marked g.W.Weight.kind rows c.args.multipliers.now c.loop-row.marks c.mark_choice.new.marks c.loop-row.row-index _ _ h s
    (c.loop-row.auto.marks ∙ c.requires.marks)
    (c.mark_choice.ensures ∙ ap (λ ws. bytes (chosen (meanings g.W.Weight.kind ws))) (c.of.ensures ∙ range_same c.args.multipliers.now _ _ c.from-start.result c.from-end.result c.from-start.ensures c.from-end.ensures))
    (search rules) c.loop-row.invariant
