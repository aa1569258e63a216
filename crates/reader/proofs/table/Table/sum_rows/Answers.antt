use Rattle.std.proofs.Common.{◌^◌, ◌<◌, ◌≤◌, length, sym, ap, subst, arith}
use Rattle.std.proofs.lemmas.List.{length-take, length-drop}
use Rattle.reader.specs.declared.table.Row.{Row}
use Rattle.reader.specs.Sizes.{total_size}
use Rattle.reader.proofs.Spans.{marks_long, row_least, row_summed, part_small}
use Rattle.reader.proofs.table.Table.sum_rows.Goals as goal

pub of-requires-clause-within : goal.of-requires-clause-within
of-requires-clause-within g c =
    let rows = (g.L.Layout.plan c.args.self.now.layout.now).rows in
    let h : c.loop-i.i < length rows = omega (arith, c.rows-row-items.ensures.all) in
    let d : Row = record { start = 0; end = 0 } in
    let s = c.rows-row-items.ensures.each c.loop-i.i d h in
    omega (arith, s.within, marks_long g.W.Weight.kind rows c.args.multipliers.now c.args.marks.now c.requires.multipliers c.requires.marks)

pub sum_marked-requires : goal.sum_marked-requires
sum_marked-requires g c =
    let k = g.W.Weight.kind in
    let rows = (g.L.Layout.plan c.args.self.now.layout.now).rows in
    let m = marks_long k rows c.args.multipliers.now c.args.marks.now c.requires.multipliers c.requires.marks in
    let a = simp (length-take, length-drop) at (ap length c.of.ensures) in
    let b = simp (length-take, length-drop) at (ap length c.of-in-loop-i.ensures) in
    record {
      same = omega (arith, c.requires.multipliers);
      small = subst (λ ws. total_size k ws ≤ 2 ^ 30) (sym c.of-in-loop-i.ensures) (part_small k c.args.multipliers.now _ _ (2 ^ 30) c.requires.small);
    }

pub loop-i-preserved : goal.loop-i-preserved
loop-i-preserved g c =
    let k = g.W.Weight.kind in
    let rows = (g.L.Layout.plan c.args.self.now.layout.now).rows in
    let h : c.loop-i.i < length rows = omega (arith, c.rows-row-items.ensures.all) in
    let s = c.rows-row-items.ensures.each c.loop-i.i _ h in
    row_summed k rows c.args.multipliers.now c.loop-i.sums c.sum_marked.result c.loop-i.i _ _ h (omega (arith, c.requires.sums, c.loop-i.auto.sums)) s
    (row_least k rows c.args.multipliers.now c.args.marks.now c.of.result.now c.of-in-loop-i.result.now c.loop-i.i _ _ c.sum_marked.result h s c.requires.multipliers c.requires.marks
    c.of.ensures c.of-in-loop-i.ensures c.sum_marked.ensures.value)
    c.loop-i.invariant
