use Rattle.std.proofs.Common.{length, ap, arith}
use Rattle.sums.proofs.Rising.{edges_one_more}
use Rattle.sums.proofs.table.edges_of.Goals as goal

pub loop-row-preserved : goal.loop-row-preserved
loop-row-preserved c =
    let more = edges_one_more c.args.rows.now c.loop-row.row-index c.row-item.result c.loop-row-test.true c.row-item.is in
    let cells = ap length c.cells.ensures.cells in
    record { counted = omega (arith, c.loop-row.invariant.counted); few = omega (arith, c.loop-row.invariant.few) }
