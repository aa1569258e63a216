use Rattle.std.proofs.Common.{refl, arith}
use Rattle.reader.proofs.Moved.{dark_step}
use Rattle.reader.proofs.edges.odd_dark.Goals as goal

pub loop-cell-preserved : goal.loop-cell-preserved
loop-cell-preserved c =
    dark_step c.args.word.now c.args.cells.now c.loop-cell.cell-index c.from.result c.loop-cell.uneven _ c.loop-cell-test.true c.from.ensures
    (omega (arith, c.from.ensures, c.requires c.loop-cell.cell-index c.loop-cell-test.true)) refl c.loop-cell.invariant
