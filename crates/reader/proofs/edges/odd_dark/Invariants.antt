use Rattle.std.proofs.Common.{◌≡◌, take}
use Rattle.dual.specs.Choice.{odd}
use Rattle.dual.specs.Bound.{at}
use Rattle.model.specs.Words.{bits}
use Rattle.reader.proofs.edges.odd_dark.Given as goal

abbrev pub invariant-loop-cell : goal.invariant-loop-cell
invariant-loop-cell l = l.uneven ≡ odd (at (bits l.word) (take l.cell-index l.cells))
