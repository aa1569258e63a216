use Rattle.std.proofs.Common.{◌≡◌, take}
use Rattle.sums.specs.Names.{numbers}
use Rattle.sums.specs.Sums.{with_rows}
use Rattle.sums.proofs.row.SumRow.add_rows.Given as goal

abbrev pub invariant-loop-row : goal.invariant-loop-row
invariant-loop-row g l =
    l.self.cells.items ≡ with_rows (g.L.Layout.plan l.layout).rows l.initial.self.cells.items (take l.row-index (numbers l.rows))
