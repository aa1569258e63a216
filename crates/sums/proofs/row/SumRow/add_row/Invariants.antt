use Rattle.std.proofs.Common.{◌≡◌, take}
use Rattle.layouts.specs.Plans.{row_at}
use Rattle.sums.specs.Sums.{with_row}
use Rattle.sums.proofs.row.SumRow.add_row.Given as goal

abbrev pub invariant-loop-place : goal.invariant-loop-place
invariant-loop-place g l = l.self.cells.items ≡ with_row l.initial.self.cells.items (take l.place (row_at (g.L.Layout.plan l.layout).rows l.row.0))
