use Rattle.std.proofs.Common.{◌≡◌, ◌++◌, take}
use Rattle.layouts.specs.Plans.{row_at}
use Rattle.reader.proofs.table.copy_row.Given as goal

abbrev pub invariant-loop-place : goal.invariant-loop-place
invariant-loop-place g l = l.cells.items ≡ l.initial.cells.items ++ take l.place (row_at (g.L.Layout.plan l.layout).rows l.row.0)
