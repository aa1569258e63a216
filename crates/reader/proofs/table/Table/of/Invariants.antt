use Rattle.reader.specs.Tables.{Copied}
use Rattle.reader.proofs.table.Table.of.Given as goal

-- the rows so far are copied
abbrev pub invariant-loop-row : goal.invariant-loop-row
invariant-loop-row g l = Copied (g.L.Layout.plan l.layout).rows l.row l.cells.items l.rows.items
