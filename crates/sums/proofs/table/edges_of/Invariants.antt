use Rattle.std.proofs.Common.{◌≡◌, ◌≤◌, ◌*◌, take}
use Rattle.layouts.specs.Plans.{edges}
use Rattle.sums.specs.Tables.{cells_of}
use Rattle.sums.proofs.table.edges_of.Given as goal

abbrev pub invariant-loop-row : goal.invariant-loop-row
invariant-loop-row l = record { counted : l.edges ≡ edges (take l.row-index (cells_of l.rows)); few : l.edges ≤ 128 * l.row-index }
