-- The sums that were added to a layout, of which the newest is lent.
use Rattle.std.specs.Prelude.{ℕ, List, [], ◌∷◌, ◌++◌, map}
use Rattle.std.specs.Borrow.{Lends, Fml, MutBor}
use Rattle.sums.specs.declared.row.SumRow.{SumRow}
use Rattle.sums.specs.declared.table.SumTable.{SumTable}
use Rattle.sums.specs.contracts.row.SumRow.{the_row as sum_row}
use Rattle.sums.specs.contracts.table.SumTable.{the_row}

-- the cells of each row
abbrev pub cells_of : List SumRow → List (List ℕ)
cells_of rows = map (λ row. row.cells.items) rows

-- the table with one more row
abbrev pub with_sum : SumTable → SumRow → SumTable
with_sum table sum = record { rows = record { items = table.rows.items ++ sum ∷ [] } }

-- once the borrow ends, the table has one more row, as it was left
abbrev pub LendsNewSum : MutBor SumTable → MutBor SumRow → Fml
LendsNewSum table sum = Lends the_row sum_row table sum (with_sum table.now)
