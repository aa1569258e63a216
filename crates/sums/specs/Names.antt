-- Rows by their numbers.
use Rattle.std.specs.Prelude.{ℕ, List, map}
use Rattle.layouts.specs.declared.RowNo.{RowNo}

abbrev pub numbers : List RowNo → List ℕ
numbers rows = map (λ row. row.0) rows
