-- A grid of cells: with `columns` columns, cell line × columns + column.
use Rattle.std.specs.Prelude.{ℕ, ◌+◌, ◌*◌, Bool, cond, ◌&&◌, List, ◌++◌, map, nat_le}
use Rattle.std.specs.List.{range_with_len}

-- the cells of a grid line, and of a grid column
abbrev pub line_cells : ℕ → ℕ → List ℕ
line_cells columns line = map (λ column. line * columns + column) (range_with_len 0 columns)

abbrev pub column_cells : ℕ → ℕ → ℕ → List ℕ
column_cells lines columns column = map (λ line. line * columns + column) (range_with_len 0 lines)

-- a row for each line, then one for each column
abbrev pub grid_rows : ℕ → ℕ → List (List ℕ)
grid_rows lines columns =
    map (line_cells columns) (range_with_len 0 lines) ++ map (column_cells lines columns) (range_with_len 0 columns)

abbrev pub side_fits : ℕ → Bool
side_fits side = nat_le 2 side && nat_le side 11

-- 4 for a side outside 2 to 11
abbrev pub grid_refusal : ℕ → ℕ → ℕ
grid_refusal lines columns = cond (side_fits lines && side_fits columns) 0 4
