-- A copy of a layout: the edges of each row.
use Rattle.std.specs.Prelude.{◌≡◌, ℕ, ◌+◌, ◌<◌, ◌≤◌, List, length, take, slice_index_or}
use Rattle.layouts.specs.Plans.{edges, edge_cells, row_at}
use Rattle.reader.specs.declared.table.Row.{Row}

-- the edges of row r are those from start to just below end
pub record Span (rows : List (List ℕ)) (r start end : ℕ) : Type 0 where
  pub begins : start ≡ edges (take r rows)
  pub ends : end ≡ start + length (row_at rows r)
  pub next : end ≡ edges (take (r + 1) rows)
  pub within : end ≤ edges rows

-- the list has the edges of each row
pub record Rows (rows : List (List ℕ)) (list : List Row) : Type 0 where
  pub all : length list ≡ length rows
  pub each : (r : ℕ) (d : Row) → r < length rows → Span rows r (slice_index_or list r d).start (slice_index_or list r d).end

-- the first n rows are copied: the cells of their edges, and the edges of each
pub record Copied (rows : List (List ℕ)) (n : ℕ) (copies : List ℕ) (list : List Row) : Type 0 where
  pub cells : copies ≡ edge_cells (take n rows)
  pub count : length list ≡ n
  pub each : (r : ℕ) (d : Row) → r < n → Span rows r (slice_index_or list r d).start (slice_index_or list r d).end
