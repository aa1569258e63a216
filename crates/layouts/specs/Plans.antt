-- What a layout means: its count of cells and the list of its parity rows, each row a list of cells.
use Rattle.std.specs.Prelude.{◌≡◌, ℕ, ◌+◌, ◌<◌, ◌≤◌, cond, List, [], ◌∷◌, ◌++◌, length, Some, None, Option, nat_lt, slice_index, slice_index_or}
use Rattle.std.proofs.Common.{arith}
use Rattle.std.proofs.lemmas.List.{length-append}

-- An edge is one cell of one row. The cells of all edges, row by row.
abbrev pub edge_cells : List (List ℕ) → List ℕ
edge_cells [] = []
edge_cells (row ∷ rows) = row ++ edge_cells rows

abbrev pub edges : List (List ℕ) → ℕ
edges rows = length (edge_cells rows)

pub edges_append : (xs ys : List (List ℕ)) → edges (xs ++ ys) ≡ edges xs + edges ys
edges_append [] ys = omega arith
edges_append (x ∷ xs) ys =
    let e = edges_append xs ys in
    omega (arith, length-append x (edge_cells (xs ++ ys)), length-append x (edge_cells xs))

abbrev pub row_at : List (List ℕ) → ℕ → List ℕ
row_at rows r = slice_index_or rows r []

pub record Plan : Type 0 where
  pub cells : ℕ
  pub rows : List (List ℕ)
  pub some_cell : 1 ≤ cells
  pub few_cells : cells ≤ 128
  pub few_rows : length rows ≤ 96
  pub few_edges : edges rows ≤ 1024
  pub filled : (r : ℕ) → r < length rows → 1 ≤ length (row_at rows r)
  pub below : (r k : ℕ) → r < length rows → k < length (row_at rows r) → slice_index (row_at rows r) k < cells
  pub rising : (r k : ℕ) → r < length rows → k + 1 < length (row_at rows r) → slice_index (row_at rows r) k < slice_index (row_at rows r) (k + 1)

-- the length of row r, absent where there is no such row
abbrev pub row_length : Plan → ℕ → Option ℕ
row_length p r = cond (nat_lt r (length p.rows)) (Some (length (row_at p.rows r))) None

-- the cell at place k of row r, absent where there is no such row or place
abbrev pub cell_at : Plan → ℕ → ℕ → Option ℕ
cell_at p r k = cond (nat_lt r (length p.rows)) (cond (nat_lt k (length (row_at p.rows r))) (Some (slice_index (row_at p.rows r) k)) None) None
