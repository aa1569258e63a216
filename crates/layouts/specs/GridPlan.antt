-- The plan of a grid whose sides are not declined.
use Rattle.std.specs.Prelude.{◌≡◌, ℕ, zero, suc, ◌+◌, ◌-◌, ◌*◌, ◌<◌, ◌≤◌, Bool, true, false, cond, ◌&&◌, List, [], map, length, nat_le, slice_index, refl}
use Rattle.std.proofs.Common.{sym, ap, ◌∙◌, inl, inr, zero-mul, suc-mul, add-mul, mul_comm, arith}
use Rattle.std.specs.List.{range_with_len}
use Rattle.std.proofs.lemmas.Nat.{mul-le, mul-add-lt}
use Rattle.std.proofs.lemmas.List.FromFn.{length-map-range_with_len, get_or-map-range_with_len}
use Rattle.std.proofs.lemmas.List.{length-append, get_or_append_left, get_or-append_right}
use Rattle.std.proofs.lemmas.Bool.{and_parts, leb-true, cases_lt}
use Rattle.layouts.specs.Plans.{Plan, edge_cells, edges, edges_append, row_at}
use Rattle.layouts.specs.Grids.{line_cells, column_cells, grid_rows, side_fits, grid_refusal}

edges_equal : (f : ℕ → List ℕ) (size : ℕ) → ((k : ℕ) → length (f k) ≡ size) → (from n : ℕ) → edges (map f (range_with_len from n)) ≡ n * size
edges_equal f size h from zero = sym (zero-mul size)
edges_equal f size h from (suc n) =
    let e = edges_equal f size h (from + 1) n in
    omega (arith, length-append (f from) (edge_cells (map f (range_with_len (from + 1) n))), h from, suc-mul n size)

module _ (lines columns : ℕ) where
  pub length_grid : length (grid_rows lines columns) ≡ lines + columns
  length_grid =
      let a = length-map-range_with_len (line_cells columns) 0 lines in
      let b = length-map-range_with_len (column_cells lines columns) 0 columns in
      omega (arith, length-append (map (line_cells columns) (range_with_len 0 lines)) (map (column_cells lines columns) (range_with_len 0 columns)))

  pub edges_grid : edges (grid_rows lines columns) ≡ lines * columns + columns * lines
  edges_grid =
      let a = edges_equal (line_cells columns) columns (λ k. length-map-range_with_len (λ c. k * columns + c) 0 columns) 0 lines in
      let b = edges_equal (column_cells lines columns) lines (λ k. length-map-range_with_len (λ l. l * columns + k) 0 lines) 0 columns in
      omega (arith, edges_append (map (line_cells columns) (range_with_len 0 lines)) (map (column_cells lines columns) (range_with_len 0 columns)))

  pub row_line : (r : ℕ) → r < lines → row_at (grid_rows lines columns) r ≡ line_cells columns r
  row_line r h =
      let n = length-map-range_with_len (line_cells columns) 0 lines in
      get_or_append_left (map (line_cells columns) (range_with_len 0 lines)) (map (column_cells lines columns) (range_with_len 0 columns)) [] r (omega arith)
      ∙ get_or-map-range_with_len (line_cells columns) 0 lines r r [] h (omega arith)

  pub row_column : (r : ℕ) → lines ≤ r → r < lines + columns → row_at (grid_rows lines columns) r ≡ column_cells lines columns (r - lines)
  row_column r l h =
      get_or-append_right (map (line_cells columns) (range_with_len 0 lines)) (map (column_cells lines columns) (range_with_len 0 columns)) lines r [] (length-map-range_with_len (line_cells columns) 0 lines) l
      ∙ get_or-map-range_with_len (column_cells lines columns) 0 columns (r - lines) (r - lines) [] (omega arith) (omega arith)

  pub length_line : (r : ℕ) → r < lines → length (row_at (grid_rows lines columns) r) ≡ columns
  length_line r h = ap length (row_line r h) ∙ length-map-range_with_len (λ c. r * columns + c) 0 columns

  pub length_column : (r : ℕ) → lines ≤ r → r < lines + columns → length (row_at (grid_rows lines columns) r) ≡ lines
  length_column r l h = ap length (row_column r l h) ∙ length-map-range_with_len (λ k. k * columns + (r - lines)) 0 lines

  pub cell_line : (r k : ℕ) → r < lines → k < columns → slice_index (row_at (grid_rows lines columns) r) k ≡ r * columns + k
  cell_line r k h i =
      ap (λ row. slice_index row k) (row_line r h) ∙ get_or-map-range_with_len (λ c. r * columns + c) 0 columns k k 0 i (omega arith)

  pub cell_column : (r k : ℕ) → lines ≤ r → r < lines + columns → k < lines
      → slice_index (row_at (grid_rows lines columns) r) k ≡ k * columns + (r - lines)
  cell_column r k l h i =
      ap (λ row. slice_index row k) (row_column r l h) ∙ get_or-map-range_with_len (λ j. j * columns + (r - lines)) 0 lines k k 0 i (omega arith)

pub sides : (lines columns : ℕ) → grid_refusal lines columns ≡ 0 → (2 ≤ lines) × (lines ≤ 11) × (2 ≤ columns) × (columns ≤ 11)
sides lines columns ok =
    let both = and_parts (side_fits lines) (side_fits columns) (accepted (side_fits lines && side_fits columns) ok) in
    let a = and_parts (nat_le 2 lines) (nat_le lines 11) both.0 in let b = and_parts (nat_le 2 columns) (nat_le columns 11) both.1 in
    (leb-true 2 lines a.0, leb-true lines 11 a.1, leb-true 2 columns b.0, leb-true columns 11 b.1)
  where
    accepted : (fit : Bool) → ◌≡◌ {A = ℕ} (cond fit 0 4) 0 → fit ≡ true
    accepted true e = refl
    accepted false e = absurd (omega arith)

module _ (lines columns : ℕ) (ok : grid_refusal lines columns ≡ 0) where
  pub filled_grid : (r : ℕ) → r < length (grid_rows lines columns) → 1 ≤ length (row_at (grid_rows lines columns) r)
  filled_grid r h =
      let s = sides lines columns ok in let n = length_grid lines columns in
      elim (cases_lt r lines) [
        | inl a ↦ omega (arith, length_line lines columns r a)
        | inr b ↦ omega (arith, length_column lines columns r b (omega arith))
      ]

  pub below_grid : (r k : ℕ) → r < length (grid_rows lines columns) → k < length (row_at (grid_rows lines columns) r)
      → slice_index (row_at (grid_rows lines columns) r) k < lines * columns
  below_grid r k h l =
      let n = length_grid lines columns in
      elim (cases_lt r lines) [
        | inl a ↦
            let i : k < columns = omega (arith, length_line lines columns r a) in
            omega (arith, cell_line lines columns r k a i, mul-add-lt r columns k lines a i)
        | inr b ↦
            let i : k < lines = omega (arith, length_column lines columns r b (omega arith)) in
            omega (arith, cell_column lines columns r k b (omega arith) i, mul-add-lt k columns (r - lines) lines i (omega arith))
      ]

  pub rising_grid : (r k : ℕ) → r < length (grid_rows lines columns) → k + 1 < length (row_at (grid_rows lines columns) r)
      → slice_index (row_at (grid_rows lines columns) r) k < slice_index (row_at (grid_rows lines columns) r) (k + 1)
  rising_grid r k h l =
      let s = sides lines columns ok in let n = length_grid lines columns in
      elim (cases_lt r lines) [
        | inl a ↦
            let i : k + 1 < columns = omega (arith, length_line lines columns r a) in
            omega (arith, cell_line lines columns r k a (omega arith), cell_line lines columns r (k + 1) a i)
        | inr b ↦
            let i : k + 1 < lines = omega (arith, length_column lines columns r b (omega arith)) in
            omega (arith, cell_column lines columns r k b (omega arith) (omega arith), cell_column lines columns r (k + 1) b (omega arith) i, add-mul k 1 columns)
      ]

  abbrev pub grid_plan : Plan
  grid_plan =
      let s = sides lines columns ok in
      record {
        cells = lines * columns;
        rows = grid_rows lines columns;
        some_cell = omega (arith, mul-le 1 1 lines columns (omega arith) (omega arith));
        few_cells = omega (arith, mul-le lines columns 11 11 (omega arith) (omega arith));
        few_rows = omega (arith, length_grid lines columns);
        few_edges = omega (arith, edges_grid lines columns, mul-le lines columns 11 11 (omega arith) (omega arith), mul_comm lines columns);
        filled = filled_grid;
        below = below_grid;
        rising = rising_grid;
      }
