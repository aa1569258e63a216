-- The cell at a place of a grid's row.
use Rattle.std.proofs.Common.{◌≡◌, ℕ, ◌+◌, ◌-◌, ◌*◌, ◌<◌, ◌≤◌, Some, sym, arith}
use Rattle.layouts.specs.Plans.{row_length, cell_at}
use Rattle.layouts.specs.Grids.{grid_refusal}
use Rattle.layouts.specs.GridPlan.{length_grid, length_line, length_column, cell_line, cell_column, grid_plan}
use Rattle.layouts.proofs.Rows.{length_found, cell_found}

module _ (lines columns : ℕ) (ok : grid_refusal lines columns ≡ 0) (r k len : ℕ) (found : Some len ≡ row_length (grid_plan lines columns ok) r) (within : k < len) where
  pub line_place : r < lines → (r * columns + k < 128) × (Some (r * columns + k) ≡ cell_at (grid_plan lines columns ok) r k)
  line_place h =
      let p = grid_plan lines columns ok in let f = length_found p r len found in
      let i : k < columns = omega (arith, length_line lines columns r h) in
      let e = cell_line lines columns r k h i in
      let b = p.below r k f.0 (omega arith) in
      (omega (arith, p.few_cells), cell_found p r k (r * columns + k) f.0 (omega arith) (sym e))

  pub column_place : lines ≤ r → (k * columns + (r - lines) < 128) × (Some (k * columns + (r - lines)) ≡ cell_at (grid_plan lines columns ok) r k)
  column_place h =
      let p = grid_plan lines columns ok in let f = length_found p r len found in
      let n : r < lines + columns = omega (arith, length_grid lines columns) in
      let i : k < lines = omega (arith, length_column lines columns r h n) in
      let e = cell_column lines columns r k h n i in
      let b = p.below r k f.0 (omega arith) in
      (omega (arith, p.few_cells), cell_found p r k (k * columns + (r - lines)) f.0 (omega arith) (sym e))
