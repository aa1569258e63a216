-- What a sum of rows is, and what adding sums leaves as it was.
use Rattle.std.specs.Prelude.{◌≡◌, ℕ, Bool, true, List, ◌++◌, map, ◌==◌}
use Rattle.std.specs.List.{list_any}
use Rattle.layouts.specs.Plans.{Plan, row_at}
use Rattle.layouts.specs.Lists.{row_rises}
use Rattle.dual.specs.Choice.{odd}
use Rattle.dual.specs.Bound.{codeword}
use Rattle.sums.specs.Sums.{row_sum}
use Rattle.sums.specs.declared.layer.SumLayer.{SumLayer}
use Rattle.sums.specs.Layers.{added, layer_plan, Layered}

abbrev pub has : ℕ → List ℕ → Bool
has cell row = list_any (λ other. cell == other) row

-- a cell is in the sum where an odd number of the named rows has it
pub record OddSum (p : Plan) (names : List ℕ) : Type 0 where
  pub odd_cells : (cell : ℕ) → has cell (row_sum p.rows names) ≡ odd (map (λ name. has cell (row_at p.rows name)) names)
  pub rising : row_rises p.cells (row_sum p.rows names) ≡ true

abbrev pub SumHasOddCells : Type 0
SumHasOddCells = (p : Plan) (names : List ℕ) → OddSum p names

-- the rows below, then all added ones, and the same codewords
pub record SameCodewords {P : Type 0} (plan : P → Plan) (below : P) (layer : SumLayer P) : Type 0 where
  pub cells : (layer_plan plan layer).cells ≡ (plan below).cells
  pub rows : (layer_plan plan layer).rows ≡ (plan below).rows ++ added layer
  pub words : (x : List Bool) → codeword (layer_plan plan layer).rows x ≡ codeword (plan below).rows x

abbrev pub LayersKeepCodewords : {P : Type 0} → (P → Plan) → Type 0
LayersKeepCodewords {P} plan = (below : P) (layer : SumLayer P) → Layered plan below layer → SameCodewords plan below layer
