-- The row choice and the floor on written rows: one table.
use Rattle.std.specs.Prelude.{◌≡◌, Bool, true, false, List, [], ◌∷◌, ℤ, pos, negsuc}
use Rattle.dual.specs.Choice.{chosen, least}
use Rattle.dual.specs.Bound.{trial_word, floor}

-- the multipliers of a row, the choice, and its sum
abbrev pub Row : List ℤ → List Bool → ℤ → Type 0
Row ms s v = (chosen ms ≡ s) × (least ms ≡ v)

pub record Examples : Type 0 where
  pub zeros : Row (pos 0 ∷ pos 0 ∷ pos 0 ∷ []) (false ∷ false ∷ false ∷ []) (pos 0)
  pub free : Row (negsuc 1 ∷ pos 0 ∷ pos 0 ∷ []) (true ∷ true ∷ false ∷ []) (negsuc 1)
  pub tie : Row (negsuc 1 ∷ pos 2 ∷ pos 2 ∷ []) (false ∷ false ∷ false ∷ []) (pos 0)
  pub pair : Row (negsuc 0 ∷ negsuc 0 ∷ pos 3 ∷ []) (true ∷ true ∷ false ∷ []) (negsuc 1)
  pub single : Row (negsuc 0 ∷ []) (false ∷ []) (pos 0)
  pub lowest : Row (negsuc 2 ∷ negsuc 2 ∷ negsuc 2 ∷ pos 3 ∷ []) (false ∷ true ∷ true ∷ false ∷ []) (negsuc 5)
  -- one row of three cells, costs -5, 3, 4, multipliers 0
  pub begun : floor ((0 ∷ 1 ∷ 2 ∷ []) ∷ []) (negsuc 4 ∷ pos 3 ∷ pos 4 ∷ []) (pos 0 ∷ pos 0 ∷ pos 0 ∷ []) ≡ negsuc 4
  pub begun_trial : trial_word ((0 ∷ 1 ∷ 2 ∷ []) ∷ []) (negsuc 4 ∷ pos 3 ∷ pos 4 ∷ []) (pos 0 ∷ pos 0 ∷ pos 0 ∷ []) ≡ true ∷ false ∷ false ∷ []
