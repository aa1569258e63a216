-- A layout to which sums of its rows are added.
use Rattle.std.specs.Prelude.{◌≡◌, ℕ, List, [], ◌∷◌, ◌++◌, Result, OnOk, OnErr}
use Rattle.refusals.specs.Numbers.{number_of}
use Rattle.refusals.specs.declared.Refusal.{Refusal}
use Rattle.layouts.specs.Plans.{Plan}
use Rattle.sums.specs.Sums.{row_sum, add_refusal}
use Rattle.sums.specs.SumPlan.{sum_plan}
use Rattle.sums.specs.Tables.{cells_of}
use Rattle.sums.specs.declared.layer.SumLayer.{SumLayer}

-- the cells of each row that was added
abbrev pub added : {P : Type 0} → SumLayer P → List (List ℕ)
added layer = cells_of layer.sums.rows.items

-- the rows of the layout below, then the added ones in order, where they keep the limits of a layout
abbrev pub layer_plan : {P : Type 0} → (P → Plan) → SumLayer P → Plan
layer_plan plan layer = sum_plan (plan layer.below) (added layer)

-- a new layer over a layout
pub record IsNew {P : Type 0} (below : P) (layer : SumLayer P) : Type 0 where
  pub over : layer.below ≡ below
  pub no_sums : added layer ≡ []

-- an adding of the sum of the named rows, accepted or declined
pub record AddDoes {P : Type 0} (plan : P → Plan) (names : List ℕ) (old : SumLayer P) (result : Result (Unit {0}) Refusal) (new : SumLayer P) : Type 0 where
  pub number : number_of result ≡ add_refusal (plan old.below) (added old) names
  pub over : new.below ≡ old.below
  pub accepted : OnOk result (added new ≡ added old ++ row_sum (plan old.below).rows names ∷ [])
  pub declined : OnErr result (new ≡ old)

-- a new layer over the layout below, after any addings
pub data Layered {P : Type 0} (plan : P → Plan) (below : P) : SumLayer P → Type 0 where
  new_layer : {layer : SumLayer P} → IsNew below layer → Layered plan below layer
  one_more : {old new : SumLayer P} → Layered plan below old → (names : List ℕ) (result : Result (Unit {0}) Refusal)
      → AddDoes plan names old result new → Layered plan below new
