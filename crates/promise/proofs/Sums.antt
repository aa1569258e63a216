-- A reading on a layer of sums is of the same codewords as one on the layout below.
use Rattle.std.proofs.Common.{◌≡◌, Bool, List, Option, sym, ap, ◌∙◌}
use Rattle.layouts.specs.Plans.{Plan}
use Rattle.weights.specs.Kinds.{Kind}
use Rattle.dual.specs.Bound.{codeword}
use Rattle.tickets.specs.Codecs.{Codec}
use Rattle.sums.specs.Layers.{layer_plan}
use Rattle.sums.proofs.Layered.{layered_cells, layered_codewords}
use Rattle.promise.specs.Theorem.{SumsNeverDisagree}
use Rattle.promise.proofs.Bounds.{floor_and_ceiling}
use Rattle.promise.proofs.Agreement.{same_ceiling}

module _ {L P W : Type 0} (lplan : L → Plan) (pplan : P → Plan) (kind : Kind W) (codec : Option (Codec W)) where
  pub sums_never_disagree : SumsNeverDisagree lplan pplan kind codec
  sums_never_disagree costs costs₂ layout below layer s s₂ v v₂ same made equal reached reached₂ says says₂ met met₂ =
      same_ceiling kind (lplan layout) (layer_plan pplan layer) costs costs₂ cells words equal
      s v (floor_and_ceiling lplan kind codec costs layout s v reached says) s₂ v₂ (floor_and_ceiling (layer_plan pplan) kind codec costs₂ layer s₂ v₂ reached₂ says₂) met met₂
    where
      cells : (lplan layout).cells ≡ (layer_plan pplan layer).cells
      cells = same.0 ∙ sym (layered_cells pplan below layer made)

      words : (x : List Bool) → codeword (lplan layout).rows x ≡ codeword (layer_plan pplan layer).rows x
      words x = ap (λ rows. codeword rows x) same.1 ∙ sym (layered_codewords pplan below layer made x)
