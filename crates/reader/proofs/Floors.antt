-- The floor from its two sums.
use Rattle.std.proofs.Common.{◌≡◌, ℕ, ◌+◌, ◌^◌, ◌≤◌, List, length, ◌+ℤ◌, ◌∙◌}
use Rattle.std.proofs.lemmas.List.{length-map}
use Rattle.layouts.specs.Plans.{edges, edge_cells}
use Rattle.weights.specs.Kinds.{Kind, Exact, meanings}
use Rattle.dual.specs.Choice.{negatives, pick}
use Rattle.dual.specs.Bound.{slacks, choices, floor}
use Rattle.dual.proofs.Steps.{leasts_is_pick}
use Rattle.model.specs.Words.{bytes, bits}
use Rattle.reader.proofs.Turns.{bits_bytes}

module _ {W : Type 0} (k : Kind W) where
  pub floor_value : (rows : List (List ℕ)) (costs ms left : List W) (trial marks : List ℕ) (a b r : W) → length ms ≡ edges rows
      → meanings k left ≡ slacks (edge_cells rows) (meanings k ms) (meanings k costs) → trial ≡ bytes (negatives (meanings k left)) → marks ≡ bytes (choices rows (meanings k ms))
      → k.meaning a ≡ pick (bits trial) (meanings k left) → k.meaning b ≡ pick (bits marks) (meanings k ms)
      → Exact k a b r (k.meaning a +ℤ k.meaning b) → k.size a + k.size b ≤ 2 ^ 30
      → k.meaning r ≡ floor rows (meanings k costs) (meanings k ms)
  floor_value rows costs ms left trial marks a b r l s t m va vb x small =
      let v = x.value small in
      let bt = bits_bytes (negatives (meanings k left)) in
      let bm = bits_bytes (choices rows (meanings k ms)) in
      let least = leasts_is_pick rows (meanings k ms) (length-map ms k.meaning ∙ l) in
      cc
