-- Weak duality at weights, and that floor, cost and test depend on the rows and on what the costs mean.
use Rattle.std.proofs.Common.{◌≡◌, ℕ, Bool, true, List, length, ◌≤ℤ◌, sym, ap, ◌∙◌}
use Rattle.std.proofs.lemmas.List.{length-map}
use Rattle.layouts.specs.Plans.{Plan}
use Rattle.weights.specs.Kinds.{Kind, meanings}
use Rattle.dual.specs.Bound.{floor, cost, codeword}
use Rattle.dual.proofs.Floor.{below_codewords}
use Rattle.model.specs.Words.{bits, marked}
use Rattle.model.specs.Model.{floor_of, cost_of, passes}
use Rattle.model.proofs.Boards.{Multipliers, Costs}

module _ {W : Type 0} (k : Kind W) (p : Plan) (costs : List W) where
  -- no codeword costs less than the floor of any multipliers
  pub floor_below : (ms : List W) (x : List Bool) → Costs k p costs → Multipliers k p ms → length x ≡ p.cells → codeword p.rows x ≡ true → floor_of k p costs ms ≤ℤ cost (meanings k costs) x
  unfolding floor_of
  floor_below ms x c f l e = below_codewords p.rows (meanings k costs) (meanings k ms) x (length-map ms k.meaning ∙ f.long) (l ∙ sym (length-map costs k.meaning ∙ c.long)) e

  pub floor_below_word : (ms : List W) (x : List ℕ) → Costs k p costs → Multipliers k p ms → length x ≡ p.cells → passes k p costs x ≡ true → floor_of k p costs ms ≤ℤ cost_of k p costs x
  unfolding passes cost_of
  floor_below_word ms x c f l e = floor_below ms (bits x) c f (length-map x marked ∙ l) e

-- two plans of the same rows, and costs that mean the same
module _ {W : Type 0} (k : Kind W) (p q : Plan) (costs costs₂ : List W) (rows : p.rows ≡ q.rows) (same : meanings k costs ≡ meanings k costs₂) where
  pub same_floor : (ms : List W) → floor_of k p costs ms ≡ floor_of k q costs₂ ms
  unfolding floor_of
  same_floor ms = ap (λ rs. floor rs (meanings k costs) (meanings k ms)) rows ∙ ap (λ cs. floor q.rows cs (meanings k ms)) same

  pub same_cost : (x : List ℕ) → cost_of k p costs x ≡ cost_of k q costs₂ x
  unfolding cost_of
  same_cost x = ap (λ cs. cost cs (bits x)) same

  pub same_test : (x : List ℕ) → passes k p costs x ≡ passes k q costs₂ x
  unfolding passes
  same_test x = ap (λ rs. codeword rs (bits x)) rows
