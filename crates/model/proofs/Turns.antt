-- What a round leaves on the boards: a trial word of one bit a cell, and moved multipliers within size.
use Rattle.std.proofs.Common.{◌≡◌, ℕ, suc, ◌^◌, ◌≤◌, Bool, true, false, not, ltb, List, [], ◌∷◌, length, refl, ap, ◌∙◌}
use Rattle.std.proofs.lemmas.List.{length-map}
use Rattle.std.proofs.lemmas.Bool.{or_parts, or_from, le-ltb, cond_both}
use Rattle.layouts.specs.Plans.{Plan, edge_cells}
use Rattle.weights.specs.Kinds.{Kind, meanings}
use Rattle.weights.specs.Sizes.{beyond}
use Rattle.dual.specs.Choice.{xor}
use Rattle.dual.specs.Bound.{slacks, trial_word, at, choices}
use Rattle.dual.proofs.Steps.{length_slacks}
use Rattle.tickets.specs.Packs.{no_bits}
use Rattle.model.specs.Words.{bytes, bits}
use Rattle.model.specs.Moves.{moved_edges}
use Rattle.model.specs.Model.{trial_of, moves}
use Rattle.model.proofs.Boards.{Word, Multipliers, Costs}

bytes_bits : (x : List Bool) → no_bits (bytes x) ≡ false
bytes_bits [] = refl
bytes_bits (true ∷ x) = bytes_bits x
bytes_bits (false ∷ x) = bytes_bits x

module _ {W : Type 0} (k : Kind W) where
  moved_long : (step : ℕ) (xs zs : List Bool) (ms : List W) → length (moved_edges k step xs zs ms) ≡ length ms
  moved_long step [] zs ms = refl
  moved_long step (x ∷ xs) [] ms = refl
  moved_long step (x ∷ xs) (z ∷ zs) [] = refl
  moved_long step (x ∷ xs) (z ∷ zs) (m ∷ ms) = ap suc (moved_long step xs zs ms)

  moved_small : (step : ℕ) → 1 ≤ step → step ≤ 4096 → (xs zs : List Bool) (ms : List W) → beyond k (2 ^ 18) ms ≡ false → beyond k (2 ^ 18) (moved_edges k step xs zs ms) ≡ false
  moved_small step l h [] zs ms e = e
  moved_small step l h (x ∷ xs) [] ms e = e
  moved_small step l h (x ∷ xs) (z ∷ zs) [] e = refl
  moved_small step l h (x ∷ xs) (z ∷ zs) (m ∷ ms) e =
      let s = or_parts (ltb (2 ^ 18) (k.size m)) (beyond k (2 ^ 18) ms) e in
      or_from _ _
      (cond_both (xor x z) (k.moved m step (not x)) m (λ w. ltb (2 ^ 18) (k.size w) ≡ false) (λ _. le-ltb _ _ (k.moved_size m step (not x) l h)) (λ _. s.0))
      (moved_small step l h xs zs ms s.1)

  module _ (p : Plan) (costs : List W) where
    pub trial_fits : (ms : List W) → Costs k p costs → Word p (trial_of k p costs ms)
    unfolding trial_of
    trial_fits ms c =
        record {
          long = length-map (trial_word p.rows (meanings k costs) (meanings k ms)) _ ∙ length-map (slacks (edge_cells p.rows) (meanings k ms) (meanings k costs)) _
              ∙ length_slacks (edge_cells p.rows) (meanings k ms) (meanings k costs) ∙ length-map costs k.meaning ∙ c.long;
          bits = bytes_bits (trial_word p.rows (meanings k costs) (meanings k ms));
        }

    pub moves_fit : (step : ℕ) → 1 ≤ step → step ≤ 4096 → (x : List ℕ) (ms : List W) → Multipliers k p ms → Multipliers k p (moves k p costs step x ms)
    unfolding moves
    moves_fit step l h x ms f =
        record {
          long = moved_long step (at (bits x) (edge_cells p.rows)) (choices p.rows (meanings k ms)) ms ∙ f.long;
          small = moved_small step l h (at (bits x) (edge_cells p.rows)) (choices p.rows (meanings k ms)) ms f.small;
        }
