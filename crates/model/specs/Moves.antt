-- How a step moves the multipliers of the edges on which the word and the choice of the row differ.
use Rattle.std.specs.Prelude.{ℕ, Bool, cond, not, List, [], ◌∷◌}
use Rattle.weights.specs.Kinds.{Kind}
use Rattle.dual.specs.Choice.{xor}

-- one edge, with its cell's bit in the word and its bit in the choice: where they differ, up for bit 0 and down for bit 1
abbrev pub moved_edge : {W : Type 0} → Kind W → ℕ → Bool → Bool → W → W
moved_edge k step bit chosen m = cond (xor bit chosen) (k.moved m step (not bit)) m

-- all edges
abbrev pub moved_edges : {W : Type 0} → Kind W → ℕ → List Bool → List Bool → List W → List W
moved_edges k step [] zs ms = ms
moved_edges k step (x ∷ xs) [] ms = ms
moved_edges k step (x ∷ xs) (z ∷ zs) [] = []
moved_edges k step (x ∷ xs) (z ∷ zs) (m ∷ ms) = moved_edge k step x z m ∷ moved_edges k step xs zs ms
