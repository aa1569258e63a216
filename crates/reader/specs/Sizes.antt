-- How large the weights of a list are together.
use Rattle.std.specs.Prelude.{ℕ, ◌+◌, List, [], ◌∷◌}
use Rattle.weights.specs.Kinds.{Kind}

-- all sizes added up: while this is at most 2^30, every sum of weights of the list is exact
abbrev pub total_size : {W : Type 0} → Kind W → List W → ℕ
total_size k [] = 0
total_size k (w ∷ ws) = k.size w + total_size k ws
