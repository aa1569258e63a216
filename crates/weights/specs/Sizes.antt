-- How large the weights of a list are.
use Rattle.std.specs.Prelude.{ℕ, ◌<◌, ◌≤◌, Bool, List, length, nat_lt, slice_index_or}
use Rattle.std.specs.List.{list_any}
use Rattle.weights.specs.Kinds.{Kind}

-- whether a weight is larger than the limit
abbrev pub beyond : {W : Type 0} → Kind W → ℕ → List W → Bool
beyond k limit ws = list_any (λ w. nat_lt limit (k.size w)) ws

-- no weight is larger than the limit
abbrev pub Within : {W : Type 0} → Kind W → ℕ → List W → Type 0
Within {W} k limit ws = (i : ℕ) (d : W) → i < length ws → k.size (slice_index_or ws i d) ≤ limit
