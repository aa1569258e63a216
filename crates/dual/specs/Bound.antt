-- Words, their costs, and the floor that a list of multipliers, one an edge, row by row, puts under every codeword.
use Rattle.std.specs.Prelude.{ℕ, Bool, true, false, not, ◌&&◌, List, [], ◌∷◌, ◌++◌, map, length, get_or, take, drop, ℤ, pos, ◌+ℤ◌, ◌-ℤ◌, ◌*ℤ◌, slice_index_or, slice_set}
use Rattle.layouts.specs.Plans.{edge_cells}
use Rattle.dual.specs.Choice.{negatives, odd, pick, chosen, least}

-- the entry of cell e, less m
abbrev pub lowered : List ℤ → ℕ → ℤ → List ℤ
lowered cs e m = slice_set cs e (slice_index_or cs e (pos 0) -ℤ m)

-- each edge takes its multiplier from the entry of its cell: what is left of the costs
abbrev pub slacks : List ℕ → List ℤ → List ℤ → List ℤ
slacks [] ms cs = cs
slacks (e ∷ es) [] cs = cs
slacks (e ∷ es) (m ∷ ms) cs = slacks es ms (lowered cs e m)

-- the trial word is dark where the slack is negative
abbrev pub trial_word : List (List ℕ) → List ℤ → List ℤ → List Bool
trial_word rows costs ms = negatives (slacks (edge_cells rows) ms costs)

-- the sum of the negative entries
abbrev pub low : List ℤ → ℤ
low cs = pick (negatives cs) cs

-- the least sum of each row
abbrev pub row_leasts : List (List ℕ) → List ℤ → List ℤ
row_leasts [] ms = []
row_leasts (row ∷ rows) ms = least (take (length row) ms) ∷ row_leasts rows (drop (length row) ms)

-- the least sums of all rows together
abbrev pub leasts : List (List ℕ) → List ℤ → ℤ
leasts [] ms = pos 0
leasts (row ∷ rows) ms = least (take (length row) ms) +ℤ leasts rows (drop (length row) ms)

-- the sum of all negative slacks and all least sums
abbrev pub floor : List (List ℕ) → List ℤ → List ℤ → ℤ
floor rows costs ms = low (slacks (edge_cells rows) ms costs) +ℤ leasts rows ms

-- the sum of the costs of a word's dark cells
abbrev pub cost : List ℤ → List Bool → ℤ
cost costs x = pick x costs

-- what the word x has at each of the cells
abbrev pub at : List Bool → List ℕ → List Bool
at x cells = map (λ c. get_or x c false) cells

-- an even number of the row's cells is dark
abbrev pub meets : List ℕ → List Bool → Bool
meets row x = not (odd (at x row))

abbrev pub codeword : List (List ℕ) → List Bool → Bool
codeword [] x = true
codeword (row ∷ rows) x = meets row x && codeword rows x

-- a set of edges, given as one bit an edge, that has an even number of each row's edges
abbrev pub evenly : List (List ℕ) → List Bool → Bool
evenly [] z = true
evenly (row ∷ rows) z = not (odd (take (length row) z)) && evenly rows (drop (length row) z)

-- the choices of all rows, one bit an edge
abbrev pub choices : List (List ℕ) → List ℤ → List Bool
choices [] ms = []
choices (row ∷ rows) ms = chosen (take (length row) ms) ++ choices rows (drop (length row) ms)

abbrev pub bit : Bool → ℤ
bit true = pos 1
bit false = pos 0

-- on each edge, its multiplier times the difference of the row's bit and the word's bit
abbrev pub disagreement : List ℤ → List Bool → List Bool → ℤ
disagreement [] zs xs = pos 0
disagreement (m ∷ ms) [] xs = pos 0
disagreement (m ∷ ms) (z ∷ zs) [] = pos 0
disagreement (m ∷ ms) (z ∷ zs) (x ∷ xs) = (m *ℤ (bit z -ℤ bit x)) +ℤ disagreement ms zs xs

-- the word x pays its cost, and each edge whose row has another bit (in z) than the word
abbrev pub lagrangian : List (List ℕ) → List ℤ → List ℤ → List Bool → List Bool → ℤ
lagrangian rows costs ms x z = cost costs x +ℤ disagreement ms z (at x (edge_cells rows))
