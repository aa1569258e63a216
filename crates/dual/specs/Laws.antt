-- The laws of the row choice and of the floor, for any rows, costs and multipliers.
use Rattle.std.specs.Prelude.{◌≡◌, ℕ, ◌<◌, ◌≤◌, Bool, true, false, List, length, ℤ, pos, ◌≤ℤ◌, Some, None, Option, ◌≢◌, slice_index_or, slice_set, unsigned_abs}
use Rattle.layouts.specs.Plans.{edges}
use Rattle.dual.specs.Choice.{negative, negatives, odd, pick, Spot, nearest, chosen, least}
use Rattle.dual.specs.Bound.{trial_word, floor, cost, codeword, evenly, choices, lagrangian}

-- what holds of each entry
abbrev pub Each : (ℤ → Type 0) → List ℤ → Type 0
Each P xs = (k : ℕ) → k < length xs → P (slice_index_or xs k (pos 0))

-- the entry of smallest absolute value among those of one sign (t: the negative ones), the lowest place at equality; absent where there is none
abbrev pub Nearest : Bool → List ℤ → Option Spot → Type 0
Nearest t xs None = Each (λ m. negative m ≢ t) xs
Nearest t xs (Some p) =
    (p.0 < length xs) × (negative (slice_index_or xs p.0 (pos 0)) ≡ t) × (unsigned_abs (slice_index_or xs p.0 (pos 0)) ≡ p.1)
    × Each (λ m. negative m ≡ t → p.1 ≤ unsigned_abs m) xs
    × ((k : ℕ) → k < p.0 → negative (slice_index_or xs k (pos 0)) ≡ t → p.1 < unsigned_abs (slice_index_or xs k (pos 0)))

abbrev pub NearestIsFound : Type 0
NearestIsFound = (t : Bool) (ms : List ℤ) → Nearest t ms (nearest t ms)

-- the choice is the negative places where their number is even; else it is these without d, where a is missing or d's absolute value is at most a's, or with a
pub record TieRule (ms : List ℤ) : Type 0 where
  pub even : odd (negatives ms) ≡ false → chosen ms ≡ negatives ms
  pub alone : (d : Spot) → odd (negatives ms) ≡ true → nearest true ms ≡ Some d → nearest false ms ≡ None → chosen ms ≡ slice_set (negatives ms) d.0 false
  pub dropped : (d a : Spot) → odd (negatives ms) ≡ true → nearest true ms ≡ Some d → nearest false ms ≡ Some a → d.1 ≤ a.1 → chosen ms ≡ slice_set (negatives ms) d.0 false
  pub added : (d a : Spot) → odd (negatives ms) ≡ true → nearest true ms ≡ Some d → nearest false ms ≡ Some a → a.1 < d.1 → chosen ms ≡ slice_set (negatives ms) a.0 true

abbrev pub ChoiceKeepsTheTieRule : Type 0
ChoiceKeepsTheTieRule = (ms : List ℤ) → TieRule ms

pub record CheapestEvenSet (ms : List ℤ) : Type 0 where
  pub same_length : length (chosen ms) ≡ length ms
  pub even : odd (chosen ms) ≡ false
  pub cheapest : (s : List Bool) → length s ≡ length ms → odd s ≡ false → least ms ≤ℤ pick s ms

abbrev pub ChoiceIsCheapest : Type 0
ChoiceIsCheapest = (ms : List ℤ) → CheapestEvenSet ms

-- over all words and all choices of an even set for each row, the floor is the least value of the Lagrangian, reached by the trial word and the chosen sets
pub record LeastLagrangian (rows : List (List ℕ)) (costs ms : List ℤ) : Type 0 where
  pub lower : (x z : List Bool) → length x ≡ length costs → length z ≡ edges rows → evenly rows z ≡ true → floor rows costs ms ≤ℤ lagrangian rows costs ms x z
  pub word : length (trial_word rows costs ms) ≡ length costs
  pub sets : length (choices rows ms) ≡ edges rows
  pub even : evenly rows (choices rows ms) ≡ true
  pub reached : lagrangian rows costs ms (trial_word rows costs ms) (choices rows ms) ≡ floor rows costs ms

abbrev pub FloorIsLeastLagrangian : Type 0
FloorIsLeastLagrangian = (rows : List (List ℕ)) (costs ms : List ℤ) → length ms ≡ edges rows → LeastLagrangian rows costs ms

abbrev pub FloorBelowCodewords : Type 0
FloorBelowCodewords = (rows : List (List ℕ)) (costs ms : List ℤ) (x : List Bool) → length ms ≡ edges rows → length x ≡ length costs → codeword rows x ≡ true → floor rows costs ms ≤ℤ cost costs x
