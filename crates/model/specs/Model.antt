-- A reading with its boards, and how it changes: a floor that rises, a word that gets cheaper, a round.
-- Floor and ceiling are the numbers that the reading's weights mean: of a kind it is not known which weight a sum gives.
use Rattle.std.specs.Prelude.{ℕ, zero, suc, ◌+◌, Bool, cond, not, ◌&&◌, ◌||◌, List, replicate, ℤ, pos, int_lt, nat_le}
use Rattle.layouts.specs.Plans.{Plan, edges, edge_cells}
use Rattle.weights.specs.Kinds.{Kind, meanings}
use Rattle.dual.specs.Bound.{floor, trial_word, cost, at, codeword, choices}
use Rattle.model.specs.Words.{bytes, bits}
use Rattle.model.specs.Moves.{moved_edges}

pub record Model (W : Type 0) : Type 0 where
  pub rounds : ℕ
  pub floor : ℤ
  pub ceiling : ℤ
  pub carried : List W
  pub kept : List W
  pub trial : List ℕ
  pub word : List ℕ

-- whether two numbers are the same
abbrev pub equal : ℤ → ℤ → Bool
equal a b = not (int_lt a b) && not (int_lt b a)

-- a reading is met when its floor equals its ceiling
abbrev pub met : {W : Type 0} → Model W → Bool
met m = equal m.floor m.ceiling

-- multipliers of the floor z, where that is above the reading's: it becomes the reading's, and they are kept
abbrev pub raised_to : {W : Type 0} → ℤ → List W → Model W → Model W
raised_to z ms m = cond (int_lt m.floor z) (record m { floor = z; kept = ms }) m

-- the kept word x, and z as the ceiling
abbrev pub with_word : {W : Type 0} → ℤ → List ℕ → Model W → Model W
with_word z x m = record m { ceiling = z; word = x }

-- a codeword of the cost z, where that is below the ceiling: it becomes the kept word, and z the ceiling
abbrev pub lowered_to : {W : Type 0} → ℤ → List ℕ → Model W → Model W
lowered_to z x m = cond (int_lt z m.ceiling) (with_word z x m) m

module _ {W : Type 0} (k : Kind W) (p : Plan) (costs : List W) where
  -- the floor and the trial word of multipliers
  unfoldable pub floor_of : List W → ℤ
  floor_of ms = floor p.rows (meanings k costs) (meanings k ms)

  unfoldable pub trial_of : List W → List ℕ
  trial_of ms = bytes (trial_word p.rows (meanings k costs) (meanings k ms))

  -- what a word costs
  unfoldable pub cost_of : List ℕ → ℤ
  cost_of x = cost (meanings k costs) (bits x)

  -- whether a word meets every row
  unfoldable pub passes : List ℕ → Bool
  passes x = codeword p.rows (bits x)

  -- on each edge where the word and the row's choice differ, the multiplier moves by the step; all choices come from these multipliers
  unfoldable pub moves : ℕ → List ℕ → List W → List W
  moves step x ms = moved_edges k step (at (bits x) (edge_cells p.rows)) (choices p.rows (meanings k ms)) ms

  -- multipliers whose floor is above the reading's: it becomes the reading's, and they are kept
  abbrev pub raised : List W → Model W → Model W
  raised ms m = raised_to (floor_of ms) ms m

  -- a codeword below the ceiling: it becomes the kept word, and its cost the ceiling
  abbrev pub improved : List ℕ → Model W → Model W
  improved x m = cond (passes x && int_lt (cost_of x) m.ceiling) (with_word (cost_of x) x m) m

  -- the trial word is set, the carried multipliers move, and the round is counted
  abbrev pub moved_on : ℕ → List ℕ → Model W → Model W
  moved_on step x m = record m { rounds = m.rounds + 1; carried = moves step x m.carried; trial = x }

  -- a round with its step
  abbrev pub round : ℕ → Model W → Model W
  round step m = moved_on step (trial_of m.carried) (improved (trial_of m.carried) (raised m.carried m))

  -- at most n rounds; none is made once the reading is met, or once 4,096 have been made since begin. The new count numbers the step.
  unfoldable pub rounds_of : (ℕ → ℕ) → ℕ → Model W → Model W
  rounds_of rule zero m = m
  rounds_of rule (suc n) m = cond (met m || nat_le 4096 m.rounds) m (rounds_of rule n (round (rule (m.rounds + 1)) m))

  -- a new reading, from the zero weight of the kind: all multipliers zero, both words blank, no round made
  abbrev pub zeros : W → List W
  zeros z = replicate (edges p.rows) z

  abbrev pub fresh : W → Model W
  fresh z = record { rounds = 0; floor = floor_of (zeros z); ceiling = pos 0; carried = zeros z; kept = zeros z; trial = replicate p.cells 0; word = replicate p.cells 0 }
