-- Why boards are declined.
use Rattle.std.specs.Prelude.{◌≡◌, ℕ, ◌^◌, cond, not, ◌||◌, List, length, ◌==◌}
use Rattle.layouts.specs.Plans.{Plan, edges}
use Rattle.weights.specs.Kinds.{Kind}
use Rattle.weights.specs.Sizes.{beyond, Within}

-- 9: costs and an output of n entries are not one a cell, or multipliers not one an edge; 10: a cost beyond size 2^16, or a multiplier beyond 2^18
abbrev pub floor_refusal : {W : Type 0} → Kind W → Plan → List W → List W → ℕ → ℕ
floor_refusal k p costs ms n =
    cond (not (length costs == p.cells) || (not (length ms == edges p.rows) || not (n == p.cells))) 9
    (cond (beyond k (2 ^ 16) costs || beyond k (2 ^ 18) ms) 10 0)

-- 9: multipliers and an output of m entries are not one an edge, or an output of n not one a row; 10: a multiplier beyond size 2^18
abbrev pub choices_refusal : {W : Type 0} → Kind W → Plan → List W → ℕ → ℕ → ℕ
choices_refusal k p ms m n =
    cond (not (length ms == edges p.rows) || (not (m == edges p.rows) || not (n == length p.rows))) 9
    (cond (beyond k (2 ^ 18) ms) 10 0)

-- costs and multipliers that are not declined
pub record Fit {W : Type 0} (k : Kind W) (p : Plan) (costs ms : List W) : Type 0 where
  pub costs_long : length costs ≡ p.cells
  pub multipliers_long : length ms ≡ edges p.rows
  pub costs_small : Within k (2 ^ 16) costs
  pub multipliers_small : Within k (2 ^ 18) ms
