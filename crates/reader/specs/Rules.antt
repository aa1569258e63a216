-- The step that a rule gives each round.
use Rattle.std.specs.Prelude.{◌≡◌, ℕ}
use Rattle.reader.specs.Steps.{divided}
use Rattle.reader.specs.declared.steps.StepRule.{StepRule}
use Rattle.reader.specs.declared.steps.StepRule.TheVariants.{Constant, Divided}

abbrev pub step_of : StepRule → ℕ → ℕ
step_of (Constant step) round = step.size
step_of (Divided first) round = divided first.size round

-- the rule gives each round this step
abbrev pub IsConstant : StepRule → ℕ → Type 0
IsConstant (Constant s) step = s.size ≡ step
IsConstant (Divided s) step = ⊥

-- the rule divides this step by the number of the round
abbrev pub IsDivided : StepRule → ℕ → Type 0
IsDivided (Constant s) first = ⊥
IsDivided (Divided s) first = s.size ≡ first
