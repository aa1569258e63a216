-- The step of a round: the same each time, or the first step divided by the round's number.
use Rattle.std.specs.Prelude.{ℕ, ◌/◌, max, cond, ◌||◌, nat_lt}

-- rounded down, and at least 1; rounds are numbered from 1, and 0 is taken as 1
abbrev pub divided : ℕ → ℕ → ℕ
divided first round = max (first / max round 1) 1

-- 8 for a step outside 1 to 4,096, else 0
abbrev pub step_refusal : ℕ → ℕ
step_refusal step = cond (nat_lt step 1 || nat_lt 4096 step) 8 0
