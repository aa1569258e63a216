-- What a kind of weights means: a whole number and a size for each weight, and how a step moves one.
use Rattle.std.specs.Prelude.{◌≡◌, ℕ, ◌+◌, ◌*◌, ◌^◌, ◌<◌, ◌≤◌, Bool, List, map, ℤ}
use Rattle.std.specs.Borrow.{RattleType}
use denote.Memory.{lone}
use prog.Memory.{size as bytes}

pub record Kind (W : Type 0) : Type 0 where
  pub meaning : W → ℤ
  pub size : W → ℕ
  pub size_bound : (w : W) → size w ≤ 2 ^ 30
  pub moved : W → ℕ → Bool → W
  pub moved_size : (w : W) (step : ℕ) (up : Bool) → 1 ≤ step → step ≤ 4096 → size (moved w step up) ≤ 2 ^ 18

-- r stands for z, the sum or difference of a and b: exactly where the two sizes add up to at most 2^30, and never larger than they are together
pub record Exact {W : Type 0} (k : Kind W) (a b r : W) (z : ℤ) : Type 0 where
  pub value : k.size a + k.size b ≤ 2 ^ 30 → k.meaning r ≡ z
  pub small : k.size r ≤ k.size a + k.size b

-- what a list of weights means
abbrev pub meanings : {W : Type 0} → Kind W → List W → List ℤ
meanings k ws = map k.meaning ws

-- 128 weights take fewer than 2^63 bytes, so that a local array of them can be lent
abbrev pub Roomy : RattleType → Type 0
Roomy R = 128 * bytes (lone R.mir) < 2 ^ 63
