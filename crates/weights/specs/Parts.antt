-- The signed parts that our own kinds are made of.
use Rattle.std.specs.Prelude.{◌≡◌, ℕ, ◌+◌, ◌^◌, ◌≤◌, Bool, cond, ℤ, pos, ◌+ℤ◌, ◌-ℤ◌, ◌*ℤ◌, neg_ℤ, unsigned_abs}
use Rattle.std.specs.Int.{int_min, int_max}

-- the number nearest to z from -limit to limit
abbrev pub cut : ℕ → ℤ → ℤ
cut limit z = int_max (neg_ℤ (pos limit)) (int_min z (pos limit))

-- z with a step added, or taken away
abbrev pub stepped : ℤ → ℕ → Bool → ℤ
stepped z step up = cond up (z +ℤ pos step) (z -ℤ pos step)

-- the cost of a grey, 0 black to 255 white: 256 times its distance from the middle
abbrev pub grey_cost : ℕ → ℤ
grey_cost grey = pos 256 *ℤ (pos grey -ℤ pos 128)

-- what a pair of parts means
abbrev pub joined : ℤ → ℤ → ℤ
joined first second = (first *ℤ pos (2 ^ 32)) +ℤ second

-- a part r for z, the sum or difference of the parts a and b: exact below the limit, and never larger than they are together
pub record Kept (a b r z : ℤ) : Type 0 where
  pub exact : unsigned_abs a + unsigned_abs b ≤ 2 ^ 30 → r ≡ z
  pub small : unsigned_abs r ≤ unsigned_abs a + unsigned_abs b
  pub within : unsigned_abs r ≤ 2 ^ 30
