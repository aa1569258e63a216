-- The kind of plain weights.

use Rattle.std.specs.Prelude.{ℕ, ◌^◌, ◌≤◌, ℤ, unsigned_abs}
use Rattle.std.proofs.Common.{arith}
use Rattle.std.proofs.lemmas.Int.{ints, clamps}
use Rattle.weights.specs.Kinds.{Kind}
use Rattle.weights.specs.Parts.{cut, stepped, grey_cost}
use Rattle.weights.specs.declared.plain.Plain.{Plain}

pub cut_within : (limit : ℕ) (z : ℤ) → unsigned_abs (cut limit z) ≤ limit
cut_within limit z = omega (arith, ints, clamps)

pub cut_again : (z : ℤ) → unsigned_abs (cut (2 ^ 18) z) ≤ 2 ^ 30
cut_again z = let h = cut_within (2 ^ 18) z in omega arith

abbrev pub plain_kind : Kind Plain
plain_kind = record {
  meaning = λ w. w.value;
  size = λ w. unsigned_abs w.value;
  size_bound = λ w. w.within;
  moved = λ w step up. record { value = cut (2 ^ 18) (stepped w.value step up); within = cut_again (stepped w.value step up) };
  moved_size = λ w step up low high. cut_within (2 ^ 18) (stepped w.value step up);
}

-- what making a plain weight of a number gives
abbrev pub plain_of : ℤ → Plain
plain_of z = record { value = cut (2 ^ 30) z; within = cut_within (2 ^ 30) z }

-- the cost of a grey
abbrev pub plain_cost : ℕ → Plain
plain_cost grey = plain_of (grey_cost grey)
