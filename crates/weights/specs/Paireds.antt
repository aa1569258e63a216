-- The kind of paired weights.
use Rattle.std.specs.Prelude.{ℕ, ◌^◌, ◌≤◌, max, ℤ, pos, unsigned_abs}
use Rattle.std.proofs.Common.{arith}
use Rattle.weights.specs.Kinds.{Kind}
use Rattle.weights.specs.Parts.{cut, stepped, joined, grey_cost}
use Rattle.weights.specs.Plains.{cut_within, cut_again}
use Rattle.weights.specs.declared.paired.Paired.{Paired}

pub max_within : (a b n : ℕ) → a ≤ n → b ≤ n → max a b ≤ n
max_within a b n p q = omega arith

abbrev pub paired_kind : Kind Paired
paired_kind = record {
  meaning = λ w. joined w.grey w.dark;
  size = λ w. max (unsigned_abs w.grey) (unsigned_abs w.dark);
  size_bound = λ w. max_within _ _ _ w.within.0 w.within.1;
  moved = λ w step up. record {
    grey = cut (2 ^ 18) (stepped w.grey step up);
    dark = cut (2 ^ 18) (stepped w.dark step up);
    within = (cut_again (stepped w.grey step up), cut_again (stepped w.dark step up));
  };
  moved_size = λ w step up low high. max_within _ _ _ (cut_within (2 ^ 18) (stepped w.grey step up)) (cut_within (2 ^ 18) (stepped w.dark step up));
}

-- what making a paired weight of two numbers gives
abbrev pub paired_of : ℤ → ℤ → Paired
paired_of first second = record { grey = cut (2 ^ 30) first; dark = cut (2 ^ 30) second; within = (cut_within (2 ^ 30) first, cut_within (2 ^ 30) second) }

-- the cost of a grey: each dark cell counts once, so that of equal greys the word with fewer dark cells is cheaper
abbrev pub paired_cost : ℕ → Paired
paired_cost grey = paired_of (grey_cost grey) (pos 1)
