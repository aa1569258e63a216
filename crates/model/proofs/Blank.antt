-- The blank word meets every row and costs nothing; zero multipliers are within size.
use Rattle.std.proofs.Common.{◌≡◌, ℕ, zero, suc, ◌^◌, true, false, not, List, [], ◌∷◌, get_or, replicate, ℤ, pos, ◌+ℤ◌, refl, ap, ◌∙◌, arith}
use lib.ListN.{length-replicate}
use Rattle.std.proofs.lemmas.Bool.{and_from, or_from, le-ltb}
use Rattle.layouts.specs.Plans.{Plan, edges}
use Rattle.weights.specs.Kinds.{Kind, meanings}
use Rattle.weights.specs.Sizes.{beyond}
use Rattle.dual.specs.Choice.{xor, odd, pick}
use Rattle.dual.specs.Bound.{at, codeword}
use Rattle.tickets.specs.Packs.{no_bits}
use Rattle.model.specs.Words.{bits}
use Rattle.model.specs.Model.{cost_of, passes, zeros}
use Rattle.model.proofs.Boards.{Word, Multipliers}

blank_at : (n c : ℕ) → get_or (bits (replicate n 0)) c false ≡ false
blank_at zero c = refl
blank_at (suc n) zero = refl
blank_at (suc n) (suc c) = blank_at n c

blank_even : (n : ℕ) (row : List ℕ) → odd (at (bits (replicate n 0)) row) ≡ false
blank_even n [] = refl
blank_even n (c ∷ row) = ap (λ b. xor b (odd (at (bits (replicate n 0)) row))) (blank_at n c) ∙ blank_even n row

blank_codeword : (n : ℕ) (rows : List (List ℕ)) → codeword rows (bits (replicate n 0)) ≡ true
blank_codeword n [] = refl
blank_codeword n (row ∷ rows) = and_from _ _ (ap not (blank_even n row)) (blank_codeword n rows)

blank_free : (n : ℕ) (costs : List ℤ) → pick (bits (replicate n 0)) costs ≡ pos 0
blank_free zero costs = refl
blank_free (suc n) [] = refl
blank_free (suc n) (c ∷ costs) = ap (λ z. pos 0 +ℤ z) (blank_free n costs)

blank_bits : (n : ℕ) → no_bits (replicate n 0) ≡ false
blank_bits zero = refl
blank_bits (suc n) = blank_bits n

zeros_small : {W : Type 0} (k : Kind W) (z : W) → k.size z ≡ 0 → (n : ℕ) → beyond k (2 ^ 18) (replicate n z) ≡ false
zeros_small k z e zero = refl
zeros_small k z e (suc n) = or_from _ _ (le-ltb (2 ^ 18) (k.size z) (omega (arith, e))) (zeros_small k z e n)

pub blank_word : (p : Plan) → Word p (replicate p.cells 0)
blank_word p = record { long = length-replicate p.cells 0; bits = blank_bits p.cells }

module _ {W : Type 0} (k : Kind W) (p : Plan) (costs : List W) where
  pub blank_passes : passes k p costs (replicate p.cells 0) ≡ true
  unfolding passes
  blank_passes = blank_codeword p.cells p.rows

  pub blank_costs : cost_of k p costs (replicate p.cells 0) ≡ pos 0
  unfolding cost_of
  blank_costs = blank_free p.cells (meanings k costs)

  pub zero_multipliers : (z : W) → k.size z ≡ 0 → Multipliers k p (zeros k p costs z)
  zero_multipliers z e = record { long = length-replicate (edges p.rows) z; small = zeros_small k z e (edges p.rows) }
