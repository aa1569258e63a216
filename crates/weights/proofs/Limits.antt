-- The test of sizes, weight by weight.
use Rattle.std.proofs.Common.{◌≡◌, ℕ, zero, suc, ◌+◌, ◌<◌, false, ◌||◌, ltb, List, [], ◌∷◌, length, get_or, drop, sym, ap, ◌∙◌, arith}
use Rattle.std.proofs.lemmas.List.{drop_more}
use Rattle.std.proofs.lemmas.Bool.{ltb-false}
use Rattle.weights.specs.Kinds.{Kind}
use Rattle.weights.specs.Sizes.{beyond, Within}

module _ {W : Type 0} (k : Kind W) where
  -- one weight further
  pub beyond_more : (limit : ℕ) (ws : List W) (i : ℕ) (w : W) → i < length ws → w ≡ get_or ws i w → beyond k limit (drop i ws) ≡ (ltb limit (k.size w) || beyond k limit (drop (i + 1) ws))
  beyond_more limit ws i w h e = ap (beyond k limit) (drop_more ws i w h) ∙ ap (λ x. ltb limit (k.size x) || beyond k limit (drop (i + 1) ws)) (sym e)

  pub not_beyond : (limit : ℕ) (ws : List W) → beyond k limit ws ≡ false → Within k limit ws
  not_beyond limit [] e i d h = absurd (omega arith)
  not_beyond limit (w ∷ ws) e zero d h = let l : ltb limit (k.size w) ≡ false = grind arith in ltb-false limit (k.size w) l
  not_beyond limit (w ∷ ws) e (suc i) d h = not_beyond limit ws (grind arith) i d (omega arith)
