-- The choice departs from the signs as the tie rule says.
use Rattle.std.proofs.Common.{◌≡◌, Bool, true, false, not, List, set, ℤ, Some, None, Option, refl, ap, ◌∙◌}
use Rattle.std.proofs.lemmas.Bool.{cond-true, cond-false, le-leb, lt-leb}
use Rattle.dual.specs.Choice.{negatives, odd, Spot, nearest, cheaper, toggle, flipped, chosen}
use Rattle.dual.specs.Laws.{ChoiceKeepsTheTieRule}
use Rattle.dual.proofs.Steps.{get_or_negatives, nearest_sign}

-- where the number is odd, and the spot p of sign t is the cheaper of d and a, its place is turned
turns : (ms : List ℤ) (t : Bool) (p : Spot) (d a : Option Spot) → odd (negatives ms) ≡ true → nearest true ms ≡ d → nearest false ms ≡ a → nearest t ms ≡ Some p → cheaper d a ≡ Some p.0 → chosen ms ≡ set (negatives ms) p.0 (not t)
turns ms t p d a o de ae pe c =
    let both : cheaper (nearest true ms) (nearest false ms) ≡ Some p.0 = cc in
    let place : toggle ms ≡ Some p.0 = cond-true _ _ _ o ∙ both in
    ap (λ q. flipped q (negatives ms)) place ∙ ap (λ b. set (negatives ms) p.0 (not b)) (get_or_negatives ms p.0 ∙ nearest_sign t ms p pe)

pub tie_rule : ChoiceKeepsTheTieRule
tie_rule ms = record {
  even = λ o. ap (λ q. flipped q (negatives ms)) (cond-false _ _ _ o);
  alone = λ d o de ae. turns ms true d (Some d) None o de ae de refl;
  dropped = λ d a o de ae le. turns ms true d (Some d) (Some a) o de ae de (ap Some (cond-true _ _ _ (le-leb d.1 a.1 le)));
  added = λ d a o de ae lt. turns ms false a (Some d) (Some a) o de ae ae (ap Some (cond-false _ _ _ (lt-leb d.1 a.1 lt)));
}
