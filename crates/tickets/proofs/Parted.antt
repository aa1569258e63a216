-- What declines the parts of a ticket declines the ticket.
use Rattle.std.proofs.Common.{◌≡◌, ℕ, cond, not, eqb, sym, ap, ◌∙◌}
use Rattle.refusals.proofs.Counted.{counted}
use Rattle.refusals.specs.Numbers.{number, or_else}
use Rattle.refusals.specs.declared.Refusal.{Refusal}
use Rattle.std.proofs.lemmas.Bool.{eq-eqb, ne_eqb}

-- a work list of another length is declined first
pub other_length : (m e rest : ℕ) → (m ≡ e → ⊥) → 22 ≡ cond (not (eqb m e)) 22 rest
other_length m e rest f = sym (ap (λ t. cond (not t) 22 rest) (ne_eqb m e f))

-- what declines the parts declines the ticket
pub parts_decline : (m e a b : ℕ) (r : Refusal) → m ≡ e → number r ≡ a → number r ≡ cond (not (eqb m e)) 22 (or_else a b)
parts_decline m e a b r f g =
    g ∙ sym (ap (λ t. cond (not t) 22 (or_else a b)) (eq-eqb m e f) ∙ ap (λ t. cond t b a) (ap (λ i. eqb i 0) (sym g) ∙ counted r))
