-- What every call on a reading keeps.
use Rattle.std.proofs.Common.{◌≡◌, ℕ, zero, suc, ◌+◌, ◌^◌, ◌≤◌, Bool, true, not, ◌&&◌, ◌||◌, eqb, leb, ◌⊎◌, List, length, replicate, ℤ, pos, ◌≤ℤ◌, ◌<ℤ◌, sym, refl, ap, ◌∙◌, subst, inl, inr, arith}
use lib.Signed.{lt_z}
use Rattle.std.proofs.lemmas.Int.{ints}
use Rattle.std.proofs.lemmas.Bool.{cond_both, and_parts, or_parts}
use Rattle.layouts.specs.Plans.{Plan, edges}
use Rattle.weights.specs.Kinds.{Kind, meanings}
use Rattle.weights.specs.Sizes.{beyond}
use Rattle.dual.specs.Bound.{cost, codeword}
use Rattle.tickets.specs.Packs.{no_bits}
use Rattle.model.specs.Model.{Model, met, floor_of, cost_of, passes, trial_of, raised, improved, round, rounds_of, fresh}
use Rattle.model.specs.Calls.{begin_refusal, boards_refusal, offer_refusal, offer_after, propose_refusal, propose_after}
use Rattle.model.proofs.Orders.{lt_yes, neither, passed}
use Rattle.model.proofs.Boards.{Word, Multipliers, Fitting, as_long, begin_costs, fits, shaped}
use Rattle.model.proofs.Blank.{blank_word, blank_passes, blank_costs, zero_multipliers}
use Rattle.model.proofs.Turns.{trial_fits, moves_fit}
use Rattle.model.proofs.Bounds.{floor_below, floor_below_word}

module _ {W : Type 0} (k : Kind W) (p : Plan) (costs : List W) where
  pub record Inv (m : Model W) : Type 0 where
    pub boards : boards_refusal k p costs m ≡ 0
    pub floor_is : m.floor ≡ floor_of k p costs m.kept
    pub is_word : passes k p costs m.word ≡ true
    pub word_costs : cost_of k p costs m.word ≡ m.ceiling
    -- a kept word that is not blank was once cheaper than the blank one
    pub first : (m.word ≡ replicate p.cells 0) ⊎ (m.ceiling <ℤ pos 0)

  pub fitting : (m : Model W) → Inv m → Fitting k p costs m
  fitting m v = fits k p costs m v.boards

  -- no codeword costs less than the floor
  pub under : (m : Model W) → Inv m → (x : List Bool) → length x ≡ p.cells → codeword p.rows x ≡ true → m.floor ≤ℤ cost (meanings k costs) x
  under m v x l e = subst (λ (z : ℤ). z ≤ℤ cost (meanings k costs) x) (sym v.floor_is) (floor_below k p costs m.kept x (fitting m v).costs (fitting m v).kept l e)

  pub under_word : (m : Model W) → Inv m → (x : List ℕ) → length x ≡ p.cells → passes k p costs x ≡ true → m.floor ≤ℤ cost_of k p costs x
  under_word m v x l e = subst (λ (z : ℤ). z ≤ℤ cost_of k p costs x) (sym v.floor_is) (floor_below_word k p costs m.kept x (fitting m v).costs (fitting m v).kept l e)

  pub ceiling_low : (m : Model W) → Inv m → m.ceiling ≤ℤ pos 0
  ceiling_low m v = elim v.first [
    | inl e ↦ (let z : m.ceiling ≡ pos 0 = sym v.word_costs ∙ ap (cost_of k p costs) e ∙ blank_costs k p costs in omega (arith, ints))
    | inr h ↦ omega (arith, ints)
  ]

  -- ---- parts of a call

  pub inv_raised : (ms : List W) (m : Model W) → Multipliers k p ms → Inv m → Inv (raised k p costs ms m)
  inv_raised ms m f v =
      let b = fitting m v in
      cond_both (lt_z m.floor (floor_of k p costs ms)) _ m Inv
      (λ _. record {
        boards = shaped k p b.costs b.carried f b.trial b.word;
        floor_is = refl;
        is_word = v.is_word;
        word_costs = v.word_costs;
        first = v.first;
      })
      (λ _. v)

  pub inv_improved : (x : List ℕ) (m : Model W) → Word p x → Inv m → Inv (improved k p costs x m)
  inv_improved x m f v =
      let b = fitting m v in
      cond_both (passes k p costs x && lt_z (cost_of k p costs x) m.ceiling) _ m Inv
      (λ e. let h = and_parts (passes k p costs x) (lt_z (cost_of k p costs x) m.ceiling) e in
      let less = lt_yes (cost_of k p costs x) m.ceiling h.1 in
      let low = ceiling_low m v in
      record {
        boards = shaped k p b.costs b.carried b.kept b.trial f;
        floor_is = v.floor_is;
        is_word = h.0;
        word_costs = refl;
        first = inr (omega (arith, ints));
      })
      (λ _. v)

  -- other carried multipliers, another trial word and count
  pub inv_carrying : (n : ℕ) (ms : List W) (x : List ℕ) (m : Model W) → Multipliers k p ms → Word p x → Inv m
      → Inv (record { rounds = n; floor = m.floor; ceiling = m.ceiling; carried = ms; kept = m.kept; trial = x; word = m.word })
  inv_carrying n ms x m f g v =
      let b = fitting m v in
      record {
        boards = shaped k p b.costs f b.kept g b.word;
        floor_is = v.floor_is;
        is_word = v.is_word;
        word_costs = v.word_costs;
        first = v.first;
      }

  -- ---- the calls

  pub inv_fresh : (z : W) → k.size z ≡ 0 → (a b t w : ℕ) → begin_refusal k p costs a b t w ≡ 0 → Inv (fresh k p costs z)
  inv_fresh z small a b t w e =
      record {
        boards = shaped k p (begin_costs k p costs a b t w e) (zero_multipliers k p costs z small) (zero_multipliers k p costs z small) (blank_word p) (blank_word p);
        floor_is = refl;
        is_word = blank_passes k p costs;
        word_costs = blank_costs k p costs;
        first = inl refl;
      }

  pub inv_round : (step : ℕ) → 1 ≤ step → step ≤ 4096 → (m : Model W) → Inv m → Inv (round k p costs step m)
  inv_round step l h m v =
      let b = fitting m v in
      let x = trial_of k p costs m.carried in
      let t = trial_fits k p costs m.carried b.costs in
      let r : Inv (improved k p costs x (raised k p costs m.carried m)) = inv_improved x _ t (inv_raised m.carried m b.carried v) in
      inv_carrying _ _ x _ (moves_fit k p costs step l h x _ (fitting _ r).carried) t r

  pub inv_rounds : (rule : ℕ → ℕ) → ((n : ℕ) → (1 ≤ rule n) × (rule n ≤ 4096)) → (n : ℕ) (m : Model W) → Inv m → Inv (rounds_of k p costs rule n m)
  unfolding rounds_of
  inv_rounds rule s zero m v = v
  inv_rounds rule s (suc n) m v =
      let step = s (m.rounds + 1) in
      cond_both (met m || leb 4096 m.rounds) m _ Inv (λ _. v) (λ _. inv_rounds rule s n _ (inv_round (rule (m.rounds + 1)) step.0 step.1 m v))

  pub inv_offer : (list : List W) (m : Model W) → offer_refusal k p costs list m ≡ 0 → Inv m → Inv (offer_after k p costs list m)
  inv_offer list m e v =
      let h = neither (boards_refusal k p costs m) _ e in
      let g = or_parts (not (eqb (length list) (edges p.rows))) (beyond k (2 ^ 18) list) (passed _ 11 0 h.1).0 in
      let f : Multipliers k p list = record { long = as_long _ _ g.0; small = g.1 } in
      inv_raised list _ f (inv_carrying m.rounds list m.trial m f (fitting m v).trial v)

  pub inv_propose : (x : List ℕ) (m : Model W) → propose_refusal k p costs x m ≡ 0 → Inv m → Inv (propose_after k p costs x m)
  inv_propose x m e v =
      let h = neither (boards_refusal k p costs m) _ e in
      let g = or_parts (not (eqb (length x) p.cells)) (no_bits x) (passed _ 12 _ h.1).0 in
      inv_improved x m (record { long = as_long _ _ g.0; bits = g.1 }) v
