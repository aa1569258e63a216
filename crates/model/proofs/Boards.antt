-- Boards that no call declines, by what holds of each.
use Rattle.std.proofs.Common.{◌≡◌, ℕ, ◌^◌, false, not, eqb, List, length, refl}
use Rattle.std.proofs.lemmas.Bool.{eqb-true, eq-eqb, not-false, not_from_true, or_parts, or_from}
use Rattle.layouts.specs.Plans.{Plan, edges}
use Rattle.weights.specs.Kinds.{Kind}
use Rattle.weights.specs.Sizes.{beyond}
use Rattle.tickets.specs.Packs.{no_bits}
use Rattle.model.specs.Model.{Model}
use Rattle.model.specs.Calls.{misfit, begin_refusal, shape_refusal, boards_refusal}
use Rattle.model.proofs.Orders.{passed, passing}

-- one bit a cell
pub record Word (p : Plan) (x : List ℕ) : Type 0 where
  pub long : length x ≡ p.cells
  pub bits : no_bits x ≡ false

-- a test of a length
pub as_long : (a b : ℕ) → not (eqb a b) ≡ false → a ≡ b
as_long a b e = eqb-true a b (not-false _ e)

pub same_long : (a b : ℕ) → a ≡ b → not (eqb a b) ≡ false
same_long a b e = not_from_true _ (eq-eqb a b e)

-- all five lengths
pub record Lengths (p : Plan) (c a b t w : ℕ) : Type 0 where
  pub costs : c ≡ p.cells
  pub carried : a ≡ edges p.rows
  pub kept : b ≡ edges p.rows
  pub trial : t ≡ p.cells
  pub word : w ≡ p.cells

pub lengths : (p : Plan) (c a b t w : ℕ) → misfit p c a b t w ≡ false → Lengths p c a b t w
lengths p c a b t w e =
    let h = or_parts (not (eqb c p.cells)) _ e in
    let i = or_parts (not (eqb a (edges p.rows))) _ h.1 in
    let j = or_parts (not (eqb b (edges p.rows))) _ i.1 in
    let l = or_parts (not (eqb t p.cells)) (not (eqb w p.cells)) j.1 in
    record { costs = as_long _ _ h.0; carried = as_long _ _ i.0; kept = as_long _ _ j.0; trial = as_long _ _ l.0; word = as_long _ _ l.1 }

pub no_misfit : (p : Plan) (c a b t w : ℕ) → Lengths p c a b t w → misfit p c a b t w ≡ false
no_misfit p c a b t w h =
    or_from _ _ (same_long _ _ h.costs) (or_from _ _ (same_long _ _ h.carried) (or_from _ _ (same_long _ _ h.kept) (or_from _ _ (same_long _ _ h.trial) (same_long _ _ h.word))))

module _ {W : Type 0} (k : Kind W) (p : Plan) where
  -- one weight an edge, none larger than a multiplier may be
  pub record Multipliers (ms : List W) : Type 0 where
    pub long : length ms ≡ edges p.rows
    pub small : beyond k (2 ^ 18) ms ≡ false

  -- one weight a cell, none larger than a cost may be
  pub record Costs (costs : List W) : Type 0 where
    pub long : length costs ≡ p.cells
    pub small : beyond k (2 ^ 16) costs ≡ false

  pub record Fitting (cs : List W) (m : Model W) : Type 0 where
    pub costs : Costs cs
    pub carried : Multipliers m.carried
    pub kept : Multipliers m.kept
    pub trial : Word p m.trial
    pub word : Word p m.word

  pub begin_costs : (costs : List W) (a b t w : ℕ) → begin_refusal k p costs a b t w ≡ 0 → Costs costs
  begin_costs costs a b t w e =
      let h = passed (misfit p (length costs) a b t w) 8 _ e in
      let l = lengths p (length costs) a b t w h.0 in
      record { long = l.costs; small = (passed (beyond k (2 ^ 16) costs) 9 0 h.1).0 }

  pub fits : (costs : List W) (m : Model W) → boards_refusal k p costs m ≡ 0 → Fitting costs m
  unfolding shape_refusal
  fits costs m e =
      let h = passed (misfit p (length costs) (length m.carried) (length m.kept) (length m.trial) (length m.word)) 8 _ e in
      let l = lengths p _ _ _ _ _ h.0 in
      let s = or_parts (beyond k (2 ^ 16) costs) _ (passed _ 9 0 h.1).0 in
      let a = or_parts (beyond k (2 ^ 18) m.carried) _ s.1 in
      let b = or_parts (beyond k (2 ^ 18) m.kept) _ a.1 in
      let t = or_parts (no_bits m.trial) (no_bits m.word) b.1 in
      record {
        costs = record { long = l.costs; small = s.0 };
        carried = record { long = l.carried; small = a.0 };
        kept = record { long = l.kept; small = b.0 };
        trial = record { long = l.trial; bits = t.0 };
        word = record { long = l.word; bits = t.1 };
      }

  -- and back: boards of this form are not declined
  pub shaped : {costs carried kept : List W} {trial word : List ℕ} → Costs costs → Multipliers carried → Multipliers kept → Word p trial → Word p word → shape_refusal k p costs carried kept trial word ≡ 0
  unfolding shape_refusal
  shaped c a b t w =
      passing _ 9 _ (no_misfit p _ _ _ _ _ (record { costs = c.long; carried = a.long; kept = b.long; trial = t.long; word = w.long }))
      (passing _ 10 0 (or_from _ _ c.small (or_from _ _ a.small (or_from _ _ b.small (or_from _ _ t.bits w.bits)))) refl)
