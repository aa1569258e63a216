-- Adding sums of rows leaves the cells and the codewords as they were.
use Rattle.std.proofs.Common.{◌≡◌, ℕ, ◌+◌, Bool, true, false, cond, ◌&&◌, List, [], ◌∷◌, ◌++◌, length, Ok, Err, Result, refl, sym, ap, ◌∙◌, subst, arith}
use Rattle.std.specs.Prelude.{nat_le, nat_lt}
use Rattle.std.proofs.lemmas.List.{length-append}
use Rattle.std.proofs.lemmas.List.Folds.{list_all-append}
use Rattle.std.proofs.lemmas.Bool.{and_parts, and_from, le-leb, leb-true, ltb-true}
use Rattle.refusals.specs.Numbers.{or_else}
use Rattle.refusals.specs.declared.Refusal.{Refusal}
use Rattle.layouts.specs.Plans.{Plan, edges, edges_append}
use Rattle.layouts.specs.Lists.{row_rises}
use Rattle.dual.specs.Bound.{codeword}
use Rattle.sums.specs.declared.layer.SumLayer.{SumLayer}
use Rattle.sums.specs.Sums.{row_sum, some_rising, add_refusal, keeps_limits, counted}
use Rattle.sums.specs.SumPlan.{none_keeps, limits}
use Rattle.sums.specs.Layers.{added, layer_plan, AddDoes, Layered, new_layer, one_more}
use Rattle.sums.specs.Laws.{LayersKeepCodewords}
use Rattle.sums.proofs.Odds.{with_rows_rises, sum_met}

codeword_append : (xs ys : List (List ℕ)) (x : List Bool) → codeword (xs ++ ys) x ≡ (codeword xs x && codeword ys x)
codeword_append [] ys x = refl
codeword_append (row ∷ xs) ys x = let after = codeword_append xs ys x in grind arith

-- what it says that an adding is not declined
accepted : (free named filled : Bool) → ◌≡◌ {A = ℕ} (or_else (cond free 0 5) (or_else (cond named 0 6) (cond filled 0 7))) 0
    → (free ≡ true) × (named ≡ true) × (filled ≡ true)
accepted true true true e = (refl, refl, refl)
accepted true true false e = absurd (omega arith)
accepted true false filled e = absurd (omega arith)
accepted false named filled e = absurd (omega arith)

-- sums that keep the limits, and that every codeword meets
pub record Adds (p : Plan) (sums : List (List ℕ)) : Type 0 where
  pub limits_kept : keeps_limits p sums ≡ true
  pub met : (x : List Bool) → codeword p.rows x ≡ true → codeword sums x ≡ true

no_sums_add : (p : Plan) → Adds p []
no_sums_add p = record { limits_kept = none_keeps p; met = λ x e. refl }

one_more_adds : (p : Plan) (sums : List (List ℕ)) (names : List ℕ) → 0 ≡ add_refusal p sums names → Adds p sums
    → Adds p (sums ++ row_sum p.rows names ∷ [])
one_more_adds p sums names e before =
    let sum : List ℕ = row_sum p.rows names in
    let tests =
    accepted (nat_lt (length sums) 8 && nat_lt (length p.rows + length sums) 96) (some_rising (length p.rows) names)
    (nat_lt 0 (length sum) && nat_le (edges p.rows + edges sums + length sum) 1024) (sym e) in
    let free = and_parts (nat_lt (length sums) 8) (nat_lt (length p.rows + length sums) 96) tests.0 in
    let filled = and_parts (nat_lt 0 (length sum)) (nat_le (edges p.rows + edges sums + length sum) 1024) tests.2 in
    let rises : row_rises p.cells sum ≡ true = with_rows_rises p [] names refl in
    let rows = length-append sums (sum ∷ []) in
    let cells = edges_append sums (sum ∷ []) in
    let each = list_all-append (some_rising p.cells) sums (sum ∷ []) in
    let old = (limits p sums before.limits_kept).2 in
    record {
      limits_kept =
          and_from _ _ (le-leb (length p.rows + length (sums ++ sum ∷ [])) 96 (omega (arith, ltb-true _ _ free.1)))
          (and_from _ _
          (le-leb (edges p.rows + edges (sums ++ sum ∷ [])) 1024 (omega (arith, length-append sum [], leb-true _ _ filled.1)))
          (each ∙ and_from _ _ old (and_from _ _ (and_from _ _ filled.0 rises) refl)));
      met = λ x m. let one = sum_met p.rows x names m in let all = codeword_append sums (sum ∷ []) x in let kept = before.met x m in grind arith;
    }

-- what an adding does to sums that are as they should be, accepted or declined
after_adding : {P : Type 0} (plan : P → Plan) (below : P) (names : List ℕ) (old new : SumLayer P) (result : Result (Unit {0}) Refusal)
    → AddDoes plan names old result new → (old.below ≡ below) × Adds (plan below) (added old) → (new.below ≡ below) × Adds (plan below) (added new)
after_adding plan below names old new (Ok u) does before =
    let number = rw before.0 at does.number in
    let sums = rw before.0 at does.accepted in
    (does.over ∙ before.0, subst (λ (s : List (List ℕ)). Adds (plan below) s) (sym sums) (one_more_adds (plan below) (added old) names number before.1))
after_adding {P} plan below names old new (Err e) does before =
    subst (λ (layer : SumLayer P). (layer.below ≡ below) × Adds (plan below) (added layer)) (sym does.declined) before

pub layered_adds : {P : Type 0} (plan : P → Plan) (below : P) (layer : SumLayer P) → Layered plan below layer
    → (layer.below ≡ below) × Adds (plan below) (added layer)
layered_adds plan below layer (new_layer made) =
    (made.over, subst (λ (s : List (List ℕ)). Adds (plan below) s) (sym made.no_sums) (no_sums_add (plan below)))
layered_adds plan below layer (one_more {old} before names result does) =
    after_adding plan below names old layer result does (layered_adds plan below old before)

pub layered_cells : {P : Type 0} (plan : P → Plan) (below : P) (layer : SumLayer P) → Layered plan below layer
    → (layer_plan plan layer).cells ≡ (plan below).cells
layered_cells plan below layer made = ap (λ p. (plan p).cells) (layered_adds plan below layer made).0

-- the rows below, then all sums
pub layered_rows : {P : Type 0} (plan : P → Plan) (below : P) (layer : SumLayer P) → Layered plan below layer
    → (layer_plan plan layer).rows ≡ (plan below).rows ++ added layer
layered_rows plan below layer made =
    let a = layered_adds plan below layer made in
    let all : counted (plan below) (added layer) ≡ added layer = ap (λ b. cond b (added layer) []) a.1.limits_kept in
    ap (λ p. (plan p).rows ++ counted (plan p) (added layer)) a.0 ∙ ap (λ sums. (plan below).rows ++ sums) all

pub layered_codewords : {P : Type 0} (plan : P → Plan) (below : P) (layer : SumLayer P) → Layered plan below layer
    → (x : List Bool) → codeword (layer_plan plan layer).rows x ≡ codeword (plan below).rows x
layered_codewords plan below layer made x =
    let met = (layered_adds plan below layer made).1.met x in
    ap (λ rows. codeword rows x) (layered_rows plan below layer made)
    ∙ codeword_append (plan below).rows (added layer) x ∙ both (codeword (plan below).rows x) (codeword (added layer) x) met
  where
    both : (a b : Bool) → (a ≡ true → b ≡ true) → (a && b) ≡ a
    both true b m = m refl
    both false b m = refl

pub same_codewords : {P : Type 0} (plan : P → Plan) → LayersKeepCodewords plan
same_codewords plan below layer made =
    record { cells = layered_cells plan below layer made; rows = layered_rows plan below layer made; words = layered_codewords plan below layer made }
