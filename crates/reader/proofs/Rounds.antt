-- A round and its parts, once floor, trial word and choices have been worked out.
use Rattle.std.proofs.Common.{◌≡◌, ℕ, zero, suc, ◌+◌, ◌^◌, ◌≤◌, leb, ◌<◌, Bool, true, false, ◌&&◌, ◌||◌, cond, ◌⊎◌, inl, inr, List, [], ◌∷◌, length, ℤ, refl, sym, ap, ◌∙◌, arith}
use Rattle.std.proofs.lemmas.Bool.{cond-true, cond-false, or_from, le-ltb, le-leb, lt-leb}
use Rattle.std.specs.Prelude.{int_lt}
use Rattle.layouts.specs.Plans.{Plan, edge_cells}
use Rattle.weights.specs.Kinds.{Kind, meanings}
use Rattle.dual.specs.Choice.{pick}
use Rattle.dual.specs.Bound.{floor, trial_word, at, codeword, choices}
use Rattle.model.specs.Words.{bytes, bits}
use Rattle.model.specs.Moves.{moved_edges}
use Rattle.model.specs.Model.{Model, met, rounds_of, floor_of, trial_of, cost_of, passes, moves, raised_to, lowered_to, with_word, raised, improved, moved_on, round}
use Rattle.weights.specs.Sizes.{beyond, Within}
use Rattle.weights.proofs.Limits.{not_beyond}
use Rattle.model.proofs.Turns.{moves_fit}
use Rattle.reader.specs.Boards.{Fit}
use Rattle.reader.proofs.Turns.{bits_bytes}

module _ {W : Type 0} (k : Kind W) (p : Plan) (costs : List W) where
  -- a codeword, and a word that is none
  pub improved_by : (x : List ℕ) (z : ℤ) (m : Model W) → codeword p.rows (bits x) ≡ true → z ≡ pick (bits x) (meanings k costs) → lowered_to z x m ≡ improved k p costs x m
  unfolding passes cost_of
  improved_by x z m e v =
      ap (λ y. lowered_to y x m) v
      ∙ ap (λ b. cond (b && int_lt (pick (bits x) (meanings k costs)) m.ceiling) (with_word (pick (bits x) (meanings k costs)) x m) m) (sym e)

  pub improved_not : (x : List ℕ) (m : Model W) → codeword p.rows (bits x) ≡ false → m ≡ improved k p costs x m
  unfolding passes cost_of
  improved_not x m e = ap (λ b. cond (b && int_lt (pick (bits x) (meanings k costs)) m.ceiling) (with_word (pick (bits x) (meanings k costs)) x m) m) (sym e)

  pub moves_are : (ms moved : List W) (step : ℕ) (x marks : List ℕ) → marks ≡ bytes (choices p.rows (meanings k ms))
      → moved ≡ moved_edges k step (at (bits x) (edge_cells p.rows)) (bits marks) ms → moved ≡ moves k p costs step x ms
  unfolding moves
  moves_are ms moved step x marks em es =
      es ∙ ap (λ z. moved_edges k step (at (bits x) (edge_cells p.rows)) z ms) (ap bits em ∙ bits_bytes (choices p.rows (meanings k ms)))

  pub round_is : (m r i : Model W) (step : ℕ) (x : List ℕ) (moved : List W) (f : ℤ) → f ≡ floor p.rows (meanings k costs) (meanings k m.carried)
      → x ≡ bytes (trial_word p.rows (meanings k costs) (meanings k m.carried)) → moved ≡ moves k p costs step x m.carried → i.carried ≡ m.carried
      → r ≡ raised_to f m.carried m → i ≡ improved k p costs x r
      → record i { rounds = i.rounds + 1; carried = moved; trial = x } ≡ round k p costs step m
  unfolding floor_of trial_of
  round_is m r i step x moved f ef ex a ec er ei =
      ap (λ c. record i { rounds = i.rounds + 1; carried = c; trial = x }) (a ∙ ap (moves k p costs step x) (sym ec))
      ∙ ap (moved_on k p costs step x) (ei ∙ ap (improved k p costs x) (er ∙ ap (λ z. raised_to z m.carried m) ef))
      ∙ ap (λ y. moved_on k p costs step y (improved k p costs y (raised k p costs m.carried m))) ex

  -- ---- several rounds
  pub one_round : (rule : ℕ → ℕ) (n : ℕ) (m : Model W) → (met m || leb 4096 m.rounds) ≡ false
      → rounds_of k p costs rule (suc n) m ≡ rounds_of k p costs rule n (round k p costs (rule (m.rounds + 1)) m)
  unfolding rounds_of
  one_round rule n m e = cond-false _ _ _ e

  pub no_round : (rule : ℕ → ℕ) (n : ℕ) (m : Model W) → (met m || leb 4096 m.rounds) ≡ true → rounds_of k p costs rule n m ≡ m
  unfolding rounds_of
  no_round rule zero m e = refl
  no_round rule (suc n) m e = cond-true _ _ _ e

  pub none_left : (rule : ℕ → ℕ) (m : Model W) → rounds_of k p costs rule 0 m ≡ m
  unfolding rounds_of
  none_left rule m = refl

  -- the test of the code, and that of the definition
  pub stops : (m : Model W) (b : Bool) → b ≡ met m → (b ≡ true) ⊎ ((b ≡ false) × (4096 ≤ m.rounds)) → (met m || leb 4096 m.rounds) ≡ true
  stops m b e (inl t) = ap (λ v. v || leb 4096 m.rounds) (sym e ∙ t)
  stops m b e (inr (f, l)) = ap (λ v. v || leb 4096 m.rounds) (sym e ∙ f) ∙ le-leb 4096 m.rounds l

  pub goes_on : (m : Model W) (b : Bool) → b ≡ met m → b ≡ false → m.rounds < 4096 → (met m || leb 4096 m.rounds) ≡ false
  goes_on m b e f l = ap (λ v. v || leb 4096 m.rounds) (sym e ∙ f) ∙ lt-leb 4096 m.rounds l

module _ {W : Type 0} (k : Kind W) where
  pub not_larger : (limit : ℕ) (ws : List W) → Within k limit ws → beyond k limit ws ≡ false
  not_larger limit [] f = refl
  not_larger limit (w ∷ ws) f = or_from _ _ (le-ltb _ _ (f 0 w (omega arith))) (not_larger limit ws (λ i d h. f (suc i) d (omega arith)))

  -- multipliers that have moved fit as before
  pub moved_fit : (p : Plan) (costs ms new : List W) (step : ℕ) (x : List ℕ) → 1 ≤ step → step ≤ 4096 → Fit k p costs ms → new ≡ moves k p costs step x ms → Fit k p costs new
  moved_fit p costs ms new step x l h f e =
      let m = moves_fit k p costs step l h x ms (record { long = f.multipliers_long; small = not_larger (2 ^ 18) ms f.multipliers_small }) in
      record {
        costs_long = f.costs_long;
        multipliers_long = ap length e ∙ m.long;
        costs_small = f.costs_small;
        multipliers_small = not_beyond k (2 ^ 18) new (ap (beyond k (2 ^ 18)) e ∙ m.small);
      }
