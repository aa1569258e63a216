-- What the check of a call's boards leaves for the rounds and the other parts.
use Rattle.std.proofs.Common.{◌≡◌, ℕ, ◌^◌, ◌≤◌, true, false, List, length, refl, sym, ◌∙◌, arith}
use Rattle.std.proofs.lemmas.Bool.{or_from, not_from_true}
use Rattle.layouts.specs.Plans.{Plan, edges}
use Rattle.weights.specs.Kinds.{Kind}
use Rattle.weights.specs.Sizes.{beyond}
use Rattle.weights.proofs.Limits.{not_beyond}
use Rattle.tickets.specs.Packs.{no_bits}
use Rattle.dual.specs.Bound.{codeword}
use Rattle.model.specs.Words.{bits}
use Rattle.model.specs.Model.{Model, passes}
use Rattle.model.specs.Calls.{boards_refusal, propose_refusal}
use Rattle.model.proofs.Orders.{no_reason, passing}
use Rattle.model.proofs.Boards.{Fitting, same_long, fits}
use Rattle.reader.specs.Boards.{Fit}
use Rattle.reader.specs.Sizes.{total_size}
use Rattle.reader.proofs.Fits.{costs_total}

module _ {W : Type 0} (k : Kind W) (p : Plan) (costs : List W) (m : Model W) (e : boards_refusal k p costs m ≡ 0) where
  pub all_fit : Fitting k p costs m
  all_fit = fits k p costs m e

  pub given_fit : Fit k p costs m.carried
  given_fit =
      record {
        costs_long = all_fit.costs.long;
        multipliers_long = all_fit.carried.long;
        costs_small = not_beyond k (2 ^ 16) costs all_fit.costs.small;
        multipliers_small = not_beyond k (2 ^ 18) m.carried all_fit.carried.small;
      }

  pub given_kept : length m.kept ≡ length m.carried
  given_kept = all_fit.kept.long ∙ sym all_fit.carried.long

  pub given_trial : length m.trial ≡ length costs
  given_trial = all_fit.trial.long ∙ sym all_fit.costs.long

  pub given_word : length m.word ≡ length costs
  given_word = all_fit.word.long ∙ sym all_fit.costs.long

  pub given_list : (list : List W) → length list ≡ edges p.rows → beyond k (2 ^ 18) list ≡ false → Fit k p costs list
  given_list list long small =
      record {
        costs_long = all_fit.costs.long;
        multipliers_long = long;
        costs_small = not_beyond k (2 ^ 16) costs all_fit.costs.small;
        multipliers_small = not_beyond k (2 ^ 18) list small;
      }

  pub given_total : total_size k costs ≤ 2 ^ 30
  given_total = let t = costs_total k p costs all_fit.costs.long (not_beyond k (2 ^ 16) costs all_fit.costs.small) in omega arith

  -- a codeword is not declined
  pub proposed : (x : List ℕ) → length x ≡ p.cells → no_bits x ≡ false → codeword p.rows (bits x) ≡ true → 0 ≡ propose_refusal k p costs x m
  unfolding passes
  proposed x long b meets = sym (no_reason _ _ e (passing _ 13 _ (or_from _ _ (same_long _ _ long) b) (passing _ 14 0 (not_from_true _ meets) refl)))
