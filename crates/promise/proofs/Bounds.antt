-- Floor and ceiling, and what it means that they have met.
use Rattle.std.proofs.Common.{◌≡◌, Bool, true, List, Option, ◌≤ℤ◌, sym, ap, ◌∙◌, subst}
use Rattle.std.proofs.lemmas.List.{length-map}
use Rattle.layouts.specs.Plans.{Plan}
use Rattle.weights.specs.Kinds.{Kind, meanings}
use Rattle.dual.specs.Bound.{cost, codeword}
use Rattle.tickets.specs.Codecs.{Codec}
use Rattle.tickets.proofs.Packing.{bits_from}
use Rattle.model.specs.Words.{bits, marked}
use Rattle.model.specs.Model.{passes, cost_of}
use Rattle.model.proofs.Orders.{equal_yes, equal_from}
use Rattle.model.proofs.Invariant.{Inv, fitting, under}
use Rattle.reader.specs.declared.reading.Verdict.{Verdict}
use Rattle.reader.specs.Calls.{State, view, VerdictDoes}
use Rattle.promise.specs.Theorem.{IsCodeword, BoundsHold, FloorAndCeiling}
use Rattle.promise.proofs.Sessions.{reached_keeps}

module _ {L W : Type 0} (kind : Kind W) (p : Plan) (costs : List W) (s : State L W) (v : Verdict W) (i : Inv kind p costs (view kind s)) (d : VerdictDoes kind s.reading v) where
  floor_is : kind.meaning v.bounds.0 ≡ kind.meaning s.reading.floor
  floor_is = ap kind.meaning d.floor

  ceiling_is : kind.meaning v.bounds.1 ≡ kind.meaning s.reading.ceiling
  ceiling_is = ap kind.meaning d.ceiling

  floor_below : (x : List Bool) → IsCodeword p x → kind.meaning v.bounds.0 ≤ℤ cost (meanings kind costs) x
  floor_below x w = subst (λ z. z ≤ℤ cost (meanings kind costs) x) (sym floor_is) (under kind p costs (view kind s) i x w.0 w.1)

  word_costs : cost (meanings kind costs) (bits s.boards.word) ≡ kind.meaning v.bounds.1
  unfolding cost_of
  word_costs = i.word_costs ∙ sym ceiling_is

  word_meets : codeword p.rows (bits s.boards.word) ≡ true
  unfolding passes
  word_meets = i.is_word

  met_says : v.met ≡ true → kind.meaning v.bounds.0 ≡ kind.meaning v.bounds.1
  met_says e = floor_is ∙ equal_yes _ _ (sym d.met ∙ e) ∙ sym ceiling_is

  said_met : kind.meaning v.bounds.0 ≡ kind.meaning v.bounds.1 → v.met ≡ true
  said_met e = d.met ∙ equal_from _ _ (sym floor_is ∙ e ∙ ceiling_is)

  pub bounds_hold : BoundsHold kind p costs s v
  bounds_hold =
      record {
        floor = floor_below;
        bytes = bits_from s.boards.word (fitting kind p costs (view kind s) i).word.bits;
        word = (length-map s.boards.word marked ∙ (fitting kind p costs (view kind s) i).word.long, word_meets);
        ceiling = word_costs;
        met = (met_says, said_met);
        cheapest = λ t x w. subst (λ z. z ≤ℤ cost (meanings kind costs) x) (met_says t ∙ sym word_costs) (floor_below x w);
      }

pub floor_and_ceiling : {L W : Type 0} (plan : L → Plan) (kind : Kind W) (codec : Option (Codec W)) → FloorAndCeiling plan kind codec
floor_and_ceiling plan kind codec costs layout s v r d = bounds_hold kind (plan layout) costs s v (reached_keeps plan kind costs codec layout s r).1 d
