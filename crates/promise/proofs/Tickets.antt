-- A ticket that was written after any calls is taken by a new reading of the same rows and costs.
use Rattle.std.proofs.Common.{◌≡◌, ℕ, true, not, eqb, List, length, take, drop, Ok, Err, Some, Result, IsOk, sym, refl, ap, ◌∙◌, subst}
use Rattle.std.proofs.Math.Seq.{take-append_seam}
use Rattle.std.proofs.lemmas.Bool.{both_ways, eq-eqb, not-false}
use Rattle.refusals.specs.Numbers.{number}
use Rattle.refusals.specs.declared.Refusal.{Refusal}
use Rattle.refusals.proofs.Counted.{counted}
use Rattle.layouts.specs.Plans.{Plan}
use Rattle.weights.specs.Kinds.{Kind}
use Rattle.tickets.specs.Codecs.{Codec}
use Rattle.model.specs.Model.{Model, met, fresh}
use Rattle.model.specs.Calls.{boards_refusal, ticket_of, take_after}
use Rattle.model.proofs.Orders.{neither, passed}
use Rattle.model.proofs.Invariant.{Inv}
use Rattle.model.proofs.Takes.{Taken, ticket_accepted}
use Rattle.reader.specs.Calls.{State, view, nothing, Does, WriteDoes}
use Rattle.promise.specs.Theorem.{TicketIsAccepted}
use Rattle.promise.proofs.Sessions.{reached_keeps, new_is}

-- what is written is the ticket of a reading that is met
module _ {L W : Type 0} (plan : L → Plan) (kind : Kind W) (costs : List W) (c : Codec W) (layout : L) (s : State L W) (over : s.reading.layout ≡ layout) (out out' : List ℕ) (n : ℕ) (d : WriteDoes plan kind costs c s out (Ok n) out') where
  wrote_met : met (view kind s) ≡ true
  wrote_met = not-false _ (passed (not (met (view kind s))) 18 _ (neither (boards_refusal kind (plan s.reading.layout) costs (view kind s)) _ (sym d.why)).1).0

  wrote_ticket : take n out' ≡ ticket_of kind (plan layout) costs c (view kind s)
  wrote_ticket =
      ap (λ m. take m out') d.done.0 ∙ ap (take (length (ticket_of kind (plan s.reading.layout) costs c (view kind s)))) d.done.1
      ∙ take-append_seam (ticket_of kind (plan s.reading.layout) costs c (view kind s)) (drop n out) ∙ ap (λ l. ticket_of kind (plan l) costs c (view kind s)) over

-- a call that no refusal declines is accepted
accepted : {L W X : Type 0} (kind : Kind W) (refusal : ℕ) (answer : X → Type 0) (after : Model W) (s s' : State L W) (r : Result X Refusal)
    → Does kind refusal answer after s r s' → refusal ≡ 0 → IsOk r × (view kind s' ≡ after)
accepted kind n answer after s s' (Ok x) d e = (refl, d.done.1)
accepted kind n answer after s s' (Err e) d z = absurd (both_ways (eqb (number e) 0) (counted e) (eq-eqb (number e) 0 (d.why ∙ z)))

module _ {L P W : Type 0} (lplan : L → Plan) (pplan : P → Plan) (kind : Kind W) (c : Codec W) where
  pub ticket_is_accepted : TicketIsAccepted lplan pplan kind c
  ticket_is_accepted costs costs₂ layout other s new taken out out' n work work' r v same equal reached wrote fresh_one few took says =
      (after.0, says.met ∙ ap met after.1 ∙ there.is_met, ap (λ m. m.word) after.1 ∙ there.word)
    where
      kept : (s.reading.layout ≡ layout) × Inv kind (lplan layout) costs (view kind s)
      kept = reached_keeps lplan kind costs (Some c) layout s reached

      is : (new.reading.layout ≡ other) × (view kind new ≡ fresh kind (pplan other) costs₂ fresh_one.begins.zero)
      is = new_is pplan kind costs₂ other new fresh_one

      by_ticket : Taken kind (pplan other) costs₂ c (ticket_of kind (lplan layout) costs c (view kind s)) (length work) (fresh kind (pplan other) costs₂ fresh_one.begins.zero) s.boards.word
      by_ticket =
          ticket_accepted kind c (lplan layout) (pplan other) costs costs₂ same.0 same.1 equal fresh_one.begins.zero fresh_one.begins.zero_size
          (view kind s) kept.1 (wrote_met lplan kind costs c layout s kept.0 out out' n wrote)
          (length fresh_one.given.carried) (length fresh_one.given.kept) (length fresh_one.given.trial) (length fresh_one.given.word) (sym fresh_one.begins.why)
          (length work) few

      by_bytes : Taken kind (pplan other) costs₂ c (take n out') (length work) (fresh kind (pplan other) costs₂ fresh_one.begins.zero) s.boards.word
      by_bytes = subst (λ (t : List ℕ). Taken kind (pplan other) costs₂ c t (length work) (fresh kind (pplan other) costs₂ fresh_one.begins.zero) s.boards.word) (sym (wrote_ticket lplan kind costs c layout s kept.0 out out' n wrote)) by_ticket

      by_view : Taken kind (pplan other) costs₂ c (take n out') (length work) (view kind new) s.boards.word
      by_view = subst (λ (m : Model W). Taken kind (pplan other) costs₂ c (take n out') (length work) m s.boards.word) (sym is.1) by_bytes

      there : Taken kind (pplan new.reading.layout) costs₂ c (take n out') (length work) (view kind new) s.boards.word
      there = subst (λ (l : P). Taken kind (pplan l) costs₂ c (take n out') (length work) (view kind new) s.boards.word) (sym is.0) by_view

      after : IsOk r × (view kind taken ≡ take_after kind (pplan new.reading.layout) costs₂ c (take n out') (view kind new))
      after = accepted kind _ nothing _ new taken r took.took there.accepted
