-- What holds of a new reading, and is kept by every call, holds of every reading.
use Rattle.std.proofs.Common.{◌≡◌, ℕ, ◌≤◌, List, length, Ok, Err, Option, Result, sym, ◌∙◌, subst, arith}
use Rattle.refusals.specs.declared.Refusal.{Refusal}
use Rattle.layouts.specs.Plans.{Plan}
use Rattle.weights.specs.Kinds.{Kind}
use Rattle.tickets.specs.Codecs.{Codec}
use Rattle.model.specs.Model.{Model, fresh}
use Rattle.model.proofs.Invariant.{Inv, inv_fresh, inv_rounds, inv_offer, inv_propose}
use Rattle.model.proofs.Takes.{inv_take}
use Rattle.reader.specs.declared.steps.StepRule.{StepRule}
use Rattle.reader.specs.declared.steps.StepRule.TheVariants.{Constant, Divided}
use Rattle.reader.specs.Rules.{step_of}
use Rattle.reader.specs.Calls.{State, view, Does}
use Rattle.promise.specs.Sessions.{New, Call, Calls, Reached}
use Rattle.promise.specs.Sessions.Call.{run, offer, propose, take, verdict, write}
use Rattle.promise.specs.Sessions.Calls.{none, then}

-- the step of every round is within its limits
steps_within : (rule : StepRule) (n : ℕ) → (1 ≤ step_of rule n) × (step_of rule n ≤ 4096)
steps_within (Constant s) n = s.within
steps_within (Divided s) n = let h = s.within in (omega arith, omega arith)

module _ {L W : Type 0} (plan : L → Plan) (kind : Kind W) (costs : List W) where
  abbrev Holds : L → State L W → Type 0
  Holds layout s = (s.reading.layout ≡ layout) × Inv kind (plan s.reading.layout) costs (view kind s)

  -- a call that keeps the invariant where it is accepted keeps it
  kept : {X : Type 0} (number : ℕ) (answer : X → Type 0) (after : Model W) (layout : L) (s s' : State L W) (r : Result X Refusal)
      → Does kind number answer after s r s' → (number ≡ 0 → Inv kind (plan s.reading.layout) costs after) → Holds layout s → Holds layout s'
  kept number answer after layout s s' (Ok x) d keeps h =
      let i : Inv kind (plan s.reading.layout) costs (view kind s') = subst (λ (m : Model W). Inv kind (plan s.reading.layout) costs m) (sym d.done.1) (keeps (sym d.why)) in
      (d.done.2 ∙ h.0, subst (λ (l : L). Inv kind (plan l) costs (view kind s')) (sym d.done.2) i)
  kept number answer after layout s s' (Err e) d keeps h = subst (λ (t : State L W). Holds layout t) (sym d.same) h

  call_keeps : (codec : Option (Codec W)) (layout : L) {s s' : State L W} → Call plan kind codec costs s s' → Holds layout s → Holds layout s'
  call_keeps codec layout {s} {s'} (run rule count r d) h =
      kept _ _ _ layout s s' r d (λ e. inv_rounds kind _ costs (step_of rule) (steps_within rule) count (view kind s) h.1) h
  call_keeps codec layout {s} {s'} (offer list r d) h = kept _ _ _ layout s s' r d (λ e. inv_offer kind _ costs list (view kind s) e h.1) h
  call_keeps codec layout {s} {s'} (propose x r d) h = kept _ _ _ layout s s' r d (λ e. inv_propose kind _ costs x (view kind s) e h.1) h
  call_keeps codec layout {s} {s'} (take c e t work work' r d) h = kept _ _ _ layout s s' r d.took (λ z. inv_take kind _ costs c t (length work) (view kind s) z h.1) h
  call_keeps codec layout (verdict v d) h = h
  call_keeps codec layout (write c e out out' r d) h = h

  calls_keep : (codec : Option (Codec W)) (layout : L) {s s' : State L W} → Calls plan kind codec costs s s' → Holds layout s → Holds layout s'
  calls_keep codec layout none h = h
  calls_keep codec layout (then cs c) h = call_keeps codec layout c (calls_keep codec layout cs h)

  pub new_is : (layout : L) (s : State L W) (new : New plan kind costs layout s) → (s.reading.layout ≡ layout) × (view kind s ≡ fresh kind (plan layout) costs new.begins.zero)
  new_is layout s new = (new.begins.done.1, new.begins.done.0)

  new_holds : (layout : L) (s : State L W) → New plan kind costs layout s → Holds layout s
  new_holds layout s new =
      let d = new.begins in
      let b = new.given in
      let i : Inv kind (plan layout) costs (view kind s) = subst (λ (m : Model W). Inv kind (plan layout) costs m) (sym d.done.0)
      (inv_fresh kind (plan layout) costs d.zero d.zero_size (length b.carried) (length b.kept) (length b.trial) (length b.word) (sym d.why)) in
      (d.done.1, subst (λ (l : L). Inv kind (plan l) costs (view kind s)) (sym d.done.1) i)

  -- after any calls the layout is that of begin, and the invariant holds
  pub reached_keeps : (codec : Option (Codec W)) (layout : L) (s : State L W) → Reached plan kind codec costs layout s → (s.reading.layout ≡ layout) × Inv kind (plan layout) costs (view kind s)
  reached_keeps codec layout s d =
      let h = calls_keep codec layout d.calls (new_holds layout d.start d.new) in
      (h.0, subst (λ (l : L). Inv kind (plan l) costs (view kind s)) h.0 h.1)
