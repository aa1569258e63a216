-- Any calls, in any order and number, on a new reading and its boards.
use Rattle.std.specs.Prelude.{◌≡◌, ℕ, List, Some, Ok, Option, Result}
use Rattle.refusals.specs.declared.Refusal.{Refusal}
use Rattle.layouts.specs.Plans.{Plan}
use Rattle.weights.specs.Kinds.{Kind}
use Rattle.tickets.specs.Codecs.{Codec}
use Rattle.reader.specs.declared.reading.Verdict.{Verdict}
use Rattle.reader.specs.declared.steps.StepRule.{StepRule}
use Rattle.reader.specs.Calls.{Boards, State, VerdictDoes, BeginDoes, RunDoes, OfferDoes, ProposeDoes, TakeDoes, WriteDoes}

-- a new reading over the layout, with its boards: begin has just accepted it
pub record New {L W : Type 0} (plan : L → Plan) (kind : Kind W) (costs : List W) (layout : L) (s : State L W) : Type 0 where
  pub given : Boards W
  pub begins : BeginDoes plan kind costs layout given (Ok s.reading) s.boards

-- The kind, how it goes on tickets (if it does), and the costs are the same in all calls.
module _ {L W : Type 0} (plan : L → Plan) (kind : Kind W) (codec : Option (Codec W)) (costs : List W) where
  -- one call, from what reading and boards were to what they are then: whatever its own arguments, and accepted or declined.
  -- A kind that does not go on tickets has no codec, and so no take and no write.
  pub data Call : State L W → State L W → Type 0 where
    run : {s s' : State L W} (rule : StepRule) (count : ℕ) (r : Result ℕ Refusal) → RunDoes plan kind costs rule count s r s' → Call s s'
    offer : {s s' : State L W} (list : List W) (r : Result (Unit {0}) Refusal) → OfferDoes plan kind costs list s r s' → Call s s'
    propose : {s s' : State L W} (word : List ℕ) (r : Result (Unit {0}) Refusal) → ProposeDoes plan kind costs word s r s' → Call s s'
    take : {s s' : State L W} (c : Codec W) → codec ≡ Some c → (ticket : List ℕ) (work work' : List W) (r : Result (Unit {0}) Refusal) → TakeDoes plan kind costs c ticket work s r s' work' → Call s s'
    verdict : {s : State L W} (v : Verdict W) → VerdictDoes kind s.reading v → Call s s
    write : {s : State L W} (c : Codec W) → codec ≡ Some c → (out out' : List ℕ) (r : Result ℕ Refusal) → WriteDoes plan kind costs c s out r out' → Call s s

  -- none, or calls and one more, which finds reading and boards as the one before left them
  pub data Calls : State L W → State L W → Type 0 where
    none : {s : State L W} → Calls s s
    then : {s s' s'' : State L W} → Calls s s' → Call s' s'' → Calls s s''

  -- what a reading over the layout, with its boards, can come to: a new one, after any calls
  pub record Reached (layout : L) (s : State L W) : Type 0 where
    pub start : State L W
    pub new : New plan kind costs layout start
    pub calls : Calls start s
