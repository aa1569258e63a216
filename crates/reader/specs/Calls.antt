-- What each call does, for every reading, boards and arguments: one definition a call, which its contract cites.
use Rattle.std.specs.Prelude.{◌≡◌, ℕ, List, ◌++◌, length, drop, pos, IfOk, IfErr, Result}
use Rattle.refusals.specs.Numbers.{number_of}
use Rattle.refusals.specs.declared.Refusal.{Refusal}
use Rattle.layouts.specs.Plans.{Plan}
use Rattle.weights.specs.Kinds.{Kind}
use Rattle.tickets.specs.Codecs.{Codec}
use Rattle.model.specs.Model.{Model, equal, fresh}
use Rattle.model.specs.Calls.{begin_refusal, run_refusal, run_after, run_answer, offer_refusal, offer_after, propose_refusal, propose_after, take_refusal, take_after, work_after, ticket_of, write_refusal}
use Rattle.reader.specs.Rules.{step_of}
use Rattle.reader.specs.declared.reading.Progress.{Progress}
use Rattle.reader.specs.declared.reading.Reading.{Reading}
use Rattle.reader.specs.declared.reading.Verdict.{Verdict}
use Rattle.reader.specs.declared.steps.StepRule.{StepRule}

-- the boards that calls change; the costs are only read
pub record Boards (W : Type 0) : Type 0 where
  pub carried : List W
  pub kept : List W
  pub trial : List ℕ
  pub word : List ℕ

abbrev pub boards : {W : Type 0} → List W → List W → List ℕ → List ℕ → Boards W
boards carried kept trial word = record { carried = carried; kept = kept; trial = trial; word = word }

pub record State (L W : Type 0) : Type 0 where
  pub reading : Reading L W
  pub boards : Boards W

abbrev pub state : {L W : Type 0} → Reading L W → Boards W → State L W
state r b = record { reading = r; boards = b }

-- a reading with its boards, floor and ceiling by what they mean
abbrev pub view : {L W : Type 0} → Kind W → State L W → Model W
view k s =
    record {
      rounds = s.reading.rounds;
      floor = k.meaning s.reading.floor;
      ceiling = k.meaning s.reading.ceiling;
      carried = s.boards.carried;
      kept = s.boards.kept;
      trial = s.boards.trial;
      word = s.boards.word;
    }

-- how far a reading has come, with its boards
abbrev pub seen : {W : Type 0} → Kind W → Progress W → Boards W → Model W
seen k p b =
    record {
      rounds = p.rounds;
      floor = k.meaning p.floor;
      ceiling = k.meaning p.ceiling;
      carried = b.carried;
      kept = b.kept;
      trial = b.trial;
      word = b.word;
    }

-- verdict: the pair of floor and ceiling, the rounds, and met exactly when the two mean the same
pub record VerdictDoes {L W : Type 0} (kind : Kind W) (r : Reading L W) (v : Verdict W) : Type 0 where
  pub floor : v.bounds.0 ≡ r.floor
  pub ceiling : v.bounds.1 ≡ r.ceiling
  pub rounds : v.rounds ≡ r.rounds
  pub met : v.met ≡ equal (kind.meaning r.floor) (kind.meaning r.ceiling)

-- a call that answers what `answer` says and makes `after` of the reading and its boards, or is declined with the number and changes nothing
pub record Does {L W X : Type 0} (kind : Kind W) (number : ℕ) (answer : X → Type 0) (after : Model W) (s : State L W) (r : Result X Refusal) (s' : State L W) : Type 0 where
  pub why : number_of r ≡ number
  pub done : IfOk r (λ x. answer x × (view kind s' ≡ after) × (s'.reading.layout ≡ s.reading.layout))
  pub same : IfErr r (λ _. s' ≡ s)

-- of an answer that says nothing
abbrev pub nothing : Unit {0} → Type 0
nothing _ = Unit {0}

module _ {L W : Type 0} (plan : L → Plan) (kind : Kind W) (costs : List W) where
  pub record BeginDoes (layout : L) (b : Boards W) (r : Result (Reading L W) Refusal) (b' : Boards W) : Type 0 where
    pub why : number_of r ≡ begin_refusal kind (plan layout) costs (length b.carried) (length b.kept) (length b.trial) (length b.word)
    pub zero : W
    pub zero_means : kind.meaning zero ≡ pos 0
    pub zero_size : kind.size zero ≡ 0
    pub done : IfOk r (λ x. (view kind (state x b') ≡ fresh kind (plan layout) costs zero) × (x.layout ≡ layout))
    pub same : IfErr r (λ _. b' ≡ b)

  abbrev pub RunDoes : StepRule → ℕ → State L W → Result ℕ Refusal → State L W → Type 0
  RunDoes rule count s r s' =
      Does kind (run_refusal kind (plan s.reading.layout) costs count (view kind s)) (λ n. n ≡ run_answer kind (plan s.reading.layout) costs (step_of rule) count (view kind s))
      (run_after kind (plan s.reading.layout) costs (step_of rule) count (view kind s)) s r s'

  abbrev pub OfferDoes : List W → State L W → Result (Unit {0}) Refusal → State L W → Type 0
  OfferDoes list s r s' =
      Does kind (offer_refusal kind (plan s.reading.layout) costs list (view kind s)) nothing (offer_after kind (plan s.reading.layout) costs list (view kind s)) s r s'

  abbrev pub ProposeDoes : List ℕ → State L W → Result (Unit {0}) Refusal → State L W → Type 0
  ProposeDoes x s r s' =
      Does kind (propose_refusal kind (plan s.reading.layout) costs x (view kind s)) nothing (propose_after kind (plan s.reading.layout) costs x (view kind s)) s r s'

  -- the work list changes even where the call is declined, once the ticket's form has passed
  pub record TakeDoes (c : Codec W) (t : List ℕ) (work : List W) (s : State L W) (r : Result (Unit {0}) Refusal) (s' : State L W) (work' : List W) : Type 0 where
    pub took : Does kind (take_refusal kind (plan s.reading.layout) costs c t (length work) (view kind s)) nothing (take_after kind (plan s.reading.layout) costs c t (view kind s)) s r s'
    pub listed : work' ≡ work_after kind (plan s.reading.layout) costs c t work (view kind s)

  -- the ticket stands at the front of the output, and the bytes behind it stay; reading and boards are only read
  pub record WriteDoes (c : Codec W) (s : State L W) (out : List ℕ) (r : Result ℕ Refusal) (out' : List ℕ) : Type 0 where
    pub why : number_of r ≡ write_refusal kind (plan s.reading.layout) costs c (length out) (view kind s)
    pub done : IfOk r (λ n. (n ≡ length (ticket_of kind (plan s.reading.layout) costs c (view kind s))) × (out' ≡ ticket_of kind (plan s.reading.layout) costs c (view kind s) ++ drop n out))
    pub same : IfErr r (λ _. out' ≡ out)
