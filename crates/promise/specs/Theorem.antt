-- No false word: what holds of every reading, whatever calls are made.
use Rattle.std.specs.Prelude.{◌≡◌, ℕ, Bool, true, ◌↔◌, List, length, take, ◌≤ℤ◌, IsTrue, IsOk, Some, None, Ok, Option, Result}
use Rattle.refusals.specs.declared.Refusal.{Refusal}
use Rattle.layouts.specs.Plans.{Plan, edges}
use Rattle.weights.specs.Kinds.{Kind, meanings}
use Rattle.dual.specs.Bound.{cost, codeword}
use Rattle.tickets.specs.Codecs.{Codec}
use Rattle.tickets.specs.Packs.{Bits}
use Rattle.model.specs.Words.{bits}
use Rattle.sums.specs.declared.layer.SumLayer.{SumLayer}
use Rattle.sums.specs.Layers.{layer_plan, Layered}
use Rattle.reader.specs.declared.reading.Verdict.{Verdict}
use Rattle.reader.specs.Calls.{State, VerdictDoes, TakeDoes, WriteDoes}
use Rattle.promise.specs.Sessions.{New, Reached}

-- one bit a cell, an even number of them dark in each row
abbrev pub IsCodeword : Plan → List Bool → Type 0
IsCodeword p x = (length x ≡ p.cells) × (codeword p.rows x ≡ true)

-- what floor and ceiling, as verdict gives them now, say of a reading over the plan p with its boards
pub record BoundsHold {L W : Type 0} (kind : Kind W) (p : Plan) (costs : List W) (s : State L W) (v : Verdict W) : Type 0 where
  -- no codeword costs less than the floor
  pub floor : (x : List Bool) → IsCodeword p x → kind.meaning v.bounds.0 ≤ℤ cost (meanings kind costs) x
  -- the kept word, one byte a cell and each 0 or 1, is a codeword and costs the ceiling
  pub bytes : Bits s.boards.word
  pub word : IsCodeword p (bits s.boards.word)
  pub ceiling : cost (meanings kind costs) (bits s.boards.word) ≡ kind.meaning v.bounds.1
  -- met is said exactly when floor and ceiling are equal, and then no codeword costs less than the kept word
  pub met : IsTrue v.met ↔ (kind.meaning v.bounds.0 ≡ kind.meaning v.bounds.1)
  pub cheapest : IsTrue v.met → (x : List Bool) → IsCodeword p x → cost (meanings kind costs) (bits s.boards.word) ≤ℤ cost (meanings kind costs) x

-- at every point: after any calls on a new reading, none included
abbrev pub FloorAndCeiling : {L W : Type 0} → (L → Plan) → Kind W → Option (Codec W) → Type 0
FloorAndCeiling {L} {W} plan kind codec =
    (costs : List W) (layout : L) (s : State L W) (v : Verdict W)
    → Reached plan kind codec costs layout s → VerdictDoes kind s.reading v → BoundsHold kind (plan layout) costs s v

-- two layouts of the same rows over as many cells
abbrev pub SameRows : Plan → Plan → Type 0
SameRows p q = (p.cells ≡ q.cells) × (p.rows ≡ q.rows)

-- a ticket that write gave after any calls, passed at its answered length with a work list of one weight an edge to a new reading
-- of the same rows, kind and costs, over whatever layout, is accepted, and that reading is then met with the same word
abbrev pub TicketIsAccepted : {L P W : Type 0} → (L → Plan) → (P → Plan) → Kind W → Codec W → Type 0
TicketIsAccepted {L} {P} {W} lplan pplan kind codec =
    (costs costs₂ : List W) (layout : L) (other : P) (s : State L W) (new taken : State P W) (out out' : List ℕ) (n : ℕ) (work work' : List W)
    (r : Result (Unit {0}) Refusal) (v : Verdict W)
    → SameRows (lplan layout) (pplan other) → meanings kind costs ≡ meanings kind costs₂
    → Reached lplan kind (Some codec) costs layout s → WriteDoes lplan kind costs codec s out (Ok n) out'
    → New pplan kind costs₂ other new → length work ≡ edges (pplan other).rows
    → TakeDoes pplan kind costs₂ codec (take n out') work new r taken work' → VerdictDoes kind taken.reading v
    → IsOk r × IsTrue v.met × (taken.boards.word ≡ s.boards.word)

-- a reading on a layout, and one of the same kind and costs on a sum layer over a layout of the same rows, after any addings to it,
-- are never both met with different costs, whatever calls were made on each
abbrev pub SumsNeverDisagree : {L P W : Type 0} → (L → Plan) → (P → Plan) → Kind W → Option (Codec W) → Type 0
SumsNeverDisagree {L} {P} {W} lplan pplan kind codec =
    (costs costs₂ : List W) (layout : L) (below : P) (layer : SumLayer P) (s : State L W) (s₂ : State (SumLayer P) W) (v v₂ : Verdict W)
    → SameRows (lplan layout) (pplan below) → Layered pplan below layer → meanings kind costs ≡ meanings kind costs₂
    → Reached lplan kind codec costs layout s → Reached (layer_plan pplan) kind codec costs₂ layer s₂
    → VerdictDoes kind s.reading v → VerdictDoes kind s₂.reading v₂ → IsTrue v.met → IsTrue v₂.met
    → kind.meaning v.bounds.1 ≡ kind.meaning v₂.bounds.1

-- over layouts of any two types, a kind of weights, and a kind that goes on tickets: the latter has take and write among its calls
pub record NoFalseWord {L P W V : Type 0} (lplan : L → Plan) (pplan : P → Plan) (kind : Kind W) (ticket_kind : Kind V) (codec : Codec V) : Type 0 where
  pub floor_and_ceiling : FloorAndCeiling lplan kind None × FloorAndCeiling lplan ticket_kind (Some codec)
  pub ticket : TicketIsAccepted lplan pplan ticket_kind codec
  pub sums : SumsNeverDisagree lplan pplan kind None × SumsNeverDisagree lplan pplan ticket_kind (Some codec)
