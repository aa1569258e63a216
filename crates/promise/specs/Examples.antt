-- Worked row choices and readings: one table, by computation over the definitions that the calls' contracts cite.
use Rattle.std.specs.Prelude.{◌≡◌, ℕ, Bool, true, false, List, [], ◌∷◌, map, ℤ, pos, neg_ℤ, refl}
use Rattle.std.proofs.Common.{lit≤}
use Rattle.layouts.specs.Plans.{Plan}
use Rattle.layouts.specs.ListPlan.{listed_plan}
use Rattle.weights.specs.Kinds.{Kind, meanings}
use Rattle.weights.specs.Paireds.{paired_kind, paired_of}
use Rattle.weights.specs.Plains.{plain_kind, plain_of}
use Rattle.weights.specs.declared.plain.Plain.{Plain}
use Rattle.dual.specs.Choice.{chosen, least}
use Rattle.tickets.specs.Kinds.{plain_codec}
use Rattle.reader.specs.Rules.{step_of}
use Rattle.reader.specs.declared.steps.StepRule.{StepRule}
use Rattle.reader.specs.declared.steps.StepRule.TheVariants.{Constant}
use Rattle.model.specs.Model.{Model, met, floor_of, fresh}
use Rattle.model.specs.Calls.{run_refusal, run_after, run_answer, propose_refusal, propose_after, ticket_of, write_refusal}

abbrev pub minus : ℕ → ℤ
minus n = neg_ℤ (pos n)

-- the multipliers of a row, its choice, and its least sum
abbrev pub Row : List ℤ → List Bool → ℤ → Type 0
Row ms choice sum = (chosen ms ≡ choice) × (least ms ≡ sum)

-- one row of three cells; one cell, and two, without a row
abbrev pub one_row : Plan
one_row = listed_plan 3 (3 ∷ []) (0 ∷ 1 ∷ 2 ∷ []) refl

abbrev pub one_cell : Plan
one_cell = listed_plan 1 [] [] refl

abbrev pub two_cells : Plan
two_cells = listed_plan 2 [] [] refl

-- a new reading with plain costs
abbrev pub plains : List ℤ → List Plain
plains costs = map plain_of costs

abbrev pub begun : Plan → List ℤ → Model Plain
begun p costs = fresh plain_kind p (plains costs) (plain_of (pos 0))

-- rules of a constant step
abbrev pub step_one : StepRule
step_one = Constant (record { size = 1; within = (lit≤ tt, lit≤ tt) })

abbrev pub step_two : StepRule
step_two = Constant (record { size = 2; within = (lit≤ tt, lit≤ tt) })

abbrev pub step_five : StepRule
step_five = Constant (record { size = 5; within = (lit≤ tt, lit≤ tt) })

-- what it is after a run
abbrev pub ran : Plan → List ℤ → StepRule → ℕ → Model Plain
ran p costs rule count = run_after plain_kind p (plains costs) (step_of rule) count (begun p costs)

-- the run is accepted, and makes so many rounds
abbrev pub Makes : Plan → List ℤ → StepRule → ℕ → ℕ → Type 0
Makes p costs rule count rounds =
    (run_refusal plain_kind p (plains costs) count (begun p costs) ≡ 0) × (run_answer plain_kind p (plains costs) (step_of rule) count (begun p costs) ≡ rounds)

-- the floor, the ceiling, whether they have met, and the kept word
abbrev pub Shows : {W : Type 0} → Model W → ℤ → ℤ → Bool → List ℕ → Type 0
Shows m floor ceiling is_met word = (m.floor ≡ floor) × (m.ceiling ≡ ceiling) × (met m ≡ is_met) × (m.word ≡ word)

-- on two cells without a row, 11 and then 10 are proposed to a new reading, and accepted; one of them is then the kept word
module _ {W : Type 0} (kind : Kind W) (costs : List W) (zero : W) where
  abbrev pub first : Model W
  first = propose_after kind two_cells costs (1 ∷ 1 ∷ []) (fresh kind two_cells costs zero)

  abbrev pub Keeps : List ℕ → Type 0
  Keeps word =
      (propose_refusal kind two_cells costs (1 ∷ 1 ∷ []) (fresh kind two_cells costs zero) ≡ 0) × (first.word ≡ 1 ∷ 1 ∷ [])
      × (propose_refusal kind two_cells costs (1 ∷ 0 ∷ []) first ≡ 0) × ((propose_after kind two_cells costs (1 ∷ 0 ∷ []) first).word ≡ word)

-- the costs over the row of three cells
abbrev pub costs : List ℤ
costs = minus 5 ∷ pos 3 ∷ pos 4 ∷ []

-- after at most 4,096 rounds of step 2
abbrev pub stepped : Model Plain
stepped = ran one_row costs step_two 4096

pub record Examples : Type 0 where
  pub zeros : Row (pos 0 ∷ pos 0 ∷ pos 0 ∷ []) (false ∷ false ∷ false ∷ []) (pos 0)
  pub free : Row (minus 2 ∷ pos 0 ∷ pos 0 ∷ []) (true ∷ true ∷ false ∷ []) (minus 2)
  pub tie : Row (minus 2 ∷ pos 2 ∷ pos 2 ∷ []) (false ∷ false ∷ false ∷ []) (pos 0)
  pub pair : Row (minus 1 ∷ minus 1 ∷ pos 3 ∷ []) (true ∷ true ∷ false ∷ []) (minus 2)
  pub single : Row (minus 1 ∷ []) (false ∷ []) (pos 0)
  -- costs -5, 3, 4 over one row of three cells
  pub new : Shows (begun one_row costs) (minus 5) (pos 0) false (0 ∷ 0 ∷ 0 ∷ [])
  -- step 2 is met after 8 rounds
  pub eight : Makes one_row costs step_two 4096 8
  pub met : Shows stepped (minus 2) (minus 2) true (1 ∷ 1 ∷ 0 ∷ [])
  pub kept : meanings plain_kind stepped.kept ≡ minus 4 ∷ pos 4 ∷ pos 4 ∷ []
  pub carried : meanings plain_kind stepped.carried ≡ minus 6 ∷ pos 2 ∷ pos 4 ∷ []
  -- its ticket: 4C48 00 03 01 0003, 4C57 C0, 4C4D FFFFFFFC, 4C4D 00000004, 4C4D 00000004
  pub written : write_refusal plain_kind one_row (plains costs) plain_codec 28 stepped ≡ 0
  pub ticket : ticket_of plain_kind one_row (plains costs) plain_codec stepped
      ≡ 0x4C ∷ 0x48 ∷ 0x00 ∷ 0x03 ∷ 0x01 ∷ 0x00 ∷ 0x03
      ∷ 0x4C ∷ 0x57 ∷ 0xC0
      ∷ 0x4C ∷ 0x4D ∷ 0xFF ∷ 0xFF ∷ 0xFF ∷ 0xFC
      ∷ 0x4C ∷ 0x4D ∷ 0x00 ∷ 0x00 ∷ 0x00 ∷ 0x04
      ∷ 0x4C ∷ 0x4D ∷ 0x00 ∷ 0x00 ∷ 0x00 ∷ 0x04 ∷ []
  -- round 5 has the floor -3, round 6 the floor -4, and the reading's stays -3
  pub fifth : floor_of plain_kind one_row (plains costs) (ran one_row costs step_two 4).carried ≡ minus 3
  pub sixth : floor_of plain_kind one_row (plains costs) (ran one_row costs step_two 5).carried ≡ minus 4
  pub best_floor : Shows (ran one_row costs step_two 6) (minus 3) (minus 2) false (1 ∷ 1 ∷ 0 ∷ [])
  -- step 5 is open after 2 rounds, though the trial word meets the row
  pub two : Makes one_row costs step_five 2 2
  pub trial : (ran one_row costs step_five 2).trial ≡ 0 ∷ 0 ∷ 0 ∷ []
  pub not_met : Shows (ran one_row costs step_five 2) (minus 5) (pos 0) false (0 ∷ 0 ∷ 0 ∷ [])
  -- costs -1, 2 without a row are met after 1 round
  pub one : Makes two_cells (minus 1 ∷ pos 2 ∷ []) step_one 4096 1
  pub rowless : Shows (ran two_cells (minus 1 ∷ pos 2 ∷ []) step_one 4096) (minus 1) (minus 1) true (1 ∷ 0 ∷ [])
  -- cost 0 in one cell is met when it begins
  pub at_begin : Shows (begun one_cell (pos 0 ∷ [])) (pos 0) (pos 0) true (0 ∷ [])
  pub none : Makes one_cell (pos 0 ∷ []) step_one 4096 0
  -- paired costs (-1, 1) and (0, 1): the word with fewer dark cells is cheaper, as it is not with plain -1 and 0
  pub fewer_dark : Keeps paired_kind (paired_of (minus 1) (pos 1) ∷ paired_of (pos 0) (pos 1) ∷ []) (paired_of (pos 0) (pos 0)) (1 ∷ 0 ∷ [])
  pub first_stays : Keeps plain_kind (plains (minus 1 ∷ pos 0 ∷ [])) (plain_of (pos 0)) (1 ∷ 1 ∷ [])
