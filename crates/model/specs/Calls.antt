-- What each call on a reading declines, and what it makes of the reading and its boards.
use Rattle.std.specs.Prelude.{ℕ, ◌-◌, ◌^◌, Bool, cond, not, ◌||◌, List, length, ◌==◌, nat_lt}
use Rattle.refusals.specs.Numbers.{or_else}
use Rattle.layouts.specs.Plans.{Plan, edges}
use Rattle.weights.specs.Kinds.{Kind}
use Rattle.weights.specs.Sizes.{beyond}
use Rattle.tickets.specs.Packs.{no_bits}
use Rattle.tickets.specs.Codecs.{Codec}
use Rattle.tickets.specs.Reads.{read_refusal, word_read, multipliers_read}
use Rattle.tickets.specs.Tickets.{counts, ticket}
use Rattle.model.specs.Model.{Model, equal, met, floor_of, cost_of, passes, raised, improved, rounds_of}

-- whether the lengths of the five boards (costs, carried and kept multipliers, trial and kept word) are not one a cell or one an edge
abbrev pub misfit : Plan → ℕ → ℕ → ℕ → ℕ → ℕ → Bool
misfit p c a b t w =
    not (c == p.cells)
    || (not (a == edges p.rows) || (not (b == edges p.rows) || (not (t == p.cells) || not (w == p.cells))))

module _ {W : Type 0} (k : Kind W) (p : Plan) (costs : List W) where
  -- begin, given the lengths of the other boards. 9: a board of wrong length; 10: a cost beyond its size
  abbrev pub begin_refusal : ℕ → ℕ → ℕ → ℕ → ℕ
  begin_refusal a b t w = cond (misfit p (length costs) a b t w) 9 (cond (beyond k (2 ^ 16) costs) 10 0)

  -- each call with boards (carried and kept multipliers, trial and kept word). 9: a board of wrong length; 10: a cost or a multiplier beyond its size, or a word byte above 1
  unfoldable pub shape_refusal : List W → List W → List ℕ → List ℕ → ℕ
  shape_refusal carried kept trial word =
      cond (misfit p (length costs) (length carried) (length kept) (length trial) (length word)) 9
      (cond (beyond k (2 ^ 16) costs || (beyond k (2 ^ 18) carried || (beyond k (2 ^ 18) kept || (no_bits trial || no_bits word)))) 10 0)

  abbrev pub boards_refusal : Model W → ℕ
  boards_refusal m = shape_refusal m.carried m.kept m.trial m.word

  -- run. 11: a count outside 1 to 4,096
  abbrev pub run_refusal : ℕ → Model W → ℕ
  run_refusal count m = or_else (boards_refusal m) (cond (nat_lt count 1 || nat_lt 4096 count) 11 0)

  abbrev pub run_after : (ℕ → ℕ) → ℕ → Model W → Model W
  run_after rule count m = rounds_of k p costs rule count m

  -- the rounds that a run makes
  abbrev pub run_answer : (ℕ → ℕ) → ℕ → Model W → ℕ
  run_answer rule count m = (run_after rule count m).rounds - m.rounds

  -- offer. 12: a list that is not one an edge, or beyond size
  abbrev pub offer_refusal : List W → Model W → ℕ
  offer_refusal list m = or_else (boards_refusal m) (cond (not (length list == edges p.rows) || beyond k (2 ^ 18) list) 12 0)

  abbrev pub offer_after : List W → Model W → Model W
  offer_after list m =
      raised k p costs list (record m { carried = list })

  -- propose. 13: a word that is not one byte a cell, or has a byte above 1; 14: a row not met
  abbrev pub propose_refusal : List ℕ → Model W → ℕ
  propose_refusal x m =
      or_else (boards_refusal m) (cond (not (length x == p.cells) || no_bits x) 13 (cond (not (passes k p costs x)) 14 0))

  abbrev pub propose_after : List ℕ → Model W → Model W
  propose_after x m = improved k p costs x m

  module _ (c : Codec W) where
    -- the form of a ticket, with a work list of n weights. 22: a work list that is not one an edge; 15, 16, 17: head, counts, and what follows
    abbrev pub form_refusal : List ℕ → ℕ → Model W → ℕ
    form_refusal t n m = or_else (boards_refusal m) (read_refusal k c (counts p) t n)

    -- the word and the multipliers of a ticket of the right form
    abbrev pub ticket_word : List ℕ → List ℕ
    ticket_word t = word_read (counts p) t

    abbrev pub ticket_multipliers : List ℕ → List W
    ticket_multipliers t = multipliers_read k c (counts p) t

    -- take. After the form, 14: a row that the word does not meet; 18: the floor of its multipliers is not its word's cost
    abbrev pub take_refusal : List ℕ → ℕ → Model W → ℕ
    take_refusal t n m =
        or_else (form_refusal t n m)
        (cond (not (passes k p costs (ticket_word t))) 14
        (cond (not (equal (floor_of k p costs (ticket_multipliers t)) (cost_of k p costs (ticket_word t)))) 18 0))

    abbrev pub take_after : List ℕ → Model W → Model W
    take_after t m = improved k p costs (ticket_word t) (raised k p costs (ticket_multipliers t) m)

    -- the work list: as it was until the form has passed, then the ticket's multipliers
    abbrev pub work_after : List ℕ → List W → Model W → List W
    work_after t work m = cond (form_refusal t (length work) m == 0) (ticket_multipliers t) work

    -- write, into an output of n bytes. 19: not met; 20: an output that is too short
    abbrev pub ticket_of : Model W → List ℕ
    ticket_of m = ticket c (counts p) m.word m.kept

    abbrev pub write_refusal : ℕ → Model W → ℕ
    write_refusal n m = or_else (boards_refusal m) (cond (not (met m)) 19 (cond (nat_lt n (length (ticket_of m))) 20 0))
