-- The number of each refusal, and of an answer that may be one.
use Rattle.std.specs.Prelude.{ℕ, cond, Ok, Err, Result, ◌==◌}
use Rattle.refusals.specs.declared.Refusal.{Refusal}
use Rattle.refusals.specs.declared.Refusal.TheVariants.{LayoutLimits, RowEnds, RowEntries, GridSide, SumsFull, SumRows, SumCells, StepRange, BoardLength, BoardValue, RunCount, OfferedMultipliers, GivenWord, RowUnmet, TicketHead, TicketCounts, TicketForm, TicketFloor, NotMet, OutputShort, GreyLength, WorkLength}

abbrev pub number : Refusal → ℕ
number LayoutLimits = 1
number RowEnds = 2
number RowEntries = 3
number GridSide = 4
number SumsFull = 5
number SumRows = 6
number SumCells = 7
number StepRange = 8
number BoardLength = 9
number BoardValue = 10
number RunCount = 11
number OfferedMultipliers = 12
number GivenWord = 13
number RowUnmet = 14
number TicketHead = 15
number TicketCounts = 16
number TicketForm = 17
number TicketFloor = 18
number NotMet = 19
number OutputShort = 20
number GreyLength = 21
number WorkLength = 22

-- 0 for what is accepted, the refusal's number for what is declined
abbrev pub number_of : {X : Type 0} → Result X Refusal → ℕ
number_of (Ok x) = 0
number_of (Err e) = number e

-- the first of two reasons that holds, 0 where neither does
abbrev pub or_else : ℕ → ℕ → ℕ
or_else a b = cond (a == 0) b a
