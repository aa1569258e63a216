-- No refusal has the number 0, which stands for what is accepted.
use Rattle.std.proofs.Common.{◌≡◌, false, eqb, refl}
use Rattle.refusals.specs.Numbers.{number}
use Rattle.refusals.specs.declared.Refusal.{Refusal}
use Rattle.refusals.specs.declared.Refusal.TheVariants.{LayoutLimits, RowEnds, RowEntries, GridSide, SumsFull, SumRows, SumCells, StepRange, BoardLength, BoardValue, RunCount, OfferedMultipliers, GivenWord, RowUnmet, TicketHead, TicketCounts, TicketForm, TicketFloor, NotMet, OutputShort, GreyLength, WorkLength}

pub counted : (e : Refusal) → eqb (number e) 0 ≡ false
counted LayoutLimits = refl
counted RowEnds = refl
counted RowEntries = refl
counted GridSide = refl
counted SumsFull = refl
counted SumRows = refl
counted SumCells = refl
counted StepRange = refl
counted BoardLength = refl
counted BoardValue = refl
counted RunCount = refl
counted OfferedMultipliers = refl
counted GivenWord = refl
counted RowUnmet = refl
counted TicketHead = refl
counted TicketCounts = refl
counted TicketForm = refl
counted TicketFloor = refl
counted NotMet = refl
counted OutputShort = refl
counted GreyLength = refl
counted WorkLength = refl
