use Rattle.std.proofs.Common.{◌≡◌, ◌-◌, length, take}
use Rattle.tickets.specs.Reads.{multipliers_in}
use Rattle.tickets.proofs.Records.{after}
use Rattle.tickets.proofs.multipliers.read_multipliers.Given as goal

abbrev pub invariant-loop-place : goal.invariant-loop-place
invariant-loop-place g l =
    after (take l.place-index l.work) (multipliers_in g.W.Weight.kind g.W.TicketWeight.codec (length l.initial.work - l.place-index) l.left)
    ≡ multipliers_in g.W.Weight.kind g.W.TicketWeight.codec (length l.initial.work) l.part
