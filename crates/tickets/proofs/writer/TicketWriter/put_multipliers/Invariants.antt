use Rattle.std.proofs.Common.{take}
use Rattle.std.specs.List.{flat_map}
use Rattle.tickets.specs.Tickets.{multiplier_bytes}
use Rattle.tickets.specs.Writers.{Puts}
use Rattle.tickets.proofs.writer.TicketWriter.put_multipliers.Given as goal

abbrev pub invariant-loop-multiplier : goal.invariant-loop-multiplier
invariant-loop-multiplier g l = Puts l.initial.self l.self (flat_map (multiplier_bytes g.W.TicketWeight.codec) (take l.multiplier-index l.multipliers))
