use Rattle.tickets.proofs.Whole.{only_written, never_alike}
use Rattle.tickets.proofs.laws.only_written_tickets_are_read.Goals as goal

pub returns : goal.returns
returns g c = record { only = only_written g.W.Weight.kind g.W.TicketWeight.codec; unlike = never_alike g.W.Weight.kind g.W.TicketWeight.codec }
