use Rattle.tickets.proofs.Whole.{reads_back}
use Rattle.tickets.proofs.laws.written_tickets_read_back.Goals as goal

pub returns : goal.returns
returns g c = reads_back g.W.Weight.kind g.W.TicketWeight.codec
