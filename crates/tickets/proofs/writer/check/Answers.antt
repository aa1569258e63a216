use Rattle.std.proofs.Common.{rules}
use Rattle.tickets.specs.Tickets.{counts}
use Rattle.tickets.proofs.Forms.{ticket_length}
use Rattle.tickets.proofs.writer.check.Goals as goal

pub returns-then-room-ticket_len-clause-number : goal.returns-then-room-ticket_len-clause-number
returns-then-room-ticket_len-clause-number g c =
    let long = ticket_length g.W.Weight.kind g.W.TicketWeight.codec (counts (g.L.Layout.plan c.args.layout.now)) c.args.word.now c.args.multipliers.now in
    search rules

pub returns-clause-number : goal.returns-clause-number
returns-clause-number g c =
    let long = ticket_length g.W.Weight.kind g.W.TicketWeight.codec (counts (g.L.Layout.plan c.args.layout.now)) c.args.word.now c.args.multipliers.now in
    search rules
