use Rattle.std.proofs.Common.{refl}
use Rattle.tickets.specs.Tickets.{ticket}
use Rattle.tickets.proofs.laws.worked_tickets.Goals as goal

pub returns : goal.returns
unfolding ticket
returns c = record { plain = refl; paired = refl; most = refl; least = refl; top = refl; bottom = refl; above = refl; below = refl }
