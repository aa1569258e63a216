use Rattle.promise.proofs.Whole.{whole}
use Rattle.promise.proofs.no_false_word.Goals as goal

pub returns : goal.returns
returns g c = whole g.L.Layout.plan g.P.Layout.plan g.W.Weight.kind g.T.Weight.kind g.T.TicketWeight.codec
