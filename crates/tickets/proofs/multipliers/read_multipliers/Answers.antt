use Rattle.std.proofs.Common.{length, take, rules}
use Rattle.tickets.proofs.Records.{fill_step, fill_stop}
use Rattle.tickets.proofs.multipliers.read_multipliers.Goals as goal

pub loop-place-preserved : goal.loop-place-preserved
loop-place-preserved g c =
    let one = c.in-Some.ensures in
    fill_step g.W.Weight.kind g.W.TicketWeight.codec c.loop-place.work c.loop-place.place-index (length c.args.work.now) c.loop-place.left.now _ _ _
    (search rules) (search rules) (search rules) (search rules) c.loop-place.invariant

pub returns-in_default : goal.returns-in_default
returns-in_default g c =
    absurd (fill_stop g.W.Weight.kind g.W.TicketWeight.codec (take c.loop-place.place-index c.loop-place.work) _ c.loop-place.left.now _ (search rules) c.in_default.ensures c.loop-place.invariant c.requires)
