use Rattle.std.proofs.Common.{◌∷◌, ◌∙◌, subst, arith}
use Rattle.tickets.specs.Writers.{Puts}
use Rattle.tickets.proofs.Splices.{front_part}
use Rattle.tickets.proofs.Writing.{puts_join}
use Rattle.tickets.proofs.writer.TicketWriter.put_multiplier.Goals as goal

pub returns : goal.returns
returns g c =
    let old = c.args.self.now in
    let codec = g.W.TicketWeight.codec in
    let part = front_part c.from.result codec.width c.bytes-bytes.result (codec.put c.args.multiplier) (c.from.ensures ∙ c.width.ensures) c.bytes-bytes.ensures.front in
    let both = puts_join old c.put.new.self c.put-2.new.self _ _ c.put.ensures c.put-2.ensures (omega (arith, c.requires)) in
    subst (λ bs. Puts old c.put-2.new.self (76 ∷ 77 ∷ bs)) part both
