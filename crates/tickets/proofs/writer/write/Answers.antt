use Rattle.std.proofs.Common.{◌≡◌, ◌≤◌, length, ap, ◌∙◌, arith, rules}
use Rattle.tickets.specs.Tickets.{counts, ticket}
use Rattle.tickets.proofs.Forms.{ticket_length}
use Rattle.tickets.proofs.Splices.{packed_long}
use Rattle.tickets.proofs.Written.{written}
use Rattle.tickets.proofs.writer.write.Goals as goal

pub put_multipliers-requires : goal.put_multipliers-requires
put_multipliers-requires g c = grind (arith, c.in_ok-word.ensures.fit.fits, packed_long c.in_ok-word.word.bytes.now, ap length c.in_ok-word.ensures.word)

pub returns : goal.returns
returns g c =
    let codec = g.W.TicketWeight.codec in
    let n = counts (g.L.Layout.plan c.args.layout.now) in
    let passed = c.in_ok-word.ensures in
    let fits : length (ticket codec n c.args.word.now c.args.multipliers.now) ≤ length c.args.out.now =
    omega (arith, ticket_length g.W.Weight.kind codec n c.args.word.now c.args.multipliers.now, passed.fit.fits) in
    let all = written g.W.Weight.kind codec n c.args.word.now c.args.multipliers.now c.new-writer.result c.put.new.self c.put-2.new.self c.put_packed.new.self c.put_multipliers.new.self
    c.head_of.result c.args.out.now c.in_ok-word.word.bytes.now c.head_of.ensures passed.word c.new-writer.ensures.bytes c.new-writer.ensures.place
    c.put.ensures c.put-2.ensures c.put_packed.ensures c.put_multipliers.ensures fits in
    let last : c.put_multipliers.new.self.out.ghost_name ≡ c.new-writer.result.out.ghost_name =
    c.put_multipliers.ensures.same_output ∙ c.put_packed.ensures.same_output ∙ c.put-2.ensures.same_output ∙ c.put.ensures.same_output in
    record { number = passed.number; length = all.0; after = (search rules) ∙ all.1; same = tt }
