use Rattle.std.proofs.Common.{◌+◌, length, arith}
use Rattle.tickets.specs.Tickets.{multiplier_bytes}
use Rattle.tickets.proofs.Forms.{bytes_length}
use Rattle.tickets.proofs.Splices.{record_room}
use Rattle.tickets.proofs.Writing.{records_place, records_step}
use Rattle.tickets.proofs.writer.TicketWriter.put_multipliers.Goals as goal

pub put_multiplier-requires : goal.put_multiplier-requires
put_multiplier-requires g c =
    let codec = g.W.TicketWeight.codec in
    let old = c.args.self.now in
    let at = records_place (multiplier_bytes codec) (2 + codec.width) (bytes_length codec) old c.loop-multiplier.self c.args.multipliers.now c.loop-multiplier.multiplier-index (omega arith) c.loop-multiplier.invariant in
    let room = record_room (2 + codec.width) old.at c.loop-multiplier.multiplier-index (length c.args.multipliers.now) c.loop-multiplier.self.at (length old.out.now) at c.loop-multiplier-test.true c.requires in
    omega (arith, c.loop-multiplier.invariant.room)

pub loop-multiplier-preserved : goal.loop-multiplier-preserved
loop-multiplier-preserved g c =
    let codec = g.W.TicketWeight.codec in
    records_step (multiplier_bytes codec) (2 + codec.width) (bytes_length codec) c.args.self.now c.loop-multiplier.self c.put_multiplier.new.self c.args.multipliers.now
    c.loop-multiplier.multiplier-index c.multiplier-item.result c.loop-multiplier-test.true c.requires c.multiplier-item.is c.loop-multiplier.invariant c.put_multiplier.ensures
