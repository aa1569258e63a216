use Rattle.std.proofs.Common.{◌<◌, length, ◌∙◌, arith}
use Rattle.reader.proofs.Rows.{odd_step}
use Rattle.reader.proofs.Turns.{byte_is, mark_step}
use Rattle.reader.proofs.passes.mark_negatives.Goals as goal

pub loop-i-preserved : goal.loop-i-preserved
loop-i-preserved g c =
    let w = c.index-list-i.result in
    let hm : c.loop-i.i < length c.loop-i.marks = omega (arith, c.requires, c.loop-i.auto.marks) in (
      mark_step g.W.Weight.kind c.args.list.now c.loop-i.i w c.loop-i.marks c.is_negative-negative.result c.from.result c.loop-i-test.true hm c.index-list-i.is
          c.is_negative-negative.ensures (c.from.ensures ∙ byte_is c.is_negative-negative.result) c.loop-i.invariant.0,
      odd_step g.W.Weight.kind c.args.list.now c.loop-i.i w c.loop-i.uneven c.is_negative-negative.result c.loop-i-test.true c.index-list-i.is
          c.is_negative-negative.ensures c.loop-i.invariant.1,
    )
