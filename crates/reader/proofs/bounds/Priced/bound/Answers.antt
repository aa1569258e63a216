use Rattle.std.proofs.Common.{◌+◌, ◌^◌, ◌≤◌, arith}
use Rattle.reader.proofs.Fits.{multipliers_total}
use Rattle.reader.proofs.Floors.{floor_value}
use Rattle.reader.proofs.bounds.Priced.bound.Goals as goal

pub sum_marked-requires-2-clause-small : goal.sum_marked-requires-2-clause-small
sum_marked-requires-2-clause-small g c =
    let f = c.args.self.now.fit in
    let t = multipliers_total g.W.Weight.kind (g.L.Layout.plan c.args.self.now.table.now.layout.now) c.args.self.now.multipliers.now f.multipliers_long f.multipliers_small in
    omega arith

pub returns-clause-value : goal.returns-clause-value
returns-clause-value g c =
    let k = g.W.Weight.kind in
    let p = g.L.Layout.plan c.args.self.now.table.now.layout.now in
    let costs = c.args.self.now.costs.now in
    let ms = c.args.self.now.multipliers.now in
    let f = c.args.self.now.fit in
    let t = multipliers_total k p ms f.multipliers_long f.multipliers_small in
    let small : k.size c.sum_marked.result + k.size c.sum_marked-2.result ≤ 2 ^ 30 = omega (arith, c.sum_marked.ensures.size, c.sum_marked-2.ensures.size, c.slacks_into.ensures.size) in
    floor_value k p.rows costs ms c.slacks_into.new.out c.mark_negatives.new.marks c.mark_choices.new.marks c.sum_marked.result c.sum_marked-2.result c.plus.result
    f.multipliers_long c.slacks_into.ensures.value c.mark_negatives.ensures.marks c.mark_choices.ensures c.sum_marked.ensures.value c.sum_marked-2.ensures.value c.plus.ensures.sum small
