use Rattle.std.proofs.Common.{◌^◌, ◌≤◌, sym, subst}
use Rattle.reader.specs.Sizes.{total_size}
use Rattle.reader.proofs.Fits.{costs_total}
use Rattle.reader.proofs.bounds.Priced.slacks_into.Goals as goal

pub slacken-requires-clause-costs : goal.slacken-requires-clause-costs
slacken-requires-clause-costs g c =
    let k = g.W.Weight.kind in
    let p = g.L.Layout.plan c.args.self.now.table.now.layout.now in
    let f = c.args.self.now.fit in
    subst (λ ws. total_size k ws ≤ 2 ^ 23) (sym c.copy_from_slice.ensures.after) (costs_total k p c.args.self.now.costs.now f.costs_long f.costs_small)
