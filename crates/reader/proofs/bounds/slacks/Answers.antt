use Rattle.std.proofs.Common.{length, sym, subst}
use Rattle.reader.specs.Boards.{Fit}
use Rattle.reader.proofs.Fits.{fits}
use Rattle.reader.proofs.bounds.slacks.Goals as goal

pub invariant_of-priced : goal.invariant_of-priced
invariant_of-priced g c =
    let k = g.W.Weight.kind in
    let fit = fits k (g.L.Layout.plan c.args.layout.now) c.args.costs.now c.args.multipliers.now (length c.args.out.now) (sym c.in_ok-check_floor.ensures) in
    record { fit = subst (λ l. Fit k (g.L.Layout.plan l) c.args.costs.now c.args.multipliers.now) (sym c.of-table.ensures) fit.0 }
