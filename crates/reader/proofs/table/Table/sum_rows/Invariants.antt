use Rattle.std.proofs.Common.{◌≡◌, take}
use Rattle.weights.specs.Kinds.{meanings}
use Rattle.dual.specs.Bound.{row_leasts}
use Rattle.reader.proofs.table.Table.sum_rows.Given as goal

-- the rows so far are summed
abbrev pub invariant-loop-i : goal.invariant-loop-i
invariant-loop-i g l =
    meanings g.W.Weight.kind (take l.i l.sums) ≡ row_leasts (take l.i (g.L.Layout.plan l.self.layout.now).rows) (meanings g.W.Weight.kind l.multipliers)
