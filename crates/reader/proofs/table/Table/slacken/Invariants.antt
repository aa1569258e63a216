use Rattle.std.proofs.Common.{◌≡◌, ◌+◌, ◌*◌, ◌^◌, ◌≤◌, length, drop}
use Rattle.layouts.specs.Plans.{edge_cells}
use Rattle.weights.specs.Kinds.{meanings}
use Rattle.dual.specs.Bound.{slacks}
use Rattle.reader.specs.Sizes.{total_size}
use Rattle.reader.proofs.table.Table.slacken.Given as goal

abbrev pub invariant-loop-cell : goal.invariant-loop-cell
invariant-loop-cell g l =
    (slacks (drop (length l.yielded) (edge_cells (g.L.Layout.plan l.self.layout.now).rows)) (drop (length l.yielded) (meanings g.W.Weight.kind l.multipliers)) (meanings g.W.Weight.kind l.left)
    ≡ slacks (edge_cells (g.L.Layout.plan l.self.layout.now).rows) (meanings g.W.Weight.kind l.multipliers) (meanings g.W.Weight.kind l.initial.left))
    × (total_size g.W.Weight.kind l.left ≤ 2 ^ 23 + length l.yielded * 2 ^ 18)
