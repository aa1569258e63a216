use Rattle.std.proofs.Common.{◌≡◌, ◌++◌, take, drop}
use Rattle.layouts.specs.Plans.{edge_cells}
use Rattle.dual.specs.Bound.{at}
use Rattle.model.specs.Moves.{moved_edges}
use Rattle.model.specs.Words.{bits}
use Rattle.reader.proofs.table.Table.move_edges.Given as goal

-- what has moved, and the moves that are left
abbrev pub invariant-loop-i : goal.invariant-loop-i
invariant-loop-i g l =
    take l.i l.multipliers ++ moved_edges g.W.Weight.kind l.step (drop l.i (at (bits l.word) (edge_cells (g.L.Layout.plan l.self.layout.now).rows))) (drop l.i (bits l.marks)) (drop l.i l.multipliers)
    ≡ moved_edges g.W.Weight.kind l.step (at (bits l.word) (edge_cells (g.L.Layout.plan l.self.layout.now).rows)) (bits l.marks) l.initial.multipliers
