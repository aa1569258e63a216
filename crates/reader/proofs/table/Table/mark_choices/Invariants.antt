use Rattle.std.proofs.Common.{◌≡◌, take}
use Rattle.layouts.specs.Plans.{edges}
use Rattle.weights.specs.Kinds.{meanings}
use Rattle.dual.specs.Bound.{choices}
use Rattle.model.specs.Words.{bytes}
use Rattle.reader.proofs.table.Table.mark_choices.Given as goal

-- the rows so far are marked
abbrev pub invariant-loop-row : goal.invariant-loop-row
invariant-loop-row g l =
    let rows = (g.L.Layout.plan l.self.layout.now).rows in
    take (edges (take l.row-index rows)) l.marks ≡ bytes (choices (take l.row-index rows) (meanings g.W.Weight.kind l.multipliers))
