use Rattle.std.proofs.Common.{◌≡◌, take}
use Rattle.weights.specs.Kinds.{meanings}
use Rattle.dual.specs.Choice.{negatives, odd}
use Rattle.model.specs.Words.{bytes}
use Rattle.reader.proofs.passes.mark_negatives.Given as goal

abbrev pub invariant-loop-i : goal.invariant-loop-i
invariant-loop-i g l =
    (take l.i l.marks ≡ bytes (negatives (take l.i (meanings g.W.Weight.kind l.list))))
    × (l.uneven ≡ odd (negatives (take l.i (meanings g.W.Weight.kind l.list))))
