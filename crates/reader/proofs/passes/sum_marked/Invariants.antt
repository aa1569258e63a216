use Rattle.std.proofs.Common.{◌≡◌, ◌≤◌, length, take}
use Rattle.weights.specs.Kinds.{meanings}
use Rattle.dual.specs.Choice.{pick}
use Rattle.reader.specs.Sizes.{total_size}
use Rattle.model.specs.Words.{bits}
use Rattle.reader.proofs.passes.sum_marked.Given as goal

abbrev pub invariant-loop-mark : goal.invariant-loop-mark
invariant-loop-mark g l =
    (g.W.Weight.kind.meaning l.sum ≡ pick (take (length l.yielded) (bits l.marks)) (take (length l.yielded) (meanings g.W.Weight.kind l.list)))
    × (g.W.Weight.kind.size l.sum ≤ total_size g.W.Weight.kind (take (length l.yielded) l.list))
