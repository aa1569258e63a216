use Rattle.std.proofs.Common.{◌≡◌, take}
use Rattle.weights.specs.Kinds.{meanings}
use Rattle.dual.specs.Choice.{negatives, odd}
use Rattle.reader.proofs.choice.odd_negatives.Given as goal

abbrev pub invariant-loop-m : goal.invariant-loop-m
invariant-loop-m g l = l.uneven ≡ odd (negatives (take l.m-index (meanings g.W.Weight.kind l.multipliers)))
