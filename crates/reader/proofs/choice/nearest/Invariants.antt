use Rattle.std.proofs.Common.{◌≡◌, take, None, fold}
use Rattle.std.specs.Option.{option_map}
use Rattle.weights.specs.Kinds.{meanings}
use Rattle.dual.specs.Choice.{look}
use Rattle.reader.specs.Spots.{spot, OfSign}
use Rattle.reader.proofs.choice.nearest.Given as goal

-- the search so far, and its sign
abbrev pub invariant-loop-i : goal.invariant-loop-i
invariant-loop-i g l =
    (fold (look l.below) (0, None) (take l.i (meanings g.W.Weight.kind l.multipliers)) ≡ (l.i, option_map (spot g.W.Weight.kind) l.best))
    × OfSign g.W.Weight.kind l.below l.best
