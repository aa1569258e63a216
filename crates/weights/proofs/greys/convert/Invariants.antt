use Rattle.std.proofs.Common.{◌≡◌, map, take}
use Rattle.weights.proofs.greys.convert.Given as goal

-- the costs so far are those of the greys so far
abbrev pub invariant-loop-i : goal.invariant-loop-i
invariant-loop-i g l = take l.i l.costs ≡ map g.W.GreyCost.priced (take l.i l.greys)
