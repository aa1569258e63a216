use Rattle.std.proofs.Common.{rules}
use Rattle.weights.proofs.Cuts.{plain_exact, abs_difference}
use Rattle.weights.proofs.plain.weight.PlainWeight.minus.Goals as goal

pub returns-clause-difference : goal.returns-clause-difference
returns-clause-difference c = search (rules, plain_exact, abs_difference)
