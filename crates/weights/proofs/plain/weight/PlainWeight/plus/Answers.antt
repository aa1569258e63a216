use Rattle.std.proofs.Common.{rules}
use Rattle.weights.proofs.Cuts.{plain_exact, abs_sum}
use Rattle.weights.proofs.plain.weight.PlainWeight.plus.Goals as goal

pub returns-clause-sum : goal.returns-clause-sum
returns-clause-sum c = search (rules, plain_exact, abs_sum)
