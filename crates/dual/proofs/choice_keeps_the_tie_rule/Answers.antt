use Rattle.dual.proofs.Ties.{tie_rule}
use Rattle.dual.proofs.choice_keeps_the_tie_rule.Goals as goal

pub returns : goal.returns
returns c = tie_rule
