use Rattle.dual.proofs.Row.{cheapest}
use Rattle.dual.proofs.choice_is_cheapest.Goals as goal

pub returns : goal.returns
returns c = cheapest
