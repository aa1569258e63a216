use Rattle.dual.proofs.Floor.{least_lagrangian}
use Rattle.dual.proofs.floor_is_least_lagrangian.Goals as goal

pub returns : goal.returns
returns c = least_lagrangian
