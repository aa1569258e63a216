use Rattle.dual.proofs.Search.{found}
use Rattle.dual.proofs.nearest_is_found.Goals as goal

pub returns : goal.returns
returns c = found
