use Rattle.dual.proofs.Floor.{below_codewords}
use Rattle.dual.proofs.floor_below_codewords.Goals as goal

pub returns : goal.returns
returns c = below_codewords
