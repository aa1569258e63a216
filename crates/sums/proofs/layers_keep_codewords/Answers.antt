use Rattle.sums.proofs.Layered.{same_codewords}
use Rattle.sums.proofs.layers_keep_codewords.Goals as goal

pub returns : goal.returns
returns g c = same_codewords g.L.Layout.plan
