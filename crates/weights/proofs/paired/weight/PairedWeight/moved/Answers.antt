-- Two pairs of the same parts are one weight.
use Rattle.std.proofs.Common.{rules}
use Rattle.weights.proofs.Cuts.{paired_path}
use Rattle.weights.proofs.paired.weight.PairedWeight.moved.Goals as goal

pub returns : goal.returns
returns c = record { end = paired_path _ _ (search rules) (search rules); grey = search rules; dark = search rules }
