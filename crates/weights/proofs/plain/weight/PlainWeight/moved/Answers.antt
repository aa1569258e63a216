-- Two plain weights of one value are one weight.
use Rattle.std.proofs.Common.{rules}
use Rattle.weights.proofs.Cuts.{plain_path}
use Rattle.weights.proofs.plain.weight.PlainWeight.moved.Goals as goal

pub returns : goal.returns
returns c = record { end = plain_path _ _ (search rules); part = search rules }
