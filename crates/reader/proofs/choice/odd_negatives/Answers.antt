use Rattle.std.proofs.Common.{rules}
use Rattle.reader.proofs.Rows.{odd_step}
use Rattle.reader.proofs.choice.odd_negatives.Goals as goal

pub loop-m-preserved : goal.loop-m-preserved
loop-m-preserved g c = search (rules, odd_step)
