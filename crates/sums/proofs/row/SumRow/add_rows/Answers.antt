use Rattle.std.proofs.Common.{rules}
use Rattle.sums.proofs.Rising.{named_more}
use Rattle.sums.proofs.row.SumRow.add_rows.Goals as goal

pub loop-row-preserved : goal.loop-row-preserved
loop-row-preserved g c = search (rules, named_more)
