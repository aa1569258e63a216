use Rattle.sums.proofs.Odds.{odd_sum}
use Rattle.sums.proofs.sum_has_odd_cells.Goals as goal

pub returns : goal.returns
returns c = odd_sum
