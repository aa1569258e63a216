use Rattle.std.proofs.Common.{rules}
use Rattle.layouts.specs.GridPlan.{length_grid}
use Rattle.layouts.proofs.grid.GridLayout.rows.Goals as goal

pub returns : goal.returns
returns c = search (rules, length_grid)
