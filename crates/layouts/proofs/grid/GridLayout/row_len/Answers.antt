use Rattle.std.proofs.Common.{rules}
use Rattle.layouts.specs.GridPlan.{length_grid, length_line, length_column}
use Rattle.layouts.proofs.grid.GridLayout.row_len.Goals as goal

pub returns-then-row-self : goal.returns-then-row-self
returns-then-row-self c =
    let g = c.args.self.now in let n = length_grid g.lines g.columns in
    search (rules, length_line)

pub returns-then-row-rows : goal.returns-then-row-rows
returns-then-row-rows c =
    let g = c.args.self.now in let n = length_grid g.lines g.columns in
    search (rules, length_column)
