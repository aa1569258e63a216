use Rattle.std.proofs.Common.{rules}
use Rattle.layouts.proofs.Places.{line_place, column_place}
use Rattle.layouts.proofs.grid.GridLayout.cell.Goals as goal

pub overflow_add-cell : goal.overflow_add-cell
overflow_add-cell c =
    let g = c.args.self.now in
    let here = line_place g.lines g.columns g.ok c.args.row.0 c.args.place c.in_ok-len.len c.in_ok-len.ensures c.if-place-len.false c.if-row-self.true in
    search rules

pub overflow_mul-cell-else-row-self : goal.overflow_mul-cell-else-row-self
overflow_mul-cell-else-row-self c =
    let g = c.args.self.now in
    let here = column_place g.lines g.columns g.ok c.args.row.0 c.args.place c.in_ok-len.len c.in_ok-len.ensures c.if-place-len.false c.if-row-self.false in
    search rules

pub overflow_add-cell-else-row-self : goal.overflow_add-cell-else-row-self
overflow_add-cell-else-row-self c =
    let g = c.args.self.now in
    let here = column_place g.lines g.columns g.ok c.args.row.0 c.args.place c.in_ok-len.len c.in_ok-len.ensures c.if-place-len.false c.if-row-self.false in
    search rules

pub returns-then-row-self : goal.returns-then-row-self
returns-then-row-self c =
    let g = c.args.self.now in
    (line_place g.lines g.columns g.ok c.args.row.0 c.args.place c.in_ok-len.len c.in_ok-len.ensures c.if-place-len.false c.if-row-self.true).1

pub returns-else-row-self : goal.returns-else-row-self
returns-else-row-self c =
    let g = c.args.self.now in
    (column_place g.lines g.columns g.ok c.args.row.0 c.args.place c.in_ok-len.len c.in_ok-len.ensures c.if-place-len.false c.if-row-self.false).1
