use Rattle.std.proofs.Common.{rules}
use Rattle.layouts.specs.ListPlan.{listed_plan}
use Rattle.layouts.proofs.Rows.{found_short}
use Rattle.desk.proofs.kept.KeptListLayout.row_len.Goals as goal

pub overflow_cast-result : goal.overflow_cast-result
overflow_cast-result c =
    let s = c.args.self.now in
    let short = found_short (listed_plan s.cells s.ends.items s.entries.items s.ok) c.args.row.0 c.in_ok-row.field-0.now c.in_ok-row.ensures in
    search rules
