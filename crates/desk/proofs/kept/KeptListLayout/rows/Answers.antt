use Rattle.std.proofs.Common.{rules}
use Rattle.layouts.specs.ListPlan.{length_rows}
use Rattle.desk.proofs.kept.KeptListLayout.rows.Goals as goal

pub returns : goal.returns
returns c = search (rules, length_rows)
