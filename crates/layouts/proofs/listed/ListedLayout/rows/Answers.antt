use Rattle.std.proofs.Common.{rules}
use Rattle.layouts.specs.ListPlan.{length_rows}
use Rattle.layouts.proofs.listed.ListedLayout.rows.Goals as goal

pub returns : goal.returns
returns c = search (rules, length_rows)
