use Rattle.std.proofs.Common.{rules}
use Rattle.layouts.specs.ListPlan.{edges_listed}
use Rattle.desk.proofs.kept.KeptListLayout.edges.Goals as goal

pub returns : goal.returns
returns c = search (rules, edges_listed)
