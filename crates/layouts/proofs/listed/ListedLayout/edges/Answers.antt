use Rattle.std.proofs.Common.{rules}
use Rattle.layouts.specs.ListPlan.{edges_listed}
use Rattle.layouts.proofs.listed.ListedLayout.edges.Goals as goal

pub returns : goal.returns
returns c = search (rules, edges_listed)
