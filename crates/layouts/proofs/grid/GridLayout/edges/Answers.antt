use Rattle.std.proofs.Common.{mul_assoc, mul_comm, arith}
use Rattle.layouts.specs.GridPlan.{edges_grid}
use Rattle.layouts.proofs.grid.GridLayout.edges.Goals as goal

pub returns : goal.returns
returns c =
    let g = c.args.self.now in
    omega (arith, edges_grid g.lines g.columns, mul_comm g.lines g.columns, mul_assoc 2 g.lines g.columns)
