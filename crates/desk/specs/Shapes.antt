-- What the layouts that the desk keeps mean.
use Rattle.layouts.specs.Plans.{Plan}
use Rattle.layouts.specs.ListPlan.{listed_plan}
use Rattle.layouts.specs.GridPlan.{grid_plan}
use Rattle.desk.specs.declared.kept.KeptList.{KeptList}
use Rattle.desk.specs.declared.shape.Shape.{Shape}
use Rattle.desk.specs.declared.shape.Shape.TheVariants.{Listed, Grid}

abbrev pub kept_plan : KeptList → Plan
kept_plan l = listed_plan l.cells l.ends.items l.entries.items l.ok

abbrev pub shape_plan : Shape → Plan
shape_plan (Listed l) = kept_plan l
shape_plan (Grid g) = grid_plan g.lines g.columns g.ok
