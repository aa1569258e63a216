use Rattle.model.specs.Model.{floor_of}
use Rattle.reader.proofs.bounds.floor_value.Goals as goal

pub returns : goal.returns
unfolding floor_of
returns g c = c.bound.ensures.value
