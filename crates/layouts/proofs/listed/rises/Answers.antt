use Rattle.std.proofs.Common.{rules}
use Rattle.std.specs.Prelude.{nat_lt}
use Rattle.std.proofs.lemmas.List.Sorted.{answers_always}
use Rattle.layouts.proofs.Rising.{rises_by_neighbours}
use Rattle.layouts.proofs.listed.rises.Goals as goal

pub returns : goal.returns
returns c = rises_by_neighbours _ _ (c.is_sorted_by.ensures.cases nat_lt (answers_always _ _ _ (λ f a r g called. search rules)))
