use Rattle.std.proofs.Common.{rules}
use Rattle.std.specs.Prelude.{nat_lt}
use Rattle.std.proofs.lemmas.List.Sorted.{answers_always}
use Rattle.sums.proofs.Rising.{numbers_rise}
use Rattle.sums.proofs.names.rises.Goals as goal

pub returns : goal.returns
returns c = numbers_rise _ _ (c.is_sorted_by.ensures.cases (λ x y. nat_lt x.0 y.0) (answers_always _ _ _ (λ f a r g called. search rules)))
