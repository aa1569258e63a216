use Rattle.std.proofs.Common.{◌≡◌, ◌&&◌, rules}
use Rattle.std.specs.Prelude.{nat_lt}
use Rattle.std.proofs.lemmas.Fn.{answers_by}
use Rattle.layouts.proofs.Rising.{below_by_neighbours}
use Rattle.layouts.proofs.listed.rises_below.Goals as goal

pub returns : goal.returns
returns c = below_by_neighbours c.args.cells _ _ (c.is_sorted_by.ensures.cases (λ x y. nat_lt x y && nat_lt y c.args.cells)
    (answers_by _ _ (λ f. f.0.now ≡ c.args.cells) (λ f a r g called same. (search rules, search rules)) _ (search rules)))
