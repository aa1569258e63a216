use Rattle.std.proofs.Common.{◌≡◌, ◌-◌, true, Some, length, ap, ◌∙◌, rules}
use Rattle.std.specs.Option.{unwrap_or}
use Rattle.std.specs.List.{slice_get}
use Rattle.layouts.specs.Lists.{rises}
use Rattle.layouts.proofs.Rising.{ends_by_parts, not_first}
use Rattle.layouts.proofs.listed.ends_rise.Goals as goal
use Rattle.layouts.proofs.listed.ends_rise.Goals.{then-ne, else-ne}

pub returns-then-rises : goal.returns-then-rises
returns-then-rises c =
    let ends = c.args.ends.now in
    let last : c.from.result ≡ unwrap_or (slice_get ends (length ends - 1)) 0 =
    c.from.ensures ∙ c.unwrap_or-last.ensures ∙ ap (λ o. unwrap_or o 0) (c.copied.ensures ∙ c.last.ensures.value) in
    elim c.if-ne.branch [
      | then-ne w ↦
          let each : rises ends ≡ true = cc in
          let above : slice_get ends 0 ≡ Some 0 → ⊥ = λ e. not_first c.first.result _ (search rules) w.if-ne.ensures (c.first.ensures.value ∙ e) in
          let parts = ends_by_parts ends c.args.entries above each in
          cc
      | else-ne w ↦ cc
    ]
