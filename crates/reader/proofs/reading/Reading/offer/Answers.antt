use Rattle.std.proofs.Common.{◌≡◌, length, sym, ◌∙◌, subst, arith}
use Rattle.layouts.specs.Plans.{edges}
use Rattle.reader.specs.Boards.{Fit}
use Rattle.reader.specs.Calls.{boards, state, view}
use Rattle.reader.proofs.Given.{given_fit, given_kept, given_list}
use Rattle.reader.proofs.reading.Reading.offer.Goals as goal

pub copy_from_slice-requires : goal.copy_from_slice-requires
copy_from_slice-requires g c =
    let a = c.args in
    let p = g.L.Layout.plan a.self.now.layout in
    let fit = given_fit g.W.Weight.kind p a.costs.now (view g.W.Weight.kind (state a.self.now (boards a.carried.now a.kept.now a.trial.now a.word.now))) (sym c.in_ok-check.ensures) in
    omega (arith, fit.multipliers_long, c.if-list-from.false, c.from.ensures, c.edges.ensures)

pub floor_value-floor-requires : goal.floor_value-floor-requires
floor_value-floor-requires g c =
    let k = g.W.Weight.kind in
    let a = c.args in
    let p = g.L.Layout.plan a.self.now.layout in
    let m = view k (state a.self.now (boards a.carried.now a.kept.now a.trial.now a.word.now)) in
    let long : length a.list.now ≡ edges p.rows = omega (arith, c.if-list-from.false, c.from.ensures, c.edges.ensures) in
    let fit = given_list k p a.costs.now m (sym c.in_ok-check.ensures) a.list.now long (sym c.any_beyond.ensures ∙ c.if-any_beyond.false) in
    subst (λ l. Fit k (g.L.Layout.plan l) a.costs.now c.copy_from_slice.new.self) (sym c.of-table.ensures)
    (subst (λ ms. Fit k p a.costs.now ms) (sym c.copy_from_slice.ensures.after) fit)

pub raise-requires : goal.raise-requires
raise-requires g c =
    let k = g.W.Weight.kind in
    let a = c.args in
    given_kept k (g.L.Layout.plan a.self.now.layout) a.costs.now (view k (state a.self.now (boards a.carried.now a.kept.now a.trial.now a.word.now))) (sym c.in_ok-check.ensures) ∙ sym c.copy_from_slice.ensures.len
