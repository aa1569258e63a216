use Rattle.std.proofs.Common.{length, sym, ap, ◌∙◌}
use Rattle.layouts.specs.Plans.{edges}
use Rattle.reader.proofs.Fits.{choices_fit}
use Rattle.reader.proofs.row_choices.choices.Goals as goal

pub sum_rows-requires : goal.sum_rows-requires
sum_rows-requires g c =
    let fit = choices_fit g.W.Weight.kind (g.L.Layout.plan c.args.layout.now) c.args.multipliers.now _ _ (sym c.in_ok-check_choices.ensures) in
    let e = ap (λ l. edges (g.L.Layout.plan l).rows) (sym c.of-table.ensures) in
    record {
      multipliers = fit.0.0 ∙ e;
      marks = c.mark_choices.ensures;
      sums = fit.1 ∙ ap (λ l. length (g.L.Layout.plan l).rows) (sym c.of-table.ensures);
      small = fit.2;
    }
