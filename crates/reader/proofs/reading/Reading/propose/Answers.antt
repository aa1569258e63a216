use Rattle.std.proofs.Common.{◌≡◌, length, refl, sym, ap, ◌∙◌, rules, arith}
use Rattle.std.proofs.lemmas.Bool.{not-true}
use Rattle.dual.specs.Bound.{codeword}
use Rattle.model.specs.Words.{bits}
use Rattle.reader.proofs.Rounds.{improved_by}
use Rattle.reader.specs.Calls.{boards, seen, state, view}
use Rattle.reader.proofs.Given.{all_fit, given_total, proposed}
use Rattle.reader.proofs.reading.Reading.propose.Goals as goal

pub is_met_by-requires : goal.is_met_by-requires
is_met_by-requires g c =
    let long : length c.args.proposed.now ≡ (g.L.Layout.plan c.args.self.now.layout).cells = omega (arith, c.if-proposed-from.false, c.from.ensures, c.cells.ensures) in
    long ∙ ap (λ l. (g.L.Layout.plan l).cells) (sym c.of-table.ensures)

pub sum_marked-requires-clause-same : goal.sum_marked-requires-clause-same
sum_marked-requires-clause-same g c =
    let a = c.args in
    let p = g.L.Layout.plan a.self.now.layout in
    let all = all_fit g.W.Weight.kind p a.costs.now (view g.W.Weight.kind (state a.self.now (boards a.carried.now a.kept.now a.trial.now a.word.now))) (sym c.in_ok-check.ensures) in
    omega (arith, all.costs.long, c.if-proposed-from.false, c.from.ensures, c.cells.ensures)

pub sum_marked-requires-clause-small : goal.sum_marked-requires-clause-small
sum_marked-requires-clause-small g c =
    let a = c.args in
    given_total g.W.Weight.kind (g.L.Layout.plan a.self.now.layout) a.costs.now (view g.W.Weight.kind (state a.self.now (boards a.carried.now a.kept.now a.trial.now a.word.now))) (sym c.in_ok-check.ensures)

pub lower-requires : goal.lower-requires
lower-requires g c =
    let a = c.args in
    let p = g.L.Layout.plan a.self.now.layout in
    let all = all_fit g.W.Weight.kind p a.costs.now (view g.W.Weight.kind (state a.self.now (boards a.carried.now a.kept.now a.trial.now a.word.now))) (sym c.in_ok-check.ensures) in
    omega (arith, all.word.long, c.if-proposed-from.false, c.from.ensures, c.cells.ensures)

pub returns : goal.returns
returns g c =
    let k = g.W.Weight.kind in
    let a = c.args in
    let p = g.L.Layout.plan a.self.now.layout in
    let m = view k (state a.self.now (boards a.carried.now a.kept.now a.trial.now a.word.now)) in
    let long : length a.proposed.now ≡ p.cells = omega (arith, c.if-proposed-from.false, c.from.ensures, c.cells.ensures) in
    let meets = ap (λ l. codeword (g.L.Layout.plan l).rows (bits a.proposed.now)) (sym c.of-table.ensures) ∙ sym c.is_met_by.ensures ∙ c.if-not-is_met_by.false in
    let low = c.lower.ensures.after a.carried.now a.kept.now a.trial.now ∙ improved_by k p a.costs.now a.proposed.now (k.meaning c.sum_marked.result) (seen k c.progress-progress.result (boards a.carried.now a.kept.now a.trial.now a.word.now)) meets c.sum_marked.ensures.value in
    let why = proposed k p a.costs.now m (sym c.in_ok-check.ensures) a.proposed.now long (not-true _ (sym c.is_word.ensures ∙ c.if-not-is_word.false)) meets in
    record {
      why = why;
      done = (tt, search rules, refl);
      same = tt;
    }
