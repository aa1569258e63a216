use Rattle.std.proofs.Common.{sym, subst}
use Rattle.reader.specs.Boards.{Fit}
use Rattle.reader.specs.Calls.{boards, state, view}
use Rattle.reader.proofs.Given.{given_fit, given_kept, given_trial, given_word}
use Rattle.reader.proofs.reading.Reading.run.Goals as goal

pub rounds-requires : goal.rounds-requires
rounds-requires g c =
    let k = g.W.Weight.kind in
    let a = c.args in
    let p = g.L.Layout.plan a.self.now.layout in
    let m = view k (state a.self.now (boards a.carried.now a.kept.now a.trial.now a.word.now)) in
    let e = sym c.in_ok-check.ensures in
    record {
      fit = subst (λ l. Fit k (g.L.Layout.plan l) a.costs.now a.carried.now) (sym c.of-table.ensures) (given_fit k p a.costs.now m e);
      kept = given_kept k p a.costs.now m e;
      trial = given_trial k p a.costs.now m e;
      word = given_word k p a.costs.now m e;
    }
