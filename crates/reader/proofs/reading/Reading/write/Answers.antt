use Rattle.std.proofs.Common.{sym, ◌∙◌, rules}
use Rattle.reader.specs.Calls.{boards, state, view}
use Rattle.reader.proofs.Taking.{why_written, both}
use Rattle.reader.proofs.reading.Reading.write.Goals as goal

pub returns : goal.returns
returns g c =
    let k = g.W.Weight.kind in
    let a = c.args in
    let p = g.L.Layout.plan a.self.now.layout in
    let m = view k (state a.self.now (boards a.carried.now a.kept.now a.trial.now a.word.now)) in
    let e = sym c.in_ok-check.ensures in
    record {
      why = c.write.ensures.number ∙ why_written k p a.costs.now g.W.TicketWeight.codec _ m e (search rules);
      done = both _ _ _ c.write.ensures.length c.write.ensures.after;
      same = search rules;
    }
