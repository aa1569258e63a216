use Rattle.std.proofs.Common.{refl, rules}
use Rattle.reader.specs.Calls.{boards, seen}
use Rattle.reader.proofs.Rounds.{moves_are, round_is}
use Rattle.reader.proofs.reading.Progress.round.Goals as goal

pub returns : goal.returns
returns g c =
    let k = g.W.Weight.kind in
    let p = g.L.Layout.plan c.args.table.now.layout.now in
    let a = c.args in
    let moved = moves_are k p a.costs.now a.carried.now c.move_edges.new.multipliers a.step c.bound-floor.new.trial c.bound-floor.new.marks c.bound-floor.ensures.marks c.move_edges.ensures in
    record {
      rounds = search rules;
      moved = moved;
      after = round_is k p a.costs.now (seen k a.self.now (boards a.carried.now a.kept.now a.trial.now a.word.now))
          (seen k c.raise.new.self (boards a.carried.now c.raise.new.kept a.trial.now a.word.now)) (seen k c.improve.new.self (boards a.carried.now c.raise.new.kept a.trial.now c.improve.new.word))
          a.step c.bound-floor.new.trial c.move_edges.new.multipliers _ c.bound-floor.ensures.value c.bound-floor.ensures.trial moved refl
          (c.raise.ensures.after a.carried.now a.trial.now a.word.now) (c.improve.ensures.after a.carried.now c.raise.new.kept a.trial.now);
    }
