use Rattle.std.proofs.Common.{◌≡◌, ◌-◌, ◌≤◌}
use Rattle.model.specs.Model.{rounds_of}
use Rattle.reader.specs.Boards.{Fit}
use Rattle.reader.specs.Calls.{boards, seen}
use Rattle.reader.specs.Rules.{step_of}
use Rattle.reader.proofs.reading.Progress.rounds.Given as goal

-- the rounds that are left come to what all of them come to
abbrev pub invariant-loop-round : goal.invariant-loop-round
invariant-loop-round g l =
    let k = g.W.Weight.kind in
    let p = g.L.Layout.plan l.table.layout.now in
    (rounds_of k p l.costs (step_of l.rule) (l.count - l._round) (seen k l.self (boards l.carried l.kept l.trial l.word))
    ≡ rounds_of k p l.costs (step_of l.rule) l.count (seen k l.initial.self (boards l.initial.carried l.initial.kept l.initial.trial l.initial.word)))
    × Fit k p l.costs l.carried
    × (l.initial.self.rounds ≤ l.self.rounds)
