use Rattle.std.proofs.Common.{◌≡◌, ℕ, suc, ◌+◌, ◌-◌, true, ◌||◌, leb, sym, ap, ◌∙◌, inl, inr, arith}
use Rattle.model.specs.Model.{met, round, rounds_of}
use Rattle.reader.specs.Calls.{boards, seen}
use Rattle.reader.specs.Rules.{step_of}
use Rattle.reader.proofs.Rounds.{one_round, no_round, none_left, stops, goes_on, moved_fit}
use Rattle.reader.proofs.reading.Progress.rounds.Goals as goal
use Rattle.reader.proofs.reading.Progress.rounds.Goals.{then-is_met-via-then-is_met, then-is_met-via-else-is_met+then-self-ge4096}

pub loop-round-init : goal.loop-round-init
loop-round-init g c =
    let k = g.W.Weight.kind in
    let a = c.args in
    let e : a.count - 0 ≡ a.count = omega arith in (
      ap (λ n. rounds_of k (g.L.Layout.plan a.table.now.layout.now) a.costs.now (step_of a.rule) n (seen k a.self.now (boards a.carried.now a.kept.now a.trial.now a.word.now))) e,
      c.requires.fit,
      omega arith,
    )

pub returns-then-is_met-clause-after : goal.returns-then-is_met-clause-after
returns-then-is_met-clause-after g c =
    let k = g.W.Weight.kind in
    let p = g.L.Layout.plan c.args.table.now.layout.now in
    let l = c.loop-round in
    let m = seen k l.self (boards l.carried l.kept l.trial l.word) in
    let s : (met m || leb 4096 m.rounds) ≡ true = elim c.then-is_met.branch [
      | then-is_met-via-then-is_met w ↦ stops k p c.args.costs.now m c.is_met.result c.is_met.ensures (inl w.if-is_met.true)
      | then-is_met-via-else-is_met+then-self-ge4096 w ↦ stops k p c.args.costs.now m c.is_met.result c.is_met.ensures (inr (w.if-is_met.false, w.if-self-ge4096.true))
    ] in
    sym (no_round k p c.args.costs.now (step_of c.args.rule) (c.args.count - l._round) m s) ∙ l.invariant.0

pub round-requires-clause-fit : goal.round-requires-clause-fit
round-requires-clause-fit g c = c.loop-round.invariant.1

pub loop-round-preserved : goal.loop-round-preserved
loop-round-preserved g c =
    let k = g.W.Weight.kind in
    let p = g.L.Layout.plan c.args.table.now.layout.now in
    let costs = c.args.costs.now in
    let rule = step_of c.args.rule in
    let l = c.loop-round in
    let m = seen k l.self (boards l.carried l.kept l.trial l.word) in
    let n : ℕ = c.args.count - (l._round + 1) in
    let e : suc n ≡ c.args.count - l._round = omega arith in
    let t = goes_on k p costs m c.is_met.result c.is_met.ensures c.if-is_met.false c.if-self-ge4096.false in (
      ap (rounds_of k p costs rule n) (c.round.ensures.after ∙ ap (λ s. round k p costs s m) c.step-step.ensures.value)
          ∙ sym (one_round k p costs rule n m t) ∙ ap (λ j. rounds_of k p costs rule j m) e ∙ l.invariant.0,
      moved_fit k p costs l.carried c.round.new.carried c.step-step.result c.round.new.trial c.step-step.ensures.bounds.0 c.step-step.ensures.bounds.1 l.invariant.1 c.round.ensures.moved,
      omega (arith, c.round.ensures.rounds, l.invariant.2),
    )

pub returns-clause-after : goal.returns-clause-after
returns-clause-after g c =
    let k = g.W.Weight.kind in
    let p = g.L.Layout.plan c.args.table.now.layout.now in
    let l = c.loop-round in
    let m = seen k l.self (boards l.carried l.kept l.trial l.word) in
    let e : 0 ≡ c.args.count - l._round = omega (arith, c.loop-round-test.false) in
    sym (none_left k p c.args.costs.now (step_of c.args.rule) m) ∙ ap (λ n. rounds_of k p c.args.costs.now (step_of c.args.rule) n m) e ∙ l.invariant.0
