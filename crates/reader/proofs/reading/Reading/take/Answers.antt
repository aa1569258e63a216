use Rattle.std.proofs.Common.{◌≡◌, length, refl, sym, ap, ◌∙◌, subst, rules, arith}
use Rattle.dual.specs.Bound.{codeword}
use Rattle.model.specs.Words.{bits}
use Rattle.model.specs.Model.{floor_of}
use Rattle.reader.specs.Boards.{Fit}
use Rattle.reader.specs.Calls.{boards, seen, state, view}
use Rattle.model.proofs.Takes.{multipliers_fit}
use Rattle.reader.proofs.Given.{all_fit, given_list, given_total}
use Rattle.reader.proofs.Taking.{claimed, work_is, unmet, unproved, proved, taken}
use Rattle.reader.proofs.reading.Reading.take.Goals as goal

pub slice_bounds-store-end : goal.slice_bounds-store-end
slice_bounds-store-end g c =
    let k = g.W.Weight.kind in
    let a = c.args in
    let p = g.L.Layout.plan a.self.now.layout in
    let m = view k (state a.self.now (boards a.carried.now a.kept.now a.trial.now a.word.now)) in
    let e = sym c.in_ok-check.ensures in
    let l : length a.costs.now ≡ p.cells = (all_fit k p a.costs.now m e).costs.long in
    omega (arith, p.few_cells)

pub is_met_by-requires : goal.is_met_by-requires
is_met_by-requires g c =
    let k = g.W.Weight.kind in
    let a = c.args in
    let p = g.L.Layout.plan a.self.now.layout in
    let m = view k (state a.self.now (boards a.carried.now a.kept.now a.trial.now a.word.now)) in
    let e = sym c.in_ok-check.ensures in
    let l : length a.costs.now ≡ p.cells = (all_fit k p a.costs.now m e).costs.long in
    let u : length c.unpack.new.word ≡ length a.costs.now = search rules in
    u ∙ l ∙ ap (λ y. (g.L.Layout.plan y).cells) (sym c.of-table.ensures)

pub returns-then-not-is_met_by : goal.returns-then-not-is_met_by
returns-then-not-is_met_by g c =
    let k = g.W.Weight.kind in
    let a = c.args in
    let p = g.L.Layout.plan a.self.now.layout in
    let m = view k (state a.self.now (boards a.carried.now a.kept.now a.trial.now a.word.now)) in
    let e = sym c.in_ok-check.ensures in
    let codec = g.W.TicketWeight.codec in
    let t = a.ticket.now in
    let f = sym c.in_ok-packed.ensures.number in
    let x = c.unpack.new.word in
    let long : length a.costs.now ≡ p.cells = (all_fit k p a.costs.now m e).costs.long in
    let ex = claimed k p a.costs.now codec t (length a.costs.now) c.in_ok-packed.packed.now x long c.in_ok-packed.ensures.word (search rules) in
    let em = c.in_ok-packed.ensures.work in
    let test = ap (λ l. codeword (g.L.Layout.plan l).rows (bits x)) (sym c.of-table.ensures) ∙ sym c.is_met_by.ensures in
    record {
      took = record {
        why = unmet k p a.costs.now codec t m a.work.now e f x ex (test ∙ c.if-not-is_met_by.true);
        done = tt;
        same = refl;
      };
      listed = work_is k p a.costs.now codec t m a.work.now e f c.read.new.work em;
    }

pub floor_value-floor-requires : goal.floor_value-floor-requires
floor_value-floor-requires g c =
    let k = g.W.Weight.kind in
    let a = c.args in
    let p = g.L.Layout.plan a.self.now.layout in
    let m = view k (state a.self.now (boards a.carried.now a.kept.now a.trial.now a.word.now)) in
    let e = sym c.in_ok-check.ensures in
    let codec = g.W.TicketWeight.codec in
    let t = a.ticket.now in
    let f = sym c.in_ok-packed.ensures.number in
    let x = c.unpack.new.word in
    let long : length a.costs.now ≡ p.cells = (all_fit k p a.costs.now m e).costs.long in
    let some = multipliers_fit k codec p t (length a.work.now) f in
    let em = c.in_ok-packed.ensures.work in
    subst (λ y. Fit k (g.L.Layout.plan y) a.costs.now c.read.new.work) (sym c.of-table.ensures)
    (subst (λ ms. Fit k p a.costs.now ms) (sym em) (given_list k p a.costs.now m e _ some.long some.small))

pub sum_marked-cost-requires-clause-small : goal.sum_marked-cost-requires-clause-small
sum_marked-cost-requires-clause-small g c =
    let k = g.W.Weight.kind in
    let a = c.args in
    let p = g.L.Layout.plan a.self.now.layout in
    let m = view k (state a.self.now (boards a.carried.now a.kept.now a.trial.now a.word.now)) in
    let e = sym c.in_ok-check.ensures in
    given_total k p a.costs.now m e

pub returns-then-not-mean_same : goal.returns-then-not-mean_same
returns-then-not-mean_same g c =
    let k = g.W.Weight.kind in
    let a = c.args in
    let p = g.L.Layout.plan a.self.now.layout in
    let m = view k (state a.self.now (boards a.carried.now a.kept.now a.trial.now a.word.now)) in
    let e = sym c.in_ok-check.ensures in
    let codec = g.W.TicketWeight.codec in
    let t = a.ticket.now in
    let f = sym c.in_ok-packed.ensures.number in
    let x = c.unpack.new.word in
    let long : length a.costs.now ≡ p.cells = (all_fit k p a.costs.now m e).costs.long in
    let ex = claimed k p a.costs.now codec t (length a.costs.now) c.in_ok-packed.packed.now x long c.in_ok-packed.ensures.word (search rules) in
    let em = c.in_ok-packed.ensures.work in
    let test = ap (λ l. codeword (g.L.Layout.plan l).rows (bits x)) (sym c.of-table.ensures) ∙ sym c.is_met_by.ensures in
    record {
      took = record {
        why = unproved k p a.costs.now codec t m a.work.now e f x ex (test ∙ c.if-not-is_met_by.false) c.read.new.work em (k.meaning c.floor_value-floor.result) (k.meaning c.sum_marked-cost.result) (c.floor_value-floor.ensures ∙ ap (λ y. floor_of k (g.L.Layout.plan y) a.costs.now c.read.new.work) c.of-table.ensures) c.sum_marked-cost.ensures.value (sym c.mean_same.ensures ∙ c.if-not-mean_same.true);
        done = tt;
        same = refl;
      };
      listed = work_is k p a.costs.now codec t m a.work.now e f c.read.new.work em;
    }

pub raise-requires : goal.raise-requires
raise-requires g c =
    let k = g.W.Weight.kind in
    let a = c.args in
    let p = g.L.Layout.plan a.self.now.layout in
    let m = view k (state a.self.now (boards a.carried.now a.kept.now a.trial.now a.word.now)) in
    let e = sym c.in_ok-check.ensures in
    let codec = g.W.TicketWeight.codec in
    let t = a.ticket.now in
    let f = sym c.in_ok-packed.ensures.number in
    let x = c.unpack.new.word in
    let long : length a.costs.now ≡ p.cells = (all_fit k p a.costs.now m e).costs.long in
    let some = multipliers_fit k codec p t (length a.work.now) f in
    let all = all_fit k p a.costs.now m e in
    all.kept.long ∙ sym some.long ∙ ap length (sym c.in_ok-packed.ensures.work)

pub lower-requires : goal.lower-requires
lower-requires g c =
    let k = g.W.Weight.kind in
    let a = c.args in
    let p = g.L.Layout.plan a.self.now.layout in
    let m = view k (state a.self.now (boards a.carried.now a.kept.now a.trial.now a.word.now)) in
    let e = sym c.in_ok-check.ensures in
    let all = all_fit k p a.costs.now m e in
    let u : length c.unpack.new.word ≡ length a.costs.now = search rules in
    all.word.long ∙ sym (u ∙ all.costs.long)

pub returns : goal.returns
returns g c =
    let k = g.W.Weight.kind in
    let a = c.args in
    let p = g.L.Layout.plan a.self.now.layout in
    let m = view k (state a.self.now (boards a.carried.now a.kept.now a.trial.now a.word.now)) in
    let e = sym c.in_ok-check.ensures in
    let codec = g.W.TicketWeight.codec in
    let t = a.ticket.now in
    let f = sym c.in_ok-packed.ensures.number in
    let x = c.unpack.new.word in
    let long : length a.costs.now ≡ p.cells = (all_fit k p a.costs.now m e).costs.long in
    let ex = claimed k p a.costs.now codec t (length a.costs.now) c.in_ok-packed.packed.now x long c.in_ok-packed.ensures.word (search rules) in
    let em = c.in_ok-packed.ensures.work in
    let test = ap (λ l. codeword (g.L.Layout.plan l).rows (bits x)) (sym c.of-table.ensures) ∙ sym c.is_met_by.ensures in
    let eu = c.floor_value-floor.ensures ∙ ap (λ y. floor_of k (g.L.Layout.plan y) a.costs.now c.read.new.work) c.of-table.ensures in
    let meets = test ∙ c.if-not-is_met_by.false in
    let u = k.meaning c.floor_value-floor.result in
    let v = k.meaning c.sum_marked-cost.result in
    let now = seen k c.progress-progress.result (boards a.carried.now a.kept.now a.trial.now a.word.now) in
    let up = seen k c.raise.new.self (boards a.carried.now c.raise.new.kept a.trial.now a.word.now) in
    let all = taken k p a.costs.now codec t m a.work.now e f x ex meets c.read.new.work em u v eu c.sum_marked-cost.ensures.value now up _
    (c.raise.ensures.after a.carried.now a.trial.now a.word.now) (c.lower.ensures.after a.carried.now c.raise.new.kept a.trial.now) in
    record {
      took = record {
        why = proved k p a.costs.now codec t m a.work.now e f x ex meets c.read.new.work em u v eu c.sum_marked-cost.ensures.value (sym c.mean_same.ensures ∙ c.if-not-mean_same.false);
        done = (tt, search rules, refl);
        same = tt;
      };
      listed = work_is k p a.costs.now codec t m a.work.now e f c.read.new.work em;
    }
