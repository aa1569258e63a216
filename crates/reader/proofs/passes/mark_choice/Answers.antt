use Rattle.std.proofs.Common.{eqb, get_or, sym, ◌∙◌}
use Rattle.reader.proofs.Turns.{byte_is, turned_marks, turned_within}
use Rattle.reader.proofs.passes.mark_choice.Goals as goal

pub bounds-marks-turned : goal.bounds-marks-turned
bounds-marks-turned g c =
    turned_within g.W.Weight.kind c.args.multipliers.now c.mark_negatives.new.marks c.in-Some.turned (sym c.mark_negatives.ensures.parity ∙ c.if-mark_negatives.true)
    c.in-Some.ensures c.mark_negatives.ensures.marks

pub bounds-marks-turned-in-Some : goal.bounds-marks-turned-in-Some
bounds-marks-turned-in-Some g c =
    turned_within g.W.Weight.kind c.args.multipliers.now c.mark_negatives.new.marks c.in-Some.turned (sym c.mark_negatives.ensures.parity ∙ c.if-mark_negatives.true)
    c.in-Some.ensures c.mark_negatives.ensures.marks

pub returns-in-Some : goal.returns-in-Some
returns-in-Some g c =
    turned_marks g.W.Weight.kind c.args.multipliers.now c.mark_negatives.new.marks c.in-Some.turned c.from.result (sym c.mark_negatives.ensures.parity ∙ c.if-mark_negatives.true)
    c.in-Some.ensures c.mark_negatives.ensures.marks (c.from.ensures ∙ byte_is (eqb (get_or c.mark_negatives.new.marks c.in-Some.turned 0) 0))
