use Rattle.std.proofs.Common.{sym, ap, ◌∙◌, subst}
use Rattle.std.specs.Option.{option_map}
use Rattle.reader.specs.Spots.{spot, OfSign}
use Rattle.reader.proofs.Rows.{nearest_takes, nearest_passes, of_sign, of_other_sign}
use Rattle.reader.proofs.choice.nearest.Goals as goal
use Rattle.reader.proofs.choice.nearest.Goals.{then-is_negative-below, else-is_negative-below}

pub loop-i-preserved : goal.loop-i-preserved
loop-i-preserved g c =
    let k = g.W.Weight.kind in
    let m = c.index-multipliers-i.result in
    elim c.if-is_negative-below.branch [
      | then-is_negative-below w ↦ (
        nearest_takes k c.args.below c.args.multipliers.now c.loop-i.i m c.loop-i.best c.if-is_negative-below.best c.loop-i-test.true
            c.index-multipliers-i.is (of_sign _ _ _ c.is_negative.ensures w.if-is_negative-below.true) c.loop-i.invariant.0
            (ap (option_map (spot k)) w.best-is ∙ w.nearer_of-best.ensures.value),
        subst (OfSign k c.args.below) (sym w.best-is) w.nearer_of-best.ensures.sign,
      )
      | else-is_negative-below w ↦
          let same = ap (option_map (spot k)) w.best-is in
          let pass = nearest_passes k c.args.below c.args.multipliers.now c.loop-i.i m c.loop-i.best c.loop-i-test.true
          c.index-multipliers-i.is (of_other_sign _ _ _ c.is_negative.ensures w.if-is_negative-below.false) c.loop-i.invariant.0 in
          (cc, subst (OfSign k c.args.below) (sym w.best-is) c.loop-i.invariant.1)
    ]
