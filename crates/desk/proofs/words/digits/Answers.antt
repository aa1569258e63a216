use Rattle.std.proofs.Common.{◌≡◌, ◌+◌, ◌-◌, ◌*◌, ◌^◌, min, get_or, take, sym, ap, ◌∙◌, arith, take_all, below_more, false-eqb}
use Rattle.std.proofs.lemmas.List.Sums.{fold_more}
use Rattle.desk.specs.Digits.{said}
use Rattle.desk.proofs.words.digits.Goals as goal

pub loop-byte-preserved : goal.loop-byte-preserved
loop-byte-preserved c =
    let bs = c.args.bytes.now in
    let i = c.loop-byte.byte-index in
    let step : said (take (i + 1) bs) ≡ said (take i bs) * 10 + (get_or bs i 0 - 48) =
    fold_more (λ n b. n * 10 + (b - 48)) 0 bs i 0 c.loop-byte-test.true in
    (below_more _ _ c.loop-byte.invariant.0 (sym c.is_ascii_digit.ensures.value ∙ c.if-not-is_ascii_digit.false), omega (arith, c.loop-byte.invariant.1))

pub returns : goal.returns
returns c =
    let whole = take_all c.loop-byte.byte-index c.args.bytes.now c.loop-byte-test.false in
    ((omega (arith, false-eqb _ 0 c.if-is_empty.ensures), λ k h. c.loop-byte.invariant.0 k (omega arith)), c.loop-byte.invariant.1 ∙ ap (λ bs. min (said bs) (2 ^ 64 - 1)) whole)
