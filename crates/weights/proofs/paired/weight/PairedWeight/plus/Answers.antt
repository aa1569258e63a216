-- Part by part, and then by the pair's meaning.
use Rattle.std.proofs.Common.{◌+ℤ◌, rules}
use Rattle.weights.proofs.Cuts.{paired_exact, abs_sum, joined_sum}
use Rattle.weights.proofs.paired.weight.PairedWeight.plus.Goals as goal

pub returns : goal.returns
returns c =
    let a = c.args.self in
    let b = c.args.other in
    let grey = abs_sum a.grey b.grey in
    let dark = abs_sum a.dark b.dark in
    record {
      sum = paired_exact a b _ (a.grey +ℤ b.grey) (a.dark +ℤ b.dark) _ grey dark (search rules) (search rules) (joined_sum a.grey a.dark b.grey b.dark);
      grey = search rules;
      dark = search rules;
    }
