-- Part by part, and then by the pair's meaning.
use Rattle.std.proofs.Common.{◌-ℤ◌, rules}
use Rattle.weights.proofs.Cuts.{paired_exact, abs_difference, joined_difference}
use Rattle.weights.proofs.paired.weight.PairedWeight.minus.Goals as goal

pub returns : goal.returns
returns c =
    let a = c.args.self in
    let b = c.args.other in
    let grey = abs_difference a.grey b.grey in
    let dark = abs_difference a.dark b.dark in
    record {
      difference = paired_exact a b _ (a.grey -ℤ b.grey) (a.dark -ℤ b.dark) _ grey dark (search rules) (search rules) (joined_difference a.grey a.dark b.grey b.dark);
      grey = search rules;
      dark = search rules;
    }
