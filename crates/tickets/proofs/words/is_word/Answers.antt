use Rattle.std.proofs.Common.{◌≤◌, rules}
use Rattle.std.specs.Prelude.{IsTrue, All, ◌↔◌}
use Rattle.std.proofs.iter.runs.Made.{chains}
use Rattle.tickets.proofs.Packing.{word_test}
use Rattle.tickets.proofs.words.is_word.Goals as goal

pub returns : goal.returns
returns c =
    let bits : IsTrue c.all.result ↔ All (λ b. b ≤ 1) c.args.bytes.now = search (rules, chains) in
    word_test c.all.result c.args.bytes.now bits
