use Rattle.std.proofs.Common.{rules}
use Rattle.std.proofs.lemmas.List.{take_rest}
use Rattle.tickets.proofs.reader.behind_mark.Goals as goal

pub returns-in-len2-up : goal.returns-in-len2-up
returns-in-len2-up c = (search rules, take_rest c.args.bytes.now 2, search (rules, take_rest))
