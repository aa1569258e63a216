use Rattle.std.proofs.Common.{rules}
use Rattle.reader.proofs.Rows.{takes_at}
use Rattle.reader.proofs.choice.RowChoice.takes.Goals as goal

pub returns-in-Some : goal.returns-in-Some
returns-in-Some g c = search (rules, takes_at)
