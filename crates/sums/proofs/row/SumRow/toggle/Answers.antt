use Rattle.std.proofs.Common.{rules}
use Rattle.sums.proofs.Toggles.{found_out, missing_in, missing_room, still_rising}
use Rattle.sums.proofs.row.SumRow.toggle.Goals as goal

pub returns-in-Ok : goal.returns-in-Ok
returns-in-Ok c =
    let row = c.args.self.now in
    let out = found_out row.cells.items c.deref.result.now c.args.cell c.in-Ok.place row.rising c.deref.ensures.0 c.in-Ok.ensures.position in
    cc

pub returns-in-Err : goal.returns-in-Err
returns-in-Err c =
    let row = c.args.self.now in
    let put = missing_in row.cells.items c.deref.result.now c.args.cell c.in-Err.place row.rising c.deref.ensures.0 c.in-Err.ensures.position in
    cc

pub insert-requires : goal.insert-requires
insert-requires c =
    let row = c.args.self.now in
    let fits = missing_room row.cells.items c.deref.result.now c.args.cell c.in-Err.place row.rising c.deref.ensures.0 c.requires c.in-Err.ensures.position in
    search rules

pub invariant_of-self : goal.invariant_of-self
invariant_of-self c =
    let row = c.args.self.now in
    let out = found_out row.cells.items c.deref.result.now c.args.cell c.in-Ok.place row.rising c.deref.ensures.0 c.in-Ok.ensures.position in
    record { rising = still_rising row.cells.items c.remove.new.self.items c.args.cell (cc) c.requires row.rising }

pub invariant_of-self-in-Err : goal.invariant_of-self-in-Err
invariant_of-self-in-Err c =
    let row = c.args.self.now in
    let put = missing_in row.cells.items c.deref.result.now c.args.cell c.in-Err.place row.rising c.deref.ensures.0 c.in-Err.ensures.position in
    record { rising = still_rising row.cells.items c.insert.new.self.items c.args.cell (cc) c.requires row.rising }
