use Rattle.std.proofs.Common.{refl}
use Rattle.tickets.specs.Tickets.{ticket}
use Rattle.model.specs.Model.{floor_of, trial_of, cost_of, passes, moves, rounds_of}
use Rattle.model.specs.Calls.{shape_refusal}
use Rattle.promise.proofs.worked_readings.Goals as goal

pub returns : goal.returns
unfolding floor_of trial_of cost_of passes moves rounds_of shape_refusal ticket
returns c =
    record {
      zeros = (refl, refl);
      free = (refl, refl);
      tie = (refl, refl);
      pair = (refl, refl);
      single = (refl, refl);
      new = (refl, refl, refl, refl);
      eight = (refl, refl);
      met = (refl, refl, refl, refl);
      kept = refl;
      carried = refl;
      written = refl;
      ticket = refl;
      fifth = refl;
      sixth = refl;
      best_floor = (refl, refl, refl, refl);
      two = (refl, refl);
      trial = refl;
      not_met = (refl, refl, refl, refl);
      one = (refl, refl);
      rowless = (refl, refl, refl, refl);
      at_begin = (refl, refl, refl, refl);
      none = (refl, refl);
      fewer_dark = (refl, refl, refl, refl);
      first_stays = (refl, refl, refl, refl);
    }
