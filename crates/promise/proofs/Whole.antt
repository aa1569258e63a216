-- The three parts together.
use Rattle.std.proofs.Common.{Some, None}
use Rattle.layouts.specs.Plans.{Plan}
use Rattle.weights.specs.Kinds.{Kind}
use Rattle.tickets.specs.Codecs.{Codec}
use Rattle.promise.specs.Theorem.{NoFalseWord}
use Rattle.promise.proofs.Bounds.{floor_and_ceiling}
use Rattle.promise.proofs.Tickets.{ticket_is_accepted}
use Rattle.promise.proofs.Sums.{sums_never_disagree}

pub whole : {L P W V : Type 0} (lplan : L → Plan) (pplan : P → Plan) (kind : Kind W) (ticket_kind : Kind V) (codec : Codec V) → NoFalseWord lplan pplan kind ticket_kind codec
whole lplan pplan kind ticket_kind codec =
    record {
      floor_and_ceiling = (floor_and_ceiling lplan kind None, floor_and_ceiling lplan ticket_kind (Some codec));
      ticket = ticket_is_accepted lplan pplan ticket_kind codec;
      sums = (sums_never_disagree lplan pplan kind None, sums_never_disagree lplan pplan ticket_kind (Some codec));
    }
