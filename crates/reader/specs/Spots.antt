-- Places of a row with the weight there, and what they stand for.
use Rattle.std.specs.Prelude.{◌≡◌, ℕ, Bool, false, Some, None, Option, ◌==◌, unsigned_abs}
use Rattle.dual.specs.Choice.{Spot, negative}
use Rattle.weights.specs.Kinds.{Kind}

abbrev pub spot : {W : Type 0} → Kind W → ℕ × W → Spot
spot k p = (p.0, unsigned_abs (k.meaning p.1))

-- the weight that was found, if any, has the sign asked for
abbrev pub OfSign : {W : Type 0} → Kind W → Bool → Option (ℕ × W) → Type 0
OfSign k t None = Unit {0}
OfSign k t (Some p) = negative (k.meaning p.1) ≡ t

-- whether the place is the one that is turned
abbrev pub turned_at : Option ℕ → ℕ → Bool
turned_at None place = false
turned_at (Some turned) place = turned == place
