-- Words and choices as the code holds them: one byte a cell or an edge, 1 for dark or chosen, 0 for blank or not.
use Rattle.std.specs.Prelude.{ℕ, Bool, true, false, not, List, map, ◌==◌}

abbrev pub byte : Bool → ℕ
byte true = 1
byte false = 0

abbrev pub bytes : List Bool → List ℕ
bytes bs = map byte bs

abbrev pub marked : ℕ → Bool
marked b = not (b == 0)

abbrev pub bits : List ℕ → List Bool
bits bs = map marked bs
