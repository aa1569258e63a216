-- One parity row: which of its places are chosen, an even number of them, from the multipliers of its edges.
use Rattle.std.specs.Prelude.{ℕ, ◌+◌, Bool, true, false, cond, not, List, [], ◌∷◌, map, ℤ, pos, negsuc, ◌+ℤ◌, Some, None, fold, Option, nat_le, nat_lt, slice_index_or, slice_set, unsigned_abs}

-- zero is not negative
abbrev pub negative : ℤ → Bool
negative (pos n) = false
negative (negsuc n) = true

abbrev pub negatives : List ℤ → List Bool
negatives ms = map negative ms

abbrev pub xor : Bool → Bool → Bool
xor true b = not b
xor false b = b

-- whether an odd number of places is marked
abbrev pub odd : List Bool → Bool
odd [] = false
odd (b ∷ bs) = xor b (odd bs)

abbrev pub taken : Bool → ℤ → ℤ
taken true m = m
taken false m = pos 0

-- the sum of the entries at the marked places
abbrev pub pick : List Bool → List ℤ → ℤ
pick [] ms = pos 0
pick (b ∷ bs) [] = pos 0
pick (b ∷ bs) (m ∷ ms) = taken b m +ℤ pick bs ms

-- a place, and the absolute value of the multiplier there
abbrev pub Spot : Type 0
Spot = ℕ × ℕ

-- the first of the smallest absolute value: a later spot wins only where it is smaller
abbrev pub nearer : Option Spot → Spot → Option Spot
nearer None new = Some new
nearer (Some old) new = cond (nat_lt new.1 old.1) (Some new) (Some old)

-- one step of the search among the multipliers of one sign (t: the negative ones): the next place, and the spot so far
abbrev pub look : Bool → ℕ × Option Spot → ℤ → ℕ × Option Spot
look t s m = (s.0 + 1, cond (xor t (negative m)) s.1 (nearer s.1 (s.0, unsigned_abs m)))

abbrev pub nearest : Bool → List ℤ → Option Spot
nearest t ms = (fold (look t) (0, None) ms).1

-- of the negative spot d and the other spot a, the place that is cheaper to turn, d at equality
abbrev pub cheaper : Option Spot → Option Spot → Option ℕ
cheaper None None = None
cheaper None (Some a) = Some a.0
cheaper (Some d) None = Some d.0
cheaper (Some d) (Some a) = Some (cond (nat_le d.1 a.1) d.0 a.0)

-- the place, if any, at which the choice departs from the signs
abbrev pub toggle : List ℤ → Option ℕ
toggle ms = cond (odd (negatives ms)) (cheaper (nearest true ms) (nearest false ms)) None

abbrev pub flipped : Option ℕ → List Bool → List Bool
flipped None s = s
flipped (Some i) s = slice_set s i (not (slice_index_or s i false))

-- the negative places, with one place turned where their number is odd
abbrev pub chosen : List ℤ → List Bool
chosen ms = flipped (toggle ms) (negatives ms)

-- the sum of the multipliers of the choice
abbrev pub least : List ℤ → ℤ
least ms = pick (chosen ms) ms
