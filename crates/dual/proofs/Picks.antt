-- Sums over marked places: a place that is turned, an entry that is lowered, a list cut in two, the least sum of all.
use Rattle.std.proofs.Common.{◌≡◌, ℕ, zero, suc, ◌<◌, ◌≤◌, Bool, true, false, not, List, [], ◌∷◌, length, get_or, take, drop, ℤ, pos, negsuc, ◌+ℤ◌, ◌-ℤ◌, ◌*ℤ◌, nat_abs, ◌≤ℤ◌, Some, refl, arith}
use Rattle.std.proofs.lemmas.Int.{ints}
use Rattle.dual.specs.Choice.{negative, negatives, odd, taken, pick, flipped}
use Rattle.dual.specs.Bound.{lowered, bit, disagreement}

-- ---- a place that is turned
pub odd_flipped : (s : List Bool) (i : ℕ) → i < length s → odd (flipped (Some i) s) ≡ not (odd s)
odd_flipped [] i h = absurd (omega arith)
odd_flipped (true ∷ s) zero h = grind arith
odd_flipped (false ∷ s) zero h = refl
odd_flipped (c ∷ s) (suc i) h = let ih = odd_flipped s i (omega arith) in grind arith

-- away from the signs, each place costs its absolute value
pub pick_flipped : (ms : List ℤ) (i : ℕ) → i < length ms → pick (flipped (Some i) (negatives ms)) ms ≡ pick (negatives ms) ms +ℤ pos (nat_abs (get_or ms i (pos 0)))
pick_flipped [] i h = absurd (omega arith)
pick_flipped (pos n ∷ ms) zero h = omega (arith, ints)
pick_flipped (negsuc n ∷ ms) zero h = omega (arith, ints)
pick_flipped (m ∷ ms) (suc i) h = let ih = pick_flipped ms i (omega arith) in omega (arith, ints)

-- ---- an entry that is lowered
pub pick_lowered : (x : List Bool) (cs : List ℤ) (e : ℕ) (m : ℤ) → length x ≤ length cs → pick x (lowered cs e m) ≡ pick x cs -ℤ taken (get_or x e false) m
pick_lowered [] cs e m h = refl
pick_lowered (b ∷ x) [] e m h = absurd (omega arith)
pick_lowered (true ∷ x) (c ∷ cs) zero m h = omega (arith, ints)
pick_lowered (false ∷ x) (c ∷ cs) zero m h = omega (arith, ints)
pick_lowered (b ∷ x) (c ∷ cs) (suc e) m h = let ih = pick_lowered x cs e m (omega arith) in omega (arith, ints)

-- ---- a list cut in two
pick_none : (s : List Bool) → pick s [] ≡ pos 0
pick_none [] = refl
pick_none (b ∷ s) = refl

pub pick_split : (n : ℕ) (s : List Bool) (ms : List ℤ) → pick s ms ≡ pick (take n s) (take n ms) +ℤ pick (drop n s) (drop n ms)
pick_split zero s ms = omega (arith, ints)
pick_split (suc n) [] ms = refl
pick_split (suc n) (b ∷ s) [] = let e = pick_none (drop n s) in omega (arith, ints)
pick_split (suc n) (b ∷ s) (m ∷ ms) = let ih = pick_split n s ms in omega (arith, ints)

-- ---- the least sum of all: at the negative entries
least_entry : (b : Bool) (m : ℤ) → taken (negative m) m ≤ℤ taken b m
least_entry true (pos n) = omega (arith, ints)
least_entry true (negsuc n) = omega (arith, ints)
least_entry false (pos n) = omega (arith, ints)
least_entry false (negsuc n) = omega (arith, ints)

pub least_any : (s : List Bool) (ms : List ℤ) → pick (negatives ms) ms ≤ℤ pick s ms
least_any [] [] = omega (arith, ints)
least_any [] (m ∷ ms) = let ih = least_any [] ms in let here = least_entry false m in omega (arith, ints)
least_any (b ∷ s) [] = omega (arith, ints)
least_any (b ∷ s) (m ∷ ms) = let ih = least_any s ms in let here = least_entry b m in omega (arith, ints)

-- ---- two sets of edges: what their bits differ by is what their sums differ by
edge_difference : (m : ℤ) (z x : Bool) → m *ℤ (bit z -ℤ bit x) ≡ taken z m -ℤ taken x m
edge_difference m true true = omega (arith, ints)
edge_difference m true false = omega (arith, ints)
edge_difference m false true = omega (arith, ints)
edge_difference m false false = omega (arith, ints)

pub disagreement_is : (ms : List ℤ) (z x : List Bool) → length z ≡ length ms → length x ≡ length ms → disagreement ms z x ≡ pick z ms -ℤ pick x ms
disagreement_is [] [] [] lz lx = refl
disagreement_is [] [] (b ∷ x) lz lx = absurd (omega arith)
disagreement_is [] (b ∷ z) x lz lx = absurd (omega arith)
disagreement_is (m ∷ ms) [] x lz lx = absurd (omega arith)
disagreement_is (m ∷ ms) (a ∷ z) [] lz lx = absurd (omega arith)
disagreement_is (m ∷ ms) (a ∷ z) (b ∷ x) lz lx =
    let ih = disagreement_is ms z x (omega arith) (omega arith) in
    let here = edge_difference m a b in
    omega (arith, ints)
