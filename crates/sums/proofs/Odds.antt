-- Rows toggled one after another: a cell, and a dark cell of a word, counts by the rows that have it.
use Rattle.std.proofs.Common.{◌≡◌, ℕ, zero, suc, ◌+◌, ◌<◌, ◌≤◌, Bool, true, false, List, [], ◌∷◌, map, length, get_or, refl, ap, ◌∙◌, ⊎_elim, add-one, arith}
use Rattle.std.proofs.lemmas.List.{get_or_past}
use Rattle.std.proofs.lemmas.Bool.{and_parts, cases_lt}
use Rattle.std.proofs.lemmas.Bool.Decides.{nat_tests}
use Rattle.layouts.specs.Plans.{Plan, row_at}
use Rattle.layouts.specs.Lists.{rises_from, row_rises}
use Rattle.dual.specs.Choice.{xor, odd}
use Rattle.dual.specs.Bound.{at, meets, codeword}
use Rattle.sums.specs.Sums.{toggled, with_row, with_rows, row_sum}
use Rattle.sums.specs.Laws.{has, SumHasOddCells}
use Rattle.sums.proofs.Toggles.{first_rises, absent, still_rises, has_toggled, odd_toggled}

-- ---- the rows of a layout rise
rises_by_places : (low cells : ℕ) (row : List ℕ) → ((k : ℕ) → k < length row → get_or row k 0 < cells)
    → ((k : ℕ) → suc k < length row → get_or row k 0 < get_or row (suc k) 0) → (0 < length row → low ≤ get_or row 0 0)
    → rises_from low cells row ≡ true
rises_by_places low cells [] b r l = refl
rises_by_places low cells (first ∷ row) b r l =
    let here = b 0 (omega arith) in
    let from = l (omega arith) in
    let after = rises_by_places (first + 1) cells row (λ k h. b (suc k) (omega arith)) (λ k h. r (suc k) (omega arith)) (λ h. let up = r 0 (omega arith) in omega arith) in
    grind (arith, nat_tests)

pub plan_rises : (p : Plan) (r : ℕ) → row_rises p.cells (row_at p.rows r) ≡ true
plan_rises p r =
    ⊎_elim
    (λ (h : r < length p.rows). rises_by_places 0 p.cells (row_at p.rows r) (λ k l. p.below r k h l) (λ k l. rw add-one at (p.rising r k h (omega arith))) (λ l. omega arith))
    (λ (h : length p.rows ≤ r). ap (row_rises p.cells) (get_or_past p.rows r [] h))
    (cases_lt r (length p.rows))

-- ---- a cell is in where an odd number of rows has it
pub with_row_rises : (cells : ℕ) (sum : List ℕ) (low : ℕ) (row : List ℕ) → row_rises cells sum ≡ true → rises_from low cells row ≡ true
    → row_rises cells (with_row sum row) ≡ true
with_row_rises cells sum low [] s u = s
with_row_rises cells sum low (first ∷ row) s u =
    let f = first_rises low cells first row u in
    with_row_rises cells (toggled sum first) (first + 1) row (still_rises 0 cells sum first (omega arith) f.1 s) f.2

has_with_row : (cells : ℕ) (sum : List ℕ) (low : ℕ) (row : List ℕ) (cell : ℕ) → row_rises cells sum ≡ true → rises_from low cells row ≡ true
    → has cell (with_row sum row) ≡ xor (has cell row) (has cell sum)
has_with_row cells sum low [] cell s u = refl
has_with_row cells sum low (first ∷ row) cell s u =
    let f = first_rises low cells first row u in
    let one = has_toggled 0 cells sum first cell s in
    let after = has_with_row cells (toggled sum first) (first + 1) row cell (still_rises 0 cells sum first (omega arith) f.1 s) f.2 in
    ⊎_elim
    (λ (m : first < cell). grind (arith, nat_tests))
    (λ (m : cell ≤ first). let none = absent (first + 1) cells row cell (omega arith) f.2 in grind (arith, nat_tests))
    (cases_lt first cell)

module _ (p : Plan) where
  pub with_rows_rises : (sum names : List ℕ) → row_rises p.cells sum ≡ true → row_rises p.cells (with_rows p.rows sum names) ≡ true
  with_rows_rises sum [] s = s
  with_rows_rises sum (name ∷ names) s =
      with_rows_rises (with_row sum (row_at p.rows name)) names (with_row_rises p.cells sum 0 (row_at p.rows name) s (plan_rises p name))

  has_with_rows : (sum names : List ℕ) (cell : ℕ) → row_rises p.cells sum ≡ true
      → has cell (with_rows p.rows sum names) ≡ xor (odd (map (λ name. has cell (row_at p.rows name)) names)) (has cell sum)
  has_with_rows sum [] cell s = refl
  has_with_rows sum (name ∷ names) cell s =
      let one = has_with_row p.cells sum 0 (row_at p.rows name) cell s (plan_rises p name) in
      let after = has_with_rows (with_row sum (row_at p.rows name)) names cell (with_row_rises p.cells sum 0 (row_at p.rows name) s (plan_rises p name)) in
      grind arith

no_more : (b c : Bool) → c ≡ false → xor b c ≡ b
no_more true c e = grind arith
no_more false c e = grind arith

pub odd_sum : SumHasOddCells
odd_sum p names =
    record {
      odd_cells = λ cell. has_with_rows p [] names cell refl ∙ no_more (odd (map (λ name. has cell (row_at p.rows name)) names)) false refl;
      rising = with_rows_rises p [] names refl;
    }

-- ---- a codeword of the rows meets every sum of them
odd_with_row : (x : List Bool) (sum row : List ℕ) → odd (at x (with_row sum row)) ≡ xor (odd (at x row)) (odd (at x sum))
odd_with_row x sum [] = refl
odd_with_row x sum (first ∷ row) =
    let one = odd_toggled x sum first in
    let after = odd_with_row x (toggled sum first) row in
    grind arith

row_met : (rows : List (List ℕ)) (x : List Bool) (r : ℕ) → codeword rows x ≡ true → odd (at x (row_at rows r)) ≡ false
row_met [] x r e = refl
row_met (row ∷ rows) x zero e = let both = and_parts (meets row x) (codeword rows x) e in grind arith
row_met (row ∷ rows) x (suc r) e = let both = and_parts (meets row x) (codeword rows x) e in row_met rows x r both.1

odd_with_rows : (rows : List (List ℕ)) (x : List Bool) (sum names : List ℕ) → codeword rows x ≡ true → odd (at x (with_rows rows sum names)) ≡ odd (at x sum)
odd_with_rows rows x sum [] e = refl
odd_with_rows rows x sum (name ∷ names) e =
    let met = row_met rows x name e in
    let one = odd_with_row x sum (row_at rows name) in
    let after = odd_with_rows rows x (with_row sum (row_at rows name)) names e in
    grind arith

pub sum_met : (rows : List (List ℕ)) (x : List Bool) (names : List ℕ) → codeword rows x ≡ true → meets (row_sum rows names) x ≡ true
sum_met rows x names e = let none = odd_with_rows rows x [] names e in grind arith
