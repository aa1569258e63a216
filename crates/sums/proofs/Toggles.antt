-- A cell toggled in a rising row.
use Rattle.std.proofs.Common.{◌≡◌, ℕ, zero, suc, ◌+◌, ◌<◌, ◌≤◌, Bool, true, false, List, [], ◌∷◌, length, get_or, Ok, Err, refl, ap, ◌∙◌, ⊎_elim, arith}
use Rattle.std.specs.Prelude.{nat_eq, insert, remove}
use Rattle.std.specs.List.Sorted.{IsBinarySearchResult}
use Rattle.std.specs.Ordering.{nat_cmp}
use Rattle.std.proofs.lemmas.List.Sorted.{searched}
use Rattle.std.proofs.lemmas.List.Edits.{length-insert}
use Rattle.std.proofs.lemmas.Bool.{cases_lt}
use Rattle.std.proofs.lemmas.Bool.Decides.{nat_tests}
use Rattle.layouts.specs.Lists.{rises_from, row_rises}
use Rattle.dual.specs.Choice.{xor, odd}
use Rattle.dual.specs.Bound.{at}
use Rattle.sums.specs.Sums.{toggled}
use Rattle.sums.specs.Laws.{has}

-- what it says that a row rises, at its first cell
pub first_rises : (low cells first : ℕ) (row : List ℕ) → rises_from low cells (first ∷ row) ≡ true
    → (low ≤ first) × (first < cells) × (rises_from (first + 1) cells row ≡ true)
first_rises low cells first row u = grind (arith, nat_tests)

pub cells_from : (low cells : ℕ) (row : List ℕ) (k : ℕ) → k < length row → rises_from low cells row ≡ true → low ≤ get_or row k 0
cells_from low cells [] k h u = absurd (omega arith)
cells_from low cells (first ∷ row) zero h u = (first_rises low cells first row u).0
cells_from low cells (first ∷ row) (suc k) h u =
    let f = first_rises low cells first row u in
    let after = cells_from (first + 1) cells row k (omega arith) f.2 in
    omega (arith, f.0)

pub in_order : (low cells : ℕ) (row : List ℕ) → rises_from low cells row ≡ true → (i j : ℕ) → i ≤ j → j < length row → get_or row i 0 ≤ get_or row j 0
in_order low cells [] u i j l h = absurd (omega arith)
in_order low cells (first ∷ row) u zero zero l h = omega arith
in_order low cells (first ∷ row) u zero (suc j) l h =
    let f = first_rises low cells first row u in
    let after = cells_from (first + 1) cells row j (omega arith) f.2 in
    omega arith
in_order low cells (first ∷ row) u (suc i) zero l h = absurd (omega arith)
in_order low cells (first ∷ row) u (suc i) (suc j) l h =
    let f = first_rises low cells first row u in in_order (first + 1) cells row f.2 i j (omega arith) (omega arith)

from_lower : (low lower cells : ℕ) (row : List ℕ) → lower ≤ low → rises_from low cells row ≡ true → rises_from lower cells row ≡ true
from_lower low lower cells [] l u = refl
from_lower low lower cells (first ∷ row) l u = grind (arith, nat_tests)

pub few_rising : (low cells : ℕ) (row : List ℕ) → low ≤ cells → rises_from low cells row ≡ true → low + length row ≤ cells
few_rising low cells [] l u = omega arith
few_rising low cells (first ∷ row) l u =
    let f = first_rises low cells first row u in
    let after = few_rising (first + 1) cells row (omega (arith, f.1)) f.2 in
    omega (arith, f.0)

-- ---- what the code does: the cell is taken out at its place, or put in
pub toggled_out : (low cells : ℕ) (row : List ℕ) (cell i : ℕ) → rises_from low cells row ≡ true → i < length row → get_or row i 0 ≡ cell
    → remove row i ≡ toggled row cell
toggled_out low cells [] cell i u h e = absurd (omega arith)
toggled_out low cells (first ∷ row) cell zero u h e = grind (arith, nat_tests)
toggled_out low cells (first ∷ row) cell (suc i) u h e =
    let f = first_rises low cells first row u in
    let above = cells_from (first + 1) cells row i (omega arith) f.2 in
    let after = toggled_out (first + 1) cells row cell i f.2 (omega arith) e in
    grind (arith, nat_tests)

pub toggled_in : (row : List ℕ) (cell i : ℕ) → i ≤ length row → ((k : ℕ) → k < i → get_or row k 0 < cell)
    → ((k : ℕ) → i ≤ k → k < length row → cell < get_or row k 0) → insert row i cell ≡ toggled row cell
toggled_in [] cell zero h l g = refl
toggled_in [] cell (suc i) h l g = absurd (omega arith)
toggled_in (first ∷ row) cell zero h l g = let above : cell < first = g 0 (omega arith) (omega arith) in grind (arith, nat_tests)
toggled_in (first ∷ row) cell (suc i) h l g =
    let below : first < cell = l 0 (omega arith) in
    let after = toggled_in row cell i (omega arith) (λ k m. l (suc k) (omega arith)) (λ k m n. g (suc k) (omega arith) (omega arith)) in
    grind (arith, nat_tests)

-- ---- it stays a rising row
pub still_rises : (low cells : ℕ) (row : List ℕ) (cell : ℕ) → low ≤ cell → cell < cells → rises_from low cells row ≡ true
    → rises_from low cells (toggled row cell) ≡ true
still_rises low cells [] cell l h u = grind (arith, nat_tests)
still_rises low cells (first ∷ row) cell l h u =
    let f = first_rises low cells first row u in
    let lower = from_lower (first + 1) low cells row (omega (arith, f.0)) f.2 in
    ⊎_elim
    (λ (m : cell < first). grind (arith, nat_tests))
    (λ (m : first ≤ cell). ⊎_elim
    (λ (n : first < cell). let after = still_rises (first + 1) cells row cell (omega arith) h f.2 in grind (arith, nat_tests))
    (λ (n : cell ≤ first). grind (arith, nat_tests)) (cases_lt first cell))
    (cases_lt cell first)

pub still_rising : (row next : List ℕ) (cell : ℕ) → next ≡ toggled row cell → cell < 128 → row_rises 128 row ≡ true → row_rises 128 next ≡ true
still_rising row next cell e h u = ap (row_rises 128) e ∙ still_rises 0 128 row cell (omega arith) h u

room : (cells : ℕ) (row : List ℕ) (cell i : ℕ) → row_rises cells row ≡ true → cell < cells → i ≤ length row
    → insert row i cell ≡ toggled row cell → length row < cells
room cells row cell i u h l e =
    let few = few_rising 0 cells (toggled row cell) (omega arith) (still_rises 0 cells row cell (omega arith) h u) in
    omega (arith, length-insert row i cell l, ap length e)

-- what a search for the cell says: where it is, and where it belongs
module _ (row seen : List ℕ) (cell i : ℕ) (u : row_rises 128 row ≡ true) (e : seen ≡ row) where
  pub found_out : IsBinarySearchResult (λ other. nat_cmp other cell) seen (Ok i) → remove row i ≡ toggled row cell
  found_out s =
      let at_place = searched row cell (Ok i) (rw e at s) (in_order 0 128 row u) in
      toggled_out 0 128 row cell i u at_place.0 at_place.1

  pub missing_in : IsBinarySearchResult (λ other. nat_cmp other cell) seen (Err i) → insert row i cell ≡ toggled row cell
  missing_in s =
      let between = searched row cell (Err i) (rw e at s) (in_order 0 128 row u) in
      toggled_in row cell i between.0 between.1 between.2

  pub missing_room : cell < 128 → IsBinarySearchResult (λ other. nat_cmp other cell) seen (Err i) → (i ≤ length row) × (length row < 128)
  missing_room h s =
      let between = searched row cell (Err i) (rw e at s) (in_order 0 128 row u) in
      (between.0, room 128 row cell i u h between.0 (missing_in s))

-- ---- what it has then
pub absent : (low cells : ℕ) (row : List ℕ) (cell : ℕ) → cell < low → rises_from low cells row ≡ true → has cell row ≡ false
absent low cells [] cell l u = refl
absent low cells (first ∷ row) cell l u =
    let f = first_rises low cells first row u in
    let after = absent (first + 1) cells row cell (omega (arith, f.0)) f.2 in
    grind (arith, nat_tests)

pub has_toggled : (low cells : ℕ) (row : List ℕ) (cell other : ℕ) → rises_from low cells row ≡ true
    → has other (toggled row cell) ≡ xor (nat_eq other cell) (has other row)
has_toggled low cells [] cell other u = grind (arith, nat_tests)
has_toggled low cells (first ∷ row) cell other u =
    let f = first_rises low cells first row u in
    let after = has_toggled (first + 1) cells row cell other f.2 in
    ⊎_elim
    (λ (m : first < other). grind (arith, nat_tests))
    (λ (m : other ≤ first). let none = absent (first + 1) cells row other (omega arith) f.2 in grind (arith, nat_tests))
    (cases_lt first other)

-- a word has an odd number of dark cells in the row exactly where it had not, if the cell is dark
pub odd_toggled : (x : List Bool) (row : List ℕ) (cell : ℕ) → odd (at x (toggled row cell)) ≡ xor (get_or x cell false) (odd (at x row))
odd_toggled x [] cell = refl
odd_toggled x (first ∷ row) cell = let after = odd_toggled x row cell in grind (arith, nat_tests)
