-- Rising rows by their neighbours, and by their last number.
use Rattle.std.proofs.Common.{◌≡◌, ℕ, ◌+◌, ◌-◌, ◌<◌, ◌≤◌, Bool, true, false, ◌&&◌, List, [], ◌∷◌, length, get_or, take, Some, sym, ap, ◌∙◌, arith}
use Rattle.std.specs.Prelude.{nat_lt}
use Rattle.std.specs.List.{IsAllAdjacentAnswer, list_all, slice_get}
use Rattle.std.proofs.Math.ListN.{get_or-map}
use Rattle.std.proofs.lemmas.List.{length-map, get_or_default, get_or-map as get_or_map}
use Rattle.std.proofs.lemmas.List.Folds.{list_all-map}
use Rattle.std.proofs.lemmas.List.Sums.{fold_more}
use Rattle.std.proofs.lemmas.Option.{slice_get_within, get_or_from_slice_get}
use Rattle.std.proofs.lemmas.Bool.Decides.{nat_tests}
use Rattle.layouts.specs.declared.RowNo.{RowNo}
use Rattle.layouts.specs.Plans.{row_at, edges}
use Rattle.layouts.specs.Lists.{rises, rises_from, row_rises}
use Rattle.layouts.specs.ListPlan.{cell_below}
use Rattle.layouts.proofs.Rising.{rises_by_neighbours, row_by_parts}
use Rattle.sums.specs.Names.{numbers}
use Rattle.sums.specs.Sums.{some_rising, with_row, with_rows}
use Rattle.sums.specs.Tables.{cells_of}
use Rattle.sums.specs.declared.row.SumRow.{SumRow}
use Rattle.dual.proofs.Steps.{edges_more}
use Rattle.sums.proofs.Toggles.{first_rises, cells_from, few_rising}

pub number_at : (rows : List RowNo) (i : ℕ) (d : RowNo) → i < length rows → get_or (numbers rows) i 0 ≡ (get_or rows i d).0
number_at rows i d h = get_or_default (numbers rows) i 0 d.0 (omega (arith, length-map rows (λ row. row.0))) ∙ get_or-map (λ (row : RowNo). row.0) rows i d

-- what `is_sorted_by` answers at `<` of the numbers
pub numbers_rise : (rows : List RowNo) (r : Bool) → IsAllAdjacentAnswer (λ x y b. b ≡ nat_lt x.0 y.0) rows r → r ≡ rises (numbers rows)
numbers_rise rows r a = rises_by_neighbours (numbers rows) r (by_number r a)
  where
    by_number : (r : Bool) → IsAllAdjacentAnswer (λ x y b. b ≡ nat_lt x.0 y.0) rows r → IsAllAdjacentAnswer (λ x y b. b ≡ nat_lt x y) (numbers rows) r
    by_number true a = λ k d h.
        let e : RowNo = record { 0 = d } in
        let one = get_or-map (λ (row : RowNo). row.0) rows k e in
        let next = get_or-map (λ (row : RowNo). row.0) rows (k + 1) e in
        let here = a k e (omega (arith, length-map rows (λ row. row.0))) in
        cc
    by_number false a = (
      a.0,
      omega (arith, a.1, length-map rows (λ row. row.0)),
      λ d.
          let e : RowNo = record { 0 = d } in
          let one = get_or-map (λ (row : RowNo). row.0) rows a.0 e in
          let next = get_or-map (λ (row : RowNo). row.0) rows (a.0 + 1) e in
          let here = a.2 e in
          cc,
    )

-- at least one number, the numbers rise, and all are below
pub named_by_parts : (rows : List RowNo) (count : ℕ)
    → some_rising count (numbers rows) ≡ (nat_lt 0 (length rows) && (rises (numbers rows) && list_all (λ row. nat_lt row.0 count) rows))
named_by_parts rows count =
    let parts = row_by_parts count (numbers rows) in
    let below = list_all-map (λ number. nat_lt number count) (λ (row : RowNo). row.0) rows in
    let same = length-map rows (λ row. row.0) in
    grind arith

-- of a rising row, the last cell decides whether all are below
last_decides : (low most cells first : ℕ) (row : List ℕ) → rises_from low most (first ∷ row) ≡ true
    → nat_lt (get_or (first ∷ row) (length row) 0) cells ≡ rises_from low cells (first ∷ row)
last_decides low most cells first [] u = grind (arith, nat_tests)
last_decides low most cells first (second ∷ row) u =
    let f = first_rises low most first (second ∷ row) u in
    let after = last_decides (first + 1) most cells second row f.2 in
    let above = cells_from (first + 1) most (second ∷ row) (length row) (omega arith) f.2 in
    grind (arith, nat_tests)

pub fits_by_last : (most cells : ℕ) (row seen : List ℕ) (last : ℕ) → row_rises most row ≡ true → seen ≡ row
    → Some last ≡ slice_get seen (length seen - 1) → nat_lt last cells ≡ some_rising cells row
fits_by_last most cells [] seen last u e l =
    let within = slice_get_within seen (length seen - 1) last (sym l) in absurd (omega (arith, ap length e))
fits_by_last most cells (first ∷ row) seen last u e l =
    let decides = last_decides 0 most cells first row u in
    let there = get_or_from_slice_get seen (length seen - 1) last 0 (sym l) in
    let place : length seen - 1 ≡ length row = omega (arith, ap length e) in
    let same : get_or (first ∷ row) (length row) 0 ≡ last = cc in
    grind (arith, nat_tests)

-- one more of the named rows
pub named_more : (rows : List (List ℕ)) (start : List ℕ) (names : List RowNo) (i : ℕ) (d : RowNo) (sum next : List ℕ) → i < length names
    → sum ≡ with_rows rows start (take i (numbers names)) → next ≡ with_row sum (row_at rows (get_or names i d).0)
    → next ≡ with_rows rows start (take (i + 1) (numbers names))
named_more rows start names i d sum next h before one =
    let so_far : List ℕ = with_rows rows start (take i (numbers names)) in
    one ∙ ap (λ s. with_row s (row_at rows (get_or names i d).0)) before
    ∙ ap (λ n. with_row so_far (row_at rows n)) (sym (number_at names i d h))
    ∙ sym (fold_more (λ s name. with_row s (row_at rows name)) start (numbers names) i 0 (omega (arith, length-map names (λ row. row.0))))

pub named_below : (count : ℕ) (names : List RowNo) (i : ℕ) (d : RowNo) → i < length names → row_rises count (numbers names) ≡ true → (get_or names i d).0 < count
named_below count names i d h u =
    let low = cell_below 0 count (numbers names) i (omega (arith, length-map names (λ row. row.0))) u in
    omega (arith, number_at names i d h)

-- one more row's cells
pub edges_one_more : (sums : List SumRow) (i : ℕ) (sum : SumRow) → i < length sums → sum ≡ get_or sums i sum
    → (edges (take (i + 1) (cells_of sums)) ≡ edges (take i (cells_of sums)) + length sum.cells.items) × (length sum.cells.items ≤ 128)
edges_one_more sums i sum h is =
    let more = edges_more (cells_of sums) i (omega (arith, length-map sums (λ s. s.cells.items))) in
    let here : row_at (cells_of sums) i ≡ sum.cells.items = get_or_map (λ s. s.cells.items) sums i sum [] h ∙ ap (λ (s : SumRow). s.cells.items) (sym is) in
    let few = few_rising 0 128 sum.cells.items (omega arith) sum.rising in
    (omega (arith, ap length here), omega arith)

pub count_of_cells : (sums : List SumRow) → length (cells_of sums) ≡ length sums
count_of_cells sums = length-map sums (λ sum. sum.cells.items)

pub fitting_cells : (cells : ℕ) (sums : List SumRow) → list_all (some_rising cells) (cells_of sums) ≡ list_all (λ sum. some_rising cells sum.cells.items) sums
fitting_cells cells sums = list_all-map (some_rising cells) (λ sum. sum.cells.items) sums
