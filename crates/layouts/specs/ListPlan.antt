-- The plan of two lists that are not declined.
use Rattle.std.specs.Prelude.{◌≡◌, ℕ, zero, suc, ◌+◌, ◌-◌, ◌<◌, ◌≤◌, Bool, true, false, cond, List, [], ◌∷◌, ◌++◌, length, take, drop, nat_le, nat_lt, slice_index, slice_range, refl}
use Rattle.std.proofs.Common.{sym, ap, ◌∙◌, add-one, arith}
use Rattle.std.proofs.lemmas.List.{length-take, length-drop, take-append-drop, drop-drop, drop_all}
use Rattle.std.proofs.lemmas.Bool.{and_parts, ltb-true, leb-true, eqb-true}
use Rattle.refusals.specs.Numbers.{or_else}
use Rattle.layouts.specs.Plans.{Plan, edge_cells, edges, row_at}
use Rattle.layouts.specs.Lists.{rows_from, rows_of, within_limits, rise_above, last_end, ends_rise, rises_from, row_rises, rows_rise, listed_refusal}

pub length_rows : (start : ℕ) (ends entries : List ℕ) → length (rows_from start ends entries) ≡ length ends
length_rows start [] entries = refl
length_rows start (end ∷ ends) entries = ap suc (length_rows end ends entries)

pub last_after : (start : ℕ) (ends : List ℕ) → rise_above start ends ≡ true → start ≤ last_end start ends
last_after start [] h = omega arith
last_after start (end ∷ ends) h =
    let p = and_parts (nat_lt start end) (rise_above end ends) h in
    let l = ltb-true start end p.0 in let k = last_after end ends p.1 in omega arith

-- the rows, one after another, are the entries
pub all_entries : (start : ℕ) (ends entries : List ℕ) → rise_above start ends ≡ true → last_end start ends ≡ length entries
    → edge_cells (rows_from start ends entries) ≡ drop start entries
all_entries start [] entries h e = sym (drop_all start entries (omega arith))
all_entries start (end ∷ ends) entries h e =
    let p = and_parts (nat_lt start end) (rise_above end ends) h in
    let l = ltb-true start end p.0 in
    let n : start + (end - start) ≡ end = omega arith in
    ap (λ cells. slice_range entries start end ++ cells)
    (all_entries end ends entries p.1 e ∙ ap (λ k. drop k entries) (sym n) ∙ sym (drop-drop (end - start) start entries))
    ∙ take-append-drop (end - start) (drop start entries)

-- a row goes from the end before it to its own
pub row_is : (start : ℕ) (ends entries : List ℕ) (r : ℕ) → r < length ends
    → row_at (rows_from start ends entries) r ≡ take (slice_index ends r - slice_index (start ∷ ends) r) (drop (slice_index (start ∷ ends) r) entries)
row_is start [] entries r h = absurd (omega arith)
row_is start (end ∷ ends) entries zero h = refl
row_is start (end ∷ ends) entries (suc r) h = row_is end ends entries r (omega arith)

pub row_within : (start : ℕ) (ends : List ℕ) (r : ℕ) → r < length ends → rise_above start ends ≡ true
    → (slice_index (start ∷ ends) r < slice_index ends r) × (slice_index ends r ≤ last_end start ends)
row_within start [] r h u = absurd (omega arith)
row_within start (end ∷ ends) zero h u =
    let p = and_parts (nat_lt start end) (rise_above end ends) u in (ltb-true start end p.0, last_after end ends p.1)
row_within start (end ∷ ends) (suc r) h u =
    let p = and_parts (nat_lt start end) (rise_above end ends) u in row_within end ends r (omega arith) p.1

pub row_length_is : (start : ℕ) (ends entries : List ℕ) (r : ℕ) → r < length ends → rise_above start ends ≡ true
    → last_end start ends ≡ length entries
    → length (row_at (rows_from start ends entries) r) ≡ slice_index ends r - slice_index (start ∷ ends) r
row_length_is start ends entries r h u e =
    let w = row_within start ends r h u in rw (row_is start ends entries r h) (simp (length-take, length-drop) (omega arith))

pub row_rises_at : (cells : ℕ) (rows : List (List ℕ)) (r : ℕ) → r < length rows → rows_rise cells rows ≡ true
    → row_rises cells (row_at rows r) ≡ true
row_rises_at cells [] r h u = absurd (omega arith)
row_rises_at cells (row ∷ rows) zero h u = (and_parts (row_rises cells row) (rows_rise cells rows) u).0
row_rises_at cells (row ∷ rows) (suc r) h u =
    row_rises_at cells rows r (omega arith) (and_parts (row_rises cells row) (rows_rise cells rows) u).1

pub cell_below : (low cells : ℕ) (row : List ℕ) (k : ℕ) → k < length row → rises_from low cells row ≡ true → slice_index row k < cells
cell_below low cells [] k h u = absurd (omega arith)
cell_below low cells (cell ∷ row) zero h u =
    let p = and_parts (nat_le low cell) _ u in
    ltb-true cell cells (and_parts (nat_lt cell cells) (rises_from (cell + 1) cells row) p.1).0
cell_below low cells (cell ∷ row) (suc k) h u =
    let p = and_parts (nat_le low cell) _ u in
    cell_below (cell + 1) cells row k (omega arith) (and_parts (nat_lt cell cells) (rises_from (cell + 1) cells row) p.1).1

cell_from : (low cells : ℕ) (row : List ℕ) → 0 < length row → rises_from low cells row ≡ true → low ≤ slice_index row 0
cell_from low cells [] h u = absurd (omega arith)
cell_from low cells (cell ∷ row) h u = leb-true low cell (and_parts (nat_le low cell) _ u).0

pub cells_rise : (low cells : ℕ) (row : List ℕ) (k : ℕ) → suc k < length row → rises_from low cells row ≡ true
    → slice_index row k < slice_index row (suc k)
cells_rise low cells [] k h u = absurd (omega arith)
cells_rise low cells (cell ∷ row) zero h u =
    let p = and_parts (nat_le low cell) _ u in
    let f = cell_from (cell + 1) cells row (omega arith) (and_parts (nat_lt cell cells) (rises_from (cell + 1) cells row) p.1).1 in
    omega arith
cells_rise low cells (cell ∷ row) (suc k) h u =
    let p = and_parts (nat_le low cell) _ u in
    cells_rise (cell + 1) cells row k (omega arith) (and_parts (nat_lt cell cells) (rises_from (cell + 1) cells row) p.1).1

-- what it says that lists are not declined
pub accepted : (limits ends rows : Bool) → ◌≡◌ {A = ℕ} (or_else (cond limits 0 1) (or_else (cond ends 0 2) (cond rows 0 3))) 0
    → (limits ≡ true) × (ends ≡ true) × (rows ≡ true)
accepted true true true e = (refl, refl, refl)
accepted true true false e = absurd (omega arith)
accepted true false rows e = absurd (omega arith)
accepted false ends rows e = absurd (omega arith)

module _ (cells : ℕ) (ends entries : List ℕ) (ok : listed_refusal cells ends entries ≡ 0) where
  pub parts : (within_limits cells (length ends) (length entries) ≡ true) × (ends_rise ends (length entries) ≡ true) × (rows_rise cells (rows_of ends entries) ≡ true)
  parts = accepted (within_limits cells (length ends) (length entries)) (ends_rise ends (length entries)) (rows_rise cells (rows_of ends entries)) ok

  pub limits : (1 ≤ cells) × (cells ≤ 128) × (length ends ≤ 96) × (length entries ≤ 1024)
  limits =
      let a = and_parts (nat_le 1 cells) _ parts.0 in
      let b = and_parts (nat_le cells 128) _ a.1 in
      let d = and_parts (nat_le (length ends) 96) _ b.1 in
      (leb-true 1 cells a.0, leb-true cells 128 b.0, leb-true (length ends) 96 d.0, leb-true (length entries) 1024 d.1)

  pub ends_above : rise_above 0 ends ≡ true
  ends_above = (and_parts (rise_above 0 ends) _ parts.1).0

  pub ends_last : last_end 0 ends ≡ length entries
  ends_last = eqb-true (last_end 0 ends) (length entries) (and_parts (rise_above 0 ends) _ parts.1).1

  pub edges_listed : edges (rows_of ends entries) ≡ length entries
  edges_listed = ap length (all_entries 0 ends entries ends_above ends_last)

  -- a row starts before its end, and ends within the entries
  pub row_span : (r : ℕ) → r < length ends → (slice_index (0 ∷ ends) r < slice_index ends r) × (slice_index ends r ≤ length entries)
  row_span r h = let w = row_within 0 ends r h ends_above in (w.0, omega (arith, ends_last))

  pub filled_row : (r : ℕ) → r < length (rows_of ends entries) → 1 ≤ length (row_at (rows_of ends entries) r)
  filled_row r h =
      let l : r < length ends = omega (arith, length_rows 0 ends entries) in
      let w = row_within 0 ends r l ends_above in
      omega (arith, row_length_is 0 ends entries r l ends_above ends_last)

  abbrev pub listed_plan : Plan
  listed_plan =
      record {
        cells = cells;
        rows = rows_of ends entries;
        some_cell = limits.0;
        few_cells = limits.1;
        few_rows = omega (arith, length_rows 0 ends entries, limits.2);
        few_edges = omega (arith, edges_listed, limits.3);
        filled = filled_row;
        below = λ r k h l. cell_below 0 cells (row_at (rows_of ends entries) r) k l (row_rises_at cells (rows_of ends entries) r h parts.2);
        rising = λ r k h l. rw add-one (cells_rise 0 cells (row_at (rows_of ends entries) r) k (omega arith) (row_rises_at cells (rows_of ends entries) r h parts.2));
      }
