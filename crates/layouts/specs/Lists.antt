-- A layout in two lists: `entries` has the cells of all rows, row by row, and `ends` has for each row the place just after its last entry.
use Rattle.std.specs.Prelude.{ℕ, ◌+◌, ◌-◌, Bool, true, cond, ◌&&◌, List, [], ◌∷◌, length, take, drop, Some, None, Option, ◌==◌, nat_le, nat_lt}
use Rattle.refusals.specs.Numbers.{or_else}
use Rattle.layouts.specs.Plans.{row_at}

-- the rows that the lists give, the first of them from `start` on
abbrev pub rows_from : ℕ → List ℕ → List ℕ → List (List ℕ)
rows_from start [] entries = []
rows_from start (end ∷ ends) entries = take (end - start) (drop start entries) ∷ rows_from end ends entries

abbrev pub rows_of : List ℕ → List ℕ → List (List ℕ)
rows_of ends entries = rows_from 0 ends entries

-- row r of some rows, absent where there is no such row
abbrev pub row_in : List (List ℕ) → ℕ → Option (List ℕ)
row_in rows r = cond (nat_lt r (length rows)) (Some (row_at rows r)) None

-- 1 to 128 cells, at most 96 rows and 1,024 entries
abbrev pub within_limits : ℕ → ℕ → ℕ → Bool
within_limits cells rows entries = nat_le 1 cells && (nat_le cells 128 && (nat_le rows 96 && nat_le entries 1024))

-- each number is above the one before it, and the first is above `start`
abbrev pub rise_above : ℕ → List ℕ → Bool
rise_above start [] = true
rise_above start (end ∷ ends) = nat_lt start end && rise_above end ends

-- each number is above the one before it
abbrev pub rises : List ℕ → Bool
rises [] = true
rises (number ∷ numbers) = rise_above number numbers

-- the last of the ends, `start` where there is none
abbrev pub last_end : ℕ → List ℕ → ℕ
last_end start [] = start
last_end start (end ∷ ends) = last_end end ends

-- the ends rise strictly from above 0, and the last is the number of entries
abbrev pub ends_rise : List ℕ → ℕ → Bool
ends_rise ends entries = rise_above 0 ends && last_end 0 ends == entries

-- each cell of a row is below the cell count and above the one before it, and the first is at least `low`
abbrev pub rises_from : ℕ → ℕ → List ℕ → Bool
rises_from low cells [] = true
rises_from low cells (cell ∷ row) = nat_le low cell && (nat_lt cell cells && rises_from (cell + 1) cells row)

-- each cell of a row after the first is below the cell count and above the one before it
abbrev pub rises_below : ℕ → List ℕ → Bool
rises_below cells [] = true
rises_below cells (cell ∷ row) = rises_from (cell + 1) cells row

abbrev pub row_rises : ℕ → List ℕ → Bool
row_rises cells row = rises_from 0 cells row

abbrev pub rows_rise : ℕ → List (List ℕ) → Bool
rows_rise cells [] = true
rows_rise cells (row ∷ rows) = row_rises cells row && rows_rise cells rows

-- the first reason to decline the lists, 0 where there is none
abbrev pub listed_refusal : ℕ → List ℕ → List ℕ → ℕ
listed_refusal cells ends entries =
    or_else (cond (within_limits cells (length ends) (length entries)) 0 1)
    (or_else (cond (ends_rise ends (length entries)) 0 2) (cond (rows_rise cells (rows_of ends entries)) 0 3))

-- the cell count and the rows of the layout that is made of the lists: one cell and no rows where they are declined
abbrev pub listed_cells : ℕ → List ℕ → List ℕ → ℕ
listed_cells cells ends entries = cond (listed_refusal cells ends entries == 0) cells 1

abbrev pub listed_rows : ℕ → List ℕ → List ℕ → List (List ℕ)
listed_rows cells ends entries = cond (listed_refusal cells ends entries == 0) (rows_of ends entries) []
