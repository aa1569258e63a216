-- Rows that are sums of rows: which cells a sum has, and when it cannot be added.
use Rattle.std.specs.Prelude.{ℕ, ◌+◌, Bool, cond, ◌&&◌, List, [], ◌∷◌, length, ◌==◌, nat_le, nat_lt, fold}
use Rattle.std.specs.List.{list_all}
use Rattle.refusals.specs.Numbers.{or_else}
use Rattle.layouts.specs.Plans.{Plan, edges, row_at}
use Rattle.layouts.specs.Lists.{row_rises}

-- a rising list without the cell where it was in, with it in its place where it was not
abbrev pub toggled : List ℕ → ℕ → List ℕ
toggled [] cell = cell ∷ []
toggled (first ∷ row) cell = cond (nat_lt cell first) (cell ∷ first ∷ row) (cond (cell == first) row (first ∷ toggled row cell))

-- the cells of the other row, toggled one after another
abbrev pub with_row : List ℕ → List ℕ → List ℕ
with_row sum row = fold toggled sum row

-- the named rows, one after another
abbrev pub with_rows : List (List ℕ) → List ℕ → List ℕ → List ℕ
with_rows rows sum names = fold (λ so_far name. with_row so_far (row_at rows name)) sum names

-- the sum of the named rows, built up from no cell
abbrev pub row_sum : List (List ℕ) → List ℕ → List ℕ
row_sum rows names = with_rows rows [] names

-- at least one number, each below the count and above the one before
abbrev pub some_rising : ℕ → List ℕ → Bool
some_rising count numbers = nat_lt 0 (length numbers) && row_rises count numbers

-- the first reason to decline a sum of the named rows, beside the sums that were added before, 0 where there is none
abbrev pub add_refusal : Plan → List (List ℕ) → List ℕ → ℕ
add_refusal below added names =
    or_else (cond (nat_lt (length added) 8 && nat_lt (length below.rows + length added) 96) 0 5)
    (or_else (cond (some_rising (length below.rows) names) 0 6)
    (cond (nat_lt 0 (length (row_sum below.rows names)) && nat_le (edges below.rows + edges added + length (row_sum below.rows names)) 1024) 0 7))

-- at most 96 rows and 1,024 edges in all, and each added row rises below the count of cells, with at least one cell
abbrev pub keeps_limits : Plan → List (List ℕ) → Bool
keeps_limits below added =
    nat_le (length below.rows + length added) 96
    && (nat_le (edges below.rows + edges added) 1024 && list_all (some_rising below.cells) added)

-- the added rows that count: all of them where they keep the limits of a layout, else none
abbrev pub counted : Plan → List (List ℕ) → List (List ℕ)
counted below added = cond (keeps_limits below added) added []
