-- The plan of a layout and rows that are added to it.
use Rattle.std.specs.Prelude.{◌≡◌, ℕ, zero, suc, ◌+◌, ◌-◌, ◌<◌, ◌≤◌, true, List, [], ◌∷◌, ◌++◌, length, nat_le, nat_lt, slice_index, refl}
use Rattle.std.proofs.Common.{ap, ◌∙◌, inl, inr, add-one, arith}
use Rattle.std.specs.List.{list_all}
use Rattle.std.proofs.lemmas.List.{length-append, get_or_append_left, get_or-append_right}
use Rattle.std.proofs.lemmas.Bool.{and_parts, ltb-true, leb-true, cases_lt, cond_both}
use Rattle.std.proofs.lemmas.Bool.Decides.{nat_tests}
use Rattle.layouts.specs.Plans.{Plan, edges, edges_append, row_at}
use Rattle.layouts.specs.ListPlan.{cell_below, cells_rise}
use Rattle.sums.specs.Sums.{some_rising, keeps_limits, counted}

-- no rows keep the limits, since the layout does
pub none_keeps : (below : Plan) → keeps_limits below [] ≡ true
none_keeps below =
    let rows = below.few_rows in let edges = below.few_edges in grind (arith, nat_tests)

pub counted_keeps : (below : Plan) (added : List (List ℕ)) → keeps_limits below (counted below added) ≡ true
counted_keeps below added =
    cond_both (keeps_limits below added) added [] (λ rows. keeps_limits below rows ≡ true) (λ h. h) (λ h. none_keeps below)

rising_at : (cells : ℕ) (rows : List (List ℕ)) (r : ℕ) → r < length rows → list_all (some_rising cells) rows ≡ true → some_rising cells (row_at rows r) ≡ true
rising_at cells [] r h u = absurd (omega arith)
rising_at cells (row ∷ rows) zero h u = (and_parts (some_rising cells row) (list_all (some_rising cells) rows) u).0
rising_at cells (row ∷ rows) (suc r) h u =
    rising_at cells rows r (omega arith) (and_parts (some_rising cells row) (list_all (some_rising cells) rows) u).1

module _ (p : Plan) (more : List (List ℕ)) (ok : keeps_limits p more ≡ true) where
  pub limits : (length p.rows + length more ≤ 96) × (edges p.rows + edges more ≤ 1024) × (list_all (some_rising p.cells) more ≡ true)
  limits =
      let a = and_parts (nat_le (length p.rows + length more) 96) _ ok in
      let b = and_parts (nat_le (edges p.rows + edges more) 1024) _ a.1 in
      (leb-true (length p.rows + length more) 96 a.0, leb-true (edges p.rows + edges more) 1024 b.0, b.1)

  -- a row of both lists is one of the first or one of the second
  pub row_before : (r : ℕ) → r < length p.rows → row_at (p.rows ++ more) r ≡ row_at p.rows r
  row_before r h = get_or_append_left p.rows more [] r h

  pub row_behind : (r : ℕ) → length p.rows ≤ r → row_at (p.rows ++ more) r ≡ row_at more (r - length p.rows)
  row_behind r h = get_or-append_right p.rows more (length p.rows) r [] refl h

  pub rising_behind : (r : ℕ) → length p.rows ≤ r → r < length (p.rows ++ more) → some_rising p.cells (row_at (p.rows ++ more) r) ≡ true
  rising_behind r l h =
      ap (some_rising p.cells) (row_behind r l)
      ∙ rising_at p.cells more (r - length p.rows) (omega (arith, length-append p.rows more)) limits.2

  pub filled_both : (r : ℕ) → r < length (p.rows ++ more) → 1 ≤ length (row_at (p.rows ++ more) r)
  filled_both r h =
      elim (cases_lt r (length p.rows)) [
        | inl a ↦ let f = p.filled r a in omega (arith, ap length (row_before r a))
        | inr b ↦
            let q = and_parts (nat_lt 0 (length (row_at (p.rows ++ more) r))) _ (rising_behind r b h) in
            ltb-true 0 (length (row_at (p.rows ++ more) r)) q.0
      ]

  pub below_both : (r k : ℕ) → r < length (p.rows ++ more) → k < length (row_at (p.rows ++ more) r) → slice_index (row_at (p.rows ++ more) r) k < p.cells
  below_both r k h l =
      elim (cases_lt r (length p.rows)) [
        | inl a ↦
            let e = row_before r a in
            let b = p.below r k a (omega (arith, ap length e)) in
            omega (arith, ap (λ row. slice_index row k) e)
        | inr b ↦
            let q = and_parts (nat_lt 0 (length (row_at (p.rows ++ more) r))) _ (rising_behind r b h) in
            cell_below 0 p.cells (row_at (p.rows ++ more) r) k l q.1
      ]

  pub rising_both : (r k : ℕ) → r < length (p.rows ++ more) → k + 1 < length (row_at (p.rows ++ more) r)
      → slice_index (row_at (p.rows ++ more) r) k < slice_index (row_at (p.rows ++ more) r) (k + 1)
  rising_both r k h l =
      elim (cases_lt r (length p.rows)) [
        | inl a ↦
            let e = row_before r a in
            let b = p.rising r k a (omega (arith, ap length e)) in
            omega (arith, ap (λ row. slice_index row k) e, ap (λ row. slice_index row (k + 1)) e)
        | inr b ↦
            let q = and_parts (nat_lt 0 (length (row_at (p.rows ++ more) r))) _ (rising_behind r b h) in
            rw add-one (cells_rise 0 p.cells (row_at (p.rows ++ more) r) k (omega arith) q.1)
      ]

  abbrev pub joined_plan : Plan
  joined_plan =
      record {
        cells = p.cells;
        rows = p.rows ++ more;
        some_cell = p.some_cell;
        few_cells = p.few_cells;
        few_rows = omega (arith, length-append p.rows more, limits.0);
        few_edges = omega (arith, edges_append p.rows more, limits.1);
        filled = filled_both;
        below = below_both;
        rising = rising_both;
      }

-- the rows below, then the added rows that count
abbrev pub sum_plan : Plan → List (List ℕ) → Plan
sum_plan below added = joined_plan below (counted below added) (counted_keeps below added)
