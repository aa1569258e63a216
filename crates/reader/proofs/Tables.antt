-- One row more in the copy of a layout.
use Rattle.std.proofs.Common.{◌≡◌, ℕ, ◌+◌, ◌-◌, ◌<◌, List, [], ◌∷◌, ◌++◌, length, get_or, take, sym, ap, ◌∙◌, subst, inl, inr, arith}
use Rattle.std.proofs.lemmas.List.{append-nil, append_assoc, take_more, get_or_append_left, get_or-append_right}
use Rattle.std.proofs.lemmas.Bool.{cases_lt}
use Rattle.dual.proofs.Steps.{edges_more, edges_within}
use Rattle.std.specs.List.{slice_range}
use Rattle.reader.specs.Tables.{Span}
use Rattle.reader.specs.declared.table.Row.{Row}
use Rattle.layouts.specs.Plans.{edge_cells, edges, row_at}

edge_cells_push : (rows : List (List ℕ)) (row : List ℕ) → edge_cells (rows ++ row ∷ []) ≡ edge_cells rows ++ row
edge_cells_push [] row = append-nil row
edge_cells_push (x ∷ xs) row = ap (λ t. x ++ t) (edge_cells_push xs row) ∙ sym (append_assoc x (edge_cells xs) row)

pub edge_cells_more : (rows : List (List ℕ)) (r : ℕ) → r < length rows → edge_cells (take (r + 1) rows) ≡ edge_cells (take r rows) ++ row_at rows r
edge_cells_more rows r h = ap edge_cells (take_more rows r [] h) ∙ edge_cells_push (take r rows) (row_at rows r)

-- the edges of a row whose cells were copied behind those of the rows before it
pub span_of : (rows : List (List ℕ)) (r start end : ℕ) → r < length rows → start ≡ edges (take r rows) → end ≡ edges (take (r + 1) rows) → Span rows r start end
span_of rows r start end h b n =
    let m = edges_more rows r h in
    let w = edges_within rows (r + 1) in
    record { begins = b; ends = omega arith; next = n; within = omega arith }

-- the same edges by other names
pub span_same : (rows : List (List ℕ)) (r start end a b : ℕ) → a ≡ start → b ≡ end → Span rows r start end → Span rows r a b
span_same rows r start end a b e f s = subst (λ i. Span rows r i b) (sym e) (subst (λ j. Span rows r start j) (sym f) s)

pub range_same : {A : Type 0} (xs : List A) (start end a b : ℕ) → a ≡ start → b ≡ end → slice_range xs start end ≡ slice_range xs a b
range_same xs start end a b e f = ap (λ i. slice_range xs i end) (sym e) ∙ ap (slice_range xs a) (sym f)

-- a span more is listed
pub spans_more : (rows : List (List ℕ)) (list : List Row) (r : ℕ) (row : Row) → length list ≡ r → Span rows r row.start row.end
    → ((k : ℕ) (d : Row) → k < r → Span rows k (get_or list k d).start (get_or list k d).end)
    → (k : ℕ) (d : Row) → k < r + 1 → Span rows k (get_or (list ++ row ∷ []) k d).start (get_or (list ++ row ∷ []) k d).end
spans_more rows list r row n s inv k d h =
    elim (cases_lt k r) [
      | inl a ↦ subst (λ (t : Row). Span rows k t.start t.end) (sym (get_or_append_left list (row ∷ []) d k (omega arith))) (inv k d a)
      | inr b ↦
          let e : k ≡ r = omega arith in
          let last : get_or (list ++ row ∷ []) k d ≡ row = get_or-append_right list (row ∷ []) r k d n b ∙ ap (λ j. get_or (row ∷ []) j d) (sub_same k r e) in
          subst (λ (t : Row). Span rows k t.start t.end) (sym last) (subst (λ j. Span rows j row.start row.end) (sym e) s)
    ]
  where
    sub_same : (k r : ℕ) → k ≡ r → k - r ≡ 0
    sub_same k r e = omega arith
