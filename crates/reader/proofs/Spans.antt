-- One row more of a walk over all rows.
use Rattle.std.proofs.Common.{◌≡◌, ℕ, zero, suc, ◌+◌, ◌-◌, ◌<◌, ◌≤◌, List, [], ◌∷◌, ℤ, length, take, drop, set, sym, ap, ◌∙◌, arith}
use borrow.Rule.Slice.PartMut.{put_mid}
use Rattle.std.proofs.lemmas.List.{take_at, drop_at, drop-drop, length-append, length-map, take-map, take_more_set, drop-map, map-append}
use Rattle.std.proofs.lemmas.Slice.{take-put_mid}
use Rattle.layouts.specs.Plans.{edges, edge_cells, row_at}
use Rattle.weights.specs.Kinds.{Kind, meanings}
use Rattle.dual.specs.Choice.{chosen, least, pick}
use Rattle.dual.specs.Bound.{choices, row_leasts}
use Rattle.dual.proofs.Steps.{choices_more, row_leasts_more, parted, length_chosen, length_choices}
use Rattle.reader.specs.Sizes.{total_size}
use Rattle.reader.specs.Tables.{Span}
use Rattle.model.specs.Words.{byte, bytes, marked, bits}
use Rattle.reader.proofs.Sizes.{total_within, total_after}
use Rattle.reader.proofs.Turns.{bits_bytes}

-- the choices of all rows hold at a row's place the choice of that row
row_chosen : (rows : List (List ℕ)) (ms : List ℤ) (r : ℕ) → r < length rows → length ms ≡ edges rows
    → take (length (row_at rows r)) (drop (edges (take r rows)) (choices rows ms)) ≡ chosen (take (length (row_at rows r)) (drop (edges (take r rows)) ms))
row_chosen [] ms r h l = absurd (omega arith)
row_chosen (row ∷ rows) ms zero h l =
    let p = parted row rows ms l in
    take_at (chosen (take (length row) ms)) (choices rows (drop (length row) ms)) (length row) (length_chosen (take (length row) ms) ∙ p.0)
row_chosen (row ∷ rows) ms (suc r) h l =
    let p = parted row rows ms l in
    let n = length_chosen (take (length row) ms) in
    let e : edges (row ∷ take r rows) ≡ length row + edges (take r rows) = length-append row (edge_cells (take r rows)) in
    let front : drop (length row + edges (take r rows)) (choices (row ∷ rows) ms) ≡ drop (edges (take r rows)) (choices rows (drop (length row) ms)) =
    sym (drop-drop (edges (take r rows)) (length row) (choices (row ∷ rows) ms))
    ∙ ap (drop (edges (take r rows))) (drop_at (chosen (take (length row) ms)) (choices rows (drop (length row) ms)) (length row) (n ∙ p.0)) in
    let back = drop-drop (edges (take r rows)) (length row) ms in
    ap (λ j. take (length (row_at rows r)) (drop j (choices (row ∷ rows) ms))) e ∙ ap (take (length (row_at rows r))) front
    ∙ row_chosen rows (drop (length row) ms) r (omega arith) p.1
    ∙ ap (λ xs. chosen (take (length (row_at rows r)) xs)) back ∙ ap (λ j. chosen (take (length (row_at rows r)) (drop j ms))) (sym e)

module _ {W : Type 0} (k : Kind W) where
  -- what a row's part of the weights means is the row's part of the meanings
  pub part_means : (rows : List (List ℕ)) (ws : List W) (r start end : ℕ) → Span rows r start end
      → meanings k (take (end - start) (drop start ws)) ≡ take (length (row_at rows r)) (drop (edges (take r rows)) (meanings k ws))
  part_means rows ws r start end s =
      let n : end - start ≡ length (row_at rows r) = omega (arith, s.ends) in
      let t = take-map k.meaning (end - start) (drop start ws) in
      let d = drop-map k.meaning start ws in
      sym t ∙ ap (take (end - start)) (sym d) ∙ ap (λ j. take j (drop start (meanings k ws))) n ∙ ap (λ j. take (length (row_at rows r)) (drop j (meanings k ws))) s.begins

  pub marks_long : (rows : List (List ℕ)) (ws : List W) (marks : List ℕ) → length ws ≡ edges rows → marks ≡ bytes (choices rows (meanings k ws)) → length marks ≡ edges rows
  marks_long rows ws marks l e = ap length e ∙ length-map (choices rows (meanings k ws)) byte ∙ length_choices rows (meanings k ws) (length-map ws k.meaning ∙ l)

  pub row_marked : (rows : List (List ℕ)) (ws : List W) (marks new : List ℕ) (r start end : ℕ) → r < length rows → Span rows r start end → length marks ≡ edges rows
      → new ≡ bytes (chosen (meanings k (take (end - start) (drop start ws)))) → length new ≡ end - start
      → take (edges (take r rows)) marks ≡ bytes (choices (take r rows) (meanings k ws))
      → take (edges (take (r + 1) rows)) (put_mid start (end - start) marks new) ≡ bytes (choices (take (r + 1) rows) (meanings k ws))
  row_marked rows ws marks new r start end h s lm e l inv =
      let put = take-put_mid start (end - start) marks new (edges (take (r + 1) rows)) (omega (arith, s.ends, s.next)) (omega (arith, s.ends, s.within)) in
      let at : take start marks ≡ take (edges (take r rows)) marks = ap (λ j. take j marks) s.begins in
      let part = ap (λ ms. bytes (chosen ms)) (part_means rows ws r start end s) in
      let more = ap bytes (choices_more rows (meanings k ws) r h) in
      let push = map-append byte (choices (take r rows) (meanings k ws)) (chosen (take (length (row_at rows r)) (drop (edges (take r rows)) (meanings k ws)))) in
      cc

  -- the least sum of a row is that of the marked part of its multipliers
  pub row_least : (rows : List (List ℕ)) (ws : List W) (marks part : List ℕ) (own : List W) (r start end : ℕ) (sum : W) → r < length rows → Span rows r start end → length ws ≡ edges rows
      → marks ≡ bytes (choices rows (meanings k ws)) → part ≡ take (end - start) (drop start marks) → own ≡ take (end - start) (drop start ws)
      → k.meaning sum ≡ pick (bits part) (meanings k own) → k.meaning sum ≡ least (meanings k (take (end - start) (drop start ws)))
  row_least rows ws marks part own r start end sum h s l e p q v =
      let n : end - start ≡ length (row_at rows r) = omega (arith, s.ends) in
      let m = part_means rows ws r start end s in
      let b : bits (take (end - start) (drop start (bytes (choices rows (meanings k ws))))) ≡ take (end - start) (drop start (choices rows (meanings k ws))) =
      sym (take-map marked (end - start) (drop start (bytes (choices rows (meanings k ws)))))
      ∙ ap (take (end - start)) (sym (drop-map marked start (bytes (choices rows (meanings k ws)))) ∙ ap (drop start) (bits_bytes (choices rows (meanings k ws)))) in
      let c : take (end - start) (drop start (choices rows (meanings k ws))) ≡ chosen (take (length (row_at rows r)) (drop (edges (take r rows)) (meanings k ws))) =
      ap (λ j. take j (drop start (choices rows (meanings k ws)))) n ∙ ap (λ j. take (length (row_at rows r)) (drop j (choices rows (meanings k ws)))) s.begins
      ∙ row_chosen rows (meanings k ws) r h (length-map ws k.meaning ∙ l) in
      let d = ap (λ xs. bits xs) (p ∙ ap (λ xs. take (end - start) (drop start xs)) e) ∙ b ∙ c ∙ ap chosen (sym m) in
      v ∙ ap (λ bs. pick bs (meanings k own)) d ∙ ap (λ ys. pick (chosen (meanings k (take (end - start) (drop start ws)))) (meanings k ys)) q

  pub row_summed : (rows : List (List ℕ)) (ws sums : List W) (sum : W) (r start end : ℕ) → r < length rows → r < length sums → Span rows r start end
      → k.meaning sum ≡ least (meanings k (take (end - start) (drop start ws))) → meanings k (take r sums) ≡ row_leasts (take r rows) (meanings k ws)
      → meanings k (take (r + 1) (set sums r sum)) ≡ row_leasts (take (r + 1) rows) (meanings k ws)
  row_summed rows ws sums sum r start end h hs s e inv =
      let put = ap (meanings k) (take_more_set sums r sum hs) in
      let push = map-append k.meaning (take r sums) (sum ∷ []) in
      let part = ap least (part_means rows ws r start end s) in
      let more = row_leasts_more rows (meanings k ws) r h in
      cc

  -- the sizes of a part are not more than those of all
  pub part_small : (ws : List W) (start n limit : ℕ) → total_size k ws ≤ limit → total_size k (take n (drop start ws)) ≤ limit
  part_small ws start n limit h = let a = total_within k (drop start ws) n in let b = total_after k ws start in omega arith
