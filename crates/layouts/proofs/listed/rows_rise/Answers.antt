use Rattle.std.proofs.Common.{◌≡◌, ℕ, ◌+◌, ◌-◌, ◌<◌, ◌≤◌, true, ◌&&◌, ltb, List, length, get_or, take, drop, sym, ◌∙◌, arith, rules}
use Rattle.std.proofs.lemmas.List.{at_drop_more, at_drop_all}
use Rattle.std.proofs.lemmas.Bool.{and_parts, ltb-true}
use Rattle.layouts.specs.Lists.{rows_from, rise_above, last_end, row_rises, rows_rise}
use Rattle.layouts.specs.ListPlan.{last_after}
use Rattle.layouts.proofs.listed.rows_rise.Goals as goal

step : (cells start : ℕ) (ends entries : List ℕ) (i : ℕ) → i < length ends
    → rows_rise cells (rows_from start (drop i ends) entries)
    ≡ (row_rises cells (take (get_or ends i 0 - start) (drop start entries)) && rows_rise cells (rows_from (get_or ends i 0) (drop (i + 1) ends) entries))
step cells start ends entries i h = at_drop_more (λ left. rows_rise cells (rows_from start left entries)) ends i 0 h

done : (cells start : ℕ) (ends entries : List ℕ) (i : ℕ) → length ends ≤ i → rows_rise cells (rows_from start (drop i ends) entries) ≡ true
done cells start ends entries i h = at_drop_all (λ left. rows_rise cells (rows_from start left entries)) ends i h

-- the next row starts before its end, and ends within the entries
rise_step : (start : ℕ) (ends entries : List ℕ) (i : ℕ) → i < length ends → rise_above start (drop i ends) ≡ true
    → last_end start (drop i ends) ≡ length entries
    → (start < get_or ends i 0) × (get_or ends i 0 ≤ length entries) × (rise_above (get_or ends i 0) (drop (i + 1) ends) ≡ true)
    × (last_end (get_or ends i 0) (drop (i + 1) ends) ≡ length entries)
rise_step start ends entries i h u e =
    let end = get_or ends i 0 in let left = drop (i + 1) ends in
    let rises : (ltb start end && rise_above end left) ≡ true = sym (at_drop_more (rise_above start) ends i 0 h) ∙ u in
    let last : last_end end left ≡ length entries = sym (at_drop_more (last_end start) ends i 0 h) ∙ e in
    let p = and_parts (ltb start end) (rise_above end left) rises in
    let after = last_after end left p.1 in (ltb-true start end p.0, omega arith, p.1, last)

pub slice_bounds-row_rises-end : goal.slice_bounds-row_rises-end
slice_bounds-row_rises-end c = search (rules, rise_step)

pub loop-end-preserved : goal.loop-end-preserved
loop-end-preserved c = search (rules, step, rise_step)

pub returns : goal.returns
returns c = search (rules, done)
