-- One turn more of the passes over the edges of a round.
use Rattle.std.specs.Prelude.{slice_range}
use Rattle.std.proofs.Common.{◌≡◌, ℕ, zero, suc, ◌+◌, ◌-◌, ◌<◌, Bool, true, false, not, List, [], ◌∷◌, ◌++◌, length, get_or, take, drop, set, replicate, sym, refl, ap, ◌∙◌, append_assoc, arith, drop-set-lt}
use mathlib.Core.Bool.{beq}
use Rattle.std.proofs.lemmas.List.{take_at, drop_at, take-append-drop, take_more_set, drop_more, drop-take, map_more, get_or-map, replicate_more}
use Rattle.layouts.specs.Plans.{edge_cells, edges, row_at}
use Rattle.weights.specs.Kinds.{Kind}
use Rattle.dual.specs.Choice.{xor, odd}
use Rattle.dual.specs.Bound.{at, codeword}
use Rattle.dual.proofs.Steps.{odd_push, codeword_more}
use Rattle.model.specs.Moves.{moved_edge, moved_edges}
use Rattle.model.specs.Words.{marked, bits}
use Rattle.reader.specs.Tables.{Span, Rows}
use Rattle.reader.specs.declared.table.Row.{Row}
use Rattle.reader.proofs.Tables.{edge_cells_more}

-- the bit of a cell
pub bit_at : (word : List ℕ) (c : ℕ) → c < length word → get_or (bits word) c false ≡ marked (get_or word c 0)
bit_at word c h = get_or-map marked word c 0 false h

pub dark_step : (word cells : List ℕ) (i e : ℕ) (o b : Bool) → i < length cells → e ≡ get_or cells i 0 → e < length word → b ≡ marked (get_or word e 0)
    → o ≡ odd (at (bits word) (take i cells)) → not (beq o b) ≡ odd (at (bits word) (take (i + 1) cells))
dark_step word cells i e o b h q l s inv =
    let f : ℕ → Bool = λ c. get_or (bits word) c false in
    let more = ap odd (map_more f cells i 0 h) ∙ odd_push (at (bits word) (take i cells)) (f (get_or cells i 0)) in
    let same = ap f q in
    let here = bit_at word e l in
    let x : xor o b ≡ not (beq o b) = grind arith in
    cc

-- ---- the rows that a word meets
pub row_met : (rows : List (List ℕ)) (x : List Bool) (r : ℕ) → r < length rows → codeword (take r rows) x ≡ true → odd (at x (row_at rows r)) ≡ false → codeword (take (r + 1) rows) x ≡ true
row_met rows x r h e o = let m = codeword_more rows x r h in grind arith

pub row_unmet : (rows : List (List ℕ)) (x : List Bool) (r : ℕ) → r < length rows → odd (at x (row_at rows r)) ≡ true → codeword rows x ≡ false
row_unmet [] x r h o = absurd (omega arith)
row_unmet (row ∷ rows) x zero h o = grind arith
row_unmet (row ∷ rows) x (suc r) h o = let ih = row_unmet rows x r (omega arith) o in grind arith

-- ---- the moves
module _ {W : Type 0} (k : Kind W) (step : ℕ) where
  -- one edge more has moved
  pub moves_step : (xs zs : List Bool) (ms : List W) (i : ℕ) (x z : Bool) (m new : W) → i < length xs → i < length zs → i < length ms
      → get_or xs i false ≡ x → get_or zs i false ≡ z → m ≡ get_or ms i m → new ≡ moved_edge k step x z m
      → take (i + 1) (set ms i new) ++ moved_edges k step (drop (i + 1) xs) (drop (i + 1) zs) (drop (i + 1) (set ms i new))
      ≡ take i ms ++ moved_edges k step (drop i xs) (drop i zs) (drop i ms)
  moves_step xs zs ms i x z m new hx hz hm ex ez em en =
      let a = drop_more xs i false hx in
      let b = drop_more zs i false hz in
      let c = drop_more ms i m hm in
      let d = drop-set-lt (i + 1) ms i new (omega arith) in
      let t = take_more_set ms i new hm in
      let j = append_assoc (take i ms) (new ∷ []) (moved_edges k step (drop (i + 1) xs) (drop (i + 1) zs) (drop (i + 1) ms)) in
      cc

pub set_more : {A : Type 0} (xs : List A) (i : ℕ) (x : A) → i < length xs → take i xs ≡ replicate i x → take (i + 1) (set xs i x) ≡ replicate (i + 1) x
set_more xs i x h e = take_more_set xs i x h ∙ ap (λ l. l ++ x ∷ []) e ∙ replicate_more i x

-- ---- the cells of a row in the copy of a layout
edge_cells_append : (xs ys : List (List ℕ)) → edge_cells (xs ++ ys) ≡ edge_cells xs ++ edge_cells ys
edge_cells_append [] ys = refl
edge_cells_append (x ∷ xs) ys = ap (λ t. x ++ t) (edge_cells_append xs ys) ∙ sym (append_assoc x (edge_cells xs) (edge_cells ys))

front_cells : (rows : List (List ℕ)) (r : ℕ) → take (edges (take r rows)) (edge_cells rows) ≡ edge_cells (take r rows)
front_cells rows r =
    ap (λ rs. take (edges (take r rows)) (edge_cells rs)) (sym (take-append-drop r rows))
    ∙ ap (take (edges (take r rows))) (edge_cells_append (take r rows) (drop r rows))
    ∙ take_at (edge_cells (take r rows)) (edge_cells (drop r rows)) (edges (take r rows)) refl

row_part : (rows : List (List ℕ)) (cells : List ℕ) (r start end : ℕ) → r < length rows → cells ≡ edge_cells rows → Span rows r start end → slice_range cells start end ≡ row_at rows r
row_part rows cells r start end h e s =
    let row : List ℕ = row_at rows r in
    let size : end - start ≡ length row = omega (arith, s.ends) in
    let front : take end cells ≡ edge_cells (take r rows) ++ row =
    ap (λ j. take j cells) s.next ∙ ap (take (edges (take (r + 1) rows))) e ∙ front_cells rows (r + 1) ∙ edge_cells_more rows r h in
    let whole : start + length row ≡ end = omega (arith, s.ends) in
    ap (λ j. take j (drop start cells)) size ∙ sym (drop-take start (length row) cells) ∙ ap (λ j. drop start (take j cells)) whole
    ∙ ap (drop start) front ∙ drop_at (edge_cells (take r rows)) row start (sym s.begins)

-- what a listed row takes of the cells are the cells of that row
pub row_taken : (rows : List (List ℕ)) (list : List Row) (cells part : List ℕ) (r : ℕ) (d : Row) → Rows rows list → r < length list → cells ≡ edge_cells rows
    → part ≡ slice_range cells (get_or list r d).start (get_or list r d).end → part ≡ row_at rows r
row_taken rows list cells part r d a h e p =
    let l : r < length rows = omega (arith, a.all) in
    p ∙ row_part rows cells r (get_or list r d).start (get_or list r d).end l e (a.each r d l)
