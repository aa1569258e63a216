-- One step of a walk over a row, over the edges or over the rows: what a loop adds to what it has, and what it has at the end.
use Rattle.std.proofs.Common.{◌≡◌, ℕ, zero, suc, ◌+◌, ◌<◌, ◌≤◌, Bool, true, false, not, ◌&&◌, List, [], ◌∷◌, ◌++◌, length, get_or, take, drop, ℤ, pos, negsuc, ◌+ℤ◌, ◌-ℤ◌, nat_abs, Some, None, fold, Option, sym, refl, ap, ◌∙◌, subst, append_assoc, append-nil, arith}
use lib.Signed.{lt_z}
use Rattle.std.proofs.lemmas.List.{take_all, take_more, take_at, take-append-drop, drop_at, drop_all, drop-drop, drop_more, length-append, length-drop, length-set, length-take, map_more}
use Rattle.std.proofs.lemmas.Int.{ints}
use Rattle.std.proofs.lemmas.Bool.{cond_both}
use Rattle.layouts.specs.Plans.{edge_cells, edges, edges_append, row_at}
use Rattle.dual.specs.Choice.{negative, negatives, xor, odd, taken, pick, Spot, nearer, look, nearest, cheaper, toggle, chosen, least}
use Rattle.dual.specs.Bound.{lowered, slacks, leasts, row_leasts, meets, codeword, choices}
use Rattle.dual.specs.Laws.{Nearest}
use Rattle.dual.proofs.Picks.{pick_split}
use Rattle.dual.proofs.Search.{found}
use Rattle.dual.proofs.Row.{Smallest, toggle_smallest, cheapest}

-- ---- the search
pub negative_is : (m : ℤ) → negative m ≡ lt_z m (pos 0)
negative_is (pos n) = omega (arith, ints)
negative_is (negsuc n) = refl

pub look_yes : (t : Bool) (i : ℕ) (o : Option Spot) (m : ℤ) → negative m ≡ t → look t (i, o) m ≡ (i + 1, nearer o (i, nat_abs m))
look_yes t i o m e = grind arith

pub look_no : (t : Bool) (i : ℕ) (o : Option Spot) (m : ℤ) → negative m ≡ not t → look t (i, o) m ≡ (i + 1, o)
look_no t i o m e = grind arith

pub look_all : (t : Bool) (ms : List ℤ) (i : ℕ) (o : Option Spot) → length ms ≤ i → fold (look t) (0, None) (take i ms) ≡ (i, o) → o ≡ nearest t ms
look_all t ms i o l e = sym (ap (λ (s : ℕ × Option Spot). s.1) (rw (take_all i ms l) at e))

module _ (t : Bool) (ms : List ℤ) (p : Spot) (e : nearest t ms ≡ Some p) where
  pub is_nearest : Nearest t ms (Some p)
  is_nearest = subst (Nearest t ms) e (found t ms)

  pub nearest_within : p.0 < length ms
  nearest_within = is_nearest.0

  pub nearest_sign : negative (get_or ms p.0 (pos 0)) ≡ t
  nearest_sign = is_nearest.1

  pub nearest_size : nat_abs (get_or ms p.0 (pos 0)) ≡ p.1
  nearest_size = is_nearest.2

-- ---- the choice
-- the place is that of a spot, and the spots are found within the row
pub toggle_within : (ms : List ℤ) (i : ℕ) → toggle ms ≡ Some i → i < length ms
toggle_within ms i =
    cond_both (odd (negatives ms)) (cheaper (nearest true ms) (nearest false ms)) None (λ o. o ≡ Some i → i < length ms)
    (λ o e. (subst (Smallest ms) e (toggle_smallest ms o)).0)
    (λ o e. absurd (let z : ◌≡◌ {A = ℕ} 0 1 = cc in omega arith))

pub length_chosen : (ms : List ℤ) → length (chosen ms) ≡ length ms
length_chosen ms = (cheapest ms).same_length

-- ---- the signs and their number
pub get_or_negatives : (ms : List ℤ) (k : ℕ) → get_or (negatives ms) k false ≡ negative (get_or ms k (pos 0))
get_or_negatives [] k = refl
get_or_negatives (m ∷ ms) zero = refl
get_or_negatives (m ∷ ms) (suc k) = get_or_negatives ms k

pub negatives_more : (ms : List ℤ) (i : ℕ) → i < length ms → negatives (take (i + 1) ms) ≡ negatives (take i ms) ++ negative (get_or ms i (pos 0)) ∷ []
negatives_more ms i h = map_more negative ms i (pos 0) h

pub odd_push : (bs : List Bool) (b : Bool) → odd (bs ++ b ∷ []) ≡ xor (odd bs) b
odd_push [] true = refl
odd_push [] false = refl
odd_push (c ∷ bs) b = let ih = odd_push bs b in grind arith

pub odd_more : (ms : List ℤ) (i : ℕ) → i < length ms → odd (negatives (take (i + 1) ms)) ≡ xor (odd (negatives (take i ms))) (negative (get_or ms i (pos 0)))
odd_more ms i h = ap odd (negatives_more ms i h) ∙ odd_push (negatives (take i ms)) (negative (get_or ms i (pos 0)))

-- ---- the slacks
pub slacks_more : (es : List ℕ) (ms cs : List ℤ) (i : ℕ) → i < length es → i < length ms → slacks (drop (i + 1) es) (drop (i + 1) ms) (lowered cs (get_or es i 0) (get_or ms i (pos 0))) ≡ slacks (drop i es) (drop i ms) cs
slacks_more es ms cs i h k = rw (drop_more es i 0 h, drop_more ms i (pos 0) k)

pub slacks_all : (es : List ℕ) (ms cs : List ℤ) (i : ℕ) → length es ≤ i → slacks (drop i es) ms cs ≡ cs
slacks_all es ms cs i h = rw (drop_all i es h)

pub length_slacks : (es : List ℕ) (ms cs : List ℤ) → length (slacks es ms cs) ≡ length cs
length_slacks [] ms cs = refl
length_slacks (e ∷ es) [] cs = refl
length_slacks (e ∷ es) (m ∷ ms) cs = length_slacks es ms (lowered cs e m) ∙ length-set cs e (get_or cs e (pos 0) -ℤ m)

-- ---- sums over marked places
pub pick_more : (bs : List Bool) (ms : List ℤ) (i : ℕ) (b : Bool) → i < length bs → i < length ms → get_or bs i false ≡ b → pick (drop i bs) (drop i ms) ≡ taken b (get_or ms i (pos 0)) +ℤ pick (drop (i + 1) bs) (drop (i + 1) ms)
pick_more bs ms i b h k e = rw (drop_more bs i false h, drop_more ms i (pos 0) k, e)

pub pick_all : (bs : List Bool) (ms : List ℤ) (i : ℕ) → length bs ≤ i → pick (drop i bs) ms ≡ pos 0
pick_all bs ms i h = rw (drop_all i bs h)

-- both fronts one longer
pub pick_push : (bs : List Bool) (ms : List ℤ) (i : ℕ) → i < length bs → i < length ms → pick (take (i + 1) bs) (take (i + 1) ms) ≡ pick (take i bs) (take i ms) +ℤ taken (get_or bs i false) (get_or ms i (pos 0))
pick_push bs ms i h k =
    let whole = pick_split i bs ms in
    let longer = pick_split (i + 1) bs ms in
    let rest = pick_more bs ms i (get_or bs i false) h k refl in
    omega (arith, ints)

-- ---- rows one after the other: a walk that has done some rows has the edges, choices and tests of these
pub edges_more : (rows : List (List ℕ)) (r : ℕ) → r < length rows → edges (take (r + 1) rows) ≡ edges (take r rows) + length (row_at rows r)
edges_more rows r h = ap edges (take_more rows r [] h) ∙ edges_append (take r rows) (row_at rows r ∷ []) ∙ ap (λ n. edges (take r rows) + n) (ap length (append-nil (row_at rows r)))

pub edges_within : (rows : List (List ℕ)) (r : ℕ) → edges (take r rows) ≤ edges rows
edges_within rows r = omega (arith, edges_append (take r rows) (drop r rows), ap edges (take-append-drop r rows))

pub choices_append : (front back : List (List ℕ)) (ms : List ℤ) → choices (front ++ back) ms ≡ choices front ms ++ choices back (drop (edges front) ms)
choices_append [] back ms = refl
choices_append (row ∷ front) back ms =
    let n : ℕ = length row in
    let ih = choices_append front back (drop n ms) in
    let past : drop (edges front) (drop n ms) ≡ drop (edges (row ∷ front)) ms = drop-drop (edges front) n ms ∙ ap (λ j. drop j ms) (sym (length-append row (edge_cells front))) in
    cc (append_assoc (chosen (take n ms)) (choices front (drop n ms)) (choices back (drop (edges front) (drop n ms))))

pub choices_more : (rows : List (List ℕ)) (ms : List ℤ) (r : ℕ) → r < length rows → choices (take (r + 1) rows) ms ≡ choices (take r rows) ms ++ chosen (take (length (row_at rows r)) (drop (edges (take r rows)) ms))
choices_more rows ms r h =
    ap (λ rs. choices rs ms) (take_more rows r [] h) ∙ choices_append (take r rows) (row_at rows r ∷ []) ms
    ∙ ap (λ bs. choices (take r rows) ms ++ bs) (append-nil _)

row_leasts_append : (front back : List (List ℕ)) (ms : List ℤ) → row_leasts (front ++ back) ms ≡ row_leasts front ms ++ row_leasts back (drop (edges front) ms)
row_leasts_append [] back ms = refl
row_leasts_append (row ∷ front) back ms =
    let n : ℕ = length row in
    let ih = row_leasts_append front back (drop n ms) in
    let past : drop (edges front) (drop n ms) ≡ drop (edges (row ∷ front)) ms = drop-drop (edges front) n ms ∙ ap (λ j. drop j ms) (sym (length-append row (edge_cells front))) in
    cc

pub row_leasts_more : (rows : List (List ℕ)) (ms : List ℤ) (r : ℕ) → r < length rows → row_leasts (take (r + 1) rows) ms ≡ row_leasts (take r rows) ms ++ least (take (length (row_at rows r)) (drop (edges (take r rows)) ms)) ∷ []
row_leasts_more rows ms r h = ap (λ rs. row_leasts rs ms) (take_more rows r [] h) ∙ row_leasts_append (take r rows) (row_at rows r ∷ []) ms

pub codeword_append : (front back : List (List ℕ)) (x : List Bool) → codeword (front ++ back) x ≡ (codeword front x && codeword back x)
codeword_append [] back x = refl
codeword_append (row ∷ front) back x = let ih = codeword_append front back x in grind arith

pub codeword_more : (rows : List (List ℕ)) (x : List Bool) (r : ℕ) → r < length rows → codeword (take (r + 1) rows) x ≡ (codeword (take r rows) x && meets (row_at rows r) x)
codeword_more rows x r h =
    let e = ap (λ rs. codeword rs x) (take_more rows r [] h) ∙ codeword_append (take r rows) (row_at rows r ∷ []) x in
    grind arith

-- ---- all rows
-- the lengths of a row's part and of the rest
pub parted : {A : Type 0} (row : List ℕ) (rows : List (List ℕ)) (xs : List A) → length xs ≡ edges (row ∷ rows) → (length (take (length row) xs) ≡ length row) × (length (drop (length row) xs) ≡ edges rows)
parted row rows xs l =
    let e = l ∙ length-append row (edge_cells rows) in
    (simp length-take (omega arith), simp length-drop (omega arith))

pub length_choices : (rows : List (List ℕ)) (ms : List ℤ) → length ms ≡ edges rows → length (choices rows ms) ≡ edges rows
length_choices [] ms l = refl
length_choices (row ∷ rows) ms l =
    let p = parted row rows ms l in
    let ih = length_choices rows (drop (length row) ms) p.1 in
    let here = length_chosen (take (length row) ms) in
    simp length-append (omega arith)

pub leasts_is_pick : (rows : List (List ℕ)) (ms : List ℤ) → length ms ≡ edges rows → leasts rows ms ≡ pick (choices rows ms) ms
leasts_is_pick [] ms l = refl
leasts_is_pick (row ∷ rows) ms l =
    let n : ℕ = length row in
    let p = parted row rows ms l in
    let s : List Bool = chosen (take n ms) in
    let t : List Bool = choices rows (drop n ms) in
    let ls : length s ≡ n = length_chosen (take n ms) ∙ p.0 in
    let ih = leasts_is_pick rows (drop n ms) p.1 in
    cc (pick_split n (s ++ t) ms, take_at s t n ls, drop_at s t n ls)
