-- What was written reads back, and nothing else is read.
use Rattle.std.proofs.Common.{◌≡◌, ℕ, zero, suc, ◌+◌, ◌*◌, ◌^◌, ◌<◌, ◌≤◌, true, false, ◌&&◌, eqb, ltb, leb, List, [], ◌∷◌, ◌++◌, length, take, drop, Some, None, Option, sym, refl, ap, ◌∙◌, subst, inl, inr, arith}
use Rattle.std.specs.List.{flat_map}
use Rattle.std.proofs.lemmas.List.FromFn.{length-map-range_with_len}
use Rattle.std.proofs.lemmas.List.{length-append, length-take, length-take-le, length-drop, take_at, drop_at, take-append-drop, drop-drop, get_or-drop, get_or-take, get_or_past, nil_from_length}
use Rattle.std.proofs.lemmas.Bool.{le-leb, leb-true, le-ltb, eq-eqb, eqb-true, and_from, and_parts, or_from, or_parts, ltb-false, cond-true, cases_lt}
use Rattle.weights.specs.Kinds.{Kind}
use Rattle.weights.specs.Sizes.{beyond}
use Rattle.tickets.specs.Codecs.{Codec}
use Rattle.tickets.specs.PartLaws.{held}
use Rattle.tickets.specs.Packs.{Octets, octet, packed_length, packed, clear}
use Rattle.tickets.specs.Reads.{marked, word_part, small, multiplier_at, followed, multipliers_in}
use Rattle.tickets.specs.Tickets.{Counts, ticket, word_mark, multiplier_mark, word_bytes, multiplier_bytes}
use Rattle.tickets.proofs.Packing.{clear_packed}
use Rattle.tickets.proofs.Splices.{joined_length}

pub octets_drop : (n : ℕ) (bs : List ℕ) → Octets bs → Octets (drop n bs)
octets_drop n bs o i = subst (λ b. b < 256) (sym (get_or-drop n bs i 0)) (o (n + i))

pub octets_take : (n : ℕ) (bs : List ℕ) → Octets bs → Octets (take n bs)
octets_take n bs o i = elim (cases_lt i n) [
  | inl low ↦ subst (λ b. b < 256) (sym (get_or-take n bs i 0 low)) (o i)
  | inr past ↦ subst (λ b. b < 256) (sym (get_or_past (take n bs) i 0 (simp length-take (omega arith)))) (omega arith)
]

-- a mark at the front
pub marked_front : (a b : ℕ) (bs : List ℕ) → marked (a ∷ b ∷ []) (a ∷ b ∷ bs) ≡ true
marked_front a b bs = and_from _ _ (le-leb 2 (length (a ∷ b ∷ bs)) (omega arith)) (and_from _ _ (eq-eqb a a refl) (eq-eqb b b refl))

pub marked_only : (a b : ℕ) (bs : List ℕ) → marked (a ∷ b ∷ []) bs ≡ true → bs ≡ a ∷ b ∷ drop 2 bs
marked_only a b [] e = absurd (let z : ◌≡◌ {A = ℕ} 0 1 = cc in omega arith)
marked_only a b (x ∷ []) e = absurd (let z : ◌≡◌ {A = ℕ} 0 1 = cc in omega arith)
marked_only a b (x ∷ y ∷ bs) e =
    let p = and_parts (leb 2 (length (x ∷ y ∷ bs))) (eqb x a && eqb y b) e in
    let q = and_parts (eqb x a) (eqb y b) p.1 in
    let f = eqb-true x a q.0 in
    let g = eqb-true y b q.1 in
    cc

followed_only : {X : Type 0} (o : Option X) (p : Option (List X)) (ws : List X) → followed o p ≡ Some ws → (w : X) × ((us : List X) × (o ≡ Some w) × (p ≡ Some us) × (w ∷ us ≡ ws))
followed_only (Some w) (Some us) ws e = (w, (us, refl, refl, (let r : w ∷ us ≡ ws = cc in r)))
followed_only (Some w) None ws e = absurd (let z : ◌≡◌ {A = ℕ} 0 1 = cc in omega arith)
followed_only None p ws e = absurd (let z : ◌≡◌ {A = ℕ} 0 1 = cc in omega arith)

-- the word
pub word_back : (x rest : List ℕ) → word_part (length x) (word_bytes x ++ rest) ≡ Some (packed x)
word_back x rest =
    let long : length (packed x) ≡ packed_length (length x) = length-map-range_with_len (octet x) 0 (packed_length (length x)) in
    let part : take (packed_length (length x)) (packed x ++ rest) ≡ packed x = take_at (packed x) rest (packed_length (length x)) long in
    let room : leb (2 + packed_length (length x)) (length (word_bytes x ++ rest)) ≡ true = le-leb _ _ (omega (arith, length-append (packed x) rest)) in
    let free : clear (length x) (take (packed_length (length x)) (packed x ++ rest)) ≡ true = ap (clear (length x)) part ∙ clear_packed x in
    cond-true _ (Some (take (packed_length (length x)) (packed x ++ rest))) None
    (and_from (marked word_mark (word_bytes x ++ rest)) _ (marked_front 0x4C 0x57 (packed x ++ rest)) (and_from _ _ room free))
    ∙ ap Some part

pub record WordRead (n : ℕ) (bs p : List ℕ) : Type 0 where
  pub front : bs ≡ word_mark ++ (p ++ drop (2 + packed_length n) bs)
  pub part : p ≡ take (packed_length n) (drop 2 bs)
  pub long : length p ≡ packed_length n
  pub free : clear n p ≡ true

pub word_only : (n : ℕ) (bs p : List ℕ) → word_part n bs ≡ Some p → WordRead n bs p
word_only n bs p e =
    let q = take (packed_length n) (drop 2 bs) in
    let h = held (marked word_mark bs && (leb (2 + packed_length n) (length bs) && clear n q)) (Some q) p e in
    let a = and_parts (marked word_mark bs) (leb (2 + packed_length n) (length bs) && clear n q) h.0 in
    let b = and_parts (leb (2 + packed_length n) (length bs)) (clear n q) a.1 in
    let room = leb-true (2 + packed_length n) (length bs) b.0 in
    let is : p ≡ take (packed_length n) (drop 2 bs) = cc in
    let whole = take-append-drop (packed_length n) (drop 2 bs) in
    let on = drop-drop (packed_length n) 2 bs in
    let m = marked_only 0x4C 0x57 bs a.0 in
    record {
      front = m ∙ ap (λ l. 0x4C ∷ 0x57 ∷ l) (sym whole ∙ ap (λ l. q ++ l) on ∙ ap (λ l. l ++ drop (2 + packed_length n) bs) (sym is));
      part = is;
      long = ap length is ∙ length-take-le (packed_length n) (drop 2 bs) (simp length-drop (omega arith));
      free = ap (clear n) is ∙ b.1;
    }

pub bytes_length : {W : Type 0} (c : Codec W) (m : W) → length (multiplier_bytes c m) ≡ 2 + c.width
bytes_length c m = omega (arith, c.put_length m)

-- the multipliers
module _ {W : Type 0} (k : Kind W) (c : Codec W) where
  multiplier_back : (m : W) (rest : List ℕ) → k.size m ≤ 2 ^ 18 → multiplier_at k c (multiplier_bytes c m ++ rest) ≡ Some m
  multiplier_back m rest h =
      let part : take c.width (c.put m ++ rest) ≡ c.put m = take_at (c.put m) rest c.width (c.put_length m) in
      let room : leb (2 + c.width) (length (multiplier_bytes c m ++ rest)) ≡ true = le-leb _ _ (omega (arith, length-append (c.put m) rest, c.put_length m)) in
      cond-true (marked multiplier_mark (multiplier_bytes c m ++ rest) && leb (2 + c.width) (length (multiplier_bytes c m ++ rest)))
      (small k (c.get (take c.width (c.put m ++ rest)))) None
      (and_from _ _ (marked_front 0x4C 0x4D (c.put m ++ rest)) room)
      ∙ ap (λ l. small k (c.get l)) part ∙ ap (small k) (c.back m) ∙ cond-true (leb (k.size m) (2 ^ 18)) (Some m) None (le-leb _ _ h)

  pub multipliers_back : (ms : List W) → beyond k (2 ^ 18) ms ≡ false → multipliers_in k c (length ms) (flat_map (multiplier_bytes c) ms) ≡ Some ms
  multipliers_back [] e = refl
  multipliers_back (m ∷ ms) e =
      let rest = flat_map (multiplier_bytes c) ms in
      let p = or_parts (ltb (2 ^ 18) (k.size m)) (beyond k (2 ^ 18) ms) e in
      ap (λ o. followed o (multipliers_in k c (length ms) (drop (2 + c.width) (multiplier_bytes c m ++ rest)))) (multiplier_back m rest (ltb-false _ _ p.0))
      ∙ ap (λ l. followed (Some m) (multipliers_in k c (length ms) l)) (drop_at (multiplier_bytes c m) rest (2 + c.width) (bytes_length c m))
      ∙ ap (followed (Some m)) (multipliers_back ms p.1)

  small_only : (o : Option W) (m : W) → small k o ≡ Some m → (o ≡ Some m) × (k.size m ≤ 2 ^ 18)
  small_only (Some w) m e =
      let h = held (leb (k.size w) (2 ^ 18)) (Some w) m e in
      let s = leb-true (k.size w) (2 ^ 18) h.0 in
      let is : w ≡ m = cc in
      (h.1, subst (λ v. k.size v ≤ 2 ^ 18) is s)
  small_only None m e = absurd (let z : ◌≡◌ {A = ℕ} 0 1 = cc in omega arith)

  multiplier_only : (bs : List ℕ) (m : W) → Octets bs → multiplier_at k c bs ≡ Some m → (bs ≡ multiplier_bytes c m ++ drop (2 + c.width) bs) × (k.size m ≤ 2 ^ 18)
  multiplier_only bs m o e =
      let h = held (marked multiplier_mark bs && leb (2 + c.width) (length bs)) (small k (c.get (take c.width (drop 2 bs)))) m e in
      let a = and_parts (marked multiplier_mark bs) (leb (2 + c.width) (length bs)) h.0 in
      let s = small_only (c.get (take c.width (drop 2 bs))) m h.1 in
      let is = c.only (take c.width (drop 2 bs)) m (octets_take c.width (drop 2 bs) (octets_drop 2 bs o)) s.0 in
      let f = marked_only 0x4C 0x4D bs a.0 in (
        f ∙ ap (λ l. 0x4C ∷ 0x4D ∷ l) (sym (take-append-drop c.width (drop 2 bs)) ∙ ap (λ l. l ++ drop c.width (drop 2 bs)) is ∙ ap (λ l. c.put m ++ l) (drop-drop c.width 2 bs)),
        s.1,
      )

  pub multipliers_only : (n : ℕ) (bs : List ℕ) (ms : List W) → Octets bs → multipliers_in k c n bs ≡ Some ms → (bs ≡ flat_map (multiplier_bytes c) ms) × (length ms ≡ n) × (beyond k (2 ^ 18) ms ≡ false)
  multipliers_only zero bs ms o e =
      let h = held (eqb (length bs) 0) (Some []) ms e in
      let none = nil_from_length bs (eqb-true (length bs) 0 h.0) in
      let is : [] ≡ ms = cc in
      (none ∙ ap (flat_map (multiplier_bytes c)) is, ap length (sym is), ap (beyond k (2 ^ 18)) (sym is))
  multipliers_only (suc n) bs ms o e =
      let rest = drop (2 + c.width) bs in
      let h = followed_only (multiplier_at k c bs) (multipliers_in k c n rest) ms e in
      let m = h.0 in
      let us = h.1.0 in
      let one = multiplier_only bs m o h.1.1 in
      let more = multipliers_only n rest us (octets_drop (2 + c.width) bs o) h.1.2 in
      let is : m ∷ us ≡ ms = h.1.3 in (
        one.0 ∙ ap (λ l. multiplier_bytes c m ++ l) more.0 ∙ ap (flat_map (multiplier_bytes c)) is,
        ap length (sym is) ∙ ap suc more.1,
        ap (beyond k (2 ^ 18)) (sym is) ∙ or_from (ltb (2 ^ 18) (k.size m)) (beyond k (2 ^ 18) us) (le-ltb _ _ one.1) more.2,
      )

  pub ticket_length : (n : Counts) (x : List ℕ) (ms : List W) → length (ticket c n x ms) ≡ 9 + packed_length (length x) + length ms * (2 + c.width)
  unfolding ticket
  ticket_length n x ms =
      let records = flat_map (multiplier_bytes c) ms in
      let a = length-append (packed x) records in
      let b = length-map-range_with_len (octet x) 0 (packed_length (length x)) in
      let d = joined_length (multiplier_bytes c) (2 + c.width) (bytes_length c) ms in
      omega arith
