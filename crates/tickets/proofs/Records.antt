-- Reading record by record.
use Rattle.std.proofs.Common.{◌≡◌, ℕ, zero, suc, ◌+◌, ◌-◌, ◌*◌, ◌<◌, ◌≤◌, Bool, true, false, cond, ◌&&◌, leb, List, [], ◌∷◌, ◌++◌, length, get_or, take, drop, set, is_some, Some, None, Option, sym, refl, ap, ◌∙◌, inl, inr, zero-mul, suc-mul, arith}
use Rattle.std.proofs.lemmas.List.{append_assoc, drop-take, take-take, length-take-le, length-drop, get_or-take, take_more_set}
use Rattle.std.proofs.lemmas.Bool.{le-leb, lt-leb, and_from, eq-eqb, ne_eqb, cases_lt}
use Rattle.weights.specs.Kinds.{Kind}
use Rattle.tickets.specs.Codecs.{Codec}
use Rattle.tickets.specs.Reads.{multiplier_at, followed, multipliers_in}
use Rattle.tickets.proofs.Chunked.{chunk, chunk_first, chunk_next, AllChunks}

-- what was read before, and what is read behind it
abbrev pub after : {W : Type 0} → List W → Option (List W) → Option (List W)
after ws (Some us) = Some (ws ++ us)
after ws None = None

and_false : (b : Bool) → (b && false) ≡ false
and_false true = refl
and_false false = refl

module _ {W : Type 0} (k : Kind W) (c : Codec W) where
  -- a record says the same with what follows it and without
  pub front_record : (bs : List ℕ) → 2 + c.width ≤ length bs → multiplier_at k c (take (2 + c.width) bs) ≡ multiplier_at k c bs
  front_record bs h =
      let long : length (take (2 + c.width) bs) ≡ 2 + c.width = length-take-le (2 + c.width) bs h in
      let a : leb 2 (length (take (2 + c.width) bs)) ≡ leb 2 (length bs) = le-leb _ _ (omega arith) ∙ sym (le-leb _ _ (omega arith)) in
      let b : leb (2 + c.width) (length (take (2 + c.width) bs)) ≡ leb (2 + c.width) (length bs) = le-leb _ _ (omega arith) ∙ sym (le-leb _ _ h) in
      let x : get_or (take (2 + c.width) bs) 0 0 ≡ get_or bs 0 0 = get_or-take (2 + c.width) bs 0 0 (omega arith) in
      let y : get_or (take (2 + c.width) bs) 1 0 ≡ get_or bs 1 0 = get_or-take (2 + c.width) bs 1 0 (omega arith) in
      let bytes : take c.width (drop 2 (take (2 + c.width) bs)) ≡ take c.width (drop 2 bs) =
      ap (take c.width) (drop-take 2 c.width bs) ∙ take-take c.width c.width (drop 2 bs) (omega arith) in
      cc

  pub short_record : (bs : List ℕ) → length bs < 2 + c.width → multiplier_at k c bs ≡ None
  short_record bs h =
      let b : leb (2 + c.width) (length bs) ≡ false = lt-leb _ _ h in
      grind arith

  -- one record more
  more : (n : ℕ) (left behind : List ℕ) (m : W) → 0 < n → multiplier_at k c left ≡ Some m → behind ≡ drop (2 + c.width) left
      → multipliers_in k c n left ≡ followed (Some m) (multipliers_in k c (n - 1) behind)
  more zero left behind m h e d = absurd (omega arith)
  more (suc n) left behind m h e d =
      let one : suc n - 1 ≡ n = omega arith in
      ap (λ o. followed o (multipliers_in k c n (drop (2 + c.width) left))) e ∙ ap (λ l. followed (Some m) (multipliers_in k c n l)) (sym d)
      ∙ ap (λ i. followed (Some m) (multipliers_in k c i behind)) (sym one)

  none_more : (n : ℕ) (left : List ℕ) → 0 < n → multiplier_at k c left ≡ None → multipliers_in k c n left ≡ None
  none_more zero left h e = absurd (omega arith)
  none_more (suc n) left h e = ap (λ o. followed o (multipliers_in k c n (drop (2 + c.width) left))) e

  is_some_both : (o : Option W) (p : Option (List W)) → is_some (followed o p) ≡ (is_some o && is_some p)
  is_some_both (Some w) (Some us) = refl
  is_some_both (Some w) None = refl
  is_some_both None p = refl

  -- each of n records holds a multiplier, or one of them does not
  every_record : (n : ℕ) (bs : List ℕ) → length bs ≡ n * (2 + c.width) → ((i : ℕ) → i < n → is_some (multiplier_at k c (chunk (2 + c.width) bs i)) ≡ true)
      → is_some (multipliers_in k c n bs) ≡ true
  every_record zero bs l h = ap (λ t. is_some {T = List W} (cond t (Some []) None)) (eq-eqb (length bs) 0 (l ∙ zero-mul (2 + c.width)))
  every_record (suc n) bs l h =
      let w : ℕ = 2 + c.width in
      let all : length bs ≡ n * w + w = l ∙ suc-mul n w in
      let first : is_some (multiplier_at k c bs) ≡ true = sym (ap is_some (ap (multiplier_at k c) (chunk_first w bs) ∙ front_record bs (omega arith))) ∙ h 0 (omega arith) in
      let rest : is_some (multipliers_in k c n (drop w bs)) ≡ true =
      every_record n (drop w bs) (simp length-drop (omega arith)) (λ i b. ap (λ r. is_some (multiplier_at k c r)) (chunk_next w bs i) ∙ h (suc i) (omega arith)) in
      is_some_both (multiplier_at k c bs) (multipliers_in k c n (drop w bs)) ∙ and_from _ _ first rest

  one_record : (n : ℕ) (bs : List ℕ) → length bs ≡ n * (2 + c.width) → (i : ℕ) → i < n → is_some (multiplier_at k c (chunk (2 + c.width) bs i)) ≡ false
      → is_some (multipliers_in k c n bs) ≡ false
  one_record zero bs l i h e = absurd (omega arith)
  one_record (suc n) bs l zero h e =
      let w : ℕ = 2 + c.width in
      let all : length bs ≡ n * w + w = l ∙ suc-mul n w in
      let first : is_some (multiplier_at k c bs) ≡ false = sym (ap is_some (ap (multiplier_at k c) (chunk_first w bs) ∙ front_record bs (omega arith))) ∙ e in
      is_some_both (multiplier_at k c bs) (multipliers_in k c n (drop w bs)) ∙ ap (λ t. t && is_some (multipliers_in k c n (drop w bs))) first
  one_record (suc n) bs l (suc i) h e =
      let w : ℕ = 2 + c.width in
      let all : length bs ≡ n * w + w = l ∙ suc-mul n w in
      let rest : is_some (multipliers_in k c n (drop w bs)) ≡ false =
      one_record n (drop w bs) (simp length-drop (omega arith)) i (omega arith) (ap (λ r. is_some (multiplier_at k c r)) (chunk_next w bs i) ∙ e) in
      is_some_both (multiplier_at k c bs) (multipliers_in k c n (drop w bs)) ∙ ap (λ t. is_some (multiplier_at k c bs) && t) rest ∙ and_false (is_some (multiplier_at k c bs))

  pub records_tested : (r : Bool) (n : ℕ) (bs : List ℕ) → length bs ≡ n * (2 + c.width) → AllChunks r (λ b. is_some (multiplier_at k c b)) (2 + c.width) n bs
      → r ≡ is_some (multipliers_in k c n bs)
  records_tested true n bs l a = sym (every_record n bs l (a.passes refl))
  records_tested false n bs l a = let p = a.fails refl in sym (one_record n bs l p.0 p.1 p.2)

  -- so many multipliers have just that length
  pub records_length : (n : ℕ) (bs : List ℕ) → (length bs ≡ n * (2 + c.width) → ⊥) → is_some (multipliers_in k c n bs) ≡ false
  records_length zero bs h = ap (λ t. is_some {T = List W} (cond t (Some []) None)) (ne_eqb (length bs) 0 (λ e. h (e ∙ sym (zero-mul (2 + c.width)))))
  records_length (suc n) bs h =
      let w : ℕ = 2 + c.width in
      is_some_both (multiplier_at k c bs) (multipliers_in k c n (drop w bs)) ∙ elim (cases_lt (length bs) w) [
        | inl low ↦ ap (λ o. is_some o && is_some (multipliers_in k c n (drop w bs))) (short_record bs low)
        | inr room ↦ ap (λ t. is_some (multiplier_at k c bs) && t) (records_length n (drop w bs) (λ e. h (omega (arith, e, length-drop w bs, suc-mul n w))))
            ∙ and_false (is_some (multiplier_at k c bs))
      ]

  after_followed : (ws : List W) (m : W) (o : Option (List W)) → after ws (followed (Some m) o) ≡ after (ws ++ m ∷ []) o
  after_followed ws m (Some us) = ap Some (sym (append_assoc ws (m ∷ []) us))
  after_followed ws m None = refl

  -- one multiplier more has landed in the work list
  pub fill_step : (work : List W) (i n : ℕ) (left behind : List ℕ) (m : W) (o : Option (List W)) → i < length work → n ≡ length work → multiplier_at k c left ≡ Some m → behind ≡ drop (2 + c.width) left
      → after (take i work) (multipliers_in k c (n - i) left) ≡ o → after (take (i + 1) (set work i m)) (multipliers_in k c (n - (i + 1)) behind) ≡ o
  fill_step work i n left behind m o h l e d inv =
      let next : n - i - 1 ≡ n - (i + 1) = omega arith in
      ap (λ ws. after ws (multipliers_in k c (n - (i + 1)) behind)) (take_more_set work i m h)
      ∙ sym (after_followed (take i work) m (multipliers_in k c (n - (i + 1)) behind))
      ∙ ap (λ j. after (take i work) (followed (Some m) (multipliers_in k c j behind))) (sym next)
      ∙ ap (after (take i work)) (sym (more (n - i) left behind m (omega arith) e d)) ∙ inv

  pub fill_stop : (work : List W) (n : ℕ) (left : List ℕ) (o : Option (List W)) → 0 < n → multiplier_at k c left ≡ None
      → after work (multipliers_in k c n left) ≡ o → is_some o ≡ true → ⊥
  fill_stop work n left o h e inv s =
      let none : None ≡ o = sym (ap (after work) (none_more n left h e)) ∙ inv in
      let f : false ≡ true = ap is_some none ∙ s in
      let z : ◌≡◌ {A = ℕ} 0 1 = cc in omega arith
