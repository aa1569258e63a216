-- A ticket that is taken keeps the invariant; a ticket of a reading that is met is taken by a new reading, which is then met with the same word.
use Rattle.std.proofs.Common.{◌≡◌, ℕ, zero, suc, ◌+◌, ◌^◌, true, false, cond, not, ◌&&◌, eqb, ltb, leb, ◌⊎◌, List, [], length, take, drop, replicate, ℤ, pos, ◌<ℤ◌, is_some, Some, None, Option, sym, refl, ap, ◌∙◌, subst, inl, inr, arith}
use lib.Signed.{lt_z}
use Rattle.std.proofs.lemmas.List.FromFn.{length-map-range_with_len}
use Rattle.std.proofs.lemmas.Int.{ints}
use Rattle.std.proofs.lemmas.Bool.{cond_both, cond-true, and_from, or_from, not_from_true, le-ltb, leb-true}
use Rattle.layouts.specs.Plans.{Plan, edges}
use Rattle.weights.specs.Kinds.{Kind, meanings}
use Rattle.weights.specs.Sizes.{beyond}
use Rattle.tickets.specs.Codecs.{Codec}
use Rattle.tickets.specs.Packs.{cell_bit}
use Rattle.tickets.specs.Reads.{small, multiplier_at, followed, multipliers_in, records_part, packed_word, or_empty, parts_refusal, read_refusal, word_read, multipliers_read}
use Rattle.tickets.specs.Tickets.{counts, ticket, ticket_size}
use Rattle.tickets.proofs.Packing.{bits_to, bits_unpacked}
use Rattle.tickets.proofs.Whole.{reads_back}
use Rattle.model.specs.Model.{Model, met, floor_of, cost_of, passes, raised, improved, fresh}
use Rattle.model.specs.Calls.{begin_refusal, boards_refusal, take_refusal, take_after, ticket_of}
use Rattle.model.proofs.Orders.{lt_no, lt_is, equal_yes, equal_from, neither, no_reason, passed, passing}
use Rattle.model.proofs.Boards.{Word, Multipliers, Fitting, same_long}
use Rattle.model.proofs.Bounds.{floor_below_word, same_floor, same_cost, same_test}
use Rattle.model.proofs.Invariant.{Inv, fitting, under_word, inv_raised, inv_improved, inv_fresh}

-- ---- what is read is a word and multipliers

module _ {W : Type 0} (k : Kind W) (c : Codec W) where
  -- n multipliers within size, if any are read
  abbrev Sound : ℕ → Option (List W) → Type 0
  Sound n (Some ms) = (length ms ≡ n) × (beyond k (2 ^ 18) ms ≡ false)
  Sound n None = Unit {0}

  abbrev Small : Option W → Type 0
  Small (Some w) = ltb (2 ^ 18) (k.size w) ≡ false
  Small None = Unit {0}

  small_is : (o : Option W) → Small (small k o)
  small_is (Some w) = cond_both (leb (k.size w) (2 ^ 18)) (Some w) None Small (λ e. le-ltb _ _ (leb-true _ _ e)) (λ _. tt)
  small_is None = tt

  followed_sound : (n : ℕ) (o : Option W) (os : Option (List W)) → Small o → Sound n os → Sound (suc n) (followed o os)
  followed_sound n (Some w) (Some ws) e f = (ap suc f.0, or_from _ _ e f.1)
  followed_sound n (Some w) None e f = tt
  followed_sound n None os e f = tt

  read_sound : (n : ℕ) (bs : List ℕ) → Sound n (multipliers_in k c n bs)
  read_sound zero bs = cond_both (eqb (length bs) 0) (Some []) None (Sound 0) (λ _. (refl, refl)) (λ _. tt)
  read_sound (suc n) bs =
      followed_sound n (multiplier_at k c bs) (multipliers_in k c n (drop (2 + c.width) bs))
      (cond_both _ (small k (c.get (take c.width (drop 2 bs)))) None Small (λ _. small_is (c.get (take c.width (drop 2 bs)))) (λ _. tt))
      (read_sound n (drop (2 + c.width) bs))

  module _ (p : Plan) where
    pub word_fits : (t : List ℕ) → Word p (word_read (counts p) t)
    word_fits t =
        record { long = length-map-range_with_len (cell_bit (packed_word (counts p) t)) 0 p.cells; bits = bits_to _ (bits_unpacked p.cells (packed_word (counts p) t)) }

    listed : (o : Option (List W)) → is_some o ≡ true → Sound (edges p.rows) o → Multipliers k p (or_empty o)
    listed (Some ms) e s = record { long = s.0; small = s.1 }
    listed None e s = absurd (let z : ◌≡◌ {A = ℕ} 0 1 = cc in omega arith)

    given : (o : Option (List W)) → ◌≡◌ {A = ℕ} (cond (is_some o) 0 17) 0 → is_some o ≡ true
    given (Some ms) e = refl
    given None e = absurd (omega arith)

    pub multipliers_fit : (t : List ℕ) (n : ℕ) → read_refusal k c (counts p) t n ≡ 0 → Multipliers k p (multipliers_read k c (counts p) t)
    multipliers_fit t n e =
        let h = passed (not (eqb n (edges p.rows))) 21 _ e in
        let g = neither (parts_refusal c.kind_byte (counts p) t) _ h.1 in
        listed (multipliers_in k c (edges p.rows) (records_part (counts p) t)) (given _ g.1) (read_sound (edges p.rows) (records_part (counts p) t))

module _ {W : Type 0} (k : Kind W) (p : Plan) (costs : List W) where
  pub inv_take : (c : Codec W) (t : List ℕ) (n : ℕ) (m : Model W) → take_refusal k p costs c t n m ≡ 0 → Inv k p costs m → Inv k p costs (take_after k p costs c t m)
  inv_take c t n m e v =
      let h = neither _ _ e in
      let g = neither (boards_refusal k p costs m) (read_refusal k c (counts p) t n) h.0 in
      inv_improved k p costs _ _ (word_fits k c p t) (inv_raised k p costs _ m (multipliers_fit k c p t n g.1) v)

  -- ---- a word, and multipliers whose floor is its cost

  module _ (x : List ℕ) (ms : List W) (word : Word p x) (test : passes k p costs x ≡ true) (some : Multipliers k p ms) (best : floor_of k p costs ms ≡ cost_of k p costs x) where
    -- after both, floor and ceiling are the word's cost
    floor_after : (m : Model W) → Inv k p costs m → (raised k p costs ms m).floor ≡ cost_of k p costs x
    floor_after m v =
        cond_both (lt_z m.floor (floor_of k p costs ms)) _ m (λ r. r.floor ≡ cost_of k p costs x) (λ _. best)
        (λ e. let a = under_word k p costs m v x word.long test in let b = lt_no m.floor (floor_of k p costs ms) e in omega (arith, ints))

    ceiling_after : (m : Model W) → Inv k p costs m → (improved k p costs x m).ceiling ≡ cost_of k p costs x
    ceiling_after m v =
        cond_both (passes k p costs x && lt_z (cost_of k p costs x) m.ceiling) _ m (λ r. r.ceiling ≡ cost_of k p costs x) (λ _. refl)
        (λ e. let b = lt_no (cost_of k p costs x) m.ceiling (ap (λ t. t && lt_z (cost_of k p costs x) m.ceiling) (sym test) ∙ e) in
        let f = fitting k p costs m v in
        let a = floor_below_word k p costs ms m.word f.costs some f.word.long v.is_word in
        let d = v.word_costs in
        omega (arith, ints))

    floor_stays : (m : Model W) → (improved k p costs x m).floor ≡ m.floor
    floor_stays m = cond_both (passes k p costs x && lt_z (cost_of k p costs x) m.ceiling) _ m (λ r. r.floor ≡ m.floor) (λ _. refl) (λ _. refl)

    pub then_met : (m : Model W) → Inv k p costs m → met (improved k p costs x (raised k p costs ms m)) ≡ true
    then_met m v = equal_from _ _ (floor_stays (raised k p costs ms m) ∙ floor_after m v ∙ sym (ceiling_after (raised k p costs ms m) (inv_raised k p costs ms m some v)))

    -- a word that was blank or dearer gives way
    pub then_word : (m : Model W) → (m.word ≡ x) ⊎ (cost_of k p costs x <ℤ m.ceiling) → (improved k p costs x (raised k p costs ms m)).word ≡ x
    then_word m o =
        cond_both (lt_z m.floor (floor_of k p costs ms)) _ m (λ r. (improved k p costs x r).word ≡ x) (λ _. given _ o) (λ _. given m o)
      where
        given : (r : Model W) → (r.word ≡ x) ⊎ (cost_of k p costs x <ℤ r.ceiling) → (improved k p costs x r).word ≡ x
        given r (inl e) = cond_both (passes k p costs x && lt_z (cost_of k p costs x) r.ceiling) _ r (λ s. s.word ≡ x) (λ _. refl) (λ _. e)
        given r (inr h) = ap (λ s. s.word) (cond-true (passes k p costs x && lt_z (cost_of k p costs x) r.ceiling) _ r (and_from _ _ test (lt_is _ _ h)))

    -- a ticket that reads so is not declined
    pub not_declined : (c : Codec W) (t : List ℕ) (n : ℕ) (m : Model W) → boards_refusal k p costs m ≡ 0 → read_refusal k c (counts p) t n ≡ 0 → word_read (counts p) t ≡ x → multipliers_read k c (counts p) t ≡ ms
        → take_refusal k p costs c t n m ≡ 0
    not_declined c t n m b e f g =
        no_reason _ _ (no_reason _ _ b e)
        (passing _ 14 _ (not_from_true _ (ap (passes k p costs) f ∙ test))
        (passing _ 18 0 (not_from_true _ (equal_from _ _ (ap (floor_of k p costs) g ∙ best ∙ sym (ap (cost_of k p costs) f)))) refl))

-- ---- a ticket of one reading, taken by a new one

pub record Taken {W : Type 0} (k : Kind W) (p : Plan) (costs : List W) (c : Codec W) (t : List ℕ) (n : ℕ) (m : Model W) (x : List ℕ) : Type 0 where
  pub accepted : take_refusal k p costs c t n m ≡ 0
  pub is_met : met (take_after k p costs c t m) ≡ true
  pub word : (take_after k p costs c t m).word ≡ x

-- two plans of the same cells and rows, and costs that mean the same
module _ {W : Type 0} (k : Kind W) (c : Codec W) (p q : Plan) (costs costs₂ : List W) (cells : p.cells ≡ q.cells) (rows : p.rows ≡ q.rows) (same : meanings k costs ≡ meanings k costs₂) (z : W) (small : k.size z ≡ 0) where
  same_counts : counts p ≡ counts q
  same_counts = cc

  pub ticket_accepted : (m : Model W) → Inv k p costs m → met m ≡ true → (a b t w : ℕ) → begin_refusal k q costs₂ a b t w ≡ 0 → (n : ℕ) → n ≡ edges q.rows
      → Taken k q costs₂ c (ticket_of k p costs c m) n (fresh k q costs₂ z) m.word
  ticket_accepted m v e a b t w begun n l = subst (λ (s : List ℕ). Taken k q costs₂ c s n (fresh k q costs₂ z) m.word) (sym (ap (λ s. ticket c s m.word m.kept) same_counts)) there
    where
      f : Fitting k p costs m
      f = fitting k p costs m v

      word : Word q m.word
      word = record { long = f.word.long ∙ cells; bits = f.word.bits }

      some : Multipliers k q m.kept
      some = record { long = f.kept.long ∙ ap edges rows; small = f.kept.small }

      test : passes k q costs₂ m.word ≡ true
      test = sym (same_test k p q costs costs₂ rows same m.word) ∙ v.is_word

      price : cost_of k q costs₂ m.word ≡ m.ceiling
      price = sym (same_cost k p q costs costs₂ rows same m.word) ∙ v.word_costs

      best : floor_of k q costs₂ m.kept ≡ cost_of k q costs₂ m.word
      best = sym (same_floor k p q costs costs₂ rows same m.kept) ∙ sym v.floor_is ∙ equal_yes _ _ e ∙ sym price

      new : Inv k q costs₂ (fresh k q costs₂ z)
      new = inv_fresh k q costs₂ z small a b t w begun

      bs : List ℕ
      bs = ticket c (counts q) m.word m.kept

      back : (length bs ≡ ticket_size c (counts q)) × (read_refusal k c (counts q) bs (length m.kept) ≡ 0) × (word_read (counts q) bs ≡ m.word) × (multipliers_read k c (counts q) bs ≡ m.kept)
      back = reads_back k c (counts q) m.word m.kept (length bs)
          (passing _ 13 _ (or_from _ _ (same_long _ _ word.long) word.bits) (passing _ 12 _ (or_from _ _ (same_long _ _ some.long) some.small) (passing _ 20 0 (le-ltb _ _ (omega arith)) refl)))

      either : (m.word ≡ replicate p.cells 0) ⊎ (m.ceiling <ℤ pos 0) → (replicate q.cells 0 ≡ m.word) ⊎ (cost_of k q costs₂ m.word <ℤ pos 0)
      either (inl g) = inl (ap (λ i. replicate i 0) (sym cells) ∙ sym g)
      either (inr h) = inr (subst (λ (z : ℤ). z <ℤ pos 0) (sym price) h)

      after : take_after k q costs₂ c bs (fresh k q costs₂ z) ≡ improved k q costs₂ m.word (raised k q costs₂ m.kept (fresh k q costs₂ z))
      after = ap (λ x. improved k q costs₂ x (raised k q costs₂ (multipliers_read k c (counts q) bs) (fresh k q costs₂ z))) back.2 ∙ ap (λ ms. improved k q costs₂ m.word (raised k q costs₂ ms (fresh k q costs₂ z))) back.3

      there : Taken k q costs₂ c bs n (fresh k q costs₂ z) m.word
      there =
          record {
            accepted = not_declined k q costs₂ m.word m.kept word test some best c bs n (fresh k q costs₂ z) new.boards (ap (read_refusal k c (counts q) bs) (l ∙ sym some.long) ∙ back.1) back.2 back.3;
            is_met = ap met after ∙ then_met k q costs₂ m.word m.kept word test some best (fresh k q costs₂ z) new;
            word = ap (λ r. r.word) after ∙ then_word k q costs₂ m.word m.kept word test some best (fresh k q costs₂ z) (either v.first);
          }
