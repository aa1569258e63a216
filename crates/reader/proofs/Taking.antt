-- What a ticket of the right form comes to, and when it is declined all the same.
use Rattle.std.proofs.Common.{◌≡◌, ℕ, ◌^◌, Bool, true, false, cond, not, ◌||◌, eqb, List, length, ℤ, refl, sym, ap, ◌∙◌}
use Rattle.std.specs.Prelude.{nat_lt, Ok, Err, IfOk, Result}
use Rattle.std.proofs.lemmas.Bool.{cond-true, cond-false, or_from, eq-eqb, not_from_true, not_from_false}
use Rattle.layouts.specs.Plans.{Plan, edges}
use Rattle.weights.specs.Kinds.{Kind, meanings}
use Rattle.weights.specs.Sizes.{beyond}
use Rattle.dual.specs.Choice.{pick}
use Rattle.dual.specs.Bound.{codeword}
use Rattle.tickets.specs.Codecs.{Codec}
use Rattle.tickets.specs.Packs.{no_bits, unpacked}
use Rattle.tickets.specs.Reads.{packed_word, word_read, multipliers_read, read_refusal}
use Rattle.tickets.specs.Tickets.{counts, write_refusal as writing_refusal}
use Rattle.model.specs.Words.{bits}
use Rattle.model.specs.Model.{Model, met, equal, floor_of, cost_of, passes, raised_to, lowered_to, raised, improved}
use Rattle.model.specs.Calls.{boards_refusal, form_refusal, take_refusal, take_after, work_after, ticket_of, write_refusal}
use Rattle.model.proofs.Orders.{no_reason}
use Rattle.model.proofs.Boards.{same_long, fits}
use Rattle.reader.proofs.Rounds.{improved_by}

module _ {W : Type 0} (k : Kind W) (p : Plan) (costs : List W) (c : Codec W) (t : List ℕ) where
  pub claimed : (j : ℕ) (packed x : List ℕ) → j ≡ p.cells → packed ≡ packed_word (counts p) t → x ≡ unpacked j packed → x ≡ word_read (counts p) t
  claimed j packed x ej ep ex = ex ∙ ap (λ n. unpacked n packed) ej ∙ ap (unpacked p.cells) ep

  module _ (m : Model W) (work : List W) (e : boards_refusal k p costs m ≡ 0) (f : read_refusal k c (counts p) t (length work) ≡ 0) where
    of_form : form_refusal k p costs c t (length work) m ≡ 0
    of_form = no_reason _ _ e f

    pub work_is : (ws : List W) → ws ≡ multipliers_read k c (counts p) t → ws ≡ work_after k p costs c t work m
    work_is ws ew = ew ∙ sym (cond-true (eqb (form_refusal k p costs c t (length work) m) 0) (multipliers_read k c (counts p) t) work (eq-eqb _ 0 of_form))

    module _ (x : List ℕ) (ex : x ≡ word_read (counts p) t) where
      the_test : (b : Bool) → codeword p.rows (bits x) ≡ b → passes k p costs (word_read (counts p) t) ≡ b
      unfolding passes
      the_test b eb = ap (λ y. codeword p.rows (bits y)) (sym ex) ∙ eb

      later : (r : ℕ) → cond (not (passes k p costs (word_read (counts p) t))) 14 (cond (not (equal (floor_of k p costs (multipliers_read k c (counts p) t)) (cost_of k p costs (word_read (counts p) t)))) 18 0) ≡ r → r ≡ take_refusal k p costs c t (length work) m
      later r er = sym (cond-true (eqb (form_refusal k p costs c t (length work) m) 0) _ _ (eq-eqb _ 0 of_form) ∙ er)

      pub unmet : codeword p.rows (bits x) ≡ false → 14 ≡ take_refusal k p costs c t (length work) m
      unmet meets = later 14 (ap (λ b. cond (not b) 14 (cond (not (equal (floor_of k p costs (multipliers_read k c (counts p) t)) (cost_of k p costs (word_read (counts p) t)))) 18 0)) (the_test false meets))

      module _ (meets : codeword p.rows (bits x) ≡ true) (ms : List W) (em : ms ≡ multipliers_read k c (counts p) t) (u v : ℤ) (eu : u ≡ floor_of k p costs ms) (ev : v ≡ pick (bits x) (meanings k costs)) where
        price : (b : Bool) → equal u v ≡ b → equal (floor_of k p costs (multipliers_read k c (counts p) t)) (cost_of k p costs (word_read (counts p) t)) ≡ b
        unfolding cost_of
        price b eb =
            ap (λ ns. equal (floor_of k p costs ns) (pick (bits (word_read (counts p) t)) (meanings k costs))) (sym em)
            ∙ ap (λ y. equal (floor_of k p costs ms) (pick (bits y) (meanings k costs))) (sym ex)
            ∙ ap (λ z. equal z (pick (bits x) (meanings k costs))) (sym eu) ∙ ap (equal u) (sym ev) ∙ eb

        second : (b : Bool) (r : ℕ) → equal u v ≡ b → cond (not b) 18 0 ≡ r → r ≡ take_refusal k p costs c t (length work) m
        second b r eb er = later r (ap (λ y. cond (not y) 14 (cond (not (equal (floor_of k p costs (multipliers_read k c (counts p) t)) (cost_of k p costs (word_read (counts p) t)))) 18 0)) (the_test true meets) ∙ ap (λ y. cond (not y) 18 0) (price b eb) ∙ er)

        pub unproved : equal u v ≡ false → 18 ≡ take_refusal k p costs c t (length work) m
        unproved eb = second false 18 eb refl

        pub proved : equal u v ≡ true → 0 ≡ take_refusal k p costs c t (length work) m
        proved eb = second true 0 eb refl

        pub taken : (s r i : Model W) → r ≡ raised_to u ms s → i ≡ lowered_to v x r → i ≡ take_after k p costs c t s
        taken s r i er ei =
            ei ∙ improved_by k p costs x v r meets ev ∙ ap (improved k p costs x) (er ∙ ap (λ z. raised_to z ms s) eu)
            ∙ ap (λ y. improved k p costs y (raised k p costs ms s)) ex ∙ ap (λ ns. improved k p costs (word_read (counts p) t) (raised k p costs ns s)) em

pub both : {T E : Type 0} (P Q : T → Type 0) (r : Result T E) → IfOk r P → IfOk r Q → IfOk r (λ x. P x × Q x)
both P Q (Ok x) f g = (f, g)
both P Q (Err e) f g = tt

-- ---- the ticket that a met reading writes
module _ {W : Type 0} (k : Kind W) (p : Plan) (costs : List W) (c : Codec W) (n : ℕ) (m : Model W) where
  pub why_written : boards_refusal k p costs m ≡ 0 → met m ≡ true → writing_refusal k c (counts p) m.word m.kept n ≡ write_refusal k p costs c n m
  why_written e is =
      let all = fits k p costs m e in
      let short = cond (nat_lt n (length (ticket_of k p costs c m))) 20 0 in
      cond-false (not (eqb (length m.word) p.cells) || no_bits m.word) 13 _ (or_from _ _ (same_long _ _ all.word.long) all.word.bits)
      ∙ cond-false (not (eqb (length m.kept) (edges p.rows)) || beyond k (2 ^ 18) m.kept) 12 _ (or_from _ _ (same_long _ _ all.kept.long) all.kept.small)
      ∙ sym (cond-true (eqb (boards_refusal k p costs m) 0) _ _ (eq-eqb _ 0 e) ∙ cond-false (not (met m)) 19 short (not_from_true _ is))

  pub why_unmet : boards_refusal k p costs m ≡ 0 → met m ≡ false → 19 ≡ write_refusal k p costs c n m
  why_unmet e is =
      let short = cond (nat_lt n (length (ticket_of k p costs c m))) 20 0 in
      sym (cond-true (eqb (boards_refusal k p costs m) 0) _ _ (eq-eqb _ 0 e) ∙ cond-true (not (met m)) 19 short (not_from_false _ is))
