-- What the writer puts out is the ticket.
use Rattle.std.proofs.Common.{◌≡◌, ℕ, ◌+◌, ◌^◌, ◌≤◌, Bool, true, false, cond, not, ◌||◌, eqb, ltb, List, ◌++◌, length, drop, refl, ap, subst, ◌∙◌, arith}
use Rattle.std.specs.List.{flat_map}
use Rattle.std.proofs.lemmas.List.{length-append}
use Rattle.std.proofs.lemmas.Bool.{or_parts, not-false, eqb-true, ltb-false}
use Rattle.weights.specs.Kinds.{Kind}
use Rattle.weights.specs.Sizes.{beyond}
use Rattle.tickets.specs.Codecs.{Codec}
use Rattle.tickets.specs.Packs.{no_bits, packed, splice}
use Rattle.tickets.specs.Tickets.{Counts, head_bytes, word_mark, word_bytes, multiplier_bytes, ticket, write_refusal}
use Rattle.tickets.proofs.Writing.{puts_join}
use Rattle.tickets.specs.Writers.{Puts}
use Rattle.tickets.specs.declared.writer.TicketWriter.{TicketWriter}

none_of : (a b c : Bool) → ◌≡◌ {A = ℕ} (cond a 13 (cond b 12 (cond c 20 0))) 0 → (a ≡ false) × (b ≡ false) × (c ≡ false)
none_of true b c e = absurd (omega arith)
none_of false true c e = absurd (omega arith)
none_of false false true e = absurd (omega arith)
none_of false false false e = (refl, refl, refl)

module _ {W : Type 0} (k : Kind W) (c : Codec W) (n : Counts) (x : List ℕ) (ms : List W) where
  -- what an accepted writing has passed
  pub record Accepted (room : ℕ) : Type 0 where
    pub cells : length x ≡ n.cells
    pub bits : no_bits x ≡ false
    pub edges : length ms ≡ n.edges
    pub sizes : beyond k (2 ^ 18) ms ≡ false
    pub fits : length (ticket c n x ms) ≤ room

  pub accepted : (room : ℕ) → write_refusal k c n x ms room ≡ 0 → Accepted room
  accepted room e =
      let h = none_of (not (eqb (length x) n.cells) || no_bits x) (not (eqb (length ms) n.edges) || beyond k (2 ^ 18) ms) (ltb room (length (ticket c n x ms))) e in
      let w = or_parts (not (eqb (length x) n.cells)) (no_bits x) h.0 in
      let m = or_parts (not (eqb (length ms) n.edges)) (beyond k (2 ^ 18) ms) h.1 in
      record {
        cells = eqb-true (length x) n.cells (not-false _ w.0);
        bits = w.1;
        edges = eqb-true (length ms) n.edges (not-false _ m.0);
        sizes = m.1;
        fits = ltb-false room (length (ticket c n x ms)) h.2;
      }

  -- head, mark, cells and multipliers, one behind the other
  pub written : (a b d e f : TicketWriter) (head xs y : List ℕ) → head ≡ head_bytes c.kind_byte n → y ≡ x → a.out.now ≡ xs → a.at ≡ 0 → Puts a b head → Puts b d word_mark → Puts d e (packed y)
      → Puts e f (flat_map (multiplier_bytes c) ms) → length (ticket c n x ms) ≤ length xs
      → (f.at ≡ length (ticket c n x ms)) × (f.out.now ≡ ticket c n x ms ++ drop f.at xs)
  unfolding ticket
  written a b d e f head xs y eh ey ea at p q r s fits =
      let top = head_bytes c.kind_byte n in
      let records = flat_map (multiplier_bytes c) ms in
      let whole = top ++ (word_bytes x ++ records) in
      let len = length-append (packed x) records in
      let long : length a.out.now ≡ length xs = ap length ea in
      let one : Puts a b top = subst (Puts a b) eh p in
      let two : Puts a d (top ++ word_mark) = puts_join a b d top word_mark one q (omega arith) in
      let cells : Puts d e (packed x) = subst (λ l. Puts d e (packed l)) ey r in
      let three : Puts a e (top ++ word_bytes x) = puts_join a d e (top ++ word_mark) (packed x) two cells (omega arith) in
      let all : Puts a f whole = puts_join a e f (top ++ word_bytes x) records three s (omega arith) in
      let end : f.at ≡ length whole = omega (arith, all.place) in (
        end,
        all.bytes ∙ ap (λ i. splice a.out.now i whole) at ∙ ap (λ l. splice l 0 whole) ea ∙ ap (λ i. whole ++ drop i xs) (let z : 0 + length whole ≡ f.at = omega arith in z),
      )
