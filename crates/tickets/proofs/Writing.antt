-- Writing piece behind piece.
use Rattle.std.proofs.Common.{◌≡◌, ℕ, ◌+◌, ◌*◌, ◌<◌, ◌≤◌, List, ◌++◌, length, get_or, take, refl, ap, ◌∙◌, subst, arith}
use Rattle.std.specs.List.{flat_map}
use Rattle.std.proofs.lemmas.List.{length-append, length-take-le}
use Rattle.std.proofs.lemmas.Nat.{mul-le}
use Rattle.tickets.specs.declared.writer.TicketWriter.{TicketWriter}
use Rattle.tickets.specs.Packs.{splice}
use Rattle.tickets.specs.Writers.{Puts}
use Rattle.tickets.proofs.Splices.{splice_join, joined_length, more_records}

-- two pieces behind each other are one
pub puts_join : (a b c : TicketWriter) (xs ys : List ℕ) → Puts a b xs → Puts b c ys → a.at + length xs ≤ length a.out.now → Puts a c (xs ++ ys)
puts_join a b c xs ys p q h = record {
  same_output = q.same_output ∙ p.same_output;
  room = q.room ∙ p.room;
  bytes = q.bytes ∙ ap (λ l. splice l b.at ys) p.bytes ∙ ap (λ n. splice (splice a.out.now a.at xs) n ys) p.place ∙ splice_join a.out.now xs ys a.at (a.at + length xs) refl h;
  place = omega (arith, q.place, p.place, length-append xs ys);
}

module _ {W : Type 0} (f : W → List ℕ) (width : ℕ) (each : (w : W) → length (f w) ≡ width) where
  -- the place behind i of the records, and room for one more
  pub records_place : (a b : TicketWriter) (ws : List W) (i : ℕ) → i ≤ length ws → Puts a b (flat_map f (take i ws)) → b.at ≡ a.at + i * width
  records_place a b ws i h p = p.place ∙ ap (λ n. a.at + n) (joined_length f width each (take i ws) ∙ ap (λ k. k * width) (length-take-le i ws h))

  -- one record more
  pub records_step : (a b c : TicketWriter) (ws : List W) (i : ℕ) (w : W) → i < length ws → a.at + length ws * width ≤ length a.out.now → w ≡ get_or ws i w
      → Puts a b (flat_map f (take i ws)) → Puts b c (f w) → Puts a c (flat_map f (take (i + 1) ws))
  records_step a b c ws i w h r is p q =
      let long : i * width ≤ length ws * width = mul-le i width (length ws) width (omega arith) (omega arith) in
      let at = records_place a b ws i (omega arith) p in
      subst (Puts a c) (more_records f width each ws i w h is) (puts_join a b c (flat_map f (take i ws)) (f w) p q (omega (arith, p.place)))
