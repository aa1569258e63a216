-- Two readings with the same codewords and costs that are both met have found words of the same cost.
use Rattle.std.proofs.Common.{◌≡◌, Bool, List, ◌≤ℤ◌, IsTrue, sym, ap, ◌∙◌, arith}
use Rattle.std.proofs.lemmas.Int.{ints}
use Rattle.layouts.specs.Plans.{Plan}
use Rattle.weights.specs.Kinds.{Kind, meanings}
use Rattle.dual.specs.Bound.{cost, codeword}
use Rattle.model.specs.Words.{bits}
use Rattle.reader.specs.declared.reading.Verdict.{Verdict}
use Rattle.reader.specs.Calls.{State}
use Rattle.promise.specs.Theorem.{BoundsHold}

module _ {L P W : Type 0} (kind : Kind W) (p q : Plan) (costs costs₂ : List W) (cells : p.cells ≡ q.cells) (words : (x : List Bool) → codeword p.rows x ≡ codeword q.rows x) (same : meanings kind costs ≡ meanings kind costs₂)
    (s : State L W) (v : Verdict W) (h : BoundsHold kind p costs s v) (s₂ : State P W) (v₂ : Verdict W) (h₂ : BoundsHold kind q costs₂ s₂ v₂) (t : IsTrue v.met) (t₂ : IsTrue v₂.met) where
  not_above : kind.meaning v.bounds.1 ≤ℤ kind.meaning v₂.bounds.1
  not_above =
      let x = bits s₂.boards.word in
      let c = h.cheapest t x (h₂.word.0 ∙ sym cells, words x ∙ h₂.word.1) in
      let d : cost (meanings kind costs) x ≡ kind.meaning v₂.bounds.1 = ap (λ cs. cost cs x) same ∙ h₂.ceiling in
      let e = h.ceiling in
      omega (arith, ints)

  not_below : kind.meaning v₂.bounds.1 ≤ℤ kind.meaning v.bounds.1
  not_below =
      let x = bits s.boards.word in
      let c = h₂.cheapest t₂ x (h.word.0 ∙ cells, sym (words x) ∙ h.word.1) in
      let d : cost (meanings kind costs₂) x ≡ kind.meaning v.bounds.1 = ap (λ cs. cost cs x) (sym same) ∙ h.ceiling in
      let e = h₂.ceiling in
      omega (arith, ints)

  pub same_ceiling : kind.meaning v.bounds.1 ≡ kind.meaning v₂.bounds.1
  same_ceiling = let a = not_above in let b = not_below in omega (arith, ints)
