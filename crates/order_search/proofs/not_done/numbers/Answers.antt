use Rattle.std.proofs.Common.{◌≡◌, ℕ, ◌+◌, ◌<◌, List, [], ◌∷◌, ◌++◌, length, get_or, inl, inr, ap, ◌∙◌, arith}
use Rattle.std.proofs.lemmas.Bool.{cases_lt}
use Rattle.std.proofs.lemmas.List.{get_or_append_left, length_push}
use Rattle.std.proofs.Math.Seq.{get_or-append_seam}
use Rattle.order_search.proofs.not_done.numbers.Goals as goal

-- the numbers below n, and n after them
numbers_below_next : (v : List ℕ) (n : ℕ) → length v ≡ n → ((j : ℕ) → j < n → get_or v j 0 ≡ j) → (j : ℕ) → j < n + 1
    → get_or (v ++ n ∷ []) j 0 ≡ j
numbers_below_next v n long each j below = elim (cases_lt j n) [
  | inl lo ↦ get_or_append_left v (n ∷ []) 0 j (omega arith) ∙ each j lo
  | inr le ↦
      let e : j ≡ n = omega arith in
      rw (e, ← long) (get_or-append_seam v (length v) [] 0)
]

pub loop-k-preserved : goal.loop-k-preserved
loop-k-preserved c =
    let v = c.loop-k.v.items in
    rw c.in_ok-push.ensures.items (record {
      long = length_push v c.loop-k.k ∙ ap (λ n. n + 1) c.loop-k.invariant.long;
      each = numbers_below_next v c.loop-k.k c.loop-k.invariant.long c.loop-k.invariant.each;
    })

pub returns-clause-each : goal.returns-clause-each
returns-clause-each c k below =
    let l = c.loop-k in
    rw c.in_ok-push-2.ensures.items (numbers_below_next l.v.items c.args.n (omega arith)
    (λ j lower. l.invariant.each j (omega arith)) k (omega arith))
