-- Steps of a part that keeps each call, or leaves out none that took a kept value: they are steps of `Contents`.
use Rattle.std.proofs.Common.{arith, ◌≡◌, inl, inr, ℕ, ℤ, Bool, true, List, [], ◌∷◌, Option, IfSome, is_some}
use Rattle.std.proofs.Common.{refl, ap, sym, ◌∙◌, subst}
use Rattle.model.specs.declared.AnyReply.{AnyReply}
use Rattle.model.specs.Objects.{Content}
use Rattle.model.specs.Orders.{Call, Return, RepliesAlong}
use Rattle.model.specs.Lists.{In}
use Rattle.cuts.specs.Parts.{reply_of}
use Rattle.cuts.specs.Kinds.Keeping.{fits}
use Rattle.cuts.proofs.Simulation.{Stepped, Replied, Simulates}
use Rattle.cuts.proofs.Contents.{IsShadow, TookNone, shown, step_at}
use Rattle.cuts.proofs.Booleans.{false_is_not_true}

pub reply_shown : (o : Option Return) (reply : AnyReply) → IfSome o (λ r. r.reply ≡ reply)
    → reply_of o ≡ shown (is_some o) reply
reply_shown o reply h = grind arith

-- a call, with the reply that it had along the order, may be kept or left out, as it is
pub record MayStep (all : Bool) (keeps : ℤ → Bool) (kept : ℕ → Bool) (e : Call) (reply : AnyReply) : Type 0 where
  pub fits_part : fits all keeps (kept e.number) e.op (shown (is_some e.returned) reply) ≡ true
  pub took_none : TookNone keeps e.op (is_some e.returned) (kept e.number) reply

pub closed_simulates : (all : Bool) (keeps : ℤ → Bool) (kept : ℕ → Bool) → (all ≡ true → (v : ℤ) → keeps v ≡ true)
    → Simulates (IsShadow keeps) kept (MayStep all keeps kept)
closed_simulates all keeps kept every = record {
  step = λ e c d after reply s does may.
      let here = step_at all keeps every c d e.op s (kept e.number) (is_some e.returned) in
      let there = subst (λ z. IfSome z (λ p. fits all keeps (kept e.number) e.op (shown (is_some e.returned) p.1) ≡ true
      → TookNone keeps e.op (is_some e.returned) (kept e.number) p.1
      → Stepped (IsShadow keeps) e.op (kept e.number) (is_some e.returned) p.1 d p.0)) does here in
      there may.fits_part may.took_none;
}

-- where each call is kept
pub all_step : (all : Bool) (keeps : ℤ → Bool) (es : List Call) (c : Content)
    → ((e : Call) → In e es → fits all keeps true e.op (reply_of e.returned) ≡ true) → RepliesAlong c es
    → Replied (MayStep all keeps (λ n. true)) c es
all_step all keeps [] c f h = tt
all_step all keeps (e ∷ es) c f h =
    let fitting = sym (ap (fits all keeps true e.op) (reply_shown e.returned h.1 h.3)) ∙ f e (inl refl) in (
      h.0,
      h.1,
      h.2,
      h.3,
      record { fits_part = fitting; took_none = λ b k. absurd (false_is_not_true (sym k)) },
      all_step all keeps es h.0 (λ x i. f x (inr i)) h.4,
    )
