-- A call that waits posts, and then tries in rounds. Rounds without an answer keep what the client has called
-- (`keeps_round`); so at the end it has made this call, with this answer (`called`).
use Rattle.std.proofs.Common.{◌≡◌, ℕ, ◌+◌, ◌<◌, [], ◌∷◌, ◌++◌, All, length, sym, ap, subst, ◌∙◌, length-append}
use Rattle.std.proofs.Common.{append_assoc}
use Rattle.model.specs.declared.AnyOp.{AnyOp}
use Rattle.desk_model.specs.World.{AnyEntry, AnyRequest, AnyAnswer, kind_at, logged, entries_of_client, served}
use Rattle.desk_model.specs.World.{journal_of, IsLegalLog, StartsWith}
use Rattle.desk_model.proofs.Entries.{starts_longer}
use Rattle.desk_model.specs.declared.JournalEvent.TheVariants.{Invoked, Returned}
use Rattle.desk_invariant.specs.declared.board.DeskView.{DeskView}
use Rattle.desk_invariant.specs.declared.board.Own.TheVariants as own
use Rattle.desk_invariant.specs.Views.{journal, own_request, seen_of}
use Rattle.publication.specs.Calls.{IsPosted, IsPollAnswer, IsPollMiss}
use Rattle.combiner.specs.Passes.{KeepsCalls}
use Rattle.combiner.specs.Waits.{IsCallOver, IsWaitOver, IsLogged}
use Rattle.combiner.proofs.Served.{seen_on, keeps_on, keeps_unpolled}

-- a client that has kept its calls, and then polls an answer, has waited
pub returned : (view before after : DeskView) (answer : AnyAnswer) → KeepsCalls view before
    → IsPollAnswer before answer after → IsWaitOver view answer after
returned view before after answer kept polled =
    let done : length after.done ≡ length before.done + 1 =
    ap (λ (z : DeskView). length z.done) polled.knows ∙ length-append before.done _ in
    record {
      ticket = polled.ticket;
      number = ap (λ z. z.number) polled.knows ∙ kept.number;
      kinds = ap (λ z. z.kinds) polled.knows ∙ kept.kinds;
      idle = ap (λ z. z.own) polled.knows;
      calls = done ∙ ap (λ z. length z + 1) kept.done;
      journal = polled.journal
          ∙ (λ i. journal_of (kept.done i) (own_request (kept.own i)) ++ Returned polled.ticket answer ∷ []);
      request = polled.request;
      waited = sym kept.own ∙ polled.waited;
      seen = λ x. starts_longer (seen_of after x) (seen_of before x) (seen_of view x)
          (subst (λ z. StartsWith (seen_of z x) (seen_of before x)) (sym polled.knows)
          (seen_on before.seen polled.request.object polled.log polled.begins x)) (kept.seen x);
      logged = record {
        legal = subst (IsLegalLog (kind_at view.kinds polled.request.object)) (sym polled.seen)
            (subst (λ z. IsLegalLog (kind_at z polled.request.object) polled.log) kept.kinds polled.legal);
        counted = (λ i. entries_of_client (sym kept.number i) (polled.seen i))
            ∙ (polled.counted ∙ λ i. served polled.request.object (kept.number i) (kept.done i)
            ++ logged (kept.number i) polled.request answer);
        later = subst (All (λ (e : AnyEntry). e.ticket < polled.ticket)) (sym polled.seen) polled.later;
      };
    }

-- a client that posts a call, and then waits for the answer, has made the call
pub called : (view posted after : DeskView) (object : ℕ) (op : AnyOp) (answer : AnyAnswer)
    → IsPosted view object op posted → IsWaitOver posted answer after → IsCallOver view object op answer after
called view posted after object op answer post over = record {
  invoked = post.ticket;
  returned = over.ticket;
  was_idle = post.was_idle;
  number = over.number ∙ ap (λ z. z.number) post.knows;
  kinds = over.kinds ∙ ap (λ z. z.kinds) post.knows;
  idle = over.idle;
  calls = over.calls ∙ ap (λ (z : DeskView). length z.done + 1) post.knows;
  journal = over.journal ∙ (ap (λ z. z ++ Returned over.ticket answer ∷ []) post.journal
      ∙ append_assoc (journal view) (Invoked post.ticket object op ∷ []) (Returned over.ticket answer ∷ []));
  seen = subst (λ (z : DeskView). (x : ℕ) → StartsWith (seen_of after x) (seen_of z x)) post.knows over.seen;
  logged =
      let request : AnyRequest = record { object = object; ticket = post.ticket; op = op } in
      let waited : own.Waiting over.request ≡ own.Waiting request = sym over.waited ∙ ap (λ z. z.own) post.knows in
      let is : over.request ≡ request = cc in
      let l = subst (λ (z : DeskView). IsLogged z request answer over.ticket after) post.knows
      (subst (λ z. IsLogged posted z answer over.ticket after) is over.logged) in
      record { legal = l.legal; counted = l.counted; later = l.later };
}

-- A round without an answer keeps the client's calls: the views are those before the loop, before the round, and after
-- its poll, its enlisting and all of it.
pub keeps_round : (first before polled enlisted after : DeskView) → KeepsCalls first before → IsPollMiss before polled
    → enlisted ≡ polled → KeepsCalls enlisted after → KeepsCalls first after
keeps_round first before polled enlisted after kept none same round =
    keeps_on first before after kept
    (keeps_on before polled after (keeps_unpolled before polled none) (subst (λ z. KeepsCalls z after) same round))
