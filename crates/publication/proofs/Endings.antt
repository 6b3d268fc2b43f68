-- The end of a client, and the sight of another's: one more client is known to have ended (`one_ended`), or is still
-- there (`there_still`). By whether the word that was read is 1.
use Rattle.std.proofs.Common.{◌≡◌, ◌≢◌, ℕ, ◌+◌, ◌<◌, Bool, List, [], ◌∷◌, Contains, All, eqb, eq-eqb, ne_eqb}
use Rattle.std.proofs.Common.{if◌then◌else◌, sym, ap, subst, ◌∙◌, arith}
use mathlib.Core.Logic.{dite}
use native.Mathlib.Decide.{ℕ_discrete}
use Rattle.std.proofs.lemmas.List.Elements.{Contains-push, Contains-append_left}
use Rattle.atomic_table.specs.Table.{Me}
use Rattle.model.specs.declared.AnyOp.{AnyOp}
use Rattle.model.specs.declared.AnyReply.{AnyReply}
use Rattle.desk_invariant.specs.declared.board.Journal.{Journal}
use Rattle.desk_invariant.specs.declared.board.Slot.{Slot}
use Rattle.desk_invariant.specs.declared.board.DeskView.{DeskView}
use Rattle.desk_invariant.specs.Views.{after_end_seen, after_end_unset}
use Rattle.publication.specs.Handles.{DeskSeen, Known, IsClient}
use Rattle.publication.specs.Calls.{IsStillThere}
use Rattle.publication.specs.Closing.{HaveEnded, HasLearntEnds}

-- one of two views, as the word was 1 or not
pub either_view : (found client : ℕ) (one view after : DeskView) → one ≡ view
    → (found ≡ 1 → after ≡ after_end_seen client one) → (found ≢ 1 → after ≡ after_end_unset client one)
    → after ≡ (if eqb found 1 then after_end_seen client view else after_end_unset client view)
either_view found client one view after same hit miss =
    rw (← same) (dite (ℕ_discrete found 1) (λ e. rw (eq-eqb found 1 e) (hit e))
    (λ n. rw (ne_eqb found 1 n) (miss n)))

-- the client is the last one itself
pub own_number : (client : ℕ) (known : Known) → client ≡ known.knows.number → HaveEnded client known
    → HaveEnded (client + 1) known
own_number client known e before c l other = before c (let d : c ≢ client = λ f. other (f ∙ e) in omega arith) other

-- one more has ended
pub one_ended : (client : ℕ) (start now after : Known) → after.desk ≡ now.desk → after.places ≡ now.places
    → after.knows ≡ after_end_seen client now.knows → HaveEnded client now → HasLearntEnds start now
    → HaveEnded (client + 1) after × HasLearntEnds start after
one_ended client start now after e t f before is =
    subst (λ z. HaveEnded (client + 1) z × HasLearntEnds start z)
    (λ i. record { desk = sym e i; knows = sym f i; places = sym t i }) (
      (λ c l other. dite (ℕ_discrete c client) (λ same. rw same (Contains-push now.knows.retired client))
          (λ apart. Contains-append_left now.knows.retired (client ∷ []) c (before c (omega arith) other))),
      ap (λ (z : Known). record z { knows = after_end_seen client z.knows }) is,
    )

-- this one has not
pub there_still : (desk : DeskSeen) (client : ℕ) (start now after : Known) → client < desk.clients
    → client ≢ now.knows.number → after.knows ≡ after_end_unset client now.knows → HaveEnded client now
    → HasLearntEnds start now → All (λ l. l.client ≢ client) now.knows.left → IsStillThere desk start client after
there_still desk client start now after low other e before is left = let same = ap (λ z. z.knows.number) is in record {
  client_low = low;
  other = λ f. other (f ∙ sym same);
  untold = rw is at left;
  least = λ c l apart. subst (λ z. Contains z c) (sym (ap (λ v. v.retired) e)) (before c l (λ f. apart (f ∙ same)));
  looked = (now.knows, e, ap (λ z. z.knows) is);
}

module _ {S O R : Type 0} (op_in : O → AnyOp) (reply_in : R → AnyReply) where
  -- a client that has only looked at ends
  watching : (number calls quota : ℕ) (outstanding : Bool) (j : Journal O R) (before after : Me (Slot S O R) DeskView)
      (retired still_there : List ℕ)
      → IsClient op_in reply_in number calls quota outstanding j before
      → after ≡ (record before.0 { retired = retired; still_there = still_there }, before.1)
      → IsClient op_in reply_in number calls quota outstanding j after
  watching number calls quota outstanding j before after retired still_there k e =
      rw e record { agrees = assumption k.agrees; free = k.free; in_hand = k.in_hand }

  -- a client that has read whether another has ended is still a client
  pub watching_ok : (number calls quota : ℕ) (outstanding : Bool) (j : Journal O R) (found client : ℕ)
      (before after : Me (Slot S O R) DeskView) → IsClient op_in reply_in number calls quota outstanding j before
      → (found ≡ 1 → after ≡ (after_end_seen client before.0, before.1))
      → (found ≢ 1 → after ≡ (after_end_unset client before.0, before.1))
      → IsClient op_in reply_in number calls quota outstanding j after
  watching_ok number calls quota outstanding j found client before after k hit miss = dite (ℕ_discrete found 1)
      (λ e. watching number calls quota outstanding j before after
      (after_end_seen client before.0).retired before.0.still_there k (hit e))
      (λ n. watching number calls quota outstanding j before after
      before.0.retired (after_end_unset client before.0).still_there k (miss n))
