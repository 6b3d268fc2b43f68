-- Two clients that meet on each object have seen the same logs, and the clients that each met before stay met
-- (`met_more`, `has_met`). A meeting adds to what a view has seen of logs, and changes nothing of its calls.
use Rattle.std.proofs.Common.{◌≡◌, ℕ, ◌+◌, ◌<◌, List, [], ◌∷◌, ◌++◌, length, Contains, refl, sym, ap, ◌∙◌, subst, arith}
use Rattle.std.proofs.lemmas.List.{get_or-set_other}
use Rattle.std.proofs.lemmas.List.Elements.{Contains-push, Contains-append_left}
use mathlib.Core.Logic.{dite}
use native.Mathlib.Decide.{ℕ_discrete}
use Rattle.desk_model.specs.World.{AnyDone, AnyEntry, StartsWith, entries_of_client, journal_of, served}
use Rattle.desk_model.proofs.Entries.{starts_longer, starts_same}
use Rattle.desk_invariant.specs.declared.board.Own.{Own}
use Rattle.desk_invariant.specs.declared.board.Leaving.{Leaving}
use Rattle.desk_invariant.specs.declared.board.DeskView.{DeskView}
use Rattle.desk_invariant.specs.Views.{journal, end_notice, own_request, after_meet, seen_of, after_notice, IsAccount}
use Rattle.desk_invariant.specs.Views.{MayHold}
use Rattle.combiner.specs.Passes.{KeepsCalls}
use Rattle.combiner.proofs.Served.{seen_on}
use Rattle.publication.specs.Handles.{DeskSeen, Known}
use Rattle.publication.specs.Calls.{HaveBothMet}
use Rattle.clients.specs.Workloads.{Work, calls_at}
use Rattle.clients.specs.Made.{HasMetClient, HasMetBelow, HasWorked, HaveSeenAlike, Keeps, MadeOrStopped}

-- what is kept in two steps is kept in both together
pub keeps_on : (v w u : DeskView) → Keeps v w → Keeps w u → Keeps v u
keeps_on v w u a b = record {
  calls = record {
    number = b.calls.number ∙ a.calls.number;
    kinds = b.calls.kinds ∙ a.calls.kinds;
    own = b.calls.own ∙ a.calls.own;
    done = b.calls.done ∙ a.calls.done;
    seen = λ x. starts_longer (seen_of u x) (seen_of w x) (seen_of v x) (b.calls.seen x) (a.calls.seen x);
  };
  left = λ l c. b.left l (a.left l c);
}

-- a meeting at which more of one object's log is seen keeps what the client knew
pub keeps_seeing : (before after : DeskView) (object : ℕ) (log : List AnyEntry)
    → after ≡ after_meet object log (record before { received = after.received })
    → StartsWith log (seen_of before object) → Keeps before after
keeps_seeing before after object log e begins = record {
  calls = record {
    number = ap (λ z. z.number) e;
    kinds = ap (λ z. z.kinds) e;
    own = ap (λ z. z.own) e;
    done = ap (λ z. z.done) e;
    seen = λ y. subst (λ z. StartsWith (seen_of z y) (seen_of before y)) (sym e)
        (seen_on before.seen object log begins y);
  };
  left = λ m c. subst (λ z. Contains z m) (sym (ap (λ z. z.left) e)) c;
}

-- they have met on one object more
pub alike_more : (i : ℕ) (one other one' other' : Known) → HaveSeenAlike i one.knows other.knows
    → HaveBothMet i one other one' other' → HaveSeenAlike (i + 1) one'.knows other'.knows
alike_more i one other one' other' so_far m x low = dite (ℕ_discrete x i)
    (λ same. subst (λ z. seen_of one'.knows z ≡ seen_of other'.knows z) (sym same) (m.seen_first ∙ sym m.seen_second))
    (λ differ.
    ap (λ z. seen_of z x) m.first ∙ get_or-set_other one.knows.seen i x m.log [] differ
    ∙ (so_far x (omega arith)
    ∙ sym (ap (λ z. seen_of z x) m.second ∙ get_or-set_other other.knows.seen i x m.log [] differ)))

-- what a log has of a client's calls depends on these alone
same_account : (object : ℕ) (before after : DeskView) (log : List AnyEntry) → KeepsCalls before after
    → IsAccount object before log → IsAccount object after log
same_account object before after log kept =
    subst (λ (t : ℕ × Own × List AnyDone). (now : List AnyEntry)
    × (entries_of_client t.0 log ≡ served object t.0 t.2 ++ now)
    × MayHold object t.0 t.1 now) (λ i. (sym kept.number i, sym kept.own i, sym kept.done i))

pub same_journal : (before after : DeskView) → KeepsCalls before after → journal after ≡ journal before
same_journal before after kept = λ i. journal_of (kept.done i) (own_request (kept.own i))

-- who was met stays met
still_met : (work : Work) (before after : DeskView) (client : ℕ) → Keeps before after → HasMetClient work before client
    → HasMetClient work after client
still_met work before after client kept met = record {
  other = met.other;
  number = met.number;
  made = met.made;
  told = kept.left (end_notice met.other) met.told;
  met = λ x low. let h = met.met x low in record {
    seen = h.seen;
    begins = starts_longer (seen_of after x) (seen_of before x) h.seen (kept.calls.seen x) h.begins;
    first = same_account x before after h.seen kept.calls h.first;
    second = h.second;
  };
}

-- a client that has made its calls makes none by meeting others
pub still_worked : (desk : DeskSeen) (work : Work) (client : ℕ) (before after : Known)
    → HasWorked desk work client before → Keeps before.knows after.knows
    → after.desk ≡ desk.id → HasWorked desk work client after
still_worked desk work client before after worked kept same = record {
  desk = same;
  number = kept.calls.number ∙ worked.number;
  made = subst (MadeOrStopped (calls_at work client)) (sym (same_journal before.knows after.knows kept.calls))
      worked.made;
}

-- a client that has met all below a number, and then the one of this number, has met all below the next
pub met_more : (work : Work) (old new : Known) (client : ℕ) → HasMetBelow work old client → Keeps old.knows new.knows
    → HasMetClient work new.knows client → HasMetBelow work new (client + 1)
met_more work old new client before kept last other some low = dite (ℕ_discrete other client)
    (λ same. subst (HasMetClient work new.knows) (sym same) last)
    (λ differ. still_met work old.knows new.knows other kept (before other some (omega arith)))

-- told of the other's end
pub keeps_told : (v : DeskView) (l : Leaving) → Keeps v (after_notice (l ∷ []) v)
keeps_told v l = record {
  calls = record { number = refl; kinds = refl; own = refl; done = refl; seen = λ x. starts_same (seen_of v x) };
  left = λ m c. Contains-append_left v.left (l ∷ []) m c;
}

-- a client that has seen on each object what another had seen at the end, and is told of this end, has met it
pub has_met : (desk : DeskSeen) (work : Work) (client : ℕ) (known : Known) (own other : DeskView)
    → HasWorked desk work client known → Keeps known.knows other
    → desk.id.kinds ≡ work.kinds → HaveSeenAlike (length desk.id.kinds) own other
    → ((x : ℕ) → IsAccount x own (seen_of own x)) → ((x : ℕ) → IsAccount x other (seen_of other x))
    → HasMetClient work (after_notice (end_notice other ∷ []) own) client
has_met desk work client known own other worked kept kinds alike first second = record {
  other = other;
  number = kept.calls.number ∙ worked.number;
  made = subst (MadeOrStopped (calls_at work client)) (sym (same_journal known.knows other kept.calls)) worked.made;
  told = Contains-push own.left (end_notice other);
  met = λ x low. record {
    seen = seen_of own x;
    begins = starts_same (seen_of own x);
    first = first x;
    second = subst (IsAccount x other) (sym (alike x (subst (λ ks. x < length ks) (sym kinds) low))) (second x);
  };
}
