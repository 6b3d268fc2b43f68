-- Each entry of a log comes from a call of a client, and the tickets of a client's entries rise. By induction on the
-- calls that are over, and by the stage of the one that is not.
use Rattle.std.proofs.Common.{◌≡◌, ℕ, ◌<◌, ◌==◌, Bool, true, false, cond, eqb-true, inl, inr, List, [], ◌∷◌, ◌++◌, map}
use Rattle.std.proofs.Common.{Option, Some, None, IfSome, refl, ap, sym, ◌∙◌, subst, append_assoc, arith}
use Rattle.std.proofs.lemmas.Option.{same_Some}
use Rattle.model.specs.declared.AnyReply.{AnyReply}
use Rattle.model.specs.Orders.{Return, Call, ProcessCall}
use Rattle.model.specs.Lists.{In}
use Rattle.model.proofs.Lists.{Pairs, in_append, in_map_from, pairs_append}
use Rattle.desk_model.specs.declared.Answer.TheVariants.{Reply, Refused}
use Rattle.desk_model.specs.declared.JournalEvent.TheVariants.{Invoked}
use Rattle.desk_model.specs.World.{AnyEntry, AnyRequest, AnyAnswer, AnyDone, AnyEvent, Stage, answered, taken, logged}
use Rattle.desk_model.specs.World.{logged_on, served, served_now, request_of, invoked, journal_of, ticket_of}
use Rattle.desk_model.proofs.Denoted.{ended, made}

-- ---- what a client has put into a log

-- what the calls have put in: those that are over, and then the one that is not
abbrev pub put_in : ℕ → ℕ → List AnyDone → Stage → List AnyEntry
put_in object client [] stage = served_now object client stage
put_in object client (d ∷ done) stage = logged_on object client d.request d.answer ++ put_in object client done stage

pub served_is : (object client : ℕ) (done : List AnyDone) (stage : Stage)
    → served object client done ++ served_now object client stage ≡ put_in object client done stage
served_is object client [] stage = refl
served_is object client (d ∷ done) stage =
    append_assoc (logged_on object client d.request d.answer) (served object client done)
    (served_now object client stage)
    ∙ ap (λ z. logged_on object client d.request d.answer ++ z) (served_is object client done stage)

abbrev entry : ℕ → AnyRequest → AnyReply → AnyEntry
entry client request r = record { client = client; ticket = request.ticket; op = request.op; reply = r }

-- an entry that the answer to the request puts into the log of the object
record IsPut (object client : ℕ) (request : AnyRequest) (answer : AnyAnswer) (e : AnyEntry) : Type 0 where
  reply : AnyReply
  replied : answer ≡ Reply reply
  on : request.object ≡ object
  same : e ≡ entry client request reply

is_put : (object client : ℕ) (request : AnyRequest) (answer : AnyAnswer) (e : AnyEntry)
    → In e (logged_on object client request answer) → IsPut object client request answer e
is_put object client request answer e = go (request.object == object) refl answer
  where
    go : (b : Bool) → (request.object == object) ≡ b → (a : AnyAnswer) → In e (cond b (logged client request a) [])
        → IsPut object client request a e
    go true s (Reply r) i = elim i [
      | inl f ↦ record { reply = r; replied = refl; on = eqb-true request.object object s; same = f }
      | inr j ↦ absurd j
    ]
    go true s Refused i = absurd i
    go false s a i = absurd i

-- what a stage has put in is of its call
put_now : (object client : ℕ) (stage : Stage) (e : AnyEntry) → In e (served_now object client stage)
    → (request : AnyRequest) × (answer : AnyAnswer) × (request_of stage ≡ Some request)
    × IsPut object client request answer e
put_now object client (answered request answer) e i = (request, answer, refl, is_put object client request answer e i)
put_now object client (taken request answer) e i = (request, answer, refl, is_put object client request answer e i)
put_now object client stage e i = absurd i

-- ---- the call of each entry

-- the operation of an entry of the client in the log of the object, among these
pub record HasCall (object client : ℕ) (e : AnyEntry) (ops : List ProcessCall) : Type 0 where
  pub call : Call
  pub among : In (record { process = client; object = object; call = call }) ops
  pub number : call.number ≡ e.ticket
  pub op : call.op ≡ e.op
  pub reply : IfSome call.returned (λ r. r.reply ≡ e.reply)

-- each entry has its invocation in the journal, and its operation
pub record IsOf (object c : ℕ) (e : AnyEntry) (events : List AnyEvent) (ops : List ProcessCall) : Type 0 where
  pub client : e.client ≡ c
  pub invocation : In (Invoked e.ticket object e.op) events
  pub has_call : HasCall object c e ops

-- the invocation that an entry tells of is that of the request
invoked_same : (object client : ℕ) (request : AnyRequest) (answer : AnyAnswer) (e : AnyEntry)
    → IsPut object client request answer e → ◌≡◌ {A = AnyEvent} (Invoked e.ticket object e.op) (invoked request)
invoked_same object client request answer e p =
    ap (λ (f : AnyEntry). Invoked f.ticket object f.op) p.same
    ∙ ap (λ y. Invoked request.ticket y request.op) (sym p.on)

-- the call that is over, with this reply
abbrev over_call : AnyDone → AnyReply → Call
over_call d r = record {
  number = d.request.ticket;
  op = d.request.op;
  returned = Some (record { at = d.returned; reply = r });
}

later_made : (client : ℕ) (d : AnyDone) (ops : List ProcessCall) (o : ProcessCall) → In o ops
    → In o (ended client d.request d.returned d.answer ops)
later_made client d ops o i = go d.answer
  where
    go : (a : AnyAnswer) → In o (ended client d.request d.returned a ops)
    go (Reply r) = inr i
    go Refused = i

-- each entry that a client's calls have put into a log is of one of them
pub is_of : (object client : ℕ) (done : List AnyDone) (stage : Stage) (e : AnyEntry)
    → In e (put_in object client done stage)
    → IsOf object client e (journal_of done (request_of stage)) (made client done (request_of stage))
is_of object client [] stage e i =
    let (request, answer, asked, p) = put_now object client stage e i in
    let call : Call = record { number = request.ticket; op = request.op; returned = None } in
    subst (λ (o : Option AnyRequest). IsOf object client e (journal_of [] o) (made client [] o)) (sym asked) (record {
      client = ap (λ (f : AnyEntry). f.client) p.same;
      invocation = inl (invoked_same object client request answer e p);
      has_call = record {
        call = call;
        among = inl (ap (λ y. record { process = client; object = y; call = call }) (sym p.on));
        number = sym (ap (λ (f : AnyEntry). f.ticket) p.same);
        op = sym (ap (λ (f : AnyEntry). f.op) p.same);
        reply = tt;
      };
    })
is_of object client (d ∷ done) stage e i =
    elim (in_append e (logged_on object client d.request d.answer) (put_in object client done stage) i) [
      | inl j ↦ here (is_put object client d.request d.answer e j)
      | inr j ↦ there (is_of object client done stage e j)
    ]
  where
    here : IsPut object client d.request d.answer e
        → IsOf object client e (journal_of (d ∷ done) (request_of stage)) (made client (d ∷ done) (request_of stage))
    here p = record {
      client = ap (λ (f : AnyEntry). f.client) p.same;
      invocation = inl (invoked_same object client d.request d.answer e p);
      has_call = record {
        call = over_call d p.reply;
        among = subst (λ a. In (record { process = client; object = object; call = over_call d p.reply })
            (ended client d.request d.returned a (made client done (request_of stage)))) (sym p.replied)
            (inl (ap (λ y. record { process = client; object = y; call = over_call d p.reply }) (sym p.on)));
        number = sym (ap (λ (f : AnyEntry). f.ticket) p.same);
        op = sym (ap (λ (f : AnyEntry). f.op) p.same);
        reply = sym (ap (λ (f : AnyEntry). f.reply) p.same);
      };
    }

    there : IsOf object client e (journal_of done (request_of stage)) (made client done (request_of stage))
        → IsOf object client e (journal_of (d ∷ done) (request_of stage)) (made client (d ∷ done) (request_of stage))
    there k = record {
      client = k.client;
      invocation = inr (inr k.invocation);
      has_call = record {
        call = k.has_call.call;
        among = later_made client d (made client done (request_of stage))
            (record { process = client; object = object; call = k.has_call.call }) k.has_call.among;
        number = k.has_call.number;
        op = k.has_call.op;
        reply = k.has_call.reply;
      };
    }

-- ---- the order of the entries

-- one answer puts in one entry at most
pairs_logged : (R : AnyEntry → AnyEntry → Type 0) (object client : ℕ) (request : AnyRequest) (answer : AnyAnswer)
    → Pairs R (logged_on object client request answer)
pairs_logged R object client request answer = go (request.object == object) answer
  where
    go : (b : Bool) (a : AnyAnswer) → Pairs R (cond b (logged client request a) [])
    go true (Reply r) = (λ y i. absurd i, tt)
    go true Refused = tt
    go false a = tt

pairs_now : (R : AnyEntry → AnyEntry → Type 0) (object client : ℕ) (stage : Stage)
    → Pairs R (served_now object client stage)
pairs_now R object client (answered request answer) = pairs_logged R object client request answer
pairs_now R object client (taken request answer) = pairs_logged R object client request answer
pairs_now R object client stage = tt

-- the entries' tickets rise where those of the journal do
pub put_rises : (object client : ℕ) (done : List AnyDone) (stage : Stage)
    → Pairs (λ t u. t < u) (map ticket_of (journal_of done (request_of stage)))
    → Pairs (λ e f. e.ticket < f.ticket) (put_in object client done stage)
put_rises object client [] stage h = pairs_now (λ e f. e.ticket < f.ticket) object client stage
put_rises object client (d ∷ done) stage (invoked_first, (returned_first, rest)) =
    pairs_append (λ e f. e.ticket < f.ticket) (logged_on object client d.request d.answer)
    (put_in object client done stage) (pairs_logged (λ e f. e.ticket < f.ticket) object client d.request d.answer)
    (put_rises object client done stage rest)
    (λ e f i j.
    let p = is_put object client d.request d.answer e i in
    let own : e.ticket ≡ d.request.ticket = ap (λ (g : AnyEntry). g.ticket) p.same in
    let invocation = (is_of object client done stage f j).invocation in
    let later : d.request.ticket < f.ticket =
    invoked_first f.ticket
    (inr (in_map_from ticket_of (Invoked f.ticket object f.op) (journal_of done (request_of stage)) invocation)) in
    omega arith)

-- ---- the entry of a call that returned

-- the entry of a client's call with this reply
abbrev pub entry_of : ℕ → Call → AnyReply → AnyEntry
entry_of client call reply = record { client = client; ticket = call.number; op = call.op; reply = reply }

-- a call that returned is over, and this is the entry of it
pub record IsOver (client : ℕ) (o : ProcessCall) (r : Return) (done : List AnyDone) : Type 0 where
  pub over : AnyDone
  pub among : In over done
  pub object : over.request.object ≡ o.object
  pub number : over.request.ticket ≡ o.call.number
  pub returned : over.returned ≡ r.at
  pub logs : logged client over.request over.answer ≡ entry_of client o.call r.reply ∷ []

pub is_over : (client : ℕ) (done : List AnyDone) (asked : Option AnyRequest) (o : ProcessCall) (r : Return)
    → In o (made client done asked) → o.call.returned ≡ Some r → IsOver client o r done
is_over client [] None o r i e = absurd i
is_over client [] (Some q) o r i e = elim i [
  | inl s ↦ let no : None ≡ Some r = sym (ap (λ (o : ProcessCall). o.call.returned) s) ∙ e in absurd (cc (no))
  | inr j ↦ absurd j
]
is_over client (d ∷ done) asked o r i e = go d.answer refl i (λ j. later (is_over client done asked o r j e))
  where
    later : IsOver client o r done → IsOver client o r (d ∷ done)
    later k = record {
      over = k.over;
      among = inr k.among;
      object = k.object;
      number = k.number;
      returned = k.returned;
      logs = k.logs;
    }

    go : (a : AnyAnswer) → d.answer ≡ a → In o (ended client d.request d.returned a (made client done asked))
        → (In o (made client done asked) → IsOver client o r (d ∷ done)) → IsOver client o r (d ∷ done)
    go (Reply p) s i f = elim i [
      | inl t ↦
          let same : Some (record { at = d.returned; reply = p }) ≡ Some r =
          sym (ap (λ (o : ProcessCall). o.call.returned) t) ∙ e in
          let one : record { at = d.returned; reply = p } ≡ r =
          same_Some (record { at = d.returned; reply = p }) r same in
          record {
            over = d;
            among = inl refl;
            object = sym (ap (λ (o : ProcessCall). o.object) t);
            number = sym (ap (λ (o : ProcessCall). o.call.number) t);
            returned = ap (λ (r : Return). r.at) one;
            logs = ap (logged client d.request) s ∙ (ap (λ (c : ProcessCall). entry_of client c.call p ∷ []) (sym t)
                ∙ ap (λ (r : Return). entry_of client o.call r.reply ∷ []) one);
          }
      | inr j ↦ f j
    ]
    go Refused s i f = f i
