-- A client of a new desk is as a run begins (`is_new`), and after the last meeting `close` is Ok (`have_told`): by what
-- client 0 knows of each client that it has met.
use Rattle.std.proofs.Common.{◌≡◌, ◌≢◌, ℕ, zero, suc, ◌+◌, ◌<◌, ◌≤◌, List, [], ◌∷◌, ◌++◌, length, map, take, get_or}
use Rattle.std.proofs.Common.{All, refl, sym, ap, ◌∙◌, subst, arith}
use Rattle.std.proofs.lemmas.List.Elements.{All-contains, All-push}
use Rattle.std.proofs.lemmas.List.{take_more, map-append}
use Rattle.model.specs.declared.AnyOp.{AnyOp}
use Rattle.model.specs.declared.AnyReply.{AnyReply}
use Rattle.model.specs.declared.Kind.{Kind}
use Rattle.model.specs.declared.Kind.TheVariants as kind
use Rattle.model.specs.Objects.{empty, kind_with}
use Rattle.model.proofs.Objects.{kind_of_empty}
use Rattle.seq_objects.specs.declared.any_object.AnyObject.{AnyObject}
use Rattle.seq_objects.specs.AnyContent.{content_of}
use Rattle.desk_model.specs.Images.{entry_in, event_in}
use Rattle.desk_model.specs.Limits.{max_calls}
use Rattle.desk_model.specs.World.{AnyEntry, AnyEvent, StartsWith}
use Rattle.desk_model.proofs.Entries.{starts_longer, starts_same, events_as_they_are, entries_as_they_are}
use Rattle.desk_model.specs.Records.{IsSoundRecord}
use Rattle.desk_invariant.specs.declared.board.Leaving.{Leaving}
use Rattle.desk_invariant.specs.Views.{journal, end_notice, seen_of, IsAccount}
use Rattle.publication.specs.Handles.{DeskSeen, Known}
use Rattle.recorder.specs.Records.{Recorded, journal_at, log_at}
use Rattle.clients.specs.Workloads.{Work, calls_at}
use Rattle.clients.specs.Made.{MadeOrStopped, IsNew, IsDeskFor, IsDone, ClosedBy, HasMetClient}
use Rattle.clients.specs.Made.{HasMadeNoCall, HasRunWork, HaveTold, IsRunRecord}

-- a client that has made no call
pub is_new : (desk : DeskSeen) (work : Work) (number : ℕ) (client : Known) → HasMadeNoCall desk.id number client
    → IsDeskFor desk work → number < length work.calls → IsNew desk work client
is_new desk work number client new fits low = record {
  desk = fits;
  low = subst (λ z. z < length work.calls) (sym new.number) low;
  none = record { desk = new.desk; number = refl; idle = new.idle; none = new.none };
}

-- client 0 was told of the end of each that it has met
pub have_told : (desk : DeskSeen) (work : Work) (client : Known) → IsDone desk work client → HaveTold desk client
have_told desk work client done other low differs =
    let zero_is = done.worked.number in
    let m = done.met other (above_zero other (λ z. differs (z ∙ sym zero_is))) low in
    (end_notice m.other, m.told, m.number)
  where
    above_zero : (other : ℕ) → other ≢ 0 → 0 < other
    above_zero zero differs = absurd (differs refl)
    above_zero (suc other) differs = omega arith

-- a quota that is greater allows for more tickets
for_more : (kinds : List Kind) (q n : ℕ) (journals : ℕ → List AnyEvent) (logs : ℕ → List AnyEntry) → q ≤ n
    → IsSoundRecord kinds q journals logs → IsSoundRecord kinds n journals logs
for_more kinds q n journals logs more s = let few = s.few in record {
  count = s.count;
  tickets = s.tickets;
  few = omega arith;
  on_objects = s.on_objects;
  history = s.history;
  denoted = s.denoted;
  well_formed = s.well_formed;
  legal = s.legal;
  agree = s.agree;
  valid = s.valid;
}

module _ (d : DeskSeen) (w : Work) (k : Known) (r : Recorded AnyOp AnyReply) (desk : IsDeskFor d w)
    (done : IsDone d w k) (closed : ClosedBy d k r) where
  events : (n : ℕ) → map (event_in (λ (op : AnyOp). op) (λ (r : AnyReply). r)) (journal_at r n) ≡ journal_at r n
  events n = events_as_they_are (journal_at r n)

  entries : (x : ℕ) → map (entry_in (λ (op : AnyOp). op) (λ (r : AnyReply). r)) (log_at r x) ≡ log_at r x
  entries x = entries_as_they_are (log_at r x)

  number : k.knows.number ≡ 0
  number = done.worked.number

  own : journal_at r 0 ≡ journal k.knows
  own = sym (events 0)
      ∙ (ap (λ n. map (event_in (λ (op : AnyOp). op) (λ (r : AnyReply). r)) (journal_at r n)) (sym number) ∙ closed.own)

  account : (x : ℕ) → IsAccount x k.knows (log_at r x)
  account x = subst (IsAccount x k.knows) (entries x) (closed.accounts x)

  begins : (x : ℕ) → x < length w.kinds → StartsWith (log_at r x) (seen_of k.knows x)
  begins x low = subst (λ z. StartsWith z (seen_of k.knows x)) (entries x)
      (closed.seen x (subst (λ (ks : List Kind). x < length ks) (sym desk.kinds) low))

  -- what the client that was met told of its end is recorded
  told : (c : ℕ) (m : HasMetClient w k.knows c) → journal_at r c ≡ journal m.other
  told c m =
      let journals : ℕ → List AnyEvent = λ n. map (event_in (λ (op : AnyOp). op) (λ (r : AnyReply). r))
      (journal_at r n) in
      let left = All-contains (λ (l : Leaving). journals l.client ≡ l.journal) k.knows.left (end_notice m.other)
      closed.left m.told in
      sym (events c) ∙ (ap journals (sym m.number) ∙ left)

  has_run : (c : ℕ) → c < length w.calls → HasRunWork w r k.knows c
  has_run zero low = record {
    made = subst (MadeOrStopped (calls_at w 0)) (sym own) done.worked.made;
    knew = k.knows;
    number = number;
    says = own;
    met = λ x inside.
        record { seen = log_at r x; begins = starts_same (log_at r x); first = account x; second = account x };
  }
  has_run (suc c) low = let m = done.met (suc c) (omega arith) (subst (λ n. suc c < n) (sym desk.clients) low) in
      let says = told (suc c) m in record {
        made = subst (MadeOrStopped (calls_at w (suc c))) (sym says) m.made;
        knew = m.other;
        number = m.number;
        says = says;
        met = λ x inside. let h = m.met x inside in
            record {
              seen = h.seen;
              begins = starts_longer (log_at r x) (seen_of k.knows x) h.seen (begins x inside) h.begins;
              first = h.first;
              second = h.second;
            };
      }

  pub ran : IsRunRecord w r
  ran = record {
    journals = closed.journals ∙ desk.clients;
    logs = closed.logs ∙ ap length desk.kinds;
    knew = k.knows;
    number = number;
    says = own;
    accounts = account;
    each = has_run;
    sound = for_more w.kinds d.id.quota max_calls (journal_at r) (log_at r) (let few = desk.few_calls in omega arith)
        (subst (λ (t : List Kind × (ℕ → List AnyEvent) × (ℕ → List AnyEntry)). IsSoundRecord t.0 d.id.quota t.1 t.2)
        (λ i. (desk.kinds i, λ n. events n i, λ x. entries x i)) closed.sound);
  }

abbrev IsEmpty : AnyObject → Type 0
IsEmpty o = content_of o ≡ empty (kind_with (content_of o))

-- one empty object more
pub objects_more : (os more : List AnyObject) (o : AnyObject) (ks : List Kind) (i : ℕ)
    → map (λ o. kind_with (content_of o)) os ≡ take i ks
    → All IsEmpty os → content_of o ≡ empty (get_or ks i kind.Queue) → more ≡ os ++ o ∷ [] → i < length ks
    → (map (λ o. kind_with (content_of o)) more ≡ take (i + 1) ks) × All IsEmpty more
objects_more os more o ks i so_far all is grown low =
    let f : AnyObject → Kind = λ o. kind_with (content_of o) in
    let k : Kind = get_or ks i kind.Queue in
    let here : f o ≡ k = ap kind_with is ∙ kind_of_empty k in (
      ap (map f) grown
          ∙ (map-append f os (o ∷ []) ∙ ((λ j. so_far j ++ here j ∷ []) ∙ sym (take_more ks i kind.Queue low))),
      subst (All IsEmpty) (sym grown) (All-push IsEmpty os o all (is ∙ ap empty (sym here))),
    )
