-- The history of one process: its operations one after another, the last perhaps pending; by induction on those turns.
use Rattle.std.proofs.Common.{◌≡◌, ℕ, suc, ◌<◌, ◌≤◌, ◌==◌, ◌&&◌, ◌||◌, nat_lt, Bool, true, false, not, cond, inl, inr}
use Rattle.std.proofs.Common.{List, [], ◌∷◌, ◌++◌, length, filter, Option, Some, None, refl, ap, sym, ◌∙◌, subst, arith}
use Rattle.std.specs.List.{flat_map, list_any}
use Rattle.std.specs.Option.{option_or}
use Rattle.std.proofs.lemmas.Bool.{eqb-true, eqb-false, ne_eqb, eq-eqb, and_from, and_parts}
use Rattle.model.specs.declared.AnyOp.{AnyOp}
use Rattle.model.specs.declared.AnyReply.{AnyReply}
use Rattle.model.specs.Histories.{Event, Inv, Res, process_of, is_invocation, by_process, matches, complete}
use Rattle.model.specs.Histories.{IsSequential, invokes, responds}
use Rattle.model.specs.Orders.{Numbered, events, Return, ProcessCall, response_in, response_of, begins, calls_in}
use Rattle.model.specs.Orders.{IsHistory}
use Rattle.model.specs.Lists.{In}
use Rattle.model.proofs.Lists.{Pairs, pairs_filter, pairs_from_all, in_filter_passes}
use Rattle.locality.proofs.Entries.{number_of, done}

-- ---- the events of one process, in turns

-- an event with this number
abbrev pub at : ℕ → Event → Numbered
at n e = record { number = n; event = e }

-- the events of one process: a last operation that is pending, or one that returned, and then others
pub data Turns (process : ℕ) : List Numbered → Type 0 where
  none : Turns process []
  last : (number object : ℕ) (op : AnyOp) → Turns process (at number (Inv process object op) ∷ [])
  -- an invocation, its response, which has the later number, and the rest
  call : (number object : ℕ) (op : AnyOp) (later : ℕ) (reply : AnyReply) (rest : List Numbered) → Turns process rest
      → Turns process (at number (Inv process object op) ∷ at later (Res process object reply) ∷ rest)

turns_last : (process number : ℕ) (event : Event) → is_invocation event ≡ true → process_of event ≡ process
    → Turns process (at number event ∷ [])
turns_last process number (Inv q x op) invoked own = rw own (last number x op)
turns_last process number (Res q x r) invoked own = absurd cc

-- a matching response after an invocation of the process is one turn, before the others
turns_call : (process number later : ℕ) (invocation response : Event) (rest : List Numbered)
    → matches invocation response ≡ true → process_of invocation ≡ process → Turns process rest
    → Turns process (at number invocation ∷ at later response ∷ rest)
turns_call process number later (Inv q x op) (Res q' y r) rest matching own others =
    let both = and_parts (q == q') (x == y) matching in
    let same_process : q' ≡ process = sym (eqb-true q q' both.0) ∙ own in
    let same_object : y ≡ x = sym (eqb-true x y both.1) in
    rw own (rw same_process (rw same_object (call number x op later r rest others)))
turns_call process number later invocation response rest matching own others = absurd cc

pub turns : (p : ℕ) (h : List Numbered) → IsSequential (events h) → ((m : Numbered) → In m h → process_of m.event ≡ p)
    → Turns p h
turns p [] s a = none
turns p (m ∷ []) s a = turns_last p m.number m.event s (a m (inl refl))
turns p (m ∷ n ∷ rest) s a =
    turns_call p m.number n.number m.event n.event rest s.0 (a m (inl refl))
    (turns p rest s.1 (λ k i. a k (inr (inr i))))

-- ---- the operations of one process

-- the numbered events of one process
abbrev pub part : ℕ → List Numbered → List Numbered
part p h = filter (λ m. process_of m.event == p) h

-- the events of one process without their numbers are those of the process among all events without theirs
pub events-part : (p : ℕ) (h : List Numbered) → events (part p h) ≡ by_process p (events h)
events-part p [] = refl
events-part p (m ∷ h) = let rest = events-part p h in grind arith

-- events of other processes are no responses of p
response_in_other : (process object number : ℕ) (event : Event) → (process_of event == process) ≡ false
    → response_in process object number event ≡ None
response_in_other process object number (Inv q y op) other = refl
response_in_other process object number (Res q y reply) other =
    let ne : (process == q) ≡ false = ne_eqb process q (λ e. eqb-false q process other (sym e)) in
    ap (λ b. cond (b && (object == y)) (Some (record { at = number; reply = reply })) None) ne

response_of-part : (p x : ℕ) (h : List Numbered) → response_of p x (part p h) ≡ response_of p x h
response_of-part p x [] = refl
response_of-part p x (m ∷ h) =
    let rest = response_of-part p x h in
    let other = response_in_other p x m.number m.event in
    grind arith

begins-part : (p n : ℕ) (e : Event) (later : List Numbered)
    → calls_in (part p later) ≡ filter (λ o. o.process == p) (calls_in later)
    → calls_in (cond (process_of e == p) (at n e ∷ part p later) (part p later))
    ≡ filter (λ o. o.process == p) (begins n e later (calls_in later))
begins-part p n (Inv q x op) later h =
    let own = eqb-true q p in
    let found = response_of-part q x later in
    grind arith
begins-part p n (Res q x r) later h = grind arith

-- the operations of one process are those of its part
pub calls_in-part : (p : ℕ) (h : List Numbered) → calls_in (part p h) ≡ filter (λ o. o.process == p) (calls_in h)
calls_in-part p [] = refl
calls_in-part p (m ∷ h) = begins-part p m.number m.event h (calls_in-part p h)

-- ---- late responses

-- the response of an operation that is pending and is given a reply
abbrev pub late : ProcessCall → Option Return → Option AnyReply → List Event
late e (Some r) g = []
late e None None = []
late e None (Some r) = Res e.process e.object r ∷ []

-- the responses that a completion adds: those of calls that have none and to which `give` gives one
abbrev pub added : (ProcessCall → Option AnyReply) → List ProcessCall → List Event
added give os = flat_map (λ e. late e e.call.returned (give e)) os

-- the calls with the replies that they have in a completion, as events
abbrev pub dones : (ProcessCall → Option AnyReply) → List ProcessCall → List Event
dones give os = flat_map (λ e. done e (give e)) os

-- the first operation, returned
abbrev pub first : ℕ → ℕ → ℕ → AnyOp → ℕ → AnyReply → ProcessCall
first process number object op later reply = record {
  process = process;
  object = object;
  call = record { number = number; op = op; returned = Some (record { at = later; reply = reply }) };
}

-- the first operation, pending
abbrev pub unanswered : ℕ → ℕ → ℕ → AnyOp → ProcessCall
unanswered process number object op = record {
  process = process;
  object = object;
  call = record { number = number; op = op; returned = None };
}

-- a response matches an invocation of its own process and object
self_match : (process object : ℕ) → ((process == process) && (object == object)) ≡ true
self_match process object =
    and_from (process == process) (object == object) (eq-eqb process process refl) (eq-eqb object object refl)

-- a call that returned at once, in front of other events, is the first of the calls
pub calls_in-call : (process number object : ℕ) (op : AnyOp) (later : ℕ) (reply : AnyReply) (rest : List Numbered)
    → calls_in (at number (Inv process object op) ∷ at later (Res process object reply) ∷ rest)
    ≡ first process number object op later reply ∷ calls_in rest
calls_in-call process number object op later reply rest =
    ap (λ (b : Bool). record {
      process = process;
      object = object;
      call =
          record {
            number = number;
            op = op;
            returned = option_or (cond b (Some (record { at = later; reply = reply })) None)
                (response_of process object rest);
          };
    } ∷ calls_in rest) (self_match process object)

-- complete(H) keeps an invocation with the response that follows it at once
pub complete-call : (process object : ℕ) (op : AnyOp) (reply : AnyReply) (later : List Event)
    → complete (Inv process object op ∷ Res process object reply ∷ later)
    ≡ Inv process object op ∷ Res process object reply ∷ complete later
complete-call process object op reply later =
    ap (λ (b : Bool). cond (not (b || list_any (matches (Inv process object op)) later))
    (Res process object reply ∷ complete later)
    (Inv process object op ∷ Res process object reply ∷ complete later)) (self_match process object)

-- ---- the completion of the events of one process

-- the recorded replies are given
abbrev pub Agrees : (ProcessCall → Option AnyReply) → List ProcessCall → Type 0
Agrees give os = (e : ProcessCall) (r : Return) → In e os → e.call.returned ≡ Some r → give e ≡ Some r.reply

-- with the late responses and without what is still pending, each operation that is given a reply has it
pub completed : (process : ℕ) (h : List Numbered) (give : ProcessCall → Option AnyReply) → Turns process h
    → Agrees give (calls_in h) → complete (events h ++ added give (calls_in h)) ≡ dones give (calls_in h)
completed process h give none a = refl
completed process h give (last number object op) a =
    let made : ProcessCall = unanswered process number object op in
    let here : (g : Option AnyReply) → complete (Inv process object op ∷ (late made None g ++ [])) ≡ done made g ++ [] =
    elim [ None ↦ refl | Some reply ↦ complete-call process object op reply [] ] in
    here (give made)
completed process h give (call number object op later reply rest t) a =
    let os = calls_in-call process number object op later reply rest in
    let made : ProcessCall = first process number object op later reply in
    let given : give made ≡ Some reply =
    a made (record { at = later; reply = reply }) (subst (In made) (sym os) (inl refl)) refl in
    let below = completed process rest give t (λ f q i. a f q (subst (In f) (sym os) (inr i))) in
    subst (λ (os : List ProcessCall). complete (Inv process object op ∷ Res process object reply
    ∷ (events rest ++ added give os))
    ≡ dones give os) (sym os)
    (complete-call process object op reply (events rest ++ added give (calls_in rest))
    ∙ (ap (λ es. Inv process object op ∷ Res process object reply ∷ es) below
    ∙ ap (λ g. done made g ++ dones give (calls_in rest)) (sym given)))

-- and with the late responses it is sequential still
pub extended : (process : ℕ) (h : List Numbered) (give : ProcessCall → Option AnyReply) → Turns process h
    → IsSequential (events h ++ added give (calls_in h))
extended process h give none = tt
extended process h give (last number object op) =
    let made : ProcessCall = unanswered process number object op in
    let here : (g : Option AnyReply) → IsSequential (Inv process object op ∷ (late made None g ++ [])) =
    elim [ None ↦ refl | Some reply ↦ (self_match process object, tt) ] in
    here (give made)
extended process h give (call number object op later reply rest t) =
    let os = calls_in-call process number object op later reply rest in
    subst (λ (os : List ProcessCall). IsSequential (Inv process object op ∷ Res process object reply
    ∷ (events rest ++ added give os))) (sym os)
    (self_match process object, extended process rest give t)

-- ---- the order of its operations

-- the number of an operation is that of an event
pub call_event : (h : List Numbered) (e : ProcessCall) → In e (calls_in h)
    → (m : Numbered) × In m h × (m.number ≡ number_of e) × (m.event ≡ Inv e.process e.object e.call.op)
call_event [] e i = absurd i
call_event (m ∷ h) e i = here m.event refl i (call_event h e)
  where
    here : (v : Event) → m.event ≡ v → In e (begins m.number v h (calls_in h))
        → (In e (calls_in h) → (k : Numbered) × In k h × (k.number ≡ number_of e)
        × (k.event ≡ Inv e.process e.object e.call.op)) → (k : Numbered)
        × In k (m ∷ h) × (k.number ≡ number_of e) × (k.event ≡ Inv e.process e.object e.call.op)
    here (Inv p x op) q i f = elim i [
      | inl s ↦ (
        m,
        inl refl,
        sym (ap number_of s),
        q ∙ sym (ap (λ (o : ProcessCall). Inv o.process o.object o.call.op) s),
      )
      | inr j ↦ let k = f j in (k.0, inr k.1, k.2, k.3)
    ]
    here (Res p x r) q i f = let k = f i in (k.0, inr k.1, k.2, k.3)

-- operations are in the order of their invocations
pub calls_rise : (h : List Numbered) → Pairs (λ a b. a.number < b.number) h
    → Pairs (λ a b. number_of a < number_of b) (calls_in h)
calls_rise [] u = tt
calls_rise (m ∷ h) u = here m.event (calls_rise h u.1)
  where
    here : (v : Event) → Pairs (λ a b. number_of a < number_of b) (calls_in h)
        → Pairs (λ a b. number_of a < number_of b) (begins m.number v h (calls_in h))
    here (Inv p x op) r = (
      λ y i.
          let k = call_event h y i in
          let g = u.0 k.0 k.1 in
          let e = k.2 in
          omega arith,
      r,
    )
    here (Res p x r') r = r

abbrev at_of : Option Return → ℕ
at_of None = 0
at_of (Some r) = r.at

-- an operation returns after its invocation
pub returns_after : (process : ℕ) (h : List Numbered) (made : ProcessCall) (response : Return) → Turns process h
    → Pairs (λ a b. a.number < b.number) h → In made (calls_in h) → made.call.returned ≡ Some response
    → number_of made ≤ response.at
returns_after process h made response none rising i back = absurd i
returns_after process h made response (last number object op) rising i back = elim i [
  | inl s ↦ let no : None ≡ Some response = sym (ap (λ (o : ProcessCall). o.call.returned) s) ∙ back in absurd (cc no)
  | inr j ↦ absurd j
]
returns_after process h made response (call number object op later reply rest t) rising i back =
    let calls_are = calls_in-call process number object op later reply rest in
    let among : In made (first process number object op later reply ∷ calls_in rest) = subst (In made) calls_are i in
    elim among [
      | inl s ↦
          let g : number < later = rising.0 (at later (Res process object reply)) (inl refl) in
          let is : Some (record { at = later; reply = reply }) ≡ Some response =
          sym (ap (λ (o : ProcessCall). o.call.returned) s) ∙ back in
          let a : later ≡ response.at = ap (λ (o : Option Return). at_of o) is in
          let b : number_of made ≡ number = ap number_of s in
          omega arith
      | inr j ↦ returns_after process rest made response t rising.1.1 j back
    ]

-- of two operations the earlier has returned before the later
abbrev pub Before : ProcessCall → ProcessCall → Type 0
Before a b = (r : Return) × (a.call.returned ≡ Some r) × (r.at < number_of b)

-- the calls of one process are one after another: each returned before the next was invoked
pub one_after_another : (process : ℕ) (h : List Numbered) → Turns process h → Pairs (λ a b. a.number < b.number) h
    → Pairs Before (calls_in h)
one_after_another process h none rising = tt
one_after_another process h (last number object op) rising = (λ y i. absurd i, tt)
one_after_another process h (call number object op later reply rest t) rising =
    let calls_are = calls_in-call process number object op later reply rest in
    let below = one_after_another process rest t rising.1.1 in
    subst (Pairs Before) (sym calls_are) (
      λ y i.
          let k = call_event rest y i in
          let g : later < k.0.number = rising.1.0 k.0 k.1 in
          let e : k.0.number ≡ number_of y = k.2 in
          (record { at = later; reply = reply }, refl, omega arith),
      below,
    )

-- ---- counts before a moment

-- whether it returned before t
abbrev pub is_back : ℕ → Option Return → Bool
is_back t None = false
is_back t (Some r) = nat_lt r.at t

-- the responses before t are those of operations that are back
pub responses_before : (process moment : ℕ) (h : List Numbered) → Turns process h
    → length (filter (λ e. is_back moment e.call.returned) (calls_in h))
    ≡ length (filter (λ m. responds process m.event && nat_lt m.number moment) h)
responses_before process moment h none = refl
responses_before process moment h (last number object op) = refl
responses_before process moment h (call number object op later reply rest others) =
    let os = calls_in-call process number object op later reply rest in
    let below = responses_before process moment rest others in
    let self : (process == process) ≡ true = eq-eqb process process refl in
    let rs : List Numbered = filter (λ m. responds process m.event && nat_lt m.number moment) rest in
    let bs : List ProcessCall = filter (λ e. is_back moment e.call.returned) (calls_in rest) in
    subst (λ (os : List ProcessCall). length (filter (λ e. is_back moment e.call.returned) os)
    ≡ length (cond ((process == process) && nat_lt later moment) (at later (Res process object reply) ∷ rs) rs))
    (sym os)
    (subst (λ (b : Bool). length (cond (nat_lt later moment) (first process number object op later reply ∷ bs) bs)
    ≡ length (cond (b && nat_lt later moment) (at later (Res process object reply) ∷ rs) rs)) (sym self)
    (elim (nat_lt later moment) as (λ b. length (cond b (first process number object op later reply ∷ bs) bs)
    ≡ length (cond b (at later (Res process object reply) ∷ rs) rs)) [
      | true ↦ ap suc below
      | false ↦ below
    ]))

-- the invocations before t are those of the operations below t
pub invocations_before : (p t : ℕ) (h : List Numbered)
    → length (filter (λ m. invokes p m.event && nat_lt m.number t) h)
    ≡ length (filter (λ e. (e.process == p) && nat_lt (number_of e) t) (calls_in h))
invocations_before p t [] = refl
invocations_before p t (m ∷ h) = here m.event refl (invocations_before p t h)
  where
    here : (v : Event) → m.event ≡ v
        → length (filter (λ m. invokes p m.event && nat_lt m.number t) h)
        ≡ length (filter (λ e. (e.process == p) && nat_lt (number_of e) t) (calls_in h)) →
        length (cond (invokes p v && nat_lt m.number t) (m ∷ filter (λ m. invokes p m.event && nat_lt m.number t) h)
        (filter (λ m. invokes p m.event && nat_lt m.number t) h))
        ≡ length (filter (λ e. (e.process == p) && nat_lt (number_of e) t) (begins m.number v h (calls_in h)))
    here (Inv q x op) s f = grind arith
    here (Res q x r) s f = f

-- ---- the same of a history

-- in a history: numbers rise, also those of a process and those of operations, and each process has its turns
module _ (h : List Numbered) (hist : IsHistory h) where
  -- the numbers of events rise
  pub up : Pairs (λ (a b : Numbered). a.number < b.number) h
  up = pairs_from_all (λ (a b : Numbered). a.number < b.number) h hist.rising

  -- the numbers of the events of one process rise
  pub part_up : (p : ℕ) → Pairs (λ (a b : Numbered). a.number < b.number) (part p h)
  part_up p = pairs_filter (λ (a b : Numbered). a.number < b.number) (λ m. process_of m.event == p) h up

  -- the events of one process are its turns
  pub turn_view : (p : ℕ) → Turns p (part p h)
  turn_view p = turns p (part p h) (rw (events-part p h) (hist.well_formed p))
      (λ m i. eqb-true (process_of m.event) p (in_filter_passes (λ m. process_of m.event == p) m h i))

  -- the numbers of calls rise
  pub rise : Pairs (λ a b. number_of a < number_of b) (calls_in h)
  rise = calls_rise h up

  -- the numbers of the calls of one process rise
  pub part_rise : (p : ℕ) → Pairs (λ a b. number_of a < number_of b) (calls_in (part p h))
  part_rise p = calls_rise (part p h) (part_up p)
