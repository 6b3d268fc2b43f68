-- The operations on one object among proper events are the history of an object. By induction on the events: each
-- operation begins with an event of its own (`Begins`), and what it returned is in a later one (`Returns`).
use Rattle.std.proofs.Common.{◌≡◌, ℕ, ◌==◌, ◌<◌, Bool, true, false, cond, ◌⊎◌, inl, inr, List, [], ◌∷◌, ◌++◌}
use Rattle.std.proofs.Common.{Option, Some, None, refl, ap, sym, ◌∙◌, subst, append_assoc, arith}
use Rattle.std.proofs.lemmas.Bool.{eqb-true, eq-eqb}
use Rattle.model.specs.declared.AnyOp.{AnyOp}
use Rattle.model.specs.declared.AnyReply.{AnyReply}
use Rattle.model.specs.Objects.{kind_of}
use Rattle.model.specs.Lists.{In}
use Rattle.model.proofs.Lists.{Pairs, in_append, contains_from_in, all_from_in, all_from_pairs, pairs_from_all}
use Rattle.model.proofs.Lists.{in_left, in_right, in_middle, in_split}
use Rattle.events.specs.declared.event.Action.{Action}
use Rattle.events.specs.declared.event.Action.TheVariants.{Invoke, Ok, Fail, Info}
use Rattle.events.specs.declared.event.Event.{Event}
use Rattle.events.specs.declared.operations.End.{End}
use Rattle.events.specs.declared.operations.End.TheVariants.{Returned, Pending, Failed}
use Rattle.events.specs.declared.operations.Operation.{Operation}
use Rattle.events.specs.Events.{next_event, Follows, IsProper, kind_by, kind_of_object, IsNamed}
use Rattle.events.specs.Operations.{end_by, end_at, begun, operations_on, EndsAfter, ObjectCalls, IsObjectHistory}

-- the event of an operation
pub record Begins (x : ℕ) (es : List Event) (o : Operation) : Type 0 where
  pub event : Event
  pub stands : In event es
  pub on_object : event.object ≡ x
  pub number : event.number ≡ o.number
  pub invokes : event.action ≡ Invoke o.op

begins_later : (x : ℕ) (e : Event) (es : List Event) (o : Operation) → Begins x es o → Begins x (e ∷ es) o
begins_later x e es o b =
    record { event = b.event; stands = inr b.stands; on_object = b.on_object; number = b.number; invokes = b.invokes }

-- the operation that an event begins, if it is on the object
begun_here : (x : ℕ) (e : Event) (how : End) (o : Operation)
    → In o (cond (e.object == x) (begun e.number e.action how) []) → (e.object ≡ x)
    × (e.number ≡ o.number) × (e.action ≡ Invoke o.op) × (o.«end» ≡ how)
begun_here x e how o i = go (e.object == x) refl i
  where
    named : (a : Action) → In o (begun e.number a how) → (e.number ≡ o.number) × (a ≡ Invoke o.op) × (o.«end» ≡ how)
    named (Invoke op) j = elim j [
      | inl q ↦ (
        ap (λ (x : Operation). x.number) (sym q),
        ap (λ (x : Operation). Invoke x.op) (sym q),
        ap (λ (x : Operation). x.«end») q,
      )
      | inr k ↦ absurd k
    ]
    named (Ok r) j = absurd j
    named Fail j = absurd j
    named Info j = absurd j

    go : (b : Bool) → (e.object == x) ≡ b → In o (cond b (begun e.number e.action how) [])
        → (e.object ≡ x) × (e.number ≡ o.number) × (e.action ≡ Invoke o.op) × (o.«end» ≡ how)
    go true q j = let n = named e.action j in (eqb-true e.object x q, n.0, n.1, n.2)
    go false q j = absurd j

pub operation_begins : (x : ℕ) (es : List Event) (o : Operation) → In o (operations_on x es) → Begins x es o
operation_begins x [] o i = absurd i
operation_begins x (e ∷ es) o i =
    elim (in_append o (cond (e.object == x) (begun e.number e.action (end_at (next_event e.process es))) [])
    (operations_on x es) i) [
      | inl j ↦
          let b = begun_here x e (end_at (next_event e.process es)) o j in
          record { event = e; stands = inl refl; on_object = b.0; number = b.1; invokes = b.2 }
      | inr j ↦ begins_later x e es o (operation_begins x es o j)
    ]

-- ---- numbers rise

abbrev RisingEvents : List Event → Type 0
RisingEvents es = Pairs (λ a b. a.number < b.number) es

operations_rising : (x : ℕ) (es : List Event) → RisingEvents es
    → Pairs (λ a b. a.number < b.number) (operations_on x es)
operations_rising x [] h = tt
operations_rising x (e ∷ es) h = go (e.object == x) (operations_rising x es h.1)
  where
    above : (o : Operation) → In o (operations_on x es) → e.number < o.number
    above o i =
        let b = operation_begins x es o i in
        let later = h.0 b.event b.stands in
        let same = b.number in
        omega arith

    begun_rising : (a : Action) → Pairs (λ a b. a.number < b.number) (operations_on x es)
        → Pairs (λ a b. a.number < b.number) (begun e.number a (end_at (next_event e.process es)) ++ operations_on x es)
    begun_rising (Invoke op) rest = (above, rest)
    begun_rising (Ok r) rest = rest
    begun_rising Fail rest = rest
    begun_rising Info rest = rest

    go : (b : Bool) → Pairs (λ a b. a.number < b.number) (operations_on x es)
        → Pairs (λ a b. a.number < b.number)
        (cond b (begun e.number e.action (end_at (next_event e.process es))) [] ++ operations_on x es)
    go true rest = begun_rising e.action rest
    go false rest = rest

-- events of one number are one
pub same_event : (es : List Event) (e f : Event) → Pairs (λ a b. a.number < b.number) es → In e es → In f es
    → e.number ≡ f.number → e ≡ f
same_event [] e f h i j q = absurd i
same_event (d ∷ es) e f h i j q = elim i [
  | inl a ↦ elim j [
    | inl b ↦ a ∙ sym b
    | inr k ↦
        let later = h.0 f k in
        let same : e.number ≡ d.number = ap (λ (x : Event). x.number) a in
        absurd (omega arith)
  ]
  | inr k ↦ elim j [
    | inl b ↦
        let later = h.0 e k in
        let same : f.number ≡ d.number = ap (λ (x : Event). x.number) b in
        absurd (omega arith)
    | inr m ↦ same_event es e f h.1 k m q
  ]
]

-- ---- ends

-- the next event of a process stands among the events
pub next_stands : (p : ℕ) (es : List Event) (f : Event) → next_event p es ≡ Some f → In f es
next_stands p [] f q = absurd (cc q)
next_stands p (e ∷ es) f q = go (e.process == p) q (next_stands p es f)
  where
    go : (b : Bool) → cond b (Some e) (next_event p es) ≡ Some f → (next_event p es ≡ Some f → In f es) → In f (e ∷ es)
    go true r g = let s : e ≡ f = cc in inl (sym s)
    go false r g = inr (g r)

-- where an operation returned, an event says so after its invocation
pub record Returns (es : List Event) (o : Operation) (at : ℕ) (r : AnyReply) : Type 0 where
  pub event : Event
  pub stands : In event es
  pub number : event.number ≡ at
  pub returns : event.action ≡ Ok r
  pub behind : o.number < at

end_returns : (next : Option Event) (at : ℕ) (r : AnyReply) → end_at next ≡ Returned at r
    → (f : Event) × (next ≡ Some f) × (f.number ≡ at) × (f.action ≡ Ok r)
end_returns None at r q = absurd (cc q)
end_returns (Some f) at r q = let g = go f.action q in (f, refl, g.0, g.1)
  where
    go : (a : Action) → end_by f.number a ≡ Returned at r → (f.number ≡ at) × (a ≡ Ok r)
    go (Invoke op) s = absurd (cc s)
    go (Ok r') s = (cc, ap Ok (let t : r' ≡ r = cc in t))
    go Fail s = absurd (cc s)
    go Info s = absurd (cc s)

operation_returns : (x : ℕ) (es : List Event) (o : Operation) (at : ℕ) (r : AnyReply) → RisingEvents es
    → In o (operations_on x es) → o.«end» ≡ Returned at r → Returns es o at r
operation_returns x [] o at r h i q = absurd i
operation_returns x (e ∷ es) o at r h i q =
    elim (in_append o (cond (e.object == x) (begun e.number e.action (end_at (next_event e.process es))) [])
    (operations_on x es) i) [
      | inl j ↦
          let b = begun_here x e (end_at (next_event e.process es)) o j in
          let f = end_returns (next_event e.process es) at r (sym b.3 ∙ q) in
          let stands = next_stands e.process es f.0 f.1 in
          let l = h.0 f.0 stands in
          let m = b.1 in
          let n = f.2 in
          record { event = f.0; stands = inr stands; number = f.2; returns = f.3; behind = omega arith }
      | inr j ↦
          let g = operation_returns x es o at r h.1 j q in
          record { event = g.event; stands = inr g.stands; number = g.number; returns = g.returns; behind = g.behind }
    ]

-- No operation has the number of a return.
apart : (x : ℕ) (es : List Event) (o p : Operation) (at : ℕ) (r : AnyReply) → RisingEvents es → Returns es o at r
    → In p (operations_on x es) → p.number ≡ at → ⊥
apart x es o p at r h f i q =
    let b = operation_begins x es p i in
    let same : b.event ≡ f.event = same_event es b.event f.event h b.stands f.stands (b.number ∙ (q ∙ sym f.number)) in
    let e : Invoke p.op ≡ Ok r = sym b.invokes ∙ (ap (λ (x : Event). x.action) same ∙ f.returns) in
    absurd (cc (e))

ends_after : (x : ℕ) (es : List Event) (o : Operation) → RisingEvents es → In o (operations_on x es)
    → EndsAfter o.number (operations_on x es) o.«end»
ends_after x es o h i = go o.«end» refl
  where
    go : (how : End) → o.«end» ≡ how → EndsAfter o.number (operations_on x es) how
    go (Returned at r) q =
        let f = operation_returns x es o at r h i q in
        (f.behind, all_from_in (λ p. p.number ≡ at → ⊥) (operations_on x es) (λ p j s. apart x es o p at r h f j s))
    go Pending q = tt
    go Failed q = tt

-- ---- kinds

-- two invocations of one object are of one kind
abbrev SameKind : Event → Event → Type 0
SameKind e f = (a b : AnyOp) → e.object ≡ f.object → e.action ≡ Invoke a → f.action ≡ Invoke b → kind_of a ≡ kind_of b

-- an invocation after others on its object is of their kind
kind_follows : (earlier : List Event) (p x : ℕ) (a : Action) (b : AnyOp) → Follows earlier p x a → a ≡ Invoke b
    → (e : Event) (c : AnyOp)
    → In e earlier → e.object ≡ x → e.action ≡ Invoke c → kind_of c ≡ kind_of b
kind_follows earlier p x (Invoke op) b h q e c i s t =
    h.1 e c (contains_from_in earlier e i) s t ∙ ap kind_of (let r : op ≡ b = cc in r)
kind_follows earlier p x (Ok r) b h q e c i s t = absurd (cc (q))
kind_follows earlier p x Fail b h q e c i s t = absurd (cc (q))
kind_follows earlier p x Info b h q e c i s t = absurd (cc (q))

kinds_after : (earlier es all : List Event) → all ≡ earlier ++ es → IsProper all → Pairs SameKind es
kinds_after earlier [] all is h = tt
kinds_after earlier (e ∷ es) all is h = (
  λ f i a b same q r.
      let s = in_split f es i in
      let whole : all ≡ (earlier ++ e ∷ s.0) ++ f ∷ s.1 =
      is ∙ (ap (λ t. earlier ++ e ∷ t) s.2 ∙ sym (append_assoc earlier (e ∷ s.0) (f ∷ s.1))) in
      kind_follows (earlier ++ e ∷ s.0) f.process f.object f.action b (h.each (earlier ++ e ∷ s.0) s.1 f whole) r e a
      (in_middle e earlier s.0) same q,
  kinds_after (earlier ++ e ∷ []) es all (is ∙ sym (append_assoc earlier (e ∷ []) es)) h,
)

kind_here : (x : ℕ) (es : List Event) (o : Operation) → Pairs SameKind es → In o (operations_on x es)
    → kind_of o.op ≡ kind_of_object es x
kind_here x [] o h i = absurd i
kind_here x (e ∷ es) o h i =
    go (e.object == x) refl
    (in_append o (cond (e.object == x) (begun e.number e.action (end_at (next_event e.process es))) [])
    (operations_on x es) i) (kind_here x es o h.1)
  where
    own : (a : Action) → (e.object ≡ x) → e.action ≡ a → ((e.action ≡ Invoke o.op) ⊎ In o (operations_on x es))
        → (In o (operations_on x es) → kind_of o.op ≡ kind_of_object es x) → kind_of o.op
        ≡ kind_by a (kind_of_object es x)
    own (Invoke op) s q (inl t) f =
        ap kind_of (let r : Invoke op ≡ Invoke o.op = sym q ∙ t in let u : o.op ≡ op = cc in u)
    own (Invoke op) s q (inr j) f =
        let b = operation_begins x es o j in sym (h.0 b.event b.stands op o.op (s ∙ sym b.on_object) q b.invokes)
    own (Ok r) s q (inl t) f = let u : Ok r ≡ Invoke o.op = sym q ∙ t in absurd (cc u)
    own (Ok r) s q (inr j) f = f j
    own Fail s q (inl t) f = let u : Fail ≡ Invoke o.op = sym q ∙ t in absurd (cc u)
    own Fail s q (inr j) f = f j
    own Info s q (inl t) f = let u : Info ≡ Invoke o.op = sym q ∙ t in absurd (cc u)
    own Info s q (inr j) f = f j

    go : (b : Bool) → (e.object == x) ≡ b
        → In o (cond (e.object == x) (begun e.number e.action (end_at (next_event e.process es))) [])
        ⊎ In o (operations_on x es) → (In o (operations_on x es) → kind_of o.op ≡ kind_of_object es x)
        → kind_of o.op ≡ cond b (kind_by e.action (kind_of_object es x)) (kind_of_object es x)
    go true q (inl j) f = own e.action (eqb-true e.object x q) refl
        (inl (begun_here x e (end_at (next_event e.process es)) o j).2) f
    go true q (inr j) f = own e.action (eqb-true e.object x q) refl (inr j) f
    go false q (inl j) f =
        let s : (e.object == x) ≡ true =
        eq-eqb e.object x (begun_here x e (end_at (next_event e.process es)) o j).0 in absurd (cc (q, s))
    go false q (inr j) f = f j

-- ---- joined

abbrev pub object_calls : List Event → ℕ → ObjectCalls
object_calls es x = record { object = x; kind = kind_of_object es x; ops = operations_on x es }

-- the operations on one object among proper events are an object's history
pub is_object_history : (es : List Event) → IsProper es → (x : ℕ) → IsObjectHistory (object_calls es x)
is_object_history es h x =
    let up : RisingEvents es = pairs_from_all (λ a b. a.number < b.number) es h.rising in
    let kinds : Pairs SameKind es = kinds_after [] es es refl h in
    record {
      rising = all_from_pairs (λ a b. a.number < b.number) (operations_on x es) (operations_rising x es up);
      of_kind = all_from_in (λ o. kind_of o.op ≡ kind_of_object es x) (operations_on x es)
          (λ o i. kind_here x es o kinds i);
      ends = all_from_in (λ o. EndsAfter o.number (operations_on x es) o.«end») (operations_on x es)
          (λ o i. ends_after x es o up i);
    }

-- ---- named objects

-- an object is named exactly where it has operations
pub named_by : (x : ℕ) (es : List Event) (o : Operation) → In o (operations_on x es) → IsNamed es x
named_by x es o i =
    let b = operation_begins x es o i in
    record {
      event = b.event;
      op = o.op;
      stands = contains_from_in es b.event b.stands;
      on_object = b.on_object;
      invokes = b.invokes;
    }

pub operation_of : (x : ℕ) (es : List Event) (e : Event) (op : AnyOp) → In e es → e.object ≡ x → e.action ≡ Invoke op
    → (o : Operation) × In o (operations_on x es)
operation_of x [] e op i s t = absurd i
operation_of x (d ∷ es) e op i s t = elim i [
  | inl q ↦ own (ap (λ (y : Event). y.object) (sym q) ∙ s) (ap (λ (y : Event). y.action) (sym q) ∙ t)
  | inr j ↦
      let o = operation_of x es e op j s t in (
        o.0,
        in_right o.0 (cond (d.object == x) (begun d.number d.action (end_at (next_event d.process es))) [])
            (operations_on x es) o.1,
      )
]
  where
    own : d.object ≡ x → d.action ≡ Invoke op → (o : Operation) × In o (operations_on x (d ∷ es))
    own s t =
        let how = end_at (next_event d.process es) in
        let o : Operation = record { number = d.number; op = op; «end» = how } in
        let is : cond (d.object == x) (begun d.number d.action how) [] ≡ o ∷ [] =
        ap (λ b. cond b (begun d.number d.action how) []) (eq-eqb d.object x s) ∙ ap (λ a. begun d.number a how) t in (
          o,
          in_left o (cond (d.object == x) (begun d.number d.action how) []) (operations_on x es)
              (subst (In o) (sym is) (inl refl)),
        )
