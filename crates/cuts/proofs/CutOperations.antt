-- If each of an object's operations is replaced or left out by itself, the result is an object's history, and its calls
-- come from the old calls one by one. By induction over the operations, with three laws of `filter_map`.
use Rattle.std.proofs.Common.{◌≡◌, ◌≢◌, ℕ, ◌<◌, Bool, false, cond, List, [], ◌∷◌, Option, Some, None, map}
use Rattle.std.proofs.Common.{filter, All, AllPairs, refl, ap, sym, ◌∙◌, subst, arith}
use Rattle.std.specs.List.{filter_map, cons_option}
use Rattle.std.proofs.lemmas.Option.{same_Some}
use Rattle.model.specs.declared.Kind.{Kind}
use Rattle.model.specs.declared.AnyOp.{AnyOp}
use Rattle.model.specs.declared.AnyReply.{AnyReply}
use Rattle.model.specs.Objects.{kind_of}
use Rattle.model.specs.Orders.{Call, Return}
use Rattle.model.specs.Lists.{In}
use Rattle.model.proofs.Lists.{all_from_in, all_at, all_from_pairs, pairs_from_all}
use Rattle.events.specs.declared.operations.End.{End}
use Rattle.events.specs.declared.operations.End.TheVariants.{Returned, Pending, Failed}
use Rattle.events.specs.declared.operations.Operation.{Operation}
use Rattle.events.specs.Operations.{call_of, calls_of, return_of, EndsAfter, ObjectCalls, IsObjectHistory}
use Rattle.cuts.specs.Cuts.{IsPart, NoneFailed}
use Rattle.cuts.specs.CutOperations.{has_failed}
use Rattle.cuts.proofs.Sequences.{in_filter_map, pairs_filter_map}

-- ---- lists

-- the result of a function on what is there, or nothing if nothing is there
abbrev pub bind : {X Y : Type 0} → Option X → (X → Option Y) → Option Y
bind None f = None
bind (Some x) f = f x

filter_map-cons : {X Y : Type 0} (f : X → Option Y) (o : Option X) (xs : List X)
    → filter_map f (cons_option o xs) ≡ cons_option (bind o f) (filter_map f xs)
filter_map-cons f None xs = refl
filter_map-cons f (Some x) xs = refl

-- a function on those that pass a test, as a filter and then a map
pub filter_map-filter : {X Y : Type 0} (p : X → Bool) (f : X → Y) (xs : List X)
    → filter_map (λ x. cond (p x) (Some (f x)) None) xs ≡ map f (filter p xs)
filter_map-filter p f [] = refl
filter_map-filter p f (x ∷ xs) = grind (arith, filter_map-filter p f xs)

-- a map that changes nothing
pub map-same : {X : Type 0} (xs : List X) → map (λ x. x) xs ≡ xs
map-same [] = refl
map-same (x ∷ xs) = ap (λ ys. x ∷ ys) (map-same xs)

-- ---- cut_operations

-- an operation of a part with the number and the kind of the whole's, which returned at the same number if it returned
pub record IsCutOperation (o p : Operation) : Type 0 where
  pub number : p.number ≡ o.number
  pub kind : kind_of p.op ≡ kind_of o.op
  pub returned : (at : ℕ) (reply : AnyReply) → p.«end» ≡ Returned at reply
      → (own : AnyReply) × (o.«end» ≡ Returned at own)

-- the same, with the kind of its operation
pub record IsCutOperationOf (into : Kind) (o p : Operation) : Type 0 where
  pub number : p.number ≡ o.number
  pub kind : kind_of p.op ≡ into
  pub returned : (at : ℕ) (reply : AnyReply) → p.«end» ≡ Returned at reply
      → (own : AnyReply) × (o.«end» ≡ Returned at own)

-- what becomes of an object's operations one by one, as operations of another kind, is an object's history
pub cut_into : (object : ℕ) (kind into : Kind) (ops : List Operation) (cut_operation : Operation → Option Operation)
    → ((o p : Operation) → In o ops → cut_operation o ≡ Some p → IsCutOperationOf into o p)
    → IsObjectHistory (record { object = object; kind = kind; ops = ops })
    → IsObjectHistory (record { object = object; kind = into; ops = filter_map cut_operation ops })
cut_into object kind into ops cut_operation is h = record {
  rising = all_from_pairs (λ a b. a.number < b.number) (filter_map cut_operation ops)
      (pairs_filter_map (λ a b. a.number < b.number) (λ a b. a.number < b.number) cut_operation ops
      (λ x y a b i j l e f. less x.number y.number a.number b.number l (is x a i e).number (is y b j f).number)
      (pairs_from_all (λ a b. a.number < b.number) ops h.rising));
  of_kind = all_from_in (λ o. kind_of o.op ≡ into) (filter_map cut_operation ops)
      (λ p i. let o = in_filter_map cut_operation p ops i in (is o.0 p o.1 o.2).kind);
  ends = all_from_in (λ o. EndsAfter o.number (filter_map cut_operation ops) o.«end»)
      (filter_map cut_operation ops) (λ p i.
      let o = in_filter_map cut_operation p ops i in
      let own = is o.0 p o.1 o.2 in
      go p.number p.«end» (λ at reply e.
      let t = own.returned at reply e in
      let u = subst (EndsAfter o.0.number ops) t.1
      (all_at (λ o. EndsAfter o.number ops o.«end») ops h.ends o.0 o.1) in (
        subst (λ n. n < at) (sym own.number) u.0,
        all_from_in (λ o. o.number ≡ at → ⊥) (filter_map cut_operation ops)
            (λ q j e. let w = in_filter_map cut_operation q ops j in
            all_at (λ o. o.number ≡ at → ⊥) ops u.1 w.0 w.1 (sym (is w.0 q w.1 w.2).number ∙ e)),
      )));
}
  where
    less : (low high low' high' : ℕ) → low < high → low' ≡ low → high' ≡ high → low' < high'
    less low high low' high' l e f = omega arith

    go : (number : ℕ) (e : End) → ((at : ℕ) (reply : AnyReply) → e ≡ Returned at reply → (number < at)
        × All (λ o. o.number ≡ at → ⊥) (filter_map cut_operation ops))
        → EndsAfter number (filter_map cut_operation ops) e
    go number (Returned at reply) f = f at reply refl
    go number Pending f = tt
    go number Failed f = tt

-- what becomes of an object's operations one by one, with their numbers and their kind, is an object's history
pub cut_history : (object : ℕ) (kind : Kind) (ops : List Operation) (cut_operation : Operation → Option Operation)
    → ((o p : Operation) → In o ops → cut_operation o ≡ Some p → IsCutOperation o p)
    → IsObjectHistory (record { object = object; kind = kind; ops = ops })
    → IsObjectHistory (record { object = object; kind = kind; ops = filter_map cut_operation ops })
cut_history object kind ops cut_operation is h =
    cut_into object kind kind ops cut_operation (λ o p i e.
    let q = is o p i e in
    record {
      number = q.number;
      kind = q.kind ∙ all_at (λ o. kind_of o.op ≡ kind) ops h.of_kind o i;
      returned = q.returned;
    }) h

-- what becomes of operations one by one is, as calls, what becomes of their calls
pub cut_calls : (cut_operation : Operation → Option Operation) (part : Call → Option Call) (ops : List Operation)
    → ((o : Operation) → bind (cut_operation o) call_of ≡ bind (call_of o) part)
    → calls_of (filter_map cut_operation ops) ≡ filter_map part (calls_of ops)
cut_calls cut_operation part [] f = refl
cut_calls cut_operation part (o ∷ ops) f =
    filter_map-cons call_of (cut_operation o) (filter_map cut_operation ops)
    ∙ ap (λ z. cons_option z (filter_map call_of (filter_map cut_operation ops))) (f o)
    ∙ ap (cons_option (bind (call_of o) part)) (cut_calls cut_operation part ops f)
    ∙ sym (filter_map-cons part (call_of o) (calls_of ops))

-- ---- the calls of an object's history

-- an operation's call has the operation's number, what it invokes, and its response
pub call_cases : (o : Operation) (c : Call) → call_of o ≡ Some c
    → (c.number ≡ o.number) × (c.op ≡ o.op) × (c.returned ≡ return_of o.«end»)
call_cases o c e = grind arith

-- the numbers of calls rise, as those of the operations do
pub rising_calls : (ops : List Operation) → AllPairs (λ a b. a.number < b.number) ops
    → AllPairs (λ a b. a.number < b.number) (calls_of ops)
rising_calls ops h = all_from_pairs (λ a b. a.number < b.number) (calls_of ops)
    (pairs_filter_map (λ a b. a.number < b.number) (λ a b. a.number < b.number) call_of ops
    (λ x y a b i j l e f. less x.number y.number a.number b.number l (call_cases x a e).0 (call_cases y b f).0)
    (pairs_from_all (λ a b. a.number < b.number) ops h))
  where
    less : (low high low' high' : ℕ) → low < high → low' ≡ low → high' ≡ high → low' < high'
    less low high low' high' l e f = omega arith

-- in an object's history each call that returned did so after it was invoked
pub calls_end : (object : ℕ) (kind : Kind) (ops : List Operation)
    → IsObjectHistory (record { object = object; kind = kind; ops = ops })
    → All (λ e. (r : Return) → e.returned ≡ Some r → e.number < r.at) (calls_of ops)
calls_end object kind ops h =
    all_from_in (λ e. (r : Return) → e.returned ≡ Some r → e.number < r.at) (calls_of ops) (λ c i r q.
    let o = in_filter_map call_of c ops i in
    let k = call_cases o.0 c o.2 in
    subst (λ n. n < r.at) (sym k.0)
    (go o.0.number o.0.«end» r (all_at (λ o. EndsAfter o.number ops o.«end») ops h.ends o.0 o.1) (sym k.2 ∙ q)))
  where
    go : (number : ℕ) (e : End) (r : Return) → EndsAfter number ops e → return_of e ≡ Some r → number < r.at
    go number (Returned at reply) r h q =
        subst (λ (x : Return). number < x.at) (same_Some (record { at = at; reply = reply }) r q) h.0
    go number Pending r h q = absurd (cc q)
    go number Failed r h q = absurd (cc q)

-- what holds of each operation holds of each call
pub all_calls : (P : ℕ → AnyOp → Option Return → Type 0) (ops : List Operation)
    → ((o : Operation) → In o ops → (c : Call) → call_of o ≡ Some c → P o.number o.op (return_of o.«end»))
    → All (λ e. P e.number e.op e.returned) (calls_of ops)
all_calls P ops f = all_from_in (λ e. P e.number e.op e.returned) (calls_of ops) (λ c i.
    let o = in_filter_map call_of c ops i in
    let k = call_cases o.0 c o.2 in
    subst (λ n. P n c.op c.returned) (sym k.0)
    (subst (λ op. P o.0.number op c.returned) (sym k.1) (subst (P o.0.number o.0.op) (sym k.2) (f o.0 o.1 c o.2))))

-- two objects' histories are equal if their objects, kinds and operations are
pub same_history : {a b : ℕ} {k l : Kind} {xs ys : List Operation} → a ≡ b → k ≡ l → xs ≡ ys
    → ◌≡◌ {A = ObjectCalls} (record { object = a; kind = k; ops = xs }) (record { object = b; kind = l; ops = ys })
same_history e f g = λ i. record { object = e i; kind = f i; ops = g i }

-- a part of a part is a part
pub part_of_part : (a b c : ObjectCalls) → IsPart a b → IsPart b c → IsPart a c
part_of_part a b c h k =
    record { object = k.object ∙ h.object; none_failed = k.none_failed; shows = λ none. h.shows (k.shows none) }

-- ---- failed operations

-- a part has no failed operation if none becomes one
pub cut_lives : (cut_operation : Operation → Option Operation) (ops : List Operation)
    → ((o p : Operation) → cut_operation o ≡ Some p → p.«end» ≢ Failed) → NoneFailed (filter_map cut_operation ops)
cut_lives cut_operation ops f =
    all_from_in (λ o. o.«end» ≢ Failed) (filter_map cut_operation ops)
    (λ p i. let o = in_filter_map cut_operation p ops i in f o.0 p o.2)

-- an end that does not count as failed is not `Failed`
pub did_not_fail : (e : End) → has_failed e ≡ false → e ≢ Failed
did_not_fail e h = grind arith
