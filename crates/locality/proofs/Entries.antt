-- A valid order as a list of operations, by recursion; the points and the replies along it. The point of an entry is
-- the greatest number of an invocation up to it: where it may be taken to have had its effect.
use Rattle.std.proofs.Common.{◌≡◌, ◌≢◌, ℕ, ℤ, pos, ◌<◌, ◌≤◌, ◌==◌, max, Bool, true, false, cond, ◌⊎◌, inl, inr, List}
use Rattle.std.proofs.Common.{[], ◌∷◌, ◌++◌, map, Option, Some, None, IsSome, Contains, refl, ap, sym, ◌∙◌, arith}
use Rattle.std.specs.List.{flat_map}
use Rattle.std.proofs.lemmas.Bool.{eqb-true, ne_eqb, eq-eqb, and_from}
use Rattle.model.specs.Specification.{Specification}
use Rattle.model.specs.declared.AnyReply.{AnyReply}
use Rattle.model.specs.Histories.{Event, Inv, Res, IsSequential}
use Rattle.model.specs.Linearizable.{RepliesFrom}
use Rattle.model.specs.Orders.{Return, Call, ProcessCall, ReturnsBefore, RepliesBy, IsValidOrderOf}
use Rattle.model.specs.Lists.{In}
use Rattle.model.proofs.Lists.{Pairs, in_map, in_map_from, pairs_weaker, in_from_contains, all_at}
use Rattle.model.proofs.Lists.{pairs_from_all, pairs_from_map}
use Rattle.locality.proofs.Merge.{one_number}
use Rattle.model.proofs.Orders.{max_either}

-- ---- points and replies along a list

not_below : (a b : ℕ) → (b < a → ⊥) → a ≤ b
not_below a b h = omega arith

-- the number of a call
abbrev pub number_of : ProcessCall → ℕ
number_of e = e.call.number

-- the greatest number up to and with the entry numbered n, where m was the greatest before
abbrev pub point_in : ℕ → List ProcessCall → ℕ → ℕ
point_in greatest [] number = greatest
point_in greatest (entry ∷ entries) number =
    cond (number_of entry == number) (max greatest (number_of entry))
    (point_in (max greatest (number_of entry)) entries number)

abbrev pub calls : List ProcessCall → List Call
calls es = map (λ e. e.call) es

-- the reply that `next` gives at the entry numbered n, along entries that are all possible
abbrev pub give_in : (object : Specification) (content : object.Content) (entries : List ProcessCall)
    → RepliesBy object.next content (calls entries) → ℕ → Option AnyReply
give_in object content [] replies number = None
give_in object content (entry ∷ entries) replies number =
    cond (number_of entry == number) (Some replies.1) (give_in object replies.0 entries replies.4 number)

abbrev Once : List ProcessCall → Type 0
Once es = Pairs (λ a b. number_of a ≢ number_of b) es

-- ---- the first entry, and those after it

-- the entry at the head
point_here : (greatest : ℕ) (entry : ProcessCall) (entries : List ProcessCall)
    → point_in greatest (entry ∷ entries) (number_of entry) ≡ max greatest (number_of entry)
point_here greatest entry entries =
    ap (λ b. cond b (max greatest (number_of entry))
    (point_in (max greatest (number_of entry)) entries (number_of entry)))
    (eq-eqb (number_of entry) (number_of entry) refl)

give_here : (object : Specification) (content : object.Content) (entry : ProcessCall) (entries : List ProcessCall)
    (replies : RepliesBy object.next content (calls (entry ∷ entries)))
    → give_in object content (entry ∷ entries) replies (number_of entry) ≡ Some replies.1
give_here object content entry entries replies =
    ap (λ b. cond b (Some replies.1) (give_in object replies.0 entries replies.4 (number_of entry)))
    (eq-eqb (number_of entry) (number_of entry) refl)

-- an entry after it
point_there : (greatest : ℕ) (entry : ProcessCall) (entries : List ProcessCall) (number : ℕ) → number_of entry ≢ number
    → point_in greatest (entry ∷ entries) number ≡ point_in (max greatest (number_of entry)) entries number
point_there greatest entry entries number other =
    ap (λ b. cond b (max greatest (number_of entry)) (point_in (max greatest (number_of entry)) entries number))
    (ne_eqb (number_of entry) number other)

-- an entry after the head is given what the entries after the head give it
give_there : (object : Specification) (content : object.Content) (entry : ProcessCall) (entries : List ProcessCall)
    (replies : RepliesBy object.next content (calls (entry ∷ entries))) (number : ℕ) → number_of entry ≢ number
    → give_in object content (entry ∷ entries) replies number ≡ give_in object replies.0 entries replies.4 number
give_there object content entry entries replies number other =
    ap (λ b. cond b (Some replies.1) (give_in object replies.0 entries replies.4 number))
    (ne_eqb (number_of entry) number other)

-- ---- how the points rise

-- the point is not below the greatest before
point_above : (greatest : ℕ) (entries : List ProcessCall) (number : ℕ) → greatest ≤ point_in greatest entries number
point_above greatest [] number = omega arith
point_above greatest (entry ∷ entries) number =
    let rest = point_above (max greatest (number_of entry)) entries number in grind (arith, rest)

-- nor below its own invocation
pub point_own : (greatest : ℕ) (entries : List ProcessCall) (entry : ProcessCall) → Once entries → In entry entries
    → number_of entry ≤ point_in greatest entries (number_of entry)
point_own greatest [] entry once i = absurd i
point_own greatest (head ∷ entries) entry once i = elim i [
  | inl q ↦ rw q (let h = point_here greatest head entries in omega arith)
  | inr j ↦
      let h = point_there greatest head entries (number_of entry) (once.0 entry j) in
      let r = point_own (max greatest (number_of head)) entries entry once.1 j in
      omega arith
]

-- the points rise along the entries
pub points_rise : (greatest : ℕ) (entries : List ProcessCall) → Once entries
    → Pairs (λ a b. point_in greatest entries (number_of a) ≤ point_in greatest entries (number_of b)) entries
points_rise greatest [] once = tt
points_rise greatest (entry ∷ entries) once =
    let top : ℕ = max greatest (number_of entry) in
    let rest = points_rise top entries once.1 in (
      λ y i.
          let h = point_here greatest entry entries in
          let t = point_there greatest entry entries (number_of y) (once.0 y i) in
          let a = point_above top entries (number_of y) in
          omega arith,
      pairs_weaker (λ a b. point_in top entries (number_of a) ≤ point_in top entries (number_of b))
          (λ a b. point_in greatest (entry ∷ entries) (number_of a) ≤ point_in greatest (entry ∷ entries) (number_of b))
          entries
          (λ a b i j l.
          let s = point_there greatest entry entries (number_of a) (once.0 a i) in
          let t = point_there greatest entry entries (number_of b) (once.0 b j) in
          omega arith) rest,
    )

-- the point is the greatest before, or the number of an entry
pub point_from : (greatest : ℕ) (entries : List ProcessCall) (entry : ProcessCall) → Once entries → In entry entries
    → (point_in greatest entries (number_of entry) ≡ greatest) ⊎ ((head : ProcessCall) × In head entries
    × (point_in greatest entries (number_of entry) ≡ number_of head))
point_from greatest [] entry once i = absurd i
point_from greatest (head ∷ entries) entry once i =
    let top : (max greatest (number_of head) ≡ greatest) ⊎ (max greatest (number_of head) ≡ number_of head) =
    max_either greatest (number_of head) in
    elim i [
      | inl q ↦
          let h : point_in greatest (head ∷ entries) (number_of entry) ≡ max greatest (number_of head) =
          ap (λ (g : ProcessCall). point_in greatest (head ∷ entries) (number_of g)) q
          ∙ point_here greatest head entries in
          elim top [ inl t ↦ inl (h ∙ t) | inr t ↦ inr (head, inl refl, h ∙ t) ]
      | inr j ↦
          let h = point_there greatest head entries (number_of entry) (once.0 entry j) in
          elim (point_from (max greatest (number_of head)) entries entry once.1 j) [
            | inl p ↦ elim top [ inl t ↦ inl (h ∙ (p ∙ t)) | inr t ↦ inr (head, inl refl, h ∙ (p ∙ t)) ]
            | inr r ↦ inr (r.0, inr r.1, h ∙ r.2)
          ]
    ]

-- the point of an entry that returned is not after its return, where none stands after one that it precedes
pub point_before : (greatest : ℕ) (entries : List ProcessCall) (entry : ProcessCall) (response : Return) → Once entries
    → Pairs (λ a b. ReturnsBefore b.call a.call → ⊥) entries
    → In entry entries → entry.call.returned ≡ Some response → number_of entry ≤ response.at → greatest ≤ response.at
    → point_in greatest entries (number_of entry) ≤ response.at
point_before greatest [] entry response once in_order i back after upto = absurd i
point_before greatest (head ∷ entries) entry response once in_order i back after upto = elim i [
  | inl s ↦
      let h = point_here greatest head entries in
      let t : number_of entry ≡ number_of head = ap number_of s in
      let u : point_in greatest (head ∷ entries) (number_of entry) ≡ point_in greatest (head ∷ entries)
      (number_of head) = ap (point_in greatest (head ∷ entries)) t in
      omega arith
  | inr j ↦
      let low : number_of head ≤ response.at = not_below (number_of head) response.at
      (λ lt. in_order.0 entry j (response, back, lt)) in
      let rest = point_before (max greatest (number_of head)) entries entry response once.1 in_order.1 j back after
      (omega arith) in
      let h = point_there greatest head entries (number_of entry) (once.0 entry j) in
      omega arith
]

-- ---- which replies are given

-- each entry is given a reply
pub give_some : (object : Specification) (content : object.Content) (entries : List ProcessCall)
    (replies : RepliesBy object.next content (calls entries)) (entry : ProcessCall) → Once entries → In entry entries
    → (reply : AnyReply) × (give_in object content entries replies (number_of entry) ≡ Some reply)
give_some object content [] replies entry once i = absurd i
give_some object content (head ∷ entries) replies entry once i = elim i [
  | inl q ↦ (
    replies.1,
    ap (λ (g : ProcessCall). give_in object content (head ∷ entries) replies (number_of g)) q
        ∙ give_here object content head entries replies,
  )
  | inr j ↦
      let rest = give_some object replies.0 entries replies.4 entry once.1 j in
      (rest.0, give_there object content head entries replies (number_of entry) (once.0 entry j) ∙ rest.1)
]

-- what is given a reply is an entry
pub given_entry : (object : Specification) (content : object.Content) (entries : List ProcessCall)
    (replies : RepliesBy object.next content (calls entries)) (number : ℕ) (reply : AnyReply)
    → give_in object content entries replies number ≡ Some reply
    → (entry : ProcessCall) × In entry entries × (number_of entry ≡ number)
given_entry object content [] replies number reply given = absurd cc
given_entry object content (entry ∷ entries) replies number reply given =
    let rest = given_entry object replies.0 entries replies.4 number reply in
    let here : (b : Bool) → (number_of entry == number) ≡ b
    → cond b (Some replies.1) (give_in object replies.0 entries replies.4 number) ≡ Some reply
    → (found : ProcessCall) × In found (entry ∷ entries) × (number_of found ≡ number) =
    elim [
      | true ↦ λ q k. (entry, inl refl, eqb-true (number_of entry) number q)
      | false ↦ λ q k. let found = rest k in (found.0, inr found.1, found.2)
    ] in
    here (number_of entry == number) refl given

-- it is the reply that is recorded
pub give_recorded : (object : Specification) (content : object.Content) (entries : List ProcessCall)
    (replies : RepliesBy object.next content (calls entries)) (entry : ProcessCall) (response : Return) → Once entries
    → In entry entries → entry.call.returned ≡ Some response
    → give_in object content entries replies (number_of entry) ≡ Some response.reply
give_recorded object content [] replies entry response once i back = absurd i
give_recorded object content (head ∷ entries) replies entry response once i back = elim i [
  | inl s ↦
      let same : head.call.returned ≡ Some response = ap (λ (g : ProcessCall). g.call.returned) (sym s) ∙ back in
      let said : response.reply ≡ replies.1 = rw same at replies.3 in
      ap (λ (g : ProcessCall). give_in object content (head ∷ entries) replies (number_of g)) s
      ∙ (give_here object content head entries replies ∙ ap Some (sym said))
  | inr j ↦ give_there object content head entries replies (number_of entry) (once.0 entry j)
      ∙ give_recorded object replies.0 entries replies.4 entry response once.1 j back
]

-- ---- the sequence of the entries

-- an operation with its reply as two events
abbrev pub done : ProcessCall → Option AnyReply → List Event
done e None = []
done e (Some r) = Inv e.process e.object e.call.op ∷ Res e.process e.object r ∷ []

-- the entries with the replies that they are given follow `next`
pub replies_from : (object : Specification) (content : object.Content) (entries : List ProcessCall)
    (replies : RepliesBy object.next content (calls entries)) (give : ProcessCall → Option AnyReply) → Once entries
    → ((entry : ProcessCall) → In entry entries → give entry ≡ give_in object content entries replies (number_of entry))
    → RepliesFrom object content (flat_map (λ entry. done entry (give entry)) entries)
replies_from object content [] replies give once given = tt
replies_from object content (entry ∷ entries) replies give once given =
    let same : give entry ≡ Some replies.1 = given entry (inl refl) ∙ give_here object content entry entries replies in
    let rest = replies_from object replies.0 entries replies.4 give once.1
    (λ y i. given y (inr i) ∙ give_there object content entry entries replies (number_of y) (once.0 y i)) in
    rw same (replies.0, replies.2, rest)

-- any such list is sequential
pub done_sequential : (es : List ProcessCall) (give : ProcessCall → Option AnyReply)
    → IsSequential (flat_map (λ e. done e (give e)) es)
done_sequential [] give = tt
done_sequential (e ∷ es) give =
    let rest = done_sequential es give in
    let here : (r : Option AnyReply) → IsSequential (done e r ++ flat_map (λ y. done y (give y)) es) =
    elim [
      | None ↦ rest
      | Some r ↦ (
        and_from (e.process == e.process) (e.object == e.object) (eq-eqb e.process e.process refl)
            (eq-eqb e.object e.object refl),
        rest,
      )
    ] in
    here (give e)

-- ---- a valid order as a list of operations

-- a valid order, as operations of the history
pub record ValidEntries (object : Specification) (ops es : List ProcessCall) : Type 0 where
  pub among : (e : ProcessCall) → In e es → In e ops
  pub once : Once es
  pub in_order : Pairs (λ a b. ReturnsBefore b.call a.call → ⊥) es
  pub replies : RepliesBy object.next object.empty (calls es)
  pub whole : (e : ProcessCall) (r : Return) → In e ops → e.call.returned ≡ Some r → In e es

-- entries that are calls of operations, as those operations
lifted : (ops : List ProcessCall) (cs : List Call) → ((c : Call) → In c cs → Contains (calls ops) c)
    → (es : List ProcessCall) × (calls es ≡ cs) × ((e : ProcessCall) → In e es → In e ops)
lifted ops [] h = ([], refl, λ e i. absurd i)
lifted ops (c ∷ cs) h =
    let e = in_map (λ (e : ProcessCall). e.call) c ops (in_from_contains (calls ops) c (h c (inl refl))) in
    let rest = lifted ops cs (λ d i. h d (inr i)) in (
      e.0 ∷ rest.0,
      cc (rest.1, e.2),
      λ f i. elim i [
        | inl q ↦ rw q e.1
        | inr j ↦ rest.2 f j
      ],
    )

-- the entries of a valid order, as calls with their processes
pub valid_entries : (object : Specification) (ops : List ProcessCall) (order : List ℤ)
    → Pairs (λ a b. number_of a < number_of b) ops
    → IsValidOrderOf object (calls ops) order → (es : List ProcessCall) × ValidEntries object ops es
valid_entries object ops order up v =
    let l = lifted ops v.entries (all_at (Contains (calls ops)) v.entries v.known) in
    let es : List ProcessCall = l.0 in
    let same : calls es ≡ v.entries = l.1 in
    let numbers : order ≡ map (λ (c : Call). pos c.number) (calls es) =
    v.numbers ∙ ap (map (λ (c : Call). pos c.number)) (sym same) in
    let once_order : Pairs (λ (a b : ℤ). a ≢ b) (map (λ (c : Call). pos c.number) (calls es)) =
    rw numbers at (pairs_from_all (λ (a b : ℤ). a ≢ b) order v.once) in
    let in_order_calls : Pairs (λ (a b : Call). ReturnsBefore b a → ⊥) (calls es) =
    rw same
    (pairs_from_all (λ (a b : Call). ReturnsBefore b a → ⊥) v.entries v.in_order) in (
      es,
      record {
        among = l.2;
        once = pairs_weaker (λ (a b : ProcessCall). pos (number_of a) ≢ pos (number_of b))
            (λ a b. number_of a ≢ number_of b) es (λ a b i j ne q. ne (ap pos q))
            (pairs_from_map (λ (a b : Call). pos a.number ≢ pos b.number) (λ (e : ProcessCall). e.call) es
            (pairs_from_map (λ (a b : ℤ). a ≢ b) (λ (c : Call). pos c.number) (calls es) once_order));
        in_order = pairs_from_map (λ (a b : Call). ReturnsBefore b a → ⊥)
            (λ (e : ProcessCall). e.call) es in_order_calls;
        replies = rw same v.replies;
        whole = λ e r i q.
            let stands : Contains v.entries e.call =
            all_at (λ (c : Call). IsSome c.returned → Contains v.entries c) (calls ops) v.whole e.call
            (in_map_from (λ (e : ProcessCall). e.call) e ops i) (rw q refl) in
            let f = in_map (λ (e : ProcessCall). e.call) e.call es
            (rw same (in_from_contains v.entries e.call stands)) in
            let one : e ≡ f.0 = one_number number_of ops e f.0 up i (l.2 f.0 f.1) (ap (λ (c : Call). c.number) f.2) in
            rw one f.1;
      },
    )
