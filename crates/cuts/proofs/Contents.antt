-- The part contains a shadow of what the whole contains (`IsShadow`). Each operation keeps this, by cases on the kinds:
-- it is done in both, or the part leaves it out.
use Rattle.std.proofs.Common.{rules, ◌≡◌, ◌⊎◌, inl, inr, ℤ, ◌+ℤ◌, ◌≤ℤ◌, int_lt, Bool, true}
use Rattle.std.proofs.Common.{false, not, ◌||◌, cond, List, [], ◌∷◌}
use Rattle.std.proofs.Common.{◌++◌, Option, Some, None, is_some, IfSome, filter, refl, ap, sym, ◌∙◌, subst, arith}
use Rattle.std.proofs.lemmas.Int.{ints}
use Rattle.std.proofs.lemmas.List.Elements.{filter-append}
use Rattle.std.proofs.lemmas.List.{append-nil}
use Rattle.std.specs.Ordering.{int_cmp}
use Rattle.std.specs.FinMap as map
use Rattle.std.specs.FinSet as set
use Rattle.model.specs.declared.Kind.{Kind}
use Rattle.model.specs.declared.AnyOp.{AnyOp}
use Rattle.model.specs.declared.AnyOp.TheVariants.{Enqueue, Dequeue, Push, Pop, Insert, ExtractMin, Write, Read}
use Rattle.model.specs.declared.AnyOp.TheVariants.{Cas, Put, Get, Del, Acquire, Release}
use Rattle.model.specs.declared.AnyOp.TheVariants.{Clear, Create, PutIfAbsent, Replace, Assoc, Dissoc, Add, Remove, Has}
use Rattle.model.specs.declared.AnyOp.TheVariants.{FetchAdd, GetCount, LockBy, UnlockBy}
use Rattle.model.specs.declared.AnyReply.{AnyReply}
use Rattle.model.specs.declared.AnyReply.TheVariants.{Value, Swapped, NotSwapped, Flag}
use Rattle.model.specs.Objects.{Content, queue, stack, heap, register, table, mutex, elements, count, owner, empty}
use Rattle.model.specs.Objects.{with_value, contains_value, next, inserted_if, is_absent, has_value}
use Rattle.model.specs.Lists.{In}
use Rattle.model.proofs.Lists.{Pairs, in_filter}
use Rattle.cuts.specs.Kinds.Keeping.{is_same, fits, fits_removal, fits_read, fits_cas, fits_create, fits_del}
use Rattle.cuts.specs.Kinds.Keeping.{fits_change}
use Rattle.cuts.specs.Parts.{takes_out}
use Rattle.cuts.proofs.Simulation.{Stepped}
use Rattle.cuts.proofs.Tables.{get-insert, get-remove, contains-insert, contains-remove}
use Rattle.cuts.proofs.Steps.{adds, frees}
use Rattle.cuts.proofs.Booleans.{false_is_not_true, true_or_false}
use Rattle.model.proofs.Bags.{with_value-more, with_value-front}

-- what a register contains in the part: the same as in the whole, or anything if the part leaves out that value
abbrev pub IsCellShadow : (ℤ → Bool) → Option ℤ → Option ℤ → Type 0
IsCellShadow keeps None part = part ≡ None
IsCellShadow keeps (Some v) part = keeps v ≡ true → part ≡ Some v

-- no value is less than an earlier one
abbrev pub IsRising : List ℤ → Type 0
IsRising vs = Pairs (λ v w. v ≤ℤ w) vs

-- what the part contains where the whole contains the first
abbrev pub IsShadow : (ℤ → Bool) → Content → Content → Type 0
IsShadow keeps (queue whole) (queue part) = part ≡ filter keeps whole
IsShadow keeps (stack whole) (stack part) = part ≡ filter keeps whole
IsShadow keeps (heap whole) (heap part) = (part ≡ filter keeps whole) × IsRising whole
IsShadow keeps (register whole) (register part) = IsCellShadow keeps whole part
IsShadow keeps (table whole) (table part) = (k : ℤ) → keeps k ≡ true → map.get part k ≡ map.get whole k
IsShadow keeps (mutex whole) (mutex part) = part ≡ whole
IsShadow keeps (elements whole) (elements part) =
    (v : ℤ) → keeps v ≡ true → set.contains part v ≡ set.contains whole v
IsShadow keeps (count whole) (count part) = part ≡ whole
IsShadow keeps (owner whole) (owner part) = part ≡ whole
IsShadow keeps whole part = ⊥

-- the part of an empty object is empty
pub empty_shadow : (keeps : ℤ → Bool) (k : Kind) → IsShadow keeps (empty k) (empty k)
empty_shadow keeps k = search rules

-- ---- how a choice is made

-- the reply, if it is shown
abbrev pub shown : Bool → AnyReply → Option AnyReply
shown true r = Some r
shown false r = None

-- the step in the part that keeps the reply
abbrev Takes : (ℤ → Bool) → AnyOp → AnyReply → Content → Content → Type 0
Takes keeps op reply part after =
    (behind : Content) × (next part op ≡ Some (behind, reply)) × IsShadow keeps after behind

-- The whole does an operation with this reply, and then contains `after`. The part does the operation with the same
-- reply, or leaves it out, and then contains a shadow of `after`. It leaves out an operation that it keeps only if the
-- reply is not told: the call is pending.
abbrev Step : (ℤ → Bool) → AnyOp → Bool → Bool → AnyReply → Content → Content → Type 0
Step keeps op kept told reply part after = Stepped (IsShadow keeps) op kept told reply part after

-- an operation that the part keeps exactly if it keeps its value
by_same : (keeps : ℤ → Bool) (op : AnyOp) (kept told : Bool) (reply : AnyReply) (part after : Content) (own : Bool)
    → is_same kept own ≡ true
    → (own ≡ true → Takes keeps op reply part after) → (own ≡ false → IsShadow keeps after part)
    → Step keeps op kept told reply part after
by_same keeps op true told reply part after true fit take skip = let t = take refl in inr (refl, t.0, t.1, t.2)
by_same keeps op true told reply part after false fit take skip = absurd (false_is_not_true fit)
by_same keeps op false told reply part after true fit take skip = absurd (false_is_not_true fit)
by_same keeps op false told reply part after false fit take skip = inl (inl refl, skip refl)

-- an operation that the part may keep or leave out
by_free : (keeps : ℤ → Bool) (op : AnyOp) (kept told : Bool) (reply : AnyReply) (part after : Content)
    → Takes keeps op reply part after → IsShadow keeps after part → Step keeps op kept told reply part after
by_free keeps op true told reply part after taken skip = inr (refl, taken.0, taken.1, taken.2)
by_free keeps op false told reply part after taken skip = inl (inl refl, skip)

-- a removal, which the part may leave out only if it took no kept value
by_removal : (keeps : ℤ → Bool) (op : AnyOp) (kept told : Bool) (value : ℤ) (part after : Content) (own : Bool)
    → keeps value ≡ own → fits_removal keeps kept (shown told (Value (Some value))) ≡ true
    → (told ≡ false → kept ≡ false → keeps value ≡ false)
    → (own ≡ true → Takes keeps op (Value (Some value)) part after) → (own ≡ false → IsShadow keeps after part)
    → Step keeps op kept told (Value (Some value)) part after
by_removal keeps op kept true value part after own is fit none take skip =
    by_same keeps op kept true (Value (Some value)) part after own (sym (ap (is_same kept) is) ∙ fit) take skip
by_removal keeps op true false value part after true is fit none take skip =
    let t = take refl in inr (refl, t.0, t.1, t.2)
by_removal keeps op true false value part after false is fit none take skip = inl (inr refl, skip refl)
by_removal keeps op false false value part after own is fit none take skip =
    inl (inl refl, skip (sym is ∙ none refl refl))

-- a change that replies whether it took place
by_change : (keeps : ℤ → Bool) (op : AnyOp) (key : ℤ) (kept told took : Bool) (part after : Content)
    → fits_change keeps kept key (shown told (Flag took)) ≡ true
    → (keeps key ≡ true → Takes keeps op (Flag took) part after) → (keeps key ≡ false → IsShadow keeps after part)
    → (took ≡ false → IsShadow keeps after part) → Step keeps op kept told (Flag took) part after
by_change keeps op key kept false took part after fit take skip same =
    by_same keeps op kept false (Flag took) part after (keeps key) fit take skip
by_change keeps op key kept true true part after fit take skip same =
    by_same keeps op kept true (Flag true) part after (keeps key) fit take skip
by_change keeps op key true true false part after fit take skip same =
    let took = take fit in inr (refl, took.0, took.1, took.2)
by_change keeps op key false true false part after fit take skip same = inl (inl refl, same refl)

-- a pending removal that the part leaves out took no value that the part keeps
abbrev pub TookNone : (ℤ → Bool) → AnyOp → Bool → Bool → AnyReply → Type 0
TookNone keeps op told kept reply = told ≡ false → kept ≡ false → takes_out keeps op (Some reply) ≡ false

-- For each operation that the whole can do the part has a step, whether it keeps the operation or not, and whether the
-- reply is told or not, as long as to keep it, or not, fits what is told.
abbrev StepAt : Bool → (ℤ → Bool) → AnyOp → Content → Content → Type 0
StepAt all keeps op whole part =
    (kept told : Bool) → IfSome (next whole op)
    (λ p. fits all keeps kept op (shown told p.1) ≡ true → TookNone keeps op told kept p.1
    → Step keeps op kept told p.1 part p.0)

-- ---- queues, stacks and heaps

-- a kept value in front of others, in the part
pub filter_in : (keeps : ℤ → Bool) (v : ℤ) (vs : List ℤ) → keeps v ≡ true → filter keeps (v ∷ vs) ≡ v ∷ filter keeps vs
filter_in keeps v vs e = grind arith

-- a value that is not kept in front of others, in the part
pub filter_out : (keeps : ℤ → Bool) (v : ℤ) (vs : List ℤ) → keeps v ≡ false → filter keeps (v ∷ vs) ≡ filter keeps vs
filter_out keeps v vs e = ap (λ b. cond b (v ∷ filter keeps vs) (filter keeps vs)) e

-- a kept value after others, in the part
pub after_in : (keeps : ℤ → Bool) (v : ℤ) (vs : List ℤ) → keeps v ≡ true
    → filter keeps vs ++ v ∷ [] ≡ filter keeps (vs ++ v ∷ [])
after_in keeps v vs e = let split = filter-append keeps vs (v ∷ []) in grind arith

-- a value that is not kept after others, in the part
pub after_out : (keeps : ℤ → Bool) (v : ℤ) (vs : List ℤ) → keeps v ≡ false
    → filter keeps vs ≡ filter keeps (vs ++ v ∷ [])
after_out keeps v vs e =
    sym (filter-append keeps vs (v ∷ []) ∙ ap (λ ws. filter keeps vs ++ ws) (filter_out keeps v [] e)
    ∙ append-nil (filter keeps vs))

queue_step : (all : Bool) (keeps : ℤ → Bool) (vs : List ℤ) (op : AnyOp)
    → StepAt all keeps op (queue vs) (queue (filter keeps vs))
queue_step all keeps vs (Enqueue v) kept told =
    λ fit none. by_same keeps (Enqueue v) kept told (Value (Some v)) (queue (filter keeps vs)) (queue (vs ++ v ∷ []))
    (keeps v) fit
    (λ own. (queue (filter keeps vs ++ v ∷ []), refl, after_in keeps v vs own))
    (λ out. after_out keeps v vs out)
queue_step all keeps [] Dequeue kept told =
    λ fit none. by_free keeps Dequeue kept told (Value None) (queue []) (queue []) (queue [], refl, refl) refl
queue_step all keeps (v ∷ vs) Dequeue kept told =
    λ fit none. by_removal keeps Dequeue kept told v (queue (filter keeps (v ∷ vs))) (queue vs) (keeps v) refl fit none
    (λ own. (queue (filter keeps vs), ap (λ ws. next (queue ws) Dequeue) (filter_in keeps v vs own), refl))
    (λ out. filter_out keeps v vs out)
queue_step all keeps vs op kept told = tt

stack_step : (all : Bool) (keeps : ℤ → Bool) (vs : List ℤ) (op : AnyOp)
    → StepAt all keeps op (stack vs) (stack (filter keeps vs))
stack_step all keeps vs (Push v) kept told =
    λ fit none. by_same keeps (Push v) kept told (Value (Some v)) (stack (filter keeps vs)) (stack (v ∷ vs))
    (keeps v) fit
    (λ own. (stack (v ∷ filter keeps vs), refl, sym (filter_in keeps v vs own)))
    (λ out. sym (filter_out keeps v vs out))
stack_step all keeps [] Pop kept told =
    λ fit none. by_free keeps Pop kept told (Value None) (stack []) (stack []) (stack [], refl, refl) refl
stack_step all keeps (v ∷ vs) Pop kept told =
    λ fit none. by_removal keeps Pop kept told v (stack (filter keeps (v ∷ vs))) (stack vs) (keeps v) refl fit none
    (λ own. (stack (filter keeps vs), ap (λ ws. next (stack ws) Pop) (filter_in keeps v vs own), refl))
    (λ out. filter_out keeps v vs out)
stack_step all keeps vs op kept told = tt

not_lt_from_le : (u v w : ℤ) → int_lt w v ≡ false → w ≤ℤ u → int_lt u v ≡ false
not_lt_from_le u v w e le = grind (arith, ints)

-- a value that is below none goes in front
with_value-least : (v : ℤ) (ws : List ℤ) → ((w : ℤ) → In w ws → int_lt w v ≡ false) → with_value v ws ≡ v ∷ ws
with_value-least v [] h = refl
with_value-least v (w ∷ ws) h = with_value-front v w ws (h w (inl refl))

in_with_value : (v : ℤ) (ws : List ℤ) (x : ℤ) → In x (with_value v ws) → (x ≡ v) ⊎ In x ws
in_with_value v [] x i = i
in_with_value v (w ∷ ws) x i = grind (arith, with_value-more, with_value-front, in_with_value v ws x)

-- a rising list with one more value in its place rises
pub rising_with_value : (v : ℤ) (ws : List ℤ) → IsRising ws → IsRising (with_value v ws)
rising_with_value v [] h = (λ y i. absurd i, tt)
rising_with_value v (w ∷ ws) h = elim (true_or_false (int_lt w v)) [
  | inl low ↦ subst IsRising (sym (with_value-more v w ws low)) (
    λ y i.
        let among = in_with_value v ws y i in
        let later = h.0 y in
        grind (arith, ints),
    rising_with_value v ws h.1,
  )
  | inr high ↦ subst IsRising (sym (with_value-front v w ws high))
      (λ y i. let later = h.0 y in grind (arith, ints), h)
]

-- a kept value that is put among rising ones, in the part
pub with_value_in : (keeps : ℤ → Bool) (v : ℤ) (ws : List ℤ) → IsRising ws → keeps v ≡ true
    → with_value v (filter keeps ws) ≡ filter keeps (with_value v ws)
with_value_in keeps v [] h k = sym (filter_in keeps v [] k)
with_value_in keeps v (w ∷ ws) h k = elim (true_or_false (int_lt w v)) [
  | inl low ↦
      let rest = with_value_in keeps v ws h.1 k in
      grind (arith, with_value-more)
  | inr high ↦
      let least : (x : ℤ) → In x (filter keeps (w ∷ ws)) → int_lt x v ≡ false =
      λ x i. elim (in_filter keeps x (w ∷ ws) i) [
        | inl e ↦ subst (λ z. int_lt z v ≡ false) (sym e) high
        | inr j ↦ not_lt_from_le x v w high (h.0 x j)
      ] in
      with_value-least v (filter keeps (w ∷ ws)) least ∙ sym (filter_in keeps v (w ∷ ws) k)
      ∙ ap (filter keeps) (sym (with_value-front v w ws high))
]

-- a value that is not kept and is put among others, in the part
pub with_value_out : (keeps : ℤ → Bool) (v : ℤ) (ws : List ℤ) → keeps v ≡ false
    → filter keeps ws ≡ filter keeps (with_value v ws)
with_value_out keeps v [] k = grind arith
with_value_out keeps v (w ∷ ws) k =
    let rest = with_value_out keeps v ws k in
    grind (arith, with_value-more, with_value-front)

heap_step : (all : Bool) (keeps : ℤ → Bool) (vs : List ℤ) (op : AnyOp) → IsRising vs
    → StepAt all keeps op (heap vs) (heap (filter keeps vs))
heap_step all keeps vs (Insert v) rising kept told =
    λ fit none. by_same keeps (Insert v) kept told (Value (Some v)) (heap (filter keeps vs)) (heap (with_value v vs))
    (keeps v) fit
    (λ own. (
      heap (with_value v (filter keeps vs)),
      refl,
      (with_value_in keeps v vs rising own, rising_with_value v vs rising),
    ))
    (λ out. (with_value_out keeps v vs out, rising_with_value v vs rising))
heap_step all keeps [] ExtractMin rising kept told =
    λ fit none. by_free keeps ExtractMin kept told (Value None) (heap []) (heap [])
    (heap [], refl, (refl, tt)) (refl, tt)
heap_step all keeps (v ∷ vs) ExtractMin rising kept told =
    λ fit none. by_removal keeps ExtractMin kept told v (heap (filter keeps (v ∷ vs))) (heap vs) (keeps v) refl fit none
    (λ own. (heap (filter keeps vs), ap (λ ws. next (heap ws) ExtractMin) (filter_in keeps v vs own), (refl, rising.1)))
    (λ out. (filter_out keeps v vs out, rising.1))
heap_step all keeps vs op rising kept told = tt

-- ---- registers

same_cell : (keeps : ℤ → Bool) → ((v : ℤ) → keeps v ≡ true) → (whole part : Option ℤ) → IsCellShadow keeps whole part
    → part ≡ whole
same_cell keeps every whole part shadow = grind arith

same_expected : (keeps : ℤ → Bool) (old : ℤ) (whole part : Option ℤ) → contains_value whole old ≡ true
    → keeps old ≡ true → IsCellShadow keeps whole part → part ≡ whole
same_expected keeps old whole part has own shadow = grind (arith, ints)

-- a value that the part leaves out says nothing about the part's content
any_cell : (keeps : ℤ → Bool) (value : ℤ) (part : Option ℤ) → not (keeps value) ≡ true
    → IsCellShadow keeps (Some value) part
any_cell keeps value part out = λ own. absurd (false_is_not_true (sym (ap not own) ∙ out))

read_step : (keeps : ℤ → Bool) (whole part : Option ℤ) (kept told : Bool) → IsCellShadow keeps whole part
    → fits_read keeps kept (shown told (Value whole)) ≡ true
    → Step keeps Read kept told (Value whole) (register part) (register whole)
read_step keeps whole part false told shadow fit = inl (inl refl, shadow)
read_step keeps whole part true false shadow fit = inl (inr refl, shadow)
read_step keeps None part true true shadow fit =
    inr (refl, register part, ap (λ (z : Option ℤ). Some (register part, Value z)) shadow, shadow)
read_step keeps (Some value) part true true shadow fit =
    inr (refl, register part, ap (λ (z : Option ℤ). Some (register part, Value z)) (shadow fit), shadow)

-- a compare-and-set that swapped
swap_step : (all : Bool) (keeps : ℤ → Bool) (whole part : Option ℤ) (old new : ℤ) (kept told : Bool)
    → IsCellShadow keeps whole part → contains_value whole old ≡ true
    → fits_cas all keeps kept old new (shown told (Swapped old new)) ≡ true
    → Step keeps (Cas old new) kept told (Swapped old new) (register part) (register (Some new))
swap_step all keeps whole part old new kept told shadow has fit = go kept told (keeps old) refl fit
  where
    take : keeps old ≡ true → Takes keeps (Cas old new) (Swapped old new) (register part) (register (Some new))
    take own = (
      register (Some new),
      ap (λ (z : Option ℤ). next (register z) (Cas old new)) (same_expected keeps old whole part has own shadow)
          ∙ ap (λ t. cond t (Some (register (Some new), Swapped old new)) (Some (register whole, NotSwapped))) has,
      λ is. refl,
    )

    go : (kept told own : Bool) → keeps old ≡ own
        → fits_cas all keeps kept old new (shown told (Swapped old new)) ≡ true
        → Step keeps (Cas old new) kept told (Swapped old new) (register part) (register (Some new))
    go false true own is fit = inl (inl refl, any_cell keeps new part fit)
    go false false own is fit = inl (inl refl, any_cell keeps new part fit)
    go true true own is fit = let t = take fit in inr (refl, t.0, t.1, t.2)
    go true false true is fit = let t = take is in inr (refl, t.0, t.1, t.2)
    go true false false is fit = inl (inr refl, any_cell keeps new part (sym (ap (λ t. t || not (keeps new)) is) ∙ fit))

-- a compare-and-set that did not swap
fail_step : (all : Bool) (keeps : ℤ → Bool) → (all ≡ true → (v : ℤ) → keeps v ≡ true)
    → (whole part : Option ℤ) (old new : ℤ) (kept told : Bool)
    → IsCellShadow keeps whole part → contains_value whole old ≡ false
    → fits_cas all keeps kept old new (shown told NotSwapped) ≡ true
    → Step keeps (Cas old new) kept told NotSwapped (register part) (register whole)
fail_step all keeps every whole part old new false told shadow differs fit = inl (inl refl, shadow)
fail_step all keeps every whole part old new true false shadow differs fit = inl (inr refl, shadow)
fail_step all keeps every whole part old new true true shadow differs fit =
    let same = same_cell keeps (every fit) whole part shadow in
    inr (
      refl,
      register whole,
      ap (λ (z : Option ℤ). next (register z) (Cas old new)) same
          ∙ ap (λ t. cond t (Some (register (Some new), Swapped old new)) (Some (register whole, NotSwapped))) differs,
      own whole shadow,
    )
  where
    own : (whole : Option ℤ) → IsCellShadow keeps whole part → IsCellShadow keeps whole whole
    own None shadow = refl
    own (Some v) shadow = λ k. refl

-- a creation in an empty register
create_step : (all : Bool) (keeps : ℤ → Bool) (part : Option ℤ) (value : ℤ) (kept told : Bool)
    → IsCellShadow keeps None part → fits_create all keeps kept value (shown told (Flag true)) ≡ true
    → Step keeps (Create value) kept told (Flag true) (register part) (register (Some value))
create_step all keeps part value true told shadow fit =
    inr (refl, register (Some value), ap (λ (z : Option ℤ). next (register z) (Create value)) shadow, λ e. refl)
create_step all keeps part value false true shadow fit = inl (inl refl, any_cell keeps value part fit)
create_step all keeps part value false false shadow fit = inl (inl refl, any_cell keeps value part fit)

-- a creation in a register that contains a value
found_step : (all : Bool) (keeps : ℤ → Bool) → (all ≡ true → (value : ℤ) → keeps value ≡ true)
    → (had : ℤ) (part : Option ℤ) (value : ℤ) (kept told : Bool)
    → IsCellShadow keeps (Some had) part → fits_create all keeps kept value (shown told (Flag false)) ≡ true
    → Step keeps (Create value) kept told (Flag false) (register part) (register (Some had))
found_step all keeps every had part value false told shadow fit = inl (inl refl, shadow)
found_step all keeps every had part value true false shadow fit = inl (inr refl, shadow)
found_step all keeps every had part value true true shadow fit =
    let same = same_cell keeps (every fit) (Some had) part shadow in
    inr (refl, register (Some had), ap (λ (z : Option ℤ). next (register z) (Create value)) same, λ e. refl)

register_step : (all : Bool) (keeps : ℤ → Bool) → (all ≡ true → (value : ℤ) → keeps value ≡ true)
    → (whole part : Option ℤ) (op : AnyOp) → IsCellShadow keeps whole part
    → StepAt all keeps op (register whole) (register part)
register_step all keeps every whole part (Write value) shadow true told =
    λ fit none. inr (refl, register (Some value), refl, λ k. refl)
register_step all keeps every whole part (Write value) shadow false told =
    λ fit none. inl (inl refl, any_cell keeps value part fit)
register_step all keeps every whole part Read shadow kept told =
    λ fit none. read_step keeps whole part kept told shadow fit
register_step all keeps every whole part (Cas old new) shadow kept told = go (contains_value whole old) refl
  where
    go : (t : Bool) → contains_value whole old ≡ t
        → IfSome {T = Content × AnyReply}
        (cond t (Some (register (Some new), Swapped old new)) (Some (register whole, NotSwapped)))
        (λ p. fits all keeps kept (Cas old new) (shown told p.1) ≡ true → TookNone keeps (Cas old new) told kept p.1
        → Step keeps (Cas old new) kept told p.1 (register part) p.0)
    go true has = λ fit none. swap_step all keeps whole part old new kept told shadow has fit
    go false has = λ fit none. fail_step all keeps every whole part old new kept told shadow has fit
register_step all keeps every whole part Clear shadow true told = λ fit none. inr (refl, register None, refl, refl)
register_step all keeps every whole part Clear shadow false told = λ fit none. absurd (false_is_not_true fit)
register_step all keeps every None part (Create value) shadow kept told =
    λ fit none. create_step all keeps part value kept told shadow fit
register_step all keeps every (Some had) part (Create value) shadow kept told =
    λ fit none. found_step all keeps every had part value kept told shadow fit
register_step all keeps every whole part op shadow kept told = tt

-- ---- maps

abbrev IsTableShadow : (ℤ → Bool) → map.FinMap int_cmp ℤ → map.FinMap int_cmp ℤ → Type 0
IsTableShadow keeps whole part = (k : ℤ) → keeps k ≡ true → map.get part k ≡ map.get whole k

-- The part has what the whole has at each key that it keeps, and an operation names this key.
module _ (keeps : ℤ → Bool) (whole part : map.FinMap int_cmp ℤ) (key : ℤ)
    (shadow : IsTableShadow keeps whole part) where
  put_shadow : (value : ℤ) → IsTableShadow keeps (map.insert whole key value) (map.insert part key value)
  put_shadow value q a = let same = shadow q a in grind (arith, ints, get-insert)

  put_other : (value : ℤ) → keeps key ≡ false → IsTableShadow keeps (map.insert whole key value) part
  put_other value out q a = let same = shadow q a in grind (arith, ints, get-insert)

  del_shadow : IsTableShadow keeps (map.remove whole key) (map.remove part key)
  del_shadow q a = let same = shadow q a in grind (arith, ints, get-remove)

  del_other : keeps key ≡ false → IsTableShadow keeps (map.remove whole key) part
  del_other out q a = let same = shadow q a in grind (arith, ints, get-remove)

  del_nothing : map.get whole key ≡ None → IsTableShadow keeps (map.remove whole key) part
  del_nothing absent q a = let same = shadow q a in grind (arith, ints, get-remove)

  del_step : (kept told : Bool) (found : Option ℤ) → map.get whole key ≡ found
      → fits_del keeps kept key (shown told (Value found)) ≡ true
      → Step keeps (Del key) kept told (Value found) (table part) (table (map.remove whole key))
  del_step kept told found had fit = go kept told found had fit
    where
      take : (found : Option ℤ) → map.get whole key ≡ found → keeps key ≡ true
          → Takes keeps (Del key) (Value found) (table part) (table (map.remove whole key))
      take found had own = (
        table (map.remove part key),
        ap (λ (z : Option ℤ). Some (table (map.remove part key), Value z)) (shadow key own ∙ had),
        del_shadow,
      )

      either : (kept told : Bool) (found : Option ℤ) → map.get whole key ≡ found → is_same kept (keeps key) ≡ true
          → Step keeps (Del key) kept told (Value found) (table part) (table (map.remove whole key))
      either kept told found had fit =
          by_same keeps (Del key) kept told (Value found) (table part) (table (map.remove whole key)) (keeps key) fit
          (λ own. take found had own) (λ out. del_other out)

      go : (kept told : Bool) (found : Option ℤ) → map.get whole key ≡ found
          → fits_del keeps kept key (shown told (Value found)) ≡ true
          → Step keeps (Del key) kept told (Value found) (table part) (table (map.remove whole key))
      go kept false found had fit = either kept false found had fit
      go kept true (Some v) had fit = either kept true (Some v) had fit
      go true true None had fit = let t = take None had fit in inr (refl, t.0, t.1, t.2)
      go false true None had fit = inl (inl refl, del_nothing had)

  if_shadow : (value : ℤ) (took : Bool)
      → IsTableShadow keeps (inserted_if took whole key value) (inserted_if took part key value)
  if_shadow value true = put_shadow value
  if_shadow value false = shadow

  if_other : (value : ℤ) (took : Bool) → keeps key ≡ false
      → IsTableShadow keeps (inserted_if took whole key value) part
  if_other value true out = put_other value out
  if_other value false out = shadow

  if_not : (value : ℤ) (took : Bool) → took ≡ false → IsTableShadow keeps (inserted_if took whole key value) part
  if_not value true e = absurd (false_is_not_true (sym e))
  if_not value false e = shadow

  -- a put that takes place only where the table passes a test, which is the same where the key is kept
  if_step : (op : AnyOp) (value : ℤ) (test : map.FinMap int_cmp ℤ → Bool)
      → next (table part) op ≡ Some (table (inserted_if (test part) part key value), Flag (test part))
      → (keeps key ≡ true → test part ≡ test whole) → (kept told : Bool)
      → fits_change keeps kept key (shown told (Flag (test whole))) ≡ true
      → Step keeps op kept told (Flag (test whole)) (table part) (table (inserted_if (test whole) whole key value))
  if_step op value test does same kept told fit =
      by_change keeps op key kept told (test whole) (table part) (table (inserted_if (test whole) whole key value)) fit
      (λ own. (
        table (inserted_if (test whole) part key value),
        does ∙ ap (λ (t : Bool). Some (table (inserted_if t part key value), Flag t)) (same own),
        if_shadow value (test whole),
      ))
      (if_other value (test whole)) (if_not value (test whole))

table_step : (all : Bool) (keeps : ℤ → Bool) (whole part : map.FinMap int_cmp ℤ) (op : AnyOp)
    → IsTableShadow keeps whole part → StepAt all keeps op (table whole) (table part)
table_step all keeps whole part (Put key value) shadow kept told =
    λ fit none. by_same keeps (Put key value) kept told (Value (map.get whole key)) (table part)
    (table (map.insert whole key value)) (keeps key) fit
    (λ own. (
      table (map.insert part key value),
      ap (λ (z : Option ℤ). Some (table (map.insert part key value), Value z)) (shadow key own),
      put_shadow keeps whole part key shadow value,
    )) (λ out. put_other keeps whole part key shadow value out)
table_step all keeps whole part (Get key) shadow true told =
    λ fit none. inr (refl, table part, ap (λ (z : Option ℤ). Some (table part, Value z)) (shadow key fit), shadow)
table_step all keeps whole part (Get key) shadow false told = λ fit none. inl (inl refl, shadow)
table_step all keeps whole part (Del key) shadow kept told =
    λ fit none. del_step keeps whole part key shadow kept told (map.get whole key) refl fit
table_step all keeps whole part (PutIfAbsent key value) shadow kept told =
    λ fit none. if_step keeps whole part key shadow (PutIfAbsent key value) value (λ x. is_absent x key) refl
    (λ own. ap (λ (z : Option ℤ). not (is_some z)) (shadow key own)) kept told fit
table_step all keeps whole part (Replace key old new) shadow kept told =
    λ fit none. if_step keeps whole part key shadow (Replace key old new) new (λ x. has_value x key old) refl
    (λ own. ap (λ (z : Option ℤ). contains_value z old) (shadow key own)) kept told fit
table_step all keeps whole part (Assoc key value) shadow kept told =
    λ fit none. by_same keeps (Assoc key value) kept told (Value None) (table part)
    (table (map.insert whole key value)) (keeps key) fit
    (λ own. (table (map.insert part key value), refl, put_shadow keeps whole part key shadow value))
    (λ out. put_other keeps whole part key shadow value out)
table_step all keeps whole part (Dissoc key) shadow kept told =
    λ fit none. by_same keeps (Dissoc key) kept told (Value None) (table part) (table (map.remove whole key))
    (keeps key) fit
    (λ own. (table (map.remove part key), refl, del_shadow keeps whole part key shadow))
    (λ out. del_other keeps whole part key shadow out)
table_step all keeps whole part op shadow kept told = tt

-- ---- mutexes

mutex_step : (all : Bool) (keeps : ℤ → Bool) (held : Bool) (op : AnyOp) → StepAt all keeps op (mutex held) (mutex held)
mutex_step all keeps false Acquire kept told = λ fit none. inr (fit, mutex true, refl, refl)
mutex_step all keeps true Release kept told = λ fit none. inr (fit, mutex false, refl, refl)
mutex_step all keeps held op kept told = tt

-- ---- sets

abbrev IsSetShadow : (ℤ → Bool) → set.FinSet int_cmp → set.FinSet int_cmp → Type 0
IsSetShadow keeps whole part = (v : ℤ) → keeps v ≡ true → set.contains part v ≡ set.contains whole v

elements_step : (all : Bool) (keeps : ℤ → Bool) (whole part : set.FinSet int_cmp) (op : AnyOp)
    → IsSetShadow keeps whole part → StepAt all keeps op (elements whole) (elements part)
elements_step all keeps whole part (Add v) shadow kept told =
    λ fit none. by_change keeps (Add v) v kept told (not (set.contains whole v)) (elements part)
    (elements (set.insert whole v)) fit
    (λ own. (
      elements (set.insert part v),
      ap (λ (z : Bool). Some (elements (set.insert part v), Flag (not z))) (shadow v own),
      λ q k. let same = shadow q k in grind (arith, ints, contains-insert),
    ))
    (λ out q k. let same = shadow q k in grind (arith, ints, contains-insert))
    (λ not_took q k. let same = shadow q k in grind (arith, ints, contains-insert))
elements_step all keeps whole part (Remove v) shadow kept told =
    λ fit none. by_change keeps (Remove v) v kept told (set.contains whole v) (elements part)
    (elements (set.remove whole v)) fit
    (λ own. (
      elements (set.remove part v),
      ap (λ (z : Bool). Some (elements (set.remove part v), Flag z)) (shadow v own),
      λ q k. let same = shadow q k in grind (arith, ints, contains-remove),
    ))
    (λ out q k. let same = shadow q k in grind (arith, ints, contains-remove))
    (λ not_took q k. let same = shadow q k in grind (arith, ints, contains-remove))
elements_step all keeps whole part (Has v) shadow true told =
    λ fit none. inr (refl, elements part, ap (λ (z : Bool). Some (elements part, Flag z)) (shadow v fit), shadow)
elements_step all keeps whole part (Has v) shadow false told = λ fit none. inl (inl refl, shadow)
elements_step all keeps whole part op shadow kept told = tt

-- ---- counters and locks

-- what `StepAt` says of one choice: what the operation leaves and its reply are p
abbrev Fits : Bool → (ℤ → Bool) → Bool → Bool → AnyOp → Content → Content × AnyReply → Type 0
Fits all keeps kept told op part p =
    fits all keeps kept op (shown told p.1) ≡ true → TookNone keeps op told kept p.1
    → Step keeps op kept told p.1 part p.0

count_step : (all : Bool) (keeps : ℤ → Bool) (c : ℤ) (op : AnyOp) → StepAt all keeps op (count c) (count c)
count_step all keeps c (FetchAdd n) kept told =
    adds (Fits all keeps kept told (FetchAdd n) (count c)) c n
    (λ does fit none. inr (fit, count (c +ℤ n), does, refl))
count_step all keeps c GetCount kept told =
    λ fit none. by_free keeps GetCount kept told (Value (Some c)) (count c) (count c) (count c, refl, refl) refl
count_step all keeps c op kept told = tt

lock_step : (all : Bool) (keeps : ℤ → Bool) (x : Option ℤ) (op : AnyOp) → StepAt all keeps op (owner x) (owner x)
lock_step all keeps None (LockBy o) kept told = λ fit none. inr (fit, owner (Some o), refl, refl)
lock_step all keeps (Some p) (UnlockBy o) kept told =
    frees (Fits all keeps kept told (UnlockBy o) (owner (Some p))) p o
    (λ does fit none. inr (fit, owner None, does, refl))
lock_step all keeps x op kept told = tt

-- ---- any content

-- a step of the whole, and what the part does then, whatever the object contains
pub step_at : (all : Bool) (keeps : ℤ → Bool) → (all ≡ true → (v : ℤ) → keeps v ≡ true) → (whole part : Content)
    (op : AnyOp) → IsShadow keeps whole part → StepAt all keeps op whole part
step_at all keeps every (queue whole) (queue part) op shadow =
    subst (λ (z : List ℤ). StepAt all keeps op (queue whole) (queue z)) (sym shadow) (queue_step all keeps whole op)
step_at all keeps every (stack whole) (stack part) op shadow =
    subst (λ (z : List ℤ). StepAt all keeps op (stack whole) (stack z)) (sym shadow) (stack_step all keeps whole op)
step_at all keeps every (heap whole) (heap part) op shadow =
    subst (λ (z : List ℤ). StepAt all keeps op (heap whole) (heap z)) (sym shadow.0)
    (heap_step all keeps whole op shadow.1)
step_at all keeps every (register whole) (register part) op shadow = register_step all keeps every whole part op shadow
step_at all keeps every (table whole) (table part) op shadow = table_step all keeps whole part op shadow
step_at all keeps every (mutex whole) (mutex part) op shadow =
    subst (λ (z : Bool). StepAt all keeps op (mutex whole) (mutex z)) (sym shadow) (mutex_step all keeps whole op)
step_at all keeps every (elements whole) (elements part) op shadow = elements_step all keeps whole part op shadow
step_at all keeps every (count whole) (count part) op shadow =
    subst (λ (z : ℤ). StepAt all keeps op (count whole) (count z)) (sym shadow) (count_step all keeps whole op)
step_at all keeps every (owner whole) (owner part) op shadow =
    subst (λ (z : Option ℤ). StepAt all keeps op (owner whole) (owner z)) (sym shadow) (lock_step all keeps whole op)
step_at all keeps every whole part op shadow = absurd shadow
