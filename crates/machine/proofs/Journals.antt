-- A journal with one event more: an invocation, or the return of the call that is outstanding (`journal_called`,
-- `journal_returned`). The other journals stay as they are (`grown`, `ungrown`).
use Rattle.std.proofs.Common.{◌≡◌, ℕ, List, [], ◌∷◌, ◌++◌, Option, Some, None, refl, ap}
use Rattle.std.proofs.Common.{◌<◌, length, map, set, get_or, sym, ◌∙◌, Result, Ok, Err, IfErr, IsErrAnd}
use Rattle.std.specs.declared.vec.Vec.{Vec}
use Rattle.std.proofs.lemmas.List.{map-set, get_or-map, map-append, set-get_or}
use Rattle.std.proofs.Math.ListN as ListN
use Rattle.recorder.specs.Records.{items_of_each}
use Rattle.desk_model.specs.declared.JournalEvent.TheVariants.{Returned}
use Rattle.desk_model.specs.World.{AnyRequest, AnyAnswer, AnyDone, invoked, journal_of}
use Rattle.machine.specs.Machines.{done_in}

pub done_in-journal_of : (ds : List AnyDone) (q : Option AnyRequest) → done_in (journal_of ds q) ≡ ds
done_in-journal_of [] None = refl
done_in-journal_of [] (Some q) = refl
done_in-journal_of (d ∷ ds) q = ap (λ es. d ∷ es) (done_in-journal_of ds q)

pub journal_called : (ds : List AnyDone) (q : AnyRequest)
    → journal_of ds None ++ invoked q ∷ [] ≡ journal_of ds (Some q)
journal_called [] q = refl
journal_called (d ∷ ds) q = ap (λ es. invoked d.request ∷ Returned d.returned d.answer ∷ es) (journal_called ds q)

pub journal_returned : (ds : List AnyDone) (q : AnyRequest) (a : AnyAnswer) (u : ℕ)
    → journal_of ds (Some q) ++ Returned u a ∷ []
    ≡ journal_of (ds ++ record { request = q; answer = a; returned = u } ∷ []) None
journal_returned [] q a u = refl
journal_returned (d ∷ ds) q a u =
    ap (λ es. invoked d.request ∷ Returned d.returned d.answer ∷ es) (journal_returned ds q a u)

-- a list in a list of lists is written
pub items_of-set : {A Z : Type 0} (vs : List (Vec A Z)) (c : ℕ) (v : Vec A Z)
    → items_of_each (set vs c v) ≡ set (items_of_each vs) c v.items
items_of-set vs c v = map-set (λ w. w.items) vs c v

pub items_at : {A Z : Type 0} (vs : List (Vec A Z)) (c : ℕ) (v : Vec A Z) → c < length vs → v ≡ get_or vs c v
    → get_or (items_of_each vs) c [] ≡ v.items
items_at vs c v low read = get_or-map (λ w. w.items) vs c v [] low ∙ ap (λ w. w.items) (sym read)

-- one of the lists grew, or is as it was
pub grown : {A Z : Type 0} (vs : List (Vec A Z)) (c : ℕ) (old new : Vec A Z) (e : A) → c < length vs
    → old ≡ get_or vs c old
    → new.items ≡ old.items ++ e ∷ []
    → items_of_each (set vs c new) ≡ set (items_of_each vs) c (get_or (items_of_each vs) c [] ++ e ∷ [])
grown vs c old new e low read is =
    items_of-set vs c new ∙ ap (set (items_of_each vs) c)
    (is ∙ ap (λ es. es ++ e ∷ []) (sym (items_at vs c old low read)))

-- a journal that has the same events after a write changes nothing
pub ungrown : {A Z : Type 0} (vs : List (Vec A Z)) (c : ℕ) (old new : Vec A Z) → c < length vs → old ≡ get_or vs c old
    → new.items ≡ old.items → items_of_each (set vs c new) ≡ items_of_each vs
ungrown vs c old new low read is =
    items_of-set vs c new ∙ ap (set (items_of_each vs) c) (is ∙ sym (items_at vs c old low read))
    ∙ set-get_or (items_of_each vs) c []

-- the same, with each element seen through f
pub seen_grown : {A B : Type 0} (f : A → B) (xs : List (List A)) (c : ℕ) (e : A)
    → map (map f) (set xs c (get_or xs c [] ++ e ∷ []))
    ≡ set (map (map f) xs) c (get_or (map (map f) xs) c [] ++ f e ∷ [])
seen_grown f xs c e = map-set (map f) xs c (get_or xs c [] ++ e ∷ [])
    ∙ ap (set (map (map f) xs) c)
    (map-append f (get_or xs c []) (e ∷ []) ∙ ap (λ es. es ++ f e ∷ []) (sym (ListN.get_or-map (map f) xs c [])))

pub if_err : {A E P : Type 0} (r : Result A E) (x : E) → IsErrAnd r (λ e. e ≡ x) → P → IfErr r (λ e. (e ≡ x) × P)
if_err (Ok a) x h p = tt
if_err (Err e) x h p = (h, p)
