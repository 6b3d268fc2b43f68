-- The forms that are maps on some objects: they have no fault where all forms have none, and their events
-- are those on these objects, renumbered. Their maps of clients are a part of all (`Fewer`).
use Rattle.std.proofs.Common.{arith, ◌≡◌, ℕ, Bool, true, false, List, [], ◌∷◌, ◌++◌, Option, Some, None, refl}
use Rattle.std.proofs.Common.{append_assoc}
use Rattle.std.specs.Option.{option_map_or}
use Rattle.std.specs.List.{cons_option}
use Rattle.std.proofs.lemmas.List.{append-nil}
use Rattle.std.proofs.lemmas.List.Elements.{filter_map-append}
use Rattle.model.specs.Lists.{In}
use Rattle.model.proofs.Lists.{in_filter_passes, in_middle}
use Rattle.edn_reader.specs.Datum.{Datum}
use Rattle.history.specs.Maps.{ClientMap, client_of, clients}
use Rattle.history.specs.Faults.{IsFaultlessAtAnyLength}
use Rattle.history.proofs.Noting.{clients_push, clients_skip}
use Rattle.history.proofs.OneMore.{fault_of, is_fault}
use Rattle.shards.specs.Forms.{is_on, forms_on}
use Rattle.shards.proofs.FewerMaps.{on, IsFine, AreFine, are_fine_on, nothing_outstanding}

-- ---- the maps of clients among them

pub clients_on : (has : ℕ → Bool) (ds : List Datum) → clients (forms_on has ds) ≡ on has (clients ds)
clients_on has [] = refl
clients_on has (d ∷ ds) = grind (arith, clients_on has ds)

-- ---- faults

-- the maps of forms without a fault, after forms
maps_fine : (before ds : List Datum) → IsFaultlessAtAnyLength (before ++ ds) → AreFine (clients before) (clients ds)
maps_fine before [] h = tt
maps_fine before (d ∷ ds) h =
    go (client_of d) refl
    (maps_fine (before ++ d ∷ []) ds (rw (append_assoc before (d ∷ []) ds) h))
  where
    go : (o : Option ClientMap) → client_of d ≡ o → AreFine (clients (before ++ d ∷ [])) (clients ds)
        → AreFine (clients before) (cons_option (client_of d) (clients ds))
    go None q rest = rw q (rw (clients_skip before d q) at rest)
    go (Some m) q rest = rw q (
      λ kind f. h before ds d kind refl (is_fault before d m kind q f),
      rw (clients_push before d m q) at rest,
    )

fine_at : (earlier xs ys : List ClientMap) (m : ClientMap) → AreFine earlier (xs ++ m ∷ ys) → IsFine (earlier ++ xs) m
fine_at earlier [] ys m h = rw (append-nil earlier) h.0
fine_at earlier (x ∷ xs) ys m h = rw (← append_assoc earlier (x ∷ []) xs) (fine_at (earlier ++ x ∷ []) xs ys m h.1)

-- a form that was kept is the map of a client
pub client_on : (has : ℕ → Bool) (d : Datum) → is_on has d ≡ true → (m : ClientMap) × (client_of d ≡ Some m)
client_on has d h = go (client_of d) refl h
  where
    go : (o : Option ClientMap) → client_of d ≡ o → option_map_or (λ m. has m.object) o false ≡ true
        → (m : ClientMap) × (client_of d ≡ Some m)
    go None q k = absurd cc
    go (Some m) q k = (m, q)

-- forms that are maps of clients have no fault where these maps have none
pub faultless_from : (ds : List Datum) → ((d : Datum) → In d ds → (m : ClientMap) × (client_of d ≡ Some m))
    → AreFine [] (clients ds) → IsFaultlessAtAnyLength ds
faultless_from ds each all earlier later d kind is fault =
    let client = each d (rw is (in_middle d earlier later)) in
    fine_at [] (clients earlier) (clients later) client.0
    (rw (is, filter_map-append client_of earlier (d ∷ later), client.1) at all) kind
    (fault_of earlier d client.0 kind client.1 fault)

pub fine_on_objects : (has : ℕ → Bool) (ds : List Datum) → IsFaultlessAtAnyLength ds → AreFine [] (on has (clients ds))
fine_on_objects has ds h = are_fine_on has [] (clients ds) (nothing_outstanding has) (maps_fine [] ds h)

pub faultless_on : (has : ℕ → Bool) (ds : List Datum) → IsFaultlessAtAnyLength ds
    → IsFaultlessAtAnyLength (forms_on has ds)
faultless_on has ds h = faultless_from (forms_on has ds)
    (λ d i. client_on has d (in_filter_passes (is_on has) d ds i))
    (rw (clients_on has ds) (fine_on_objects has ds h))
