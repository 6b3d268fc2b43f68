-- Each client gets its own place in every publication list: places are dealt out list by list (`walkers_left`), and a
-- try at one changes no row and no roster (`same_rosters`). By what one step changes at one position.
use Rattle.std.proofs.Common.{◌≡◌, ℕ, zero, suc, ◌+◌, ◌<◌, List, [], ◌∷◌, ◌++◌, length, length-append, map}
use Rattle.std.proofs.Common.{replicate, get_or, set, remove, refl, sym, ap, subst, ◌∙◌, arith}
use mathlib.Core.Option.{some, some-injective, some-ne-none}
use lib.ListN.{get_elem?, length-map}
use Rattle.std.specs.declared.vec.Vec.{Vec}
use Rattle.std.proofs.lemmas.List.{map-append}
use Rattle.atomic_table.specs.Seated.{TableId}
use Rattle.atomic_table.proofs.Lists.{at_map}
use Rattle.model.specs.declared.Kind.{Kind}
use Rattle.publication_list.specs.declared.list_table.Enlist.{Enlist}
use Rattle.publication_list.specs.Calls.{PlaceSeen, WalkerSeen}
use Rattle.publication_list.specs.Dealing.{AreGrown, HaveRoom}
use Rattle.publication.specs.Handles.{DeskId, trying, fresh_places, ArePlacesOf}
use Rattle.publication.specs.Making.{HasPlaces, AreDealt, rosters_of}
use Rattle.publication.proofs.Growing.{there}
use Rattle.desk_model.specs.Limits.{max_objects}

abbrev rows : List PlaceSeen → List ℕ
rows ps = map (λ (p : PlaceSeen). p.row) ps

abbrev rosters : List PlaceSeen → List TableId
rosters ps = map (λ (p : PlaceSeen). p.roster) ps

-- one try more at the place i
pub tried : (places : List PlaceSeen) (i : ℕ) (old new : PlaceSeen) (outcome : Enlist) → i < length places
    → old ≡ get_or places i old → new ≡ record old { tries = old.tries ++ outcome ∷ [] }
    → set places i new ≡ trying i outcome places
tried [] i old new outcome low is more = absurd (omega arith)
tried (x ∷ xs) zero old new outcome low is more =
    ap (λ z. z ∷ xs) (more ∙ ap (λ (z : PlaceSeen). record z { tries = z.tries ++ outcome ∷ [] }) is)
tried (x ∷ xs) (suc i) old new outcome low is more = ap (λ z. x ∷ z) (tried xs i old new outcome (omega arith) is more)

-- it changes neither rows nor rosters
same_map : {A : Type 0} (f : PlaceSeen → A) → ((p : PlaceSeen) (ts : List Enlist) → f (record p { tries = ts }) ≡ f p)
    → (i : ℕ) (outcome : Enlist) (places : List PlaceSeen) → map f (trying i outcome places) ≡ map f places
same_map f same zero outcome [] = refl
same_map f same (suc i) outcome [] = refl
same_map f same zero outcome (p ∷ places) = ap (λ z. z ∷ map f places) (same p (p.tries ++ outcome ∷ []))
same_map f same (suc i) outcome (p ∷ places) = ap (λ z. f p ∷ z) (same_map f same i outcome places)

-- a try changes no roster of a client's places
pub same_rosters : (i : ℕ) (outcome : Enlist) (places : List PlaceSeen)
    → rosters (trying i outcome places) ≡ rosters places
same_rosters i outcome places = same_map (λ p. p.roster) (λ p ts. refl) i outcome places

-- a client's places stay its own after a try
pub still_own : (client i : ℕ) (outcome : Enlist) (lists : List TableId) (places : List PlaceSeen)
    → ArePlacesOf client lists places → ArePlacesOf client lists (trying i outcome places)
still_own client i outcome lists places own = record {
  rows = same_map (λ p. p.row) (λ p ts. refl) i outcome places ∙ own.rows;
  lists_are = same_rosters i outcome places ∙ own.lists_are;
}

abbrev desk_of : TableId → ℕ → List Kind → List PlaceSeen → DeskId
desk_of table quota kinds places = record { table = table; quota = quota; kinds = kinds; lists = rosters places }

-- a desk of the same table, quota, kinds and places is the same
pub same_desk : {d : DeskId} {t t' : TableId} {n n' : ℕ} {ks ks' : List Kind} {ps ps' : List PlaceSeen} → t' ≡ t
    → n' ≡ n → ks' ≡ ks → ps' ≡ ps → desk_of t n ks ps ≡ d → desk_of t' n' ks' ps' ≡ d
same_desk table quota kinds places is = (λ i. desk_of (table i) (quota i) (kinds i) (places i)) ∙ is

-- a client's places stay its own under another name of the lists
pub own_still : (client : ℕ) (lists lists' : List TableId) (places : List PlaceSeen) → lists' ≡ lists
    → ArePlacesOf client lists places → ArePlacesOf client lists' places
own_still client lists lists' places e own = rw e own

-- of equal rows, each that is found is that row
row_there : (count object client row : ℕ) → get_elem? (replicate count client) object ≡ some row → row ≡ client
row_there zero object client row e = absurd (some-ne-none row (sym e))
row_there (suc count) zero client row e = sym (some-injective client row e)
row_there (suc count) (suc object) client row e = row_there count object client row e

-- a client has a place of its row in the list of each object
pub own_place : (client object : ℕ) (lists : List TableId) (places : List PlaceSeen) → object < max_objects
    → ArePlacesOf client lists places → (p : PlaceSeen) × (get_elem? places object ≡ some p)
    × (p.row ≡ client) × (get_elem? (rosters places) object ≡ some p.roster)
own_place client object lists places low own =
    let long : length places ≡ 16 = sym (length-map places (λ (p : PlaceSeen). p.row)) ∙ ap length own.rows in
    let at = there places object (omega arith) in (
      at.0,
      at.1,
      row_there 16 object client at.0.row (ap (λ z. get_elem? z object) (sym own.rows)
          ∙ at_map (λ (p : PlaceSeen). p.row) places object at.0 at.1),
      at_map (λ (p : PlaceSeen). p.roster) places object at.0 at.1,
    )

-- the rows and rosters of places at which nothing was tried
fresh_rows : (c : ℕ) (lists : List TableId) → rows (fresh_places c lists) ≡ replicate (length lists) c
fresh_rows c [] = refl
fresh_rows c (l ∷ ls) = ap (λ z. c ∷ z) (fresh_rows c ls)

fresh_rosters : (c : ℕ) (lists : List TableId) → rosters (fresh_places c lists) ≡ lists
fresh_rosters c [] = refl
fresh_rosters c (l ∷ ls) = ap (λ z. l ∷ z) (fresh_rosters c ls)

-- new places are the client's own
pub fresh_own : (c : ℕ) (lists : List TableId) (ps : List PlaceSeen) → length lists ≡ 16 → ps ≡ fresh_places c lists
    → ArePlacesOf c lists ps
fresh_own c lists ps long is = rw is record
    { rows = fresh_rows c lists ∙ ap (λ n. replicate n c) long; lists_are = fresh_rosters c lists }

-- of all walkers, the first n went: the next one walks the next list
pub walker_there : (all ws : List WalkerSeen) (n m : ℕ) (w : WalkerSeen) → 0 < length ws → w ≡ get_or ws 0 w → m ≡ n
    → ((j : ℕ) → get_elem? (rosters_of ws) j ≡ get_elem? (rosters_of all) (n + j))
    → get_elem? (rosters_of all) m ≡ some w.roster
walker_there all [] n m w some_left is same left = absurd (omega arith)
walker_there all (x ∷ xs) n m w some_left is same left =
    ap (get_elem? (rosters_of all)) (omega arith) ∙ (sym (left 0) ∙ ap (λ (z : WalkerSeen). some z.roster) (sym is))

-- and one more goes
pub walkers_left : (all ws ws' : List WalkerSeen) (n n' : ℕ) → 0 < length ws → ws' ≡ remove ws 0 → n' ≡ n + 1
    → ((j : ℕ) → get_elem? (rosters_of ws) j ≡ get_elem? (rosters_of all) (n + j)) → (j : ℕ)
    → get_elem? (rosters_of ws') j ≡ get_elem? (rosters_of all) (n' + j)
walkers_left all [] ws' n n' some_left gone more left j = absurd (omega arith)
walkers_left all (x ∷ xs) ws' n n' some_left gone more left j =
    ap (λ z. get_elem? (rosters_of z) j) gone ∙ (left (suc j) ∙ ap (get_elem? (rosters_of all)) (omega arith))

module _ {Z : Type 0} where
  -- each owner has room for one more place
  pub room_left : (n : ℕ) (lists : List TableId) (owners : List (Vec PlaceSeen Z)) → length lists < max_objects
      → AreDealt 0 n lists owners → HaveRoom owners
  room_left n lists owners low all c d l =
      let count = all.0 in
      let b = all.1 c d (omega arith) in
      omega (arith, b.1, b.2)

  -- one list more
  pub one_dealt : (id : TableId) (n : ℕ) (lists lists' : List TableId) (old new : List (Vec PlaceSeen Z))
      → lists' ≡ lists ++ id ∷ []
      → AreDealt 0 n lists old → AreGrown id old new → AreDealt 0 n lists' new
  one_dealt id n lists lists' old new more all grown =
      let long = grown.0 in
      let count = all.0 in
      let wide : length (lists ++ id ∷ []) ≡ length lists + 1 = length-append lists (id ∷ []) in
      subst (λ ls. AreDealt 0 n ls new) (sym more) (
        long ∙ count,
        λ c d l.
            let g = grown.1 c d (omega arith) in
            let b = all.1 c d l in
            let e : c ≡ 0 + c = omega arith in (
              g.0 ∙ ((λ i. b.0 i ++ record { roster = id; row = e i; tries = [] } ∷ [])
                  ∙ sym (map-append (λ z. record { roster = z; row = 0 + c; tries = [] }) lists (id ∷ []))),
              omega (arith, g.2, b.1),
              g.1 ∙ b.2,
            ),
      )

  -- the first goes
  pub first_gone : (first n : ℕ) (lists : List TableId) (old new : List (Vec PlaceSeen Z)) → new ≡ remove old 0
      → AreDealt first (n + 1) lists old → AreDealt (first + 1) n lists new
  first_gone first n lists [] new e all = let count = all.0 in absurd (omega arith)
  first_gone first n lists (o ∷ os) new e all = let count = all.0 in subst (AreDealt (first + 1) n lists) (sym e) (
    omega arith,
    λ c d l. subst (λ z. HasPlaces z lists (get_or os c d)) (omega arith) (all.1 (suc c) d (omega arith)),
  )
