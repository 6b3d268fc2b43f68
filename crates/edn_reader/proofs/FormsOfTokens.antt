-- Forms at the front of tokens. The first token tells which form begins, since each kind of form begins with a token of
-- its own.
use Rattle.std.proofs.Common.{◌≡◌, ℕ, ◌<◌, true, List, [], ◌∷◌, ◌++◌, length, refl, sym, ap, ◌∙◌, subst}
use Rattle.std.proofs.Common.{append_assoc, arith}
use Rattle.edn_reader.specs.Bytes.{is_name}
use Rattle.edn_reader.specs.Datum.{Atom, keyword, Datum, atom, vector, dictionary, Items}
use Rattle.edn_reader.specs.Datum.{no_items, item, Entries, no_entries, entry, items_of, entries_of}
use Rattle.edn_reader.specs.Token.{Token, open_vector, close_vector, open_map, close_map, leaf, tokens_of, items_tokens}
use Rattle.edn_reader.specs.Token.{entries_tokens}
use Rattle.edn_reader.specs.Text.{InProfile, ItemsInProfile, EntriesInProfile, AtomInProfile}
use Rattle.edn_reader.specs.Forming.{BeginsForm, BeginsItems, BeginsPairs}
use Rattle.std.specs.Borrow.{Bor}
use Rattle.edn_reader.specs.Names.{name_bytes}
use Rattle.edn_reader.specs.Pieces.{piece_token, token_buffer_tokens}
use Rattle.edn_reader.specs.View.{view, views, pair_views}
use Rattle.edn_reader.specs.declared.form.Form.{Form}
use Rattle.edn_reader.specs.declared.form.Name.{Name}
use Rattle.edn_reader.specs.declared.piece.Piece.{Piece}
use Rattle.edn_reader.specs.declared.piece.Piece.TheVariants.{OpenVector, CloseVector, OpenMap, CloseMap, Keyword}
use Rattle.edn_reader.proofs.Keys.{pair_views-append}
use Rattle.edn_reader.proofs.Consumed.{list_tokens, pairs_tokens, list_tokens-append, pairs_tokens-append}
use Rattle.edn_reader.proofs.Prefixes.{tails, same_datum, not_nothing, not_close_vector}

same_leaf : (a b : Atom) (ts us : List Token) → leaf (atom a) ∷ ts ≡ leaf (atom b) ∷ us → (a ≡ b) × (ts ≡ us)
same_leaf a b ts us e = (cc, cc)

-- ---- at the front of a form

-- a single token is in the profile
pub leaf_own : {a : Atom} {ts : List Token} → BeginsForm (leaf (atom a) ∷ ts) → AtomInProfile a
leaf_own {a} {ts} b = by_form b.form b.in_profile b.tokens_are
  where
    by_form : (d : Datum) → InProfile d → leaf (atom a) ∷ ts ≡ tokens_of d ++ b.rest → AtomInProfile a
    by_form (atom x) p e = subst AtomInProfile (sym (same_leaf a x ts b.rest e).0) p
    by_form d p e = absurd cc

pub nothing_begins : BeginsForm [] → ⊥
nothing_begins b = not_nothing b.form b.rest b.tokens_are

pub close_vector_begins : {ts : List Token} → BeginsForm (close_vector ∷ ts) → ⊥
close_vector_begins b = not_close_vector b.form _ b.rest b.tokens_are

pub close_map_begins : {ts : List Token} → BeginsForm (close_map ∷ ts) → ⊥
close_map_begins {ts} b = by_form b.form b.tokens_are
  where
    by_form : (d : Datum) → close_map ∷ ts ≡ tokens_of d ++ b.rest → ⊥
    by_form (atom x) e = cc
    by_form d e = cc

-- no bracket is a form alone
pub open_vector_alone : BeginsForm (open_vector ∷ []) → ⊥
open_vector_alone b = by_form b.form b.tokens_are
  where
    by_items : (ds : Items) → [] ≡ (items_tokens ds ++ close_vector ∷ []) ++ b.rest → ⊥
    by_items no_items e = cc
    by_items (item (atom x) ds) e = cc
    by_items (item d ds) e = cc

    by_form : (d : Datum) → open_vector ∷ [] ≡ tokens_of d ++ b.rest → ⊥
    by_form (vector ds) e = by_items ds (tails open_vector open_vector _ _ e)
    by_form d e = absurd cc

pub open_map_alone : BeginsForm (open_map ∷ []) → ⊥
open_map_alone b = by_form b.form b.tokens_are
  where
    by_pairs : (es : Entries) → [] ≡ (entries_tokens es ++ close_map ∷ []) ++ b.rest → ⊥
    by_pairs no_entries e = cc
    by_pairs (entry k d es) e = cc

    by_form : (d : Datum) → open_map ∷ [] ≡ tokens_of d ++ b.rest → ⊥
    by_form (dictionary es) e = by_pairs es (tails open_map open_map _ _ e)
    by_form d e = absurd cc

pub vector_begins : {ts : List Token} → BeginsForm (open_vector ∷ ts) → BeginsItems ts
vector_begins {ts} b = by_form b.form b.in_profile b.tokens_are
  where
    by_form : (d : Datum) → InProfile d → open_vector ∷ ts ≡ tokens_of d ++ b.rest → BeginsItems ts
    by_form (vector ds) p e =
        record {
          items = ds;
          rest = b.rest;
          in_profile = p;
          tokens_are = tails open_vector open_vector _ _ e ∙ append_assoc (items_tokens ds) (close_vector ∷ []) b.rest;
        }
    by_form d p e = absurd cc

pub map_begins : {ts : List Token} → BeginsForm (open_map ∷ ts) → BeginsPairs ts
map_begins {ts} b = by_form b.form b.in_profile b.tokens_are
  where
    by_form : (d : Datum) → InProfile d → open_map ∷ ts ≡ tokens_of d ++ b.rest → BeginsPairs ts
    by_form (vector ds) p e = absurd cc
    by_form (dictionary es) p e =
        record {
          pairs = es;
          rest = b.rest;
          in_profile = p;
          tokens_are = tails open_map open_map _ _ e ∙ append_assoc (entries_tokens es) (close_map ∷ []) b.rest;
        }
    by_form d p e = absurd cc

-- a leaf, without what follows it
leaf_alone : {a : Atom} {ts : List Token} → BeginsForm (leaf (atom a) ∷ ts) → BeginsForm (leaf (atom a) ∷ [])
leaf_alone {a} b = record { form = atom a; rest = []; in_profile = leaf_own b; tokens_are = refl }

-- ---- along the elements of a vector

pub item_begins : {ts : List Token} → ((us : List Token) → ts ≡ close_vector ∷ us → ⊥) → BeginsItems ts → BeginsForm ts
item_begins {ts} apart b = by_items b.items b.in_profile b.tokens_are
  where
    by_items : (ds : Items) → ItemsInProfile ds → ts ≡ items_tokens ds ++ close_vector ∷ b.rest → BeginsForm ts
    by_items no_items p e = absurd (apart b.rest e)
    by_items (item d ds) p e =
        record {
          form = d;
          rest = items_tokens ds ++ close_vector ∷ b.rest;
          in_profile = p.0;
          tokens_are = e ∙ append_assoc (tokens_of d) (items_tokens ds) (close_vector ∷ b.rest);
        }

pub items_after : {ts us : List Token} (d : Datum) → ((vs : List Token) → ts ≡ close_vector ∷ vs → ⊥)
    → ts ≡ tokens_of d ++ us → BeginsItems ts → BeginsItems us
items_after {ts} {us} d apart is b = by_items b.items b.in_profile b.tokens_are
  where
    by_items : (ds : Items) → ItemsInProfile ds → ts ≡ items_tokens ds ++ close_vector ∷ b.rest → BeginsItems us
    by_items no_items p e = absurd (apart b.rest e)
    by_items (item x ds) p e =
        let q = same_datum d x us _ (sym is ∙ e ∙ append_assoc (tokens_of x) _ _) in
        record { items = ds; rest = b.rest; in_profile = p.1; tokens_are = q.1 }

-- ---- along the pairs of a map

-- a key is a name, and its value comes next
pub key_own : {ts us : List Token} {k : List ℕ} → ts ≡ leaf (atom (keyword k)) ∷ us → BeginsPairs ts → is_name k ≡ true
key_own {us = us} {k = k} q b = by_pairs b.pairs b.in_profile (sym q ∙ b.tokens_are)
  where
    by_pairs : (es : Entries) → EntriesInProfile es
        → leaf (atom (keyword k)) ∷ us ≡ entries_tokens es ++ close_map ∷ b.rest → is_name k ≡ true
    by_pairs no_entries p e = absurd cc
    by_pairs (entry l d es) p e =
        let h : keyword k ≡ keyword l = (same_leaf (keyword k) (keyword l) us _ e).0 in subst AtomInProfile (sym h) p.0

pub value_begins : {ts us : List Token} {k : List ℕ} → ts ≡ leaf (atom (keyword k)) ∷ us → BeginsPairs ts
    → BeginsForm us
value_begins {us = us} {k = k} q b = by_pairs b.pairs b.in_profile (sym q ∙ b.tokens_are)
  where
    by_pairs : (es : Entries) → EntriesInProfile es
        → leaf (atom (keyword k)) ∷ us ≡ entries_tokens es ++ close_map ∷ b.rest → BeginsForm us
    by_pairs no_entries p e = absurd cc
    by_pairs (entry l d es) p e =
        record {
          form = d;
          rest = entries_tokens es ++ close_map ∷ b.rest;
          in_profile = p.1;
          tokens_are = (same_leaf (keyword k) (keyword l) us _ e).1
              ∙ append_assoc (tokens_of d) (entries_tokens es) (close_map ∷ b.rest);
        }

pub pairs_after : {ts us vs : List Token} {k : List ℕ} (d : Datum) → ts ≡ leaf (atom (keyword k)) ∷ us
    → us ≡ tokens_of d ++ vs → BeginsPairs ts → BeginsPairs vs
pairs_after {us = us} {vs = vs} {k = k} d q is b = by_pairs b.pairs b.in_profile (sym q ∙ b.tokens_are)
  where
    by_pairs : (es : Entries) → EntriesInProfile es
        → leaf (atom (keyword k)) ∷ us ≡ entries_tokens es ++ close_map ∷ b.rest → BeginsPairs vs
    by_pairs no_entries p e = absurd cc
    by_pairs (entry l x es) p e =
        let t = (same_leaf (keyword k) (keyword l) us _ e).1 in
        let r = same_datum d x vs _ (sym is ∙ t ∙ append_assoc (tokens_of x) _ _) in
        record { pairs = es; rest = b.rest; in_profile = p.2; tokens_are = r.1 }

pub no_pairs : BeginsPairs [] → ⊥
no_pairs b = by_pairs b.pairs b.tokens_are
  where
    by_pairs : (es : Entries) → [] ≡ entries_tokens es ++ close_map ∷ b.rest → ⊥
    by_pairs no_entries e = cc
    by_pairs es e = cc

-- where no key stands, the map ends
abbrev pub NoKey : Token → Type 0
NoKey t = (k : List ℕ) → t ≡ leaf (atom (keyword k)) → ⊥

pub pairs_end : (t : Token) (ts : List Token) → NoKey t → BeginsPairs (t ∷ ts) → t ∷ ts ≡ close_map ∷ ts
pairs_end t ts apart b = by_pairs b.pairs b.tokens_are
  where
    by_pairs : (es : Entries) → t ∷ ts ≡ entries_tokens es ++ close_map ∷ b.rest → t ∷ ts ≡ close_map ∷ ts
    by_pairs no_entries e = let h : t ≡ close_map = cc in ap (λ (x : Token). x ∷ ts) h
    by_pairs (entry l d es) e = let h : t ≡ leaf (atom (keyword l)) = cc in absurd (apart l h)

-- ---- the tokens so far

-- one form more
pub items_more : (all rest remains : List Token) (ds : List Datum) (d : Datum) → all ≡ list_tokens ds ++ rest
    → rest ≡ tokens_of d ++ remains → all ≡ list_tokens (ds ++ d ∷ []) ++ remains
items_more all rest remains ds d e f = rw (e, f, list_tokens-append ds d) (simp append_assoc)

-- one pair more
pub pairs_more : (all rest value remains : List Token) (es : List (List ℕ × Datum)) (k : List ℕ) (d : Datum)
    → all ≡ pairs_tokens es ++ rest
    → rest ≡ leaf (atom (keyword k)) ∷ value → value ≡ tokens_of d ++ remains
    → all ≡ pairs_tokens (es ++ (k, d) ∷ []) ++ remains
pairs_more all rest value remains es k d e f g = rw (e, f, g, pairs_tokens-append es k d) (simp append_assoc)

-- the whole vector, and the whole map
pub vector_whole : (all rest remains : List Token) (ds : List Datum) → all ≡ list_tokens ds ++ rest
    → rest ≡ close_vector ∷ remains → open_vector ∷ all ≡ tokens_of (vector (items_of ds)) ++ remains
vector_whole all rest remains ds e f = rw (e, f) (simp append_assoc)

pub map_whole : (all rest remains : List Token) (es : List (List ℕ × Datum)) → all ≡ pairs_tokens es ++ rest
    → rest ≡ close_map ∷ remains
    → open_map ∷ all ≡ tokens_of (dictionary (entries_of es)) ++ remains
map_whole all rest remains es e f = rw (e, f) (simp append_assoc)

-- ---- some tokens

pub some_form : (ps : List Piece) → BeginsForm (token_buffer_tokens ps) → 0 < length ps
some_form [] b = absurd (nothing_begins b)
some_form (p ∷ ps) b = omega arith

pub some_pairs : (ps : List Piece) → BeginsPairs (token_buffer_tokens ps) → 0 < length ps
some_pairs [] b = absurd (no_pairs b)
some_pairs (p ∷ ps) b = omega arith

-- ---- by the token at the front

no_key : (p : Piece) → ((name : Bor (List ℕ)) → p ≡ Keyword name → ⊥) → NoKey (piece_token p)
no_key (Keyword name) h k e = h name refl
no_key p h k e = cc

pub map_end : (p : Piece) (ts us : List Token) → ((name : Bor (List ℕ)) → p ≡ Keyword name → ⊥)
    → ts ≡ piece_token p ∷ us → BeginsPairs ts → ts ≡ close_map ∷ us
map_end p ts us h e b = e ∙ pairs_end (piece_token p) us (no_key p h) (subst BeginsPairs e b)

pub alone : (p : Piece) (ts us : List Token) → (p ≡ OpenVector → ⊥) → (p ≡ OpenMap → ⊥) → ts ≡ piece_token p ∷ us
    → BeginsForm ts → BeginsForm (piece_token p ∷ [])
alone p ts us h k e b = by_token p (subst BeginsForm e b) h k
  where
    by_token : (p : Piece) → BeginsForm (piece_token p ∷ us) → (p ≡ OpenVector → ⊥) → (p ≡ OpenMap → ⊥)
        → BeginsForm (piece_token p ∷ [])
    by_token OpenVector b h k = absurd (h refl)
    by_token CloseVector b h k = absurd (close_vector_begins b)
    by_token OpenMap b h k = absurd (k refl)
    by_token CloseMap b h k = absurd (close_map_begins b)
    by_token p b h k = leaf_alone b

-- ---- one form more in a vector

views-append : (xs : List Form) (x : Form) → views (xs ++ x ∷ []) ≡ views xs ++ view x ∷ []
views-append [] x = refl
views-append (y ∷ ys) x = ap (λ (r : List Datum). view y ∷ r) (views-append ys x)

pub views_with : (xs ys : List Form) (x : Form) → ys ≡ xs ++ x ∷ [] → views ys ≡ views xs ++ view x ∷ []
views_with xs ys x e = ap views e ∙ views-append xs x

pub pairs_with : (xs ys : List (Name × Form)) (k : Name) (x : Form) → ys ≡ xs ++ (k, x) ∷ []
    → pair_views ys ≡ pair_views xs ++ (name_bytes k, view x) ∷ []
pairs_with xs ys k x e = ap pair_views e ∙ pair_views-append xs (k, x)
