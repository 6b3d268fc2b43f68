-- No form's tokens are a beginning of another's: by induction on both forms, token by token.
use Rattle.std.proofs.Common.{◌≡◌, List, [], ◌∷◌, ◌++◌, refl, sym, ap, ◌∙◌, append_assoc}
use Rattle.edn_reader.specs.Datum.{keyword, Datum, atom, vector, dictionary, Items, no_items, item, Entries, no_entries}
use Rattle.edn_reader.specs.Datum.{entry}
use Rattle.edn_reader.specs.Token.{Token, open_vector, close_vector, open_map, close_map, leaf, tokens_of, items_tokens}
use Rattle.edn_reader.specs.Token.{entries_tokens}
use Rattle.edn_reader.proofs.Consumed.{list_tokens}

pub not_close_vector : (d : Datum) (us ts : List Token) → close_vector ∷ us ≡ tokens_of d ++ ts → ⊥
not_close_vector (atom a) us ts h = cc
not_close_vector d us ts h = cc

not_close_map : (k : Datum) (us ts : List Token) → close_map ∷ us ≡ leaf k ∷ ts → ⊥
not_close_map k us ts h = cc

pub not_nothing : (d : Datum) (ts : List Token) → [] ≡ tokens_of d ++ ts → ⊥
not_nothing (atom a) ts h = cc
not_nothing d ts h = cc

pub tails : (t u : Token) (ts us : List Token) → t ∷ ts ≡ u ∷ us → ts ≡ us
tails t u ts us h = cc

same_leaf : (d e : Datum) (ts us : List Token) → leaf d ∷ ts ≡ leaf e ∷ us → (d ≡ e) × (ts ≡ us)
same_leaf d e ts us h = (cc, cc)

same_key : (j k : List _) (ts us : List Token) → leaf (atom (keyword j)) ∷ ts ≡ leaf (atom (keyword k)) ∷ us
    → (j ≡ k) × (ts ≡ us)
same_key j k ts us h = (cc, cc)

mutual
  pub same_datum : (d e : Datum) (us vs : List Token) → tokens_of d ++ us ≡ tokens_of e ++ vs → (d ≡ e) × (us ≡ vs)
  same_datum (atom a) (atom b) us vs h = same_leaf (atom a) (atom b) us vs h
  same_datum (vector ds) (vector es) us vs h =
      let p = same_items ds es us vs (simp append_assoc at (tails open_vector open_vector _ _ h)) in
      (ap vector p.0, p.1)
  same_datum (dictionary ds) (dictionary es) us vs h =
      let p = same_entries ds es us vs (simp append_assoc at (tails open_map open_map _ _ h)) in
      (ap dictionary p.0, p.1)
  same_datum d e us vs h = absurd cc

  pub same_items : (ds es : Items) (us vs : List Token)
      → items_tokens ds ++ close_vector ∷ us ≡ items_tokens es ++ close_vector ∷ vs → (ds ≡ es) × (us ≡ vs)
  same_items no_items no_items us vs h = (refl, tails close_vector close_vector us vs h)
  same_items no_items (item e es) us vs h = absurd (not_close_vector e us _ (simp append_assoc at h))
  same_items (item d ds) no_items us vs h = absurd (not_close_vector d vs _ (sym (simp append_assoc at h)))
  same_items (item d ds) (item e es) us vs h =
      let p = same_datum d e _ _ (simp append_assoc at h) in
      let q = same_items ds es us vs p.1 in
      (ap (λ (x : Datum). item x ds) p.0 ∙ ap (item e) q.0, q.1)

  pub same_entries : (ds es : Entries) (us vs : List Token)
      → entries_tokens ds ++ close_map ∷ us ≡ entries_tokens es ++ close_map ∷ vs → (ds ≡ es) × (us ≡ vs)
  same_entries no_entries no_entries us vs h = (refl, tails close_map close_map us vs h)
  same_entries no_entries (entry k e es) us vs h = absurd (not_close_map _ us _ h)
  same_entries (entry k d ds) no_entries us vs h = absurd (not_close_map _ vs _ (sym h))
  same_entries (entry j d ds) (entry k e es) us vs h =
      let a = same_key j k _ _ h in
      let p = same_datum d e _ _ (simp append_assoc at a.1) in
      let q = same_entries ds es us vs p.1 in
      (ap (λ (x : List _). entry x d ds) a.0 ∙ ap (λ (x : Datum). entry k x ds) p.0 ∙ ap (entry k e) q.0, q.1)

-- forms whose tokens begin with those of a form
pub same_front : (es : List Datum) (d : Datum) (us : List Token) → list_tokens es ≡ tokens_of d ++ us
    → (fs : List Datum) × (es ≡ d ∷ fs) × (list_tokens fs ≡ us)
same_front [] d us h = absurd (not_nothing d us h)
same_front (e ∷ fs) d us h = let p = same_datum e d (list_tokens fs) us h in (fs, ap (λ (x : Datum). x ∷ fs) p.0, p.1)
