-- `form`, `vector` and `map`: the tokens that were taken are those of the form that is made. In the loops the
-- tokens of the items so far, then those that are left, are all; the text that is left gets shorter.
use Rattle.std.proofs.Common.{◌≡◌, ◌∷◌, ◌++◌, List, ℕ, refl, sym, ap, ◌∙◌, subst, arith}
use Rattle.edn_reader.specs.Bytes.{is_name}
use Rattle.edn_reader.specs.Datum.{Datum, keyword, atom}
use Rattle.edn_reader.specs.Forming.{BeginsForm}
use Rattle.edn_reader.specs.Formings.{tokens_left}
use Rattle.edn_reader.specs.Names.{name_bytes}
use Rattle.edn_reader.specs.Pieces.{piece_token}
use Rattle.edn_reader.specs.Token.{leaf, tokens_of}
use Rattle.edn_reader.specs.View.{view, views, pair_views}
use Rattle.edn_reader.specs.declared.piece.Piece.{Piece}
use Rattle.edn_reader.proofs.Consumed.{list_tokens, pairs_tokens}
use Rattle.edn_reader.proofs.FormsOfTokens.{some_form, vector_begins, map_begins, alone, key_own, value_begins}
use Rattle.edn_reader.proofs.FormsOfTokens.{pairs_after, pairs_more, pairs_with}
use Rattle.edn_reader.proofs.FormsOfTokens.{map_whole, item_begins, items_after, items_more, views_with, vector_whole}
use Rattle.edn_reader.proofs.Pairs.{map_view, vector_view}
use Rattle.edn_reader.proofs.forming.Tokens.+forms.Goals as goal

pub form-next-requires : goal.form-next-requires
form-next-requires t c = some_form c.args.self.now.rest.now c.requires

pub form-vector-requires : goal.form-vector-requires
form-vector-requires t c = (
  omega (arith, c.decreases, c.next.ensures.shorter),
  vector_begins (subst BeginsForm (c.next.ensures.token
      ∙ ap (λ (p : Piece). piece_token p ∷ tokens_left c.next.new.self) c.in-OpenVector.is) c.requires),
)

pub form-map-requires : goal.form-map-requires
form-map-requires t c = (
  omega (arith, c.decreases, c.next.ensures.shorter),
  map_begins (subst BeginsForm (c.next.ensures.token
      ∙ ap (λ (p : Piece). piece_token p ∷ tokens_left c.next.new.self) c.in-OpenMap.is) c.requires),
)

pub form-leaf_of-requires : goal.form-leaf_of-requires
form-leaf_of-requires t c =
    alone c.next.result (tokens_left c.args.self.now)
    (tokens_left c.next.new.self) c.in_default.not-OpenVector c.in_default.not-OpenMap c.next.ensures.token c.requires

pub map-from_bytes-requires : goal.map-from_bytes-requires
map-from_bytes-requires t c =
    ap is_name c.as_bytes.ensures.value ∙ key_own c.in-Some.ensures.next c.pairs.invariant.1

pub map-form-requires : goal.map-form-requires
map-form-requires t c = (
  omega (arith, c.decreases, c.next_key.ensures.shorter, c.pairs.invariant.2),
  value_begins c.in-Some.ensures.next c.pairs.invariant.1,
)

pub map-pairs-preserved : goal.map-pairs-preserved
map-pairs-preserved t c =
    let key = c.in_ok-key.key in
    let value = view c.in_ok-value.value in
    let named : name_bytes key ≡ c.in-Some.name.now = c.in_ok-key.ensures ∙ c.as_bytes.ensures.value in
    let front : tokens_left c.pairs.self ≡ leaf (atom (keyword (name_bytes key))) ∷ tokens_left c.next_key.new.self =
    c.in-Some.ensures.next
    ∙ ap (λ (k : List ℕ). leaf (atom (keyword k)) ∷ tokens_left c.next_key.new.self) (sym named) in
    let more = pairs_more (tokens_left c.args.self.now) (tokens_left c.pairs.self) (tokens_left c.next_key.new.self)
    (tokens_left c.form.new.self)
    (pair_views c.pairs.pairs.items) (name_bytes key) value c.pairs.invariant.0 front c.in_ok-value.ensures.form in
    let pushed = pairs_with c.pairs.pairs.items c.push.new.self.items key c.in_ok-value.value
    c.in_ok-push.ensures.items in (
      more ∙ ap (λ (ps : List (List ℕ × Datum)). pairs_tokens ps ++ tokens_left c.form.new.self) (sym pushed),
      pairs_after value front c.in_ok-value.ensures.form c.pairs.invariant.1,
      omega (arith, c.in_ok-value.ensures.shorter, c.next_key.ensures.shorter, c.pairs.invariant.2),
    )

pub map-returns-clause-form : goal.map-returns-clause-form
map-returns-clause-form t c =
    map_whole (tokens_left c.args.self.now) (tokens_left c.pairs.self) (tokens_left c.next_key.new.self)
    (pair_views c.pairs.pairs.items) c.pairs.invariant.0 c.in_default.ensures.next
    ∙ ap (λ (d : Datum). tokens_of d ++ tokens_left c.next_key.new.self) (sym (map_view c.pairs.pairs))

pub vector-form-requires : goal.vector-form-requires
vector-form-requires t c = (
  omega (arith, c.decreases, c.ends_vector.ensures.within, c.items.invariant.2),
  subst BeginsForm (sym (c.items-test.ensures.same refl))
      (item_begins (c.items-test.ensures.goes_on refl) c.items.invariant.1),
)

pub vector-items-preserved : goal.vector-items-preserved
vector-items-preserved t c =
    let form = view c.in_ok-form.form in
    let front : tokens_left c.items.self ≡ tokens_of form ++ tokens_left c.form.new.self =
    sym (c.items-test.ensures.same refl) ∙ c.in_ok-form.ensures.form in
    let more = items_more (tokens_left c.args.self.now) (tokens_left c.items.self) (tokens_left c.form.new.self)
    (views c.items.forms.items) form c.items.invariant.0 front in
    let pushed = views_with c.items.forms.items c.push.new.self.items c.in_ok-form.form c.in_ok-push.ensures.items in (
      more ∙ ap (λ (ds : List Datum). list_tokens ds ++ tokens_left c.form.new.self) (sym pushed),
      items_after form (c.items-test.ensures.goes_on refl) front c.items.invariant.1,
      omega (arith, c.in_ok-form.ensures.shorter, c.ends_vector.ensures.within, c.items.invariant.2),
    )

pub vector-returns-clause-form : goal.vector-returns-clause-form
vector-returns-clause-form t c =
    vector_whole (tokens_left c.args.self.now) (tokens_left c.items.self) (tokens_left c.ends_vector.new.self)
    (views c.items.forms.items) c.items.invariant.0 (c.items-test.ensures.ends refl)
    ∙ ap (λ (d : Datum). tokens_of d ++ tokens_left c.ends_vector.new.self) (sym (vector_view c.items.forms))
