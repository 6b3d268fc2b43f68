-- What a form says by its entries is what it says by its tokens (`client_is`): the value by its first tokens, the
-- object and the keys by the walk over the pairs. In the lemmas p is a process, t a type, f a function, x an object and
-- v a value, each as the entries es have it.
use Rattle.std.proofs.Common.{◌≡◌, ℕ, ℤ, true, false, Option, Some, None, IfSome, List, [], ◌∷◌, ◌++◌, codes, refl, sym}
use Rattle.std.proofs.Common.{ap, ◌∙◌, arith}
use Rattle.std.specs.Prelude.{option_map, option_and_then}
use Rattle.edn_reader.specs.Truncation.{integer_in}
use Rattle.edn_reader.specs.Datum.{boolean, integer, Datum, atom, vector, Items, no_items, item, Entries}
use Rattle.edn_reader.specs.Token.{Token, close_vector, leaf, tokens_of, items_tokens}
use Rattle.edn_reader.specs.Pieces.{token_buffer_tokens}
use Rattle.edn_reader.specs.declared.Piece.{Piece}
use Rattle.seq_objects.specs.declared.value.Value.{Value}
use Rattle.edn.specs.Fields.{value_at, natural_in, keyword_in, value_in}
use Rattle.edn.specs.Values.{IsValue}
use Rattle.history.specs.Maps.{type_named, object_at, tuple_in, plain_value, client_with, client_in}
use Rattle.history.specs.Views.{client_map, IsClient, tuple_first, plain_first}
use Rattle.history.specs.declared.client_map.ClientMap.{ClientMap}

-- ---- the value, by its first tokens

no_first : (a : Datum) (ds : Items) → integer_in a ≡ None → None ≡ tuple_in (item a ds)
no_first a ds e = grind arith

no_second : (x : ℤ) (b : Datum) (ds : Items) → integer_in b ≡ None
    → None ≡ tuple_in (item (atom (integer x)) (item b ds))
no_second x b ds e = grind arith

no_third : (x y : ℤ) (c : Datum) (ds : Items) → integer_in c ≡ None
    → None ≡ tuple_in (item (atom (integer x)) (item (atom (integer y)) (item c ds)))
no_third x y c ds e = grind arith

third_by : (x y : ℤ) (c : Datum) (ds : Items) (ts : List Token)
    → tuple_first (leaf (atom (integer x)) ∷ leaf (atom (integer y)) ∷
    (((tokens_of c ++ items_tokens ds) ++ close_vector ∷ []) ++ ts))
    ≡ tuple_in (item (atom (integer x)) (item (atom (integer y)) (item c ds)))
third_by x y (atom (integer z)) no_items ts = refl
third_by x y (atom (integer z)) (item (atom a) ds) ts = refl
third_by x y (atom (integer z)) (item d ds) ts = refl
third_by x y c ds ts = no_third x y c ds refl

second_by : (x : ℤ) (b : Datum) (ds : Items) (ts : List Token)
    → tuple_first (leaf (atom (integer x)) ∷
    (((tokens_of b ++ items_tokens ds) ++ close_vector ∷ []) ++ ts)) ≡ tuple_in (item (atom (integer x)) (item b ds))
second_by x (atom (integer y)) no_items ts = refl
second_by x (atom (integer y)) (item c ds) ts = third_by x y c ds ts
second_by x b ds ts = no_second x b ds refl

tuple_by : (ds : Items) (ts : List Token) → tuple_first ((items_tokens ds ++ close_vector ∷ []) ++ ts) ≡ tuple_in ds
tuple_by no_items ts = refl
tuple_by (item (atom (integer x)) no_items) ts = refl
tuple_by (item (atom (integer x)) (item b ds)) ts = second_by x b ds ts
tuple_by (item a ds) ts = no_first a ds refl

plain_by : (d : Datum) (ts : List Token) → plain_first (tokens_of d ++ ts) ≡ plain_value d
plain_by (atom (boolean true)) ts = refl
plain_by (atom (boolean false)) ts = refl
plain_by (vector ds) ts = tuple_by ds ts
plain_by d ts = refl

pub plain_is : (ps : List Piece) (o : Option Datum) → IsValue ps o
    → plain_first (token_buffer_tokens ps) ≡ plain_value (value_in o)
plain_is ps None h = ap (λ (x : List Piece). plain_first (token_buffer_tokens x)) h
plain_is ps (Some d) h = ap plain_first h.1 ∙ plain_by d h.0

-- ---- the map

-- a map that is made of what the entries have is the map that the entries say
pub client_is : (r : Option ClientMap) (p : Option ℕ) (t f : Option (List ℕ)) (x : Option ℕ) (v : Option Value)
    (es : Entries)
    → ((w : Datum) → option_map (λ c. client_map c w) r ≡ client_with p (option_and_then type_named t) f x w)
    → IfSome r (λ c. c.value ≡ v)
    → p ≡ natural_in (value_at (codes "process") es) → t ≡ keyword_in (value_at (codes "type") es)
    → f ≡ keyword_in (value_at (codes "f") es) → x ≡ object_at (value_at (codes "object") es)
    → v ≡ plain_value (value_in (value_at (codes "value") es)) → IsClient r (client_in es)
client_is r p t f x v es map value ep et ef ex ev =
    let w : Datum = value_in (value_at (codes "value") es) in
    let e : option_map (λ (c : ClientMap). client_map c w) r ≡ client_in es = cc (map w) in
    by_result r e value
  where
    by_result : (o : Option ClientMap)
        → option_map (λ (c : ClientMap). client_map c (value_in (value_at (codes "value") es))) o ≡ client_in es
        → IfSome o (λ c. c.value ≡ v) → IsClient o (client_in es)
    by_result None e h = sym e
    by_result (Some c) e h = (value_in (value_at (codes "value") es), sym e, sym (h ∙ ev))
