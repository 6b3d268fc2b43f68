-- A form says what its truncated form says: no value that is looked at is cut, by cases on each. In the lemmas p is a
-- process, t a type, f a function and x an object, as a map has them, and v and w are two values.
use Rattle.std.proofs.Common.{arith, ◌≡◌, ℕ, Option, Some, None, List, codes, refl, sym, ap, subst, ◌∙◌}
use Rattle.std.specs.Prelude.{option_map, is_some}
use Rattle.std.proofs.lemmas.Option.{same_Some}
use Rattle.edn_reader.specs.Truncation.{most_items, truncated_item, truncated_items, truncated_value, truncated_entries}
use Rattle.edn_reader.specs.Truncation.{truncated, integer_in}
use Rattle.edn_reader.specs.Datum.{Datum, vector, dictionary, Items, no_items, item, Entries}
use Rattle.edn.specs.Fields.{value_at, natural_in, keyword_in, value_in}
use Rattle.edn.proofs.Truncation.{value_of_truncated, natural_of_truncated, keyword_of_truncated}
use Rattle.history.specs.Maps.{MapType, type_in, object_at, tuple_in, plain_value, ClientMap, client_with, client_in}
use Rattle.history.specs.Views.{client_map, IsClient, Says}
use Rattle.history.specs.declared.client_map.ClientMap as code
use Rattle.history.specs.Names.{function_named}
use Rattle.history.specs.declared.client_map.OperationMap.{OperationMap}
use Rattle.history.specs.declared.client_map.OperationMap.TheVariants.{OfClient, Ignored, Neither}

object_of_truncated : (o : Option Datum) → object_at (option_map truncated_value o) ≡ object_at o
object_of_truncated o = grind arith

integer_of_truncated : (d : Datum) → integer_in (truncated_item d) ≡ integer_in d
integer_of_truncated d = grind arith

tuple_of_truncated : (ds : Items) → tuple_in (truncated_items most_items ds) ≡ tuple_in ds
tuple_of_truncated no_items = refl
tuple_of_truncated (item a no_items) = refl
tuple_of_truncated (item a (item b no_items)) = rw (integer_of_truncated a, integer_of_truncated b) refl
tuple_of_truncated (item a (item b (item c no_items))) =
    rw (integer_of_truncated a, integer_of_truncated b, integer_of_truncated c) refl
tuple_of_truncated (item a (item b (item c (item d ds)))) = refl

plain_of_truncated : (o : Option Datum)
    → plain_value (value_in (option_map truncated_value o)) ≡ plain_value (value_in o)
plain_of_truncated (Some (vector ds)) = tuple_of_truncated ds
plain_of_truncated o = refl

-- ---- the map

-- A client's map stays one if its value is replaced by one of which the same is kept.
another : (p : Option ℕ) (t : Option MapType) (f : Option (List ℕ)) (x : Option ℕ) (v w : Datum) (c : code.ClientMap)
    → plain_value v ≡ plain_value w
    → IsClient (Some c) (client_with p t f x v) → IsClient (Some c) (client_with p t f x w)
another (Some p) (Some t) (Some f) (Some x) v w c e (u, q, k) =
    let m : ClientMap = record { process = p; type = t; function = function_named f; object = x; value = v } in
    let s : m ≡ client_map c u = same_Some m (client_map c u) q in (
      w,
      ap (λ (n : ClientMap). Some (record n { value = w })) s,
      sym e ∙ ap (λ (n : ClientMap). plain_value n.value) s ∙ k,
    )
another p t f x v w c e h = absurd cc

-- A map that is no client's map stays none with any other value.
no_other : (p : Option ℕ) (t : Option MapType) (f : Option (List ℕ)) (x : Option ℕ) (v w : Datum)
    → client_with p t f x v ≡ None → client_with p t f x w ≡ None
no_other p t f x v w e = grind arith

-- the values that are looked at, and the one that is cut
client_of_truncated : (es : Entries)
    → client_in (truncated_entries es)
    ≡ client_with (natural_in (value_at (codes "process") es)) (type_in (value_at (codes "type") es))
    (keyword_in (value_at (codes "f") es)) (object_at (value_at (codes "object") es))
    (value_in (option_map truncated_value (value_at (codes "value") es)))
client_of_truncated es =
    simp (value_of_truncated, natural_of_truncated, keyword_of_truncated, object_of_truncated)

process_of_truncated : (es : Entries)
    → is_some (keyword_in (value_at (codes "process") (truncated_entries es)))
    ≡ is_some (keyword_in (value_at (codes "process") es))
process_of_truncated es = simp (value_of_truncated, keyword_of_truncated)

none_in : (es : Entries) → client_in (truncated_entries es) ≡ None → client_in es ≡ None
none_in es e = no_other (natural_in (value_at (codes "process") es)) (type_in (value_at (codes "type") es))
    (keyword_in (value_at (codes "f") es))
    (object_at (value_at (codes "object") es)) (value_in (option_map truncated_value (value_at (codes "value") es)))
    (value_in (value_at (codes "value") es)) (sym (client_of_truncated es) ∙ e)

pub says_as_much : (o : OperationMap) (d : Datum) → Says o (truncated d) → Says o d
says_as_much (OfClient c) (dictionary es) h =
    another (natural_in (value_at (codes "process") es)) (type_in (value_at (codes "type") es))
    (keyword_in (value_at (codes "f") es))
    (object_at (value_at (codes "object") es)) (value_in (option_map truncated_value (value_at (codes "value") es)))
    (value_in (value_at (codes "value") es)) c
    (plain_of_truncated (value_at (codes "value") es)) (subst (IsClient (Some c)) (client_of_truncated es) h)
says_as_much Ignored (dictionary es) h = (none_in es h.0, sym (process_of_truncated es) ∙ h.1)
says_as_much Neither (dictionary es) h = (none_in es h.0, sym (process_of_truncated es) ∙ h.1)
says_as_much o d h = h
