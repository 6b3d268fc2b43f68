-- A text in the usual form is read as the map that its parts say (`usual_is`). Each part begins with its tokens, and
-- pairs are put in front of the last ones one by one (`other_pair`, `object_pair`). In the lemmas n is the number of a
-- process, t a type, f a function, x an object, v a value, d its form, and i and j are an index and a time.
use Rattle.std.proofs.Common.{◌≡◌, ℕ, ◌⊎◌, true, false, Some, List, [], ◌∷◌, ◌++◌, codes, refl, sym}
use Rattle.std.proofs.Common.{append_assoc, arith}
use Rattle.std.specs.Prelude.{ℤ, pos}
use Rattle.std.specs.Str.{IsUtf8, bytes_eq}
use Rattle.std.proofs.lemmas.Slice.Eq.{bytes_eq-Decides}
use Rattle.edn_reader.specs.Bytes.{is_name}
use Rattle.edn_reader.specs.Datum.{Atom, nil, boolean, integer, keyword, Datum, atom, vector, dictionary, no_items}
use Rattle.edn_reader.specs.Datum.{item, Entries, no_entries, entry, DatumFits, EntriesFit}
use Rattle.edn_reader.specs.Token.{Token, close_vector, open_map, close_map, leaf, tokens_of, entries_tokens}
use Rattle.edn_reader.specs.Reading.{first, got}
use Rattle.edn_reader.specs.Spells.{EndsToken, IsWord}
use Rattle.edn_reader.specs.Sound.{BeginWith}
use Rattle.edn_reader.proofs.Fronts.{both_begin, front_of}
use Rattle.edn_reader.proofs.UsualFronts.{here, spaced, word_here, first_here, after_one, form_field, first_field}
use Rattle.seq_objects.specs.declared.function.Function.{Function}
use Rattle.seq_objects.specs.declared.value.Value.{Value}
use Rattle.seq_objects.specs.declared.value.Value.TheVariants.{Nil, False, True, Int, Pair}
use Rattle.seq_objects.specs.Functions.{name_of}
use Rattle.edn.specs.Fields.{same_bytes, value_at}
use Rattle.edn.proofs.Finding.{same_bytes_is}
use Rattle.history.specs.Maps as spec
use Rattle.history.specs.Maps.{type_named, short_in, object_at, plain_value}
use Rattle.history.specs.Views.{map_type, client_map}
use Rattle.history.specs.UsualForms.{ReadsUsual, type_name, ReadsValue, LackEach, operation_keys, keys_to_object}
use Rattle.history.specs.UsualForms.{keys_to_index, IsNoneOf, ReadsLast}
use Rattle.history.specs.declared.client_map.MapType.{MapType}
use Rattle.history.specs.declared.client_map.ClientMap.{ClientMap}
use Rattle.history.proofs.Naming.{own_name}

-- ---- a token at the front

is_name_type : (t : MapType) → is_name (type_name t) ≡ true
unfolding is_name
is_name_type t = grind arith

-- the keyword of a type is read where its bytes are
pub type_here : (t : MapType) (text rest : List ℕ) → EndsToken rest → text ≡ 58 ∷ (type_name t ++ rest)
    → BeginWith (leaf (atom (keyword (type_name t))) ∷ []) text rest
type_here t text rest e q = word_here (keyword (type_name t)) (58 ∷ type_name t) text rest (refl, is_name_type t) e q

is_name_function : (f : Function) → is_name (name_of f) ≡ true
unfolding is_name
is_name_function f = grind arith

-- the keyword of a function is read where its bytes are
pub function_here : (f : Function) (text rest : List ℕ) → EndsToken rest → text ≡ 58 ∷ (name_of f ++ rest)
    → BeginWith (leaf (atom (keyword (name_of f))) ∷ []) text rest
function_here f text rest e q =
    word_here (keyword (name_of f)) (58 ∷ name_of f) text rest (refl, is_name_function f) e q

-- ---- values

-- a word without a colon is read as its value where its bytes are
word_value : (a : Atom) (v : Value) (word text rest : List ℕ) → plain_value (atom a) ≡ Some v
    → DatumFits 15 (atom a) → IsWord a word → EndsToken rest → text ≡ word ++ rest → ReadsValue text v rest
word_value a v word text rest plain fits is e q =
    record { form = atom a; plain = plain; fits = fits; begins = word_here a word text rest is e q }

pub nil_here : (text rest : List ℕ) → EndsToken rest → text ≡ codes "nil" ++ rest → ReadsValue text Nil rest
nil_here text rest e q = word_value nil Nil (codes "nil") text rest refl tt refl e q

pub false_here : (text rest : List ℕ) → EndsToken rest → text ≡ codes "false" ++ rest → ReadsValue text False rest
false_here text rest e q = word_value (boolean false) False (codes "false") text rest refl tt refl e q

pub true_here : (text rest : List ℕ) → EndsToken rest → text ≡ codes "true" ++ rest → ReadsValue text True rest
true_here text rest e q = word_value (boolean true) True (codes "true") text rest refl tt refl e q

-- an integer is read as a value
pub integer_here : (z : ℤ) (text rest : List ℕ) → BeginWith (leaf (atom (integer z)) ∷ []) text rest
    → ReadsValue text (Int z) rest
integer_here z text rest b = record { form = atom (integer z); plain = refl; fits = tt; begins = b }

-- two integers in brackets are read as a value
pub pair_here : (y z : ℤ) (inside after_y from_z after_z rest : List ℕ)
    → BeginWith (leaf (atom (integer y)) ∷ []) inside after_y → after_y ≡ codes " " ++ from_z
    → BeginWith (leaf (atom (integer z)) ∷ []) from_z after_z → after_z ≡ codes "]" ++ rest
    → ReadsValue (91 ∷ inside) (Pair y z) rest
pair_here y z inside after_y from_z after_z rest b q c r =
    let second = both_begin (leaf (atom (integer z)) ∷ []) (close_vector ∷ []) from_z after_z rest c
    (here after_z rest close_vector r) in
    let behind : BeginWith (leaf (atom (integer z)) ∷ close_vector ∷ []) after_y rest =
    rw q (spaced 32 (leaf (atom (integer z))) (close_vector ∷ []) from_z rest refl second) in
    let all = both_begin (leaf (atom (integer y)) ∷ []) (leaf (atom (integer z)) ∷ close_vector ∷ []) inside after_y
    rest b behind in
    record {
      form = vector (item (atom (integer y)) (item (atom (integer z)) no_items));
      plain = refl;
      fits = (omega arith, (tt, (tt, tt)));
      begins = (inside, ([], 91 ∷ inside, tt, refl, refl), all);
    }

-- ---- the last pairs

lack_none : (ks : List (List ℕ)) → LackEach ks no_entries
lack_none [] = tt
lack_none (k ∷ ks) = (tt, lack_none ks)

-- a map may end without further pairs
pub none_last : (ks : List (List ℕ)) (text rest : List ℕ) → text ≡ codes "}" ++ rest → ReadsLast ks text 0 rest
none_last ks text rest q =
    record { pairs = no_entries; lack = lack_none ks; object_is = refl; fits = tt; begins = here text rest close_map q }

-- a key is none of these
abbrev pub IsOther : List ℕ → List (List ℕ) → Type 0
IsOther k [] = Unit {0}
IsOther k (l ∷ ls) = (bytes_eq l k ≡ false) × IsOther k ls

apart : (l k : List ℕ) → bytes_eq l k ≡ false → l ≡ k → ⊥
apart l k e q = let t : bytes_eq l k ≡ true = (bytes_eq-Decides l k).1 q in absurd cc

lack_more : (k : List ℕ) (d : Datum) (ks : List (List ℕ)) (es : Entries) → IsOther k ks → LackEach ks es
    → LackEach ks (entry k d es)
lack_more k d [] es o l = tt
lack_more k d (j ∷ ks) es o l = ((apart j k o.0, l.0), lack_more k d ks es o.1 l.1)

-- a pair of any form before others
form_pair : (k : List ℕ) (d : Datum) (es : Entries) (text mid after rest : List ℕ) → is_name k ≡ true
    → text ≡ 44 ∷ 32 ∷ 58 ∷ (k ++ 32 ∷ mid) → BeginWith (tokens_of d) mid after
    → BeginWith (entries_tokens es ++ close_map ∷ []) after rest
    → BeginWith (entries_tokens (entry k d es) ++ close_map ∷ []) text rest
form_pair k d es text mid after rest n q b c =
    let ts : List Token = entries_tokens es ++ close_map ∷ [] in
    rw (append_assoc (tokens_of d) (entries_tokens es) (close_map ∷ []))
    (form_field d k ts text mid rest n q (both_begin (tokens_of d) ts mid after rest b c))

-- Last pairs stay last pairs with one more in front that is not of the object.
pub other_pair : (k : List ℕ) (ks : List (List ℕ)) (z : ℤ) (text mid after rest : List ℕ) → is_name k ≡ true
    → same_bytes (codes "object") k ≡ false → IsOther k ks
    → text ≡ 44 ∷ 32 ∷ 58 ∷ (k ++ 32 ∷ mid) → BeginWith (leaf (atom (integer z)) ∷ []) mid after
    → ReadsLast (k ∷ ks) after 0 rest → ReadsLast ks text 0 rest
other_pair k ks z text mid after rest n s o q b r =
    record {
      pairs = entry k (atom (integer z)) r.pairs;
      lack = lack_more k (atom (integer z)) ks r.pairs o r.lack.1;
      object_is = rw s r.object_is;
      fits = (r.lack.0, tt, r.fits);
      begins = form_pair k (atom (integer z)) r.pairs text mid after rest n q b r.begins;
    }

-- Last pairs stay last pairs with that of the object in front.
pub object_pair : (n x : ℕ) (text mid after rest : List ℕ) → Some x ≡ short_in (Some n)
    → text ≡ codes ", :object " ++ mid → BeginWith (leaf (atom (integer (pos n))) ∷ []) mid after
    → ReadsLast keys_to_object after 0 rest → ReadsLast operation_keys text x rest
unfolding is_name
object_pair n x text mid after rest e q b r =
    record {
      pairs = entry (codes "object") (atom (integer (pos n))) r.pairs;
      lack = lack_more (codes "object") (atom (integer (pos n))) operation_keys r.pairs
          (refl, (refl, (refl, (refl, tt)))) r.lack.1;
      object_is = sym e;
      fits = (r.lack.0, tt, r.fits);
      begins = form_pair (codes "object") (atom (integer (pos n))) r.pairs text mid after rest refl q b r.begins;
    }

differs : (k : List ℕ) → (codes "object" ≡ k → ⊥) → same_bytes (codes "object") k ≡ false
differs k h = grind (arith, same_bytes_is (codes "object") k, bytes_eq-Decides (codes "object") k)

-- A last pair may have a key without a meaning and a value that has no elements.
pub note_pair : (k : List ℕ) (a : Atom) (text at_key after_key at_value after_value rest : List ℕ)
    → IsNoneOf k keys_to_index
    → text ≡ codes ", :" ++ at_key → first (58 ∷ at_key) ≡ got (leaf (atom (keyword k))) after_key
    → after_key ≡ codes " " ++ at_value
    → BeginWith (leaf (atom a) ∷ []) at_value after_value → after_value ≡ codes "}" ++ rest
    → ReadsLast keys_to_index text 0 rest
note_pair k a text at_key after_key at_value after_value rest o q e s b z =
    let key : Token = leaf (atom (keyword k)) in
    let value = both_begin (leaf (atom a) ∷ []) (close_map ∷ []) at_value after_value rest b
    (here after_value rest close_map z) in
    let behind : BeginWith (leaf (atom a) ∷ close_map ∷ []) after_key rest =
    rw s (spaced 32 (leaf (atom a)) (close_map ∷ []) at_value rest refl value) in
    let own = both_begin (key ∷ []) (leaf (atom a) ∷ close_map ∷ []) (58 ∷ at_key) after_key rest
    (first_here (58 ∷ at_key) after_key key e) behind in
    let more : List Token = leaf (atom a) ∷ close_map ∷ [] in
    let all : BeginWith (key ∷ more) (44 ∷ 32 ∷ 58 ∷ at_key) rest =
    spaced 44 key more (32 ∷ 58 ∷ at_key) rest refl (spaced 32 key more (58 ∷ at_key) rest refl own) in
    record {
      pairs = entry k (atom a) no_entries;
      lack = note_lacks keys_to_index o;
      object_is = rw (differs k o.1.1.0) refl;
      fits = (tt, tt, tt);
      begins = rw q all;
    }
  where
    note_lacks : (ks : List (List ℕ)) → IsNoneOf k ks → LackEach ks (entry k (atom a) no_entries)
    note_lacks [] h = tt
    note_lacks (l ∷ ls) h = ((h.0, tt), note_lacks ls h.1)

-- pairs without some keys are also without fewer
pub fewer_keys : (k : List ℕ) (ks : List (List ℕ)) (text : List ℕ) (x : ℕ) (rest : List ℕ)
    → ReadsLast (k ∷ ks) text x rest → ReadsLast ks text x rest
fewer_keys k ks text x rest r =
    record { pairs = r.pairs; lack = r.lack.1; object_is = r.object_is; fits = r.fits; begins = r.begins }

-- ---- the whole map

type_is : (t : MapType) → type_named (type_name t) ≡ Some (map_type t)
type_is t = grind arith

abbrev form_with : ℕ → MapType → Function → Datum → Entries → Datum
form_with n t f d es =
    dictionary (entry (codes "process") (atom (integer (pos n))) (entry (codes "type") (atom (keyword (type_name t)))
    (entry (codes "f") (atom (keyword (name_of f))) (entry (codes "value") d es))))

abbrev map_with : ℕ → MapType → Function → ℕ → Value → ClientMap
map_with n t f x v = record { process = n; map_type = t; function = Some f; object = x; value = Some v }

-- A map in the usual order is as deep as its value allows, and has no key twice.
fits_with : (n : ℕ) (t : MapType) (f : Function) (d : Datum) (es : Entries) → DatumFits 15 d
    → LackEach operation_keys es
    → EntriesFit 15 es → DatumFits 16 (form_with n t f d es)
fits_with n t f d es h l e = grind arith

-- A map in the usual order is a client's map.
client_is : (n : ℕ) (t : MapType) (f : Function) (x : ℕ) (v : Value) (d : Datum) (es : Entries)
    → object_at (value_at (codes "object") es) ≡ Some x
    → spec.client_of (form_with n t f d es) ≡ Some (client_map (map_with n t f x v) d)
client_is n t f x v d es e =
    rw (type_is t, e, own_name f) refl

-- a map whose pairs are read is read as their form
whole_is : (es : Entries) (c : ClientMap) (w : Datum) (text own rest : List ℕ) → IsUtf8 text
    → (text ≡ own) ⊎ (text ≡ 10 ∷ own) → BeginWith (open_map ∷ (entries_tokens es ++ close_map ∷ [])) own rest
    → DatumFits 16 (dictionary es) → spec.client_of (dictionary es) ≡ Some (client_map c w)
    → plain_value w ≡ c.value → ReadsUsual text c rest
whole_is es c w text own rest u feed begins fits client value =
    let all = after_one 10 open_map (entries_tokens es ++ close_map ∷ []) text own rest refl feed begins in
    let front = front_of text rest (dictionary es) u fits all in
    record { form = dictionary es; front = front.0; utf8 = front.1; says = (w, client, value) }

-- The text begins with this atom, and this rest follows it.
abbrev pub ReadsAs : Atom → List ℕ → List ℕ → Type 0
ReadsAs a text rest = BeginWith (leaf (atom a) ∷ []) text rest

-- The text before begins with the bytes of lead. What follows them is read in this way, and the text after is left.
pub record Field (before lead : List ℕ) (Reads : List ℕ → List ℕ → Type 0) (after : List ℕ) : Type 0 where
  pub from : List ℕ
  pub leads : before ≡ lead ++ from
  pub reads : Reads from after

-- A map in the usual order of its keys is read as its form. Its text is cut before each key.
pub usual_is : {n : ℕ} {t : MapType} {f : Function} {x : ℕ} {v : Value}
    {text own at_type at_f at_value at_last rest : List ℕ} → IsUtf8 text → (text ≡ own) ⊎ (text ≡ 10 ∷ own)
    → Field own (codes "{:process ") (ReadsAs (integer (pos n))) at_type
    → Field at_type (codes ", :type ") (ReadsAs (keyword (type_name t))) at_f
    → Field at_f (codes ", :f ") (ReadsAs (keyword (name_of f))) at_value
    → Field at_value (codes ", :value ") (λ from after. ReadsValue from v after) at_last
    → ReadsLast operation_keys at_last x rest
    → ReadsUsual text (record { process = n; map_type = t; function = Some f; object = x; value = Some v }) rest
unfolding is_name
usual_is {n} {t} {f} {x} {v} {text} {own} {at_type} {at_f} {at_value} {at_last} {rest} u feed process type function
    value last =
    let d : Datum = value.reads.form in
    let es_v : Entries = entry (codes "value") d last.pairs in
    let v1 = form_pair (codes "value") d last.pairs at_value value.from at_last rest refl value.leads
    value.reads.begins last.begins in
    let es_f : Entries = entry (codes "f") (atom (keyword (name_of f))) es_v in
    let f1 = form_pair (codes "f") (atom (keyword (name_of f))) es_v at_f function.from at_value rest refl
    function.leads function.reads v1 in
    let es_t : Entries = entry (codes "type") (atom (keyword (type_name t))) es_f in
    let t1 = form_pair (codes "type") (atom (keyword (type_name t))) es_f at_type type.from at_f rest refl type.leads
    type.reads f1 in
    let ts : List Token = entries_tokens es_t ++ close_map ∷ [] in
    let n1 = first_field (codes "process") (leaf (atom (integer (pos n)))) ts own process.from rest refl process.leads
    (both_begin (leaf (atom (integer (pos n))) ∷ []) ts process.from at_type rest process.reads t1) in
    whole_is (entry (codes "process") (atom (integer (pos n))) es_t) (map_with n t f x v) d text own rest u feed n1
    (fits_with n t f d last.pairs value.reads.fits last.lack last.fits)
    (client_is n t f x v d last.pairs last.object_is) value.reads.plain

-- ---- a map with its index and its time first

abbrev indexed_with : ℤ → ℤ → ℕ → MapType → Function → Datum → Entries
indexed_with i j n t f d =
    entry (codes "index") (atom (integer i))
    (entry (codes "time") (atom (integer j)) (entry (codes "type") (atom (keyword (type_name t)))
    (entry (codes "process") (atom (integer (pos n)))
    (entry (codes "f") (atom (keyword (name_of f))) (entry (codes "value") d no_entries)))))

-- A map that begins with its index is as deep as its value allows, and has no key twice.
indexed_fits : (i j : ℤ) (n : ℕ) (t : MapType) (f : Function) (d : Datum) → DatumFits 15 d
    → DatumFits 16 (dictionary (indexed_with i j n t f d))
indexed_fits i j n t f d h = grind arith

-- A map that begins with its index is a client's map.
indexed_client : (i j : ℤ) (n : ℕ) (t : MapType) (f : Function) (v : Value) (d : Datum)
    → spec.client_of (dictionary (indexed_with i j n t f d)) ≡ Some (client_map (map_with n t f 0 v) d)
indexed_client i j n t f v d =
    rw (type_is t, own_name f) refl

-- A map that begins with its index and its time is read as its form. Its text is cut before each key.
pub index_first_is : {i j : ℤ} {n : ℕ} {t : MapType} {f : Function} {v : Value}
    {text own at_time at_type at_process at_f at_value at_end rest : List ℕ}
    → IsUtf8 text → (text ≡ own) ⊎ (text ≡ 10 ∷ own)
    → Field own (codes "{:index ") (ReadsAs (integer i)) at_time
    → Field at_time (codes ", :time ") (ReadsAs (integer j)) at_type
    → Field at_type (codes ", :type ") (ReadsAs (keyword (type_name t))) at_process
    → Field at_process (codes ", :process ") (ReadsAs (integer (pos n))) at_f
    → Field at_f (codes ", :f ") (ReadsAs (keyword (name_of f))) at_value
    → Field at_value (codes ", :value ") (λ from after. ReadsValue from v after) at_end
    → at_end ≡ codes "}" ++ rest
    → ReadsUsual text (record { process = n; map_type = t; function = Some f; object = 0; value = Some v }) rest
unfolding is_name
index_first_is {i} {j} {n} {t} {f} {v} {text} {own} {at_time} {at_type} {at_process} {at_f} {at_value} {at_end} {rest}
    u feed index time type process function value ends =
    let d : Datum = value.reads.form in
    let end : BeginWith (close_map ∷ []) at_end rest = here at_end rest close_map ends in
    let es_v : Entries = entry (codes "value") d no_entries in
    let v1 = form_pair (codes "value") d no_entries at_value value.from at_end rest refl value.leads
    value.reads.begins end in
    let es_f : Entries = entry (codes "f") (atom (keyword (name_of f))) es_v in
    let f1 = form_pair (codes "f") (atom (keyword (name_of f))) es_v at_f function.from at_value rest refl
    function.leads function.reads v1 in
    let es_n : Entries = entry (codes "process") (atom (integer (pos n))) es_f in
    let n1 = form_pair (codes "process") (atom (integer (pos n))) es_f at_process process.from at_f rest refl
    process.leads process.reads f1 in
    let es_t : Entries = entry (codes "type") (atom (keyword (type_name t))) es_n in
    let t1 = form_pair (codes "type") (atom (keyword (type_name t))) es_n at_type type.from at_process rest refl
    type.leads type.reads n1 in
    let es_j : Entries = entry (codes "time") (atom (integer j)) es_t in
    let j1 = form_pair (codes "time") (atom (integer j)) es_t at_time time.from at_type rest refl time.leads
    time.reads t1 in
    let ts : List Token = entries_tokens es_j ++ close_map ∷ [] in
    let i1 = first_field (codes "index") (leaf (atom (integer i))) ts own index.from rest refl index.leads
    (both_begin (leaf (atom (integer i)) ∷ []) ts index.from at_time rest index.reads j1) in
    whole_is (indexed_with i j n t f d) (map_with n t f 0 v) d text own rest u feed i1
    (indexed_fits i j n t f d value.reads.fits) (indexed_client i j n t f v d) value.reads.plain
