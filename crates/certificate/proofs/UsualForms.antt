-- A certificate in the usual form: its tokens at the front of a text, and the form that they make.
use Rattle.std.proofs.Common.{◌≡◌, ℕ, ◌≤◌, ◌⊎◌, Bool, true, false, cond, Some, None, List, [], ◌∷◌, ◌++◌, codes}
use Rattle.std.proofs.Common.{refl, sym, ap, subst, arith}
use Rattle.std.specs.Prelude.{ℤ, pos}
use Rattle.std.specs.Str.{IsUtf8}
use Rattle.std.proofs.lemmas.List.{append-nil}
use Rattle.edn_reader.specs.Bytes.{is_name}
use Rattle.edn_reader.specs.Datum.{integer, keyword, atom}
use Rattle.edn_reader.specs.Token.{Token, open_vector, close_vector, open_map, close_map, leaf, tokens_of}
use Rattle.edn_reader.specs.Sound.{BeginWith}
use Rattle.edn_reader.proofs.Fronts.{both_begin, front_of}
use Rattle.edn_reader.proofs.UsualFronts.{here, after_one, field, first_field}
use Rattle.edn.specs.Fields.{max_object, object_in}
use Rattle.certificate.specs.declared.Certificate.{Certificate}
use Rattle.certificate.specs.UsualForms.{ReadsUsual, numbers_tokens, ReadsOrder}
use Rattle.certificate.proofs.Writing.{datum_of, datum_fits, datum_denotes, numbers_data}

-- ---- the order

numbers_more : (zs : List ℤ) (z : ℤ) → numbers_tokens (zs ++ z ∷ []) ≡ numbers_tokens zs ++ leaf (atom (integer z)) ∷ []
numbers_more [] z = refl
numbers_more (y ∷ ys) z = ap (λ (ts : List Token). leaf (atom (integer y)) ∷ ts) (numbers_more ys z)

-- one number more, perhaps after a space
pub next_number : (zs : List ℤ) (z : ℤ) (text mid own tail : List ℕ) → BeginWith (numbers_tokens zs) text mid
    → (mid ≡ own) ⊎ (mid ≡ 32 ∷ own)
    → BeginWith (leaf (atom (integer z)) ∷ []) own tail → BeginWith (numbers_tokens (zs ++ z ∷ [])) text tail
next_number zs z text mid own tail a s b =
    subst (λ (ts : List Token). BeginWith ts text tail) (sym (numbers_more zs z))
    (both_begin (numbers_tokens zs) (leaf (atom (integer z)) ∷ []) text mid tail a
    (after_one 32 (leaf (atom (integer z))) [] mid own tail refl s b))

-- the bracket that closes it
pub order_ends : (zs : List ℤ) (text mid own rest : List ℕ) → BeginWith (numbers_tokens zs) text mid
    → (mid ≡ own) ⊎ (mid ≡ 32 ∷ own) → own ≡ 93 ∷ rest → ReadsOrder text zs rest
order_ends zs text mid own rest a s q =
    both_begin (numbers_tokens zs) (close_vector ∷ []) text mid rest a
    (after_one 32 close_vector [] mid own rest refl s (here own rest close_vector q))

-- ---- the whole certificate

object_is : (b : Bool) (n x : ℕ) → Some x ≡ cond b (Some n) None → x ≡ n
object_is true n x e = cc
object_is false n x e = absurd cc

small : (b : Bool) (n x : ℕ) → Some x ≡ cond b (Some n) None → b ≡ true
small true n x e = refl
small false n x e = absurd cc

-- a certificate in the usual order of its keys, of the object n, is read as its form
pub usual_is : (n : ℕ) (c : Certificate) (text own from_n after_n from_o after_o rest : List ℕ) → IsUtf8 text
    → (text ≡ own) ⊎ (text ≡ 10 ∷ own) → own ≡ codes "{:object " ++ from_n
    → BeginWith (leaf (atom (integer (pos n))) ∷ []) from_n after_n
    → Some c.object ≡ object_in (Some n) → after_n ≡ codes ", :order [" ++ from_o
    → ReadsOrder from_o c.order.items after_o
    → after_o ≡ codes "}" ++ rest → ReadsUsual text c rest
unfolding is_name datum_of numbers_data
usual_is n c text own from_n after_n from_o after_o rest u feed qn bn eo qo bo qr =
    let same : c.object ≡ n = object_is _ n c.object eo in
    let numbers : List Token = numbers_tokens c.order.items in
    let inside : List Token = numbers ++ close_vector ∷ [] in
    let last : BeginWith (close_map ∷ []) after_o rest = here after_o rest close_map qr in
    let o1 : BeginWith (inside ++ close_map ∷ []) from_o rest =
    both_begin inside (close_map ∷ []) from_o after_o rest bo last in
    let o2 : BeginWith (open_vector ∷ (inside ++ close_map ∷ [])) (91 ∷ from_o) rest =
    both_begin (open_vector ∷ []) (inside ++ close_map ∷ []) (91 ∷ from_o) from_o rest
    (here (91 ∷ from_o) from_o open_vector refl) o1 in
    let o3 = field (codes "order") open_vector (inside ++ close_map ∷ []) after_n (91 ∷ from_o) rest refl qo o2 in
    let ts : List Token = leaf (atom (keyword (codes "order"))) ∷ open_vector ∷ (inside ++ close_map ∷ []) in
    let n1 : BeginWith (leaf (atom (integer (pos n))) ∷ ts) from_n rest =
    both_begin (leaf (atom (integer (pos n))) ∷ []) ts from_n after_n rest bn o3 in
    let n2 = first_field (codes "object") (leaf (atom (integer (pos n)))) ts own from_n rest refl qn n1 in
    let all = after_one 10 open_map
    (leaf (atom (keyword (codes "object"))) ∷ leaf (atom (integer (pos n))) ∷ ts) text own rest refl feed n2 in
    let at_object : BeginWith
    (open_map ∷ leaf (atom (keyword (codes "object"))) ∷ leaf (atom (integer (pos c.object))) ∷ ts) text rest =
    subst (λ (x : ℕ). BeginWith
    (open_map ∷ leaf (atom (keyword (codes "object"))) ∷ leaf (atom (integer (pos x))) ∷ ts) text rest)
    (sym same) all in
    let begins : BeginWith (tokens_of (datum_of c)) text rest =
    subst (λ (us : List Token). BeginWith
    (open_map ∷ leaf (atom (keyword (codes "object"))) ∷ leaf (atom (integer (pos c.object)))
    ∷ leaf (atom (keyword (codes "order"))) ∷ open_vector ∷ (us ++ close_map ∷ [])) text rest)
    (sym (append-nil inside)) at_object in
    let front = front_of text rest (datum_of c) u (datum_fits c) begins in
    record { form = datum_of c; front = front.0; utf8 = front.1; own = datum_denotes c is_small }
  where
    is_small : c.object ≤ max_object
    is_small = grind arith
