-- The text written for certificates spells forms that denote them (`lines_spell`). The rest to write loses one number
-- of an order, or one line, at each turn of a loop (`numbers_left`, `lines_left`).
use Rattle.std.proofs.Common.{◌≡◌, ℕ, ◌+◌, ◌<◌, ◌≤◌, Bool, true, false, suc, List, [], ◌∷◌, ◌++◌, length, take, drop}
use Rattle.std.proofs.Common.{get_or, map, option_map, Some, None, lit<, refl, ap, sym, ◌∙◌, subst, append_assoc, arith}
use Rattle.std.specs.Prelude.{ℤ, pos, codes, if◌then◌else◌}
use Rattle.std.specs.Fmt.{signed_decimal}
use Rattle.std.specs.List.{AllByRecursion}
use Rattle.std.proofs.lemmas.List.{drop_more, take_more, append-nil}
use Rattle.std.proofs.lemmas.Bool.{le-leb}
use Rattle.edn_reader.specs.Bytes.{is_name}
use Rattle.edn_reader.specs.Truncation.{integers_in}
use Rattle.edn_reader.specs.Datum.{Datum, integer, atom, vector, dictionary, no_entries, entry, items_of, DatumFits}
use Rattle.edn_reader.specs.Datum.{ItemsFit, max_open}
use Rattle.edn_reader.specs.Spells.{Spells}
use Rattle.edn_reader.specs.Text.{between, IsInt64, InProfile, ItemsInProfile, text_of, items_text}
use Rattle.edn_reader.specs.Text as edn
use Rattle.edn_reader.specs.Laws.{EachSpelled}
use Rattle.edn_reader.proofs.Joined.{text_spells_it, lines_spell_them}
use Rattle.edn.specs.Fields.{max_object}
use Rattle.certificate.specs.Denotes.{reading_with, certificate_of, reading_of, AreDistinct}
use Rattle.certificate.specs.Lines.{numbers_text, certificate_line, certificate_lines, AreCertificatesInRange}
use Rattle.certificate.specs.Lines.{SpellsCertificates}
use Rattle.certificate.specs.declared.Certificate.{Certificate}

-- ---- the integers of an order

pub numbers_left : (zs : List ℤ) (i : ℕ) (d : ℤ) (first : Bool) → i < length zs
    → numbers_text first (drop i zs)
    ≡ (between first (codes " ") ++ signed_decimal (get_or zs i d)) ++ numbers_text false (drop (i + 1) zs)
numbers_left zs i d first lt = ap (numbers_text first) (drop_more zs i d lt)

all_with : {X : Type 0} (P : X → Type 0) (xs : List X) (x : X) → AllByRecursion P xs → P x
    → AllByRecursion P (xs ++ x ∷ [])
all_with P [] x h p = (p, h)
all_with P (y ∷ ys) x h p = (h.0, all_with P ys x h.1 p)

pub all_taken : {X : Type 0} (P : X → Type 0) (xs : List X) (i : ℕ) (d : X) → i < length xs
    → AllByRecursion P (take i xs) → P (get_or xs i d) → AllByRecursion P (take (i + 1) xs)
all_taken P xs i d lt h p =
    subst (AllByRecursion P) (sym (take_more xs i d lt)) (all_with P (take i xs) (get_or xs i d) h p)

pub all_taken_item : {X : Type 0} (P : X → Type 0) (xs : List X) (i : ℕ) (x : X) → i < length xs → x ≡ get_or xs i x
    → AllByRecursion P (take i xs) → P x → AllByRecursion P (take (i + 1) xs)
all_taken_item {X} P xs i x lt e h p = all_taken P xs i x lt h (subst P e p)

-- ---- the lines

pub lines_left : (cs : List Certificate) (i : ℕ) (c : Certificate) → i < length cs → c ≡ get_or cs i c
    → certificate_lines (drop i cs) ≡ certificate_line c ++ certificate_lines (drop (i + 1) cs)
lines_left cs i c lt e =
    let here : drop i cs ≡ c ∷ drop (i + 1) cs =
    drop_more cs i c lt ∙ ap (λ (y : Certificate). y ∷ drop (i + 1) cs) (sym e) in
    rw here refl

-- ---- what the lines spell

unfoldable pub numbers_data : List ℤ → List Datum
numbers_data zs = map (λ z. atom (integer z)) zs

unfoldable pub datum_of : Certificate → Datum
datum_of c = dictionary
    (entry (codes "object") (atom (integer (pos c.object)))
    (entry (codes "order") (vector (items_of (numbers_data c.order.items))) no_entries))

numbers_are_items : (first : Bool) (zs : List ℤ) → numbers_text first zs ≡ items_text first (items_of (numbers_data zs))
unfolding numbers_data
numbers_are_items first [] = refl
numbers_are_items first (z ∷ zs) =
    ap (λ t. (between first (codes " ") ++ signed_decimal z) ++ t) (numbers_are_items false zs)

-- the brackets that close an order and its map
closed : (numbers : List ℕ) → ((numbers ++ codes "]") ++ []) ++ codes "}\n" ≡ numbers ++ codes "]}\n"
closed numbers = ap (λ t. t ++ codes "}\n") (append-nil (numbers ++ codes "]"))
    ∙ append_assoc numbers (codes "]") (codes "}\n")

line_is_text : (c : Certificate) → certificate_line c ≡ text_of (datum_of c) ++ 10 ∷ []
unfolding datum_of
line_is_text c =
    let x = signed_decimal (pos c.object) in
    let items = items_text true (items_of (numbers_data c.order.items)) in
    let order = codes ", :order [" ++ ((items ++ codes "]") ++ []) in
    ap (λ t. codes "{:object " ++ (x ++ (codes ", :order [" ++ (t ++ codes "]}\n"))))
    (numbers_are_items true c.order.items)
    ∙ sym (ap (λ t. codes "{:object " ++ t)
    (append_assoc (x ++ order) (codes "}") (codes "\n") ∙ append_assoc x order (codes "}\n")
    ∙ ap (λ t. x ++ (codes ", :order [" ++ t)) (closed items)))

numbers_fit : (n : ℕ) (zs : List ℤ) → ItemsFit n (items_of (numbers_data zs))
unfolding numbers_data
numbers_fit n [] = tt
numbers_fit n (z ∷ zs) = (tt, numbers_fit n zs)

pub datum_fits : (c : Certificate) → DatumFits max_open (datum_of c)
unfolding datum_of
datum_fits c = (lit< tt, ((λ h. cc, tt), tt, (tt, (lit< tt, numbers_fit 14 c.order.items), tt)))

numbers_in_profile : (zs : List ℤ) → AllByRecursion IsInt64 zs → ItemsInProfile (items_of (numbers_data zs))
unfolding numbers_data
numbers_in_profile [] h = tt
numbers_in_profile (z ∷ zs) h = (h.0, numbers_in_profile zs h.1)

datum_in_profile : (c : Certificate) → c.object ≤ max_object → AllByRecursion IsInt64 c.order.items
    → InProfile (datum_of c)
unfolding datum_of is_name
datum_in_profile c small h = (refl, omega arith, (refl, numbers_in_profile c.order.items h, tt))

numbers_read : (zs : List ℤ) → integers_in (items_of (numbers_data zs)) ≡ Some zs
unfolding numbers_data
numbers_read [] = refl
numbers_read (z ∷ zs) = ap (option_map (λ ys. z ∷ ys)) (numbers_read zs)

pub datum_denotes : (c : Certificate) → c.object ≤ max_object → certificate_of (datum_of c) ≡ Some (reading_of c)
unfolding datum_of
datum_denotes c small =
    ap (λ b. reading_with (if b then Some c.object else None) (integers_in (items_of (numbers_data c.order.items))))
    (le-leb c.object max_object small) ∙ ap (reading_with (Some c.object)) (numbers_read c.order.items)

data_of : List Certificate → List Datum
data_of cs = map datum_of cs

lines_are_texts : (cs : List Certificate) → certificate_lines cs ≡ edn.form_lines (data_of cs)
unfolding data_of
lines_are_texts [] = refl
lines_are_texts (c ∷ cs) =
    ap (λ t. t ++ certificate_lines cs) (line_is_text c)
    ∙ append_assoc (text_of (datum_of c)) (10 ∷ []) (certificate_lines cs)
    ∙ ap (λ t. text_of (datum_of c) ++ 10 ∷ t) (lines_are_texts cs)

-- the integers of each order have 64 bits
abbrev pub InProfiles : List Certificate → Type 0
InProfiles cs = AllByRecursion (λ c. AllByRecursion IsInt64 c.order.items) cs

each_spelled : (cs : List Certificate) → AreCertificatesInRange cs → InProfiles cs → EachSpelled (data_of cs)
unfolding data_of
each_spelled [] r p = tt
each_spelled (c ∷ cs) r p = (
  text_spells_it (datum_of c) (datum_fits c) (datum_in_profile c (r 0 c (omega arith)) p.0),
  each_spelled cs (λ k d lt. r (suc k) d (omega arith)) p.1,
)

each_denoted : (cs : List Certificate) → AreCertificatesInRange cs
    → map certificate_of (data_of cs) ≡ map (λ c. Some (reading_of c)) cs
unfolding data_of
each_denoted [] r = refl
each_denoted (c ∷ cs) r = ap (λ v. v ∷ map certificate_of (map datum_of cs)) (datum_denotes c (r 0 c (omega arith)))
    ∙ ap (λ vs. Some (reading_of c) ∷ vs) (each_denoted cs (λ k d lt. r (suc k) d (omega arith)))

pub lines_spell : (cs : List Certificate) → InProfiles cs → AreDistinct cs → AreCertificatesInRange cs
    → SpellsCertificates cs (certificate_lines cs)
lines_spell cs p apart r = record {
  forms = data_of cs;
  spelled = subst (Spells (data_of cs)) (sym (lines_are_texts cs))
      (lines_spell_them (data_of cs) (each_spelled cs r p));
  denoted = record { each = each_denoted cs r; distinct = apart };
}
