-- Certificates that say the same are valid alike (`same_valid`): each has one of the other list that says the same, by
-- induction along both lists.
use Rattle.std.proofs.Common.{◌≡◌, ◌∙◌, List, [], ◌∷◌, inl, inr, refl, ap, sym, subst, map}
use Rattle.events.specs.declared.event.Event.{Event}
use Rattle.events.specs.Events.{IsNamed, kind_of_object, denoted}
use Rattle.certificate.specs.declared.Certificate.{Certificate}
use Rattle.certificate.specs.Denotes.{Reading, reading_of}
use Rattle.checker.specs.Refusals.{AreValid}
use Rattle.model.specs.Orders.{IsValidOrder, calls_on}
use Rattle.model.specs.Lists.{In}
use Rattle.model.proofs.Lists.{all_at, all_from_in, in_from_contains, contains_from_in}

same_in : (xs ys : List Certificate) → map reading_of xs ≡ map reading_of ys → (c : Certificate) → In c xs
    → (b : Certificate) × In b ys × (reading_of c ≡ reading_of b)
same_in [] ys e c i = absurd i
same_in (x ∷ xs) [] e c i = cc
same_in (x ∷ xs) (y ∷ ys) e c i = elim i [
  | inl s ↦ (y, inl refl, ap reading_of s ∙ heads e)
  | inr j ↦ let b = same_in xs ys (tails e) c j in (b.0, inr b.1, b.2)
]
  where
    heads : {x y : Reading} {xs ys : List Reading} → x ∷ xs ≡ y ∷ ys → x ≡ y
    heads e = cc

    tails : {x y : Reading} {xs ys : List Reading} → x ∷ xs ≡ y ∷ ys → xs ≡ ys
    tails e = cc

pub same_valid : (es : List Event) (cs bs : List Certificate) → map reading_of cs ≡ map reading_of bs
    → AreValid es cs → AreValid es bs
same_valid es cs bs e v = record {
  each = λ x n.
      let own = v.each x n in
      let b = same_in cs bs e own.0.certificate (in_from_contains cs own.0.certificate own.0.stands) in (
        record {
          certificate = b.0;
          stands = contains_from_in bs b.0 b.1;
          for_object = sym
              (ap (λ (r : Reading). r.object) b.2) ∙ own.0.for_object;
        },
        subst (IsValidOrder (kind_of_object es x) (calls_on x (denoted es))) (ap (λ (r : Reading). r.order) b.2) own.1,
      );
  none_besides = all_from_in (λ c. IsNamed es c.object) bs (λ b i.
      let c = same_in bs cs (sym e) b i in
      subst (IsNamed es) (sym (ap (λ (r : Reading). r.object) c.2))
      (all_at (λ c. IsNamed es c.object) cs v.none_besides c.0 c.1));
}
