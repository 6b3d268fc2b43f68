-- `check_objects`: the answer is that of a check of all objects, one after another. Each worker answers for its
-- share, and the shares are all objects, so the least refusal is the first of all (`first_of_all`).
use Rattle.std.proofs.Common.{◌<◌, List, get_or, refl, subst, sym, ◌∙◌}
use Rattle.std.proofs.Math.Nat.{le-max_left}
use Rattle.checker.proofs.Certificates.{AreObjects, are_objects, all_valid, least_strange, strange_is_not_valid}
use Rattle.events.specs.declared.event.Event.{Event}
use Rattle.parallel.specs.Gathered.{AreAll}
use Rattle.parallel.specs.Shares.{IsShare}
use Rattle.parallel.proofs.Sharing.{AreShares, first_of_all, all_are_fine}
use Rattle.parallel.proofs.workers.check_objects.Given.{Over}
use Rattle.parallel.proofs.workers.check_objects.Goals as goal
use Rattle.parallel.proofs.workers.check_objects.Goals.{After-least}

objects : (g : Over) (c : After-least g) (es : List Event) → AreAll es c.args.objects.now
    → AreObjects es c.args.objects.now
objects g c es all = are_objects es c.args.objects.now c.args.objects.now refl all.rising all.named all.kinds all.calls

shares : (g : Over) (c : After-least g)
    → AreShares c.clamp-count.result c.args.objects.now c.args.certificates.now c.deref.result.now
shares g c = record {
  some = subst (λ n. 0 < n) (sym c.clamp-count.ensures) (le-max_left 1 _);
  long = c.deref.ensures.len ∙ c.in-Ok-found.ensures.len;
  each = λ i d l. subst (λ rs.
      IsShare i c.clamp-count.result c.args.objects.now c.args.certificates.now (get_or rs i d))
      (sym c.deref.ensures.value) (c.in-Ok-found.ensures.each i d l).1.met;
}

pub returns-in-Some : goal.returns-in-Some
returns-in-Some g c = record {
  answer = λ es all.
      let d = (goal.at.returns-in-Some g c).After-least in
      let first = first_of_all es _ _ _ _ _ c.requires.distinct (objects g d es all)
      (shares g d) c.in-Some.ensures.stands c.in-Some.ensures.least in
      record { valid = tt; refused = first.0; exact = first.1 };
}

pub returns-in-Some-strange_object : goal.returns-in-Some-strange_object
returns-in-Some-strange_object g c = record {
  answer = λ es all.
      let d = (goal.at.returns-in-Some-strange_object g c).After-least in
      let fine = all_are_fine es _ _ _ _ (objects g d es all) (shares g d) c.in_default-least.ensures.none in
      let strange = least_strange es _ _ _ c.requires.distinct
      (objects g d es all) fine c.in-Some-strange_object.ensures.least in
      record {
        valid = tt;
        refused = strange;
        exact = λ valid. absurd
            (strange_is_not_valid es c.args.certificates.now c.in-Some-strange_object.object strange valid);
      };
}

pub returns : goal.returns
returns g c = record {
  answer = λ es all.
      let d = (goal.at.returns g c).After-least in
      let fine = all_are_fine es _ _ _ _ (objects g d es all) (shares g d) c.in_default-least.ensures.none in
      record {
        valid = all_valid es _ _ (objects g d es all) fine c.in-None.ensures.none;
        refused = tt;
        exact = λ valid. tt;
      };
}
