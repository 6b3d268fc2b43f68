use Rattle.std.proofs.Common.{◌≡◌, All, sym, subst}
use Rattle.std.proofs.lemmas.List.Elements.{All-push}
use Rattle.model.specs.Objects.{empty, kind_with}
use Rattle.seq_objects.specs.AnyContent.{content_of}
use Rattle.combiner_tests.specs.declared.refusing.Refusing.{Refusing}
use Rattle.combiner_tests.proofs.bench.objects_of.Goals as goal

pub loop-kind-preserved : goal.loop-kind-preserved
loop-kind-preserved c =
    subst (All (λ (o : Refusing). content_of o.inside ≡ empty (kind_with (content_of o.inside))))
    (sym c.in_ok-push.ensures.items)
    (All-push (λ (o : Refusing). content_of o.inside ≡ empty (kind_with (content_of o.inside)))
    c.loop-kind.objects.items c.object_of.result c.loop-kind.invariant c.object_of.ensures)
