use Rattle.std.proofs.Common.{◌≡◌, map, take, All}
use Rattle.model.specs.Objects.{empty, kind_with}
use Rattle.seq_objects.specs.AnyContent.{content_of}
use Rattle.clients.proofs.run.empty_objects.Given as goal

abbrev pub invariant-loop-kind : goal.invariant-loop-kind
invariant-loop-kind l = (map (λ o. kind_with (content_of o)) l.objects.items ≡ take l.kind-index l.kinds)
    × All (λ o. content_of o ≡ empty (kind_with (content_of o))) l.objects.items
