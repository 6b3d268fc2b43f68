use Rattle.std.proofs.Common.{◌≡◌, map, All}
use Rattle.model.specs.Objects.{empty, kind_with}
use Rattle.seq_objects.specs.AnyContent.{content_of}
use Rattle.seq_objects.specs.Kinds.{kinds_of}
use Rattle.simulation.proofs.playing.objects_of.Given as goal

-- the objects so far
abbrev pub invariant-loop-object : goal.invariant-loop-object
invariant-loop-object l = record {
  kinds : map (λ o. kind_with (content_of o)) l.objects.items ≡ kinds_of l.header.kinds l.object;
  empty : All (λ o. content_of o ≡ empty (kind_with (content_of o))) l.objects.items;
}
