use Rattle.std.proofs.Common.{IsSome, take}
use Rattle.number_map.specs.Lookup.{value_of}
use Rattle.model.specs.Lists.{In}
use Rattle.certificate.specs.declared.Certificate.{Certificate}
use Rattle.checker.specs.Checking.{AreCertificatePlaces}
use Rattle.checker.proofs.all.certificate_places.Given as goal

abbrev pub invariant-loop-k : goal.invariant-loop-k
invariant-loop-k l = AreCertificatePlaces l.places l.certificates
    × ((c : Certificate) → In c (take l.k l.certificates) → IsSome (value_of l.places c.object))
