use Rattle.std.proofs.Common.{◌≡◌, ℕ, List, ◌++◌, take, drop, false}
use Rattle.std.specs.Io.KnownBytes.{Appends}
use Rattle.certificate.specs.Lines.{certificate_lines}
use Rattle.certificate.proofs.Writing.{InProfiles}
use Rattle.certificate.proofs.writer.write_certificates.Given as goal

abbrev pub invariant-loop-certificate : goal.invariant-loop-certificate
invariant-loop-certificate g l = record {
  usable : g.S.Sink.broken l.sink ≡ false;
  done : List ℕ;
  parts : certificate_lines l.certificates ≡ done ++ certificate_lines (drop l.certificate-index l.certificates);
  sent : Appends (g.S.Sink.sent l.initial.sink) (g.S.Sink.sent l.sink) done;
  in_profile : InProfiles (take l.certificate-index l.certificates);
}
