-- Forms that are read one by one: what was found stays found, whatever follows.
use Rattle.std.proofs.Common.{◌≡◌, ℕ, Bool, true, false, Option, Some, None, List, [], ◌∷◌, ◌++◌, length, refl}
use Rattle.std.proofs.Common.{sym, ap, subst, ◌∙◌, append_assoc}
use Rattle.std.specs.Prelude.{is_some}
use Rattle.std.proofs.lemmas.List.{length-map}
use Rattle.edn_reader.specs.Datum.{Datum}
use Rattle.certificate.specs.declared.Certificate.{Certificate}
use Rattle.certificate.specs.declared.fault.CertFault.{CertFault}
use Rattle.certificate.specs.declared.fault.CertFaultKind.{CertFaultKind}
use Rattle.certificate.specs.declared.reader.Reading.{Reading}
use Rattle.certificate.specs.Denotes.{certificate_of, reading_of, Denotes}
use Rattle.certificate.specs.Faults.{IsCertSoundAt}
use Rattle.certificate.specs.Inside.{IsFaultAmong, AreCertificatesRead, has}
use Rattle.certificate.specs.Texts.{IsCertFaultIn, AreCertificatesReadOrFaulty, IsCertificateReading}
use Rattle.certificate.proofs.Reading.{no_fault, fault_here, only_fault, nothing_here}
use Rattle.edn.proofs.FirstFaults.{first_more}

-- more forms after those that were looked at
sound_more : (ds : List Datum) (d : Datum) (n : ℕ) → IsCertSoundAt ds n → IsCertSoundAt (ds ++ d ∷ []) n
sound_more ds d n h = record {
  earlier = h.earlier;
  form = h.form;
  later = h.later ++ d ∷ [];
  split = ap (λ (xs : List Datum). xs ++ d ∷ []) h.split ∙ append_assoc h.earlier (h.form ∷ h.later) (d ∷ []);
  stands_at = h.stands_at;
  faultless = h.faultless;
  none = h.none;
}

faulty_more : (r : Reading) (f : CertFault) (ds : List Datum) (d : Datum) → r.fault ≡ Some f → IsCertificateReading r ds
    → IsCertificateReading r (ds ++ d ∷ [])
faulty_more r f ds d e h =
    let a : IsCertFaultIn ds f =
    subst (λ (o : Option CertFault). AreCertificatesReadOrFaulty o ds r.certificates.items (has r.objects)) e h in
    subst (λ (o : Option CertFault). AreCertificatesReadOrFaulty o (ds ++ d ∷ []) r.certificates.items (has r.objects))
    (sym e)
    (λ n. first_more ds d f.form f.kind (a.0 n), λ m. sound_more ds d f.form (a.1 m))

pub still_faulty : (r : Reading) (ds : List Datum) (d : Datum) → true ≡ is_some r.fault → IsCertificateReading r ds
    → IsCertificateReading r (ds ++ d ∷ [])
still_faulty r ds d e h = by_fault r.fault refl
  where
    by_fault : (o : Option CertFault) → r.fault ≡ o → IsCertificateReading r (ds ++ d ∷ [])
    by_fault None q = absurd cc
    by_fault (Some f) q = faulty_more r f ds d q h

pub are_read : (r : Reading) (ds : List Datum) → r.fault ≡ None → IsCertificateReading r ds
    → AreCertificatesRead ds r.certificates.items (has r.objects)
are_read r ds e h = subst (λ (o : Option CertFault). AreCertificatesReadOrFaulty o ds r.certificates.items
    (has r.objects)) e h

one_each : (ds : List Datum) (cs : List Certificate) → Denotes ds cs → length ds ≡ length cs
one_each ds cs h = sym (length-map ds certificate_of) ∙ ap length h.each ∙ length-map cs (λ c. Some (reading_of c))

-- what is wrong with the form after those that were read, or that an allocation failed for it
pub found : (ds : List Datum) (cs : List Certificate) (among : ℕ → Bool) (d : Datum) (kind : CertFaultKind)
    → AreCertificatesRead ds cs among
    → IsFaultAmong among d kind → IsCertFaultIn (ds ++ d ∷ []) (record { kind = kind; form = length cs })
found ds cs among d kind h fault = (
  λ n. record {
    earlier = ds;
    form = d;
    later = [];
    split = refl;
    place = one_each ds cs h.denoted;
    stands = fault_here ds cs among d kind h fault n;
    faultless = no_fault ds cs h.denoted;
    least = λ k. only_fault ds d kind k (fault_here ds cs among d kind h fault n);
  },
  λ m. (
      let r = subst (IsFaultAmong among d) m fault in
      record {
        earlier = ds;
        form = d;
        later = [];
        split = refl;
        stands_at = one_each ds cs h.denoted;
        faultless = no_fault ds cs h.denoted;
        none = nothing_here ds cs among d r.0 h r.1 r.2;
      }
      ),
)

pub no_fault_yet : (o : Option CertFault) → false ≡ is_some o → o ≡ None
no_fault_yet None e = refl
no_fault_yet (Some f) e = absurd cc
