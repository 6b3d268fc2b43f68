-- Reading claims form by form: the forms so far have no fault, or this is the first one. By what holds of any forms
-- that are read one by one (`FormsRead`).
use Rattle.std.proofs.Common.{◌≡◌, ℕ, ◌<◌, ◌≤◌, List, [], length, take, get_or, map, true, false, ap, sym, ◌∙◌, arith}
use Rattle.edn_reader.specs.Datum.{Datum}
use Rattle.edn_reader.specs.View.{view, views}
use Rattle.edn_reader.specs.declared.form.Form.{Form}
use Rattle.edn.specs.FirstFaults.{AreFaultless}
use Rattle.edn.proofs.FormsRead as forms
use Rattle.verifying.specs.declared.claim.Claim.{Claim}
use Rattle.verifying.specs.Denotes.{claim_in, claim_seen, Denotes}
use Rattle.verifying.specs.Faults.{fault_rank, IsClaimFault, IsFirstFault, AreClaimsSoundBefore}
use Rattle.verifying.specs.declared.fault.ClaimFault.{ClaimFault}
use Rattle.verifying.specs.declared.fault.ClaimFaultKind.{ClaimFaultKind}
use Rattle.verifying.specs.declared.fault.ClaimFaultKind.TheVariants.{NotACertificate, NotAReason, NoMemory}

no_fault : (ds : List Datum) (cs : List Claim) → Denotes ds cs → AreFaultless IsClaimFault ds
no_fault ds cs h earlier later d NoMemory split fault = fault
no_fault ds cs h earlier later d kind split fault =
    forms.is_read claim_in claim_seen earlier later d cs (ap (map claim_in) (sym split) ∙ h) fault.1

only_fault : (earlier : List Datum) (d : Datum) (kind other : ClaimFaultKind) → IsClaimFault earlier d kind
    → IsClaimFault earlier d other → fault_rank kind ≤ fault_rank other
only_fault earlier d NotAReason NotACertificate h k = absurd (let e : true ≡ false = sym k.0 ∙ h.0 in cc)
only_fault earlier d NoMemory other h k = absurd h
only_fault earlier d NotACertificate NotACertificate h k = omega arith
only_fault earlier d kind other h k = omega arith

-- what is wrong with a form is wrong with it after any others
after_any : (earlier : List Datum) (d : Datum) (kind : ClaimFaultKind) → IsClaimFault [] d kind
    → IsClaimFault earlier d kind
after_any earlier d NoMemory h = h
after_any earlier d kind h = h

-- after forms that are claims a fault of the next form is the first one
pub first_fault : (fs : List Form) (i : ℕ) (f : Form) (cs : List Claim) (kind : ClaimFaultKind) → i < length fs
    → f ≡ get_or fs i f → Denotes (views (take i fs)) cs → IsClaimFault [] (view f) kind
    → IsFirstFault (views fs) (record { kind = kind; form = i })
first_fault fs i f cs kind lt is h fault =
    let stands = after_any (views (take i fs)) (view f) kind fault in
    forms.first_fault IsClaimFault fs i f lt is (no_fault (views (take i fs)) cs h) fault_rank kind stands
    (λ k. only_fault (views (take i fs)) (view f) kind k stands)

pub not_denoted : (ds : List Datum) (e : ClaimFault) → IsFirstFault ds e → (cs : List Claim) → Denotes ds cs → ⊥
not_denoted ds e f cs h = no_fault ds cs h f.earlier f.later f.form e.kind f.split f.stands

pub sound_before : (fs : List Form) (i : ℕ) (f : Form) (cs : List Claim) → i < length fs → f ≡ get_or fs i f
    → Denotes (views (take i fs)) cs → AreClaimsSoundBefore (views fs) i
sound_before fs i f cs lt is h = forms.sound_before IsClaimFault fs i f lt is (no_fault (views (take i fs)) cs h)
