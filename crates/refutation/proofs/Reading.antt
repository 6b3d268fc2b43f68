-- Reading reasons form by form: the forms so far have no fault, or this is the first one. By what holds of any forms
-- that are read one by one (`FormsRead`).
use Rattle.std.proofs.Common.{◌≡◌, ℕ, ◌<◌, ◌≤◌, List, [], length, take, get_or, map, ap, sym, ◌∙◌, arith}
use Rattle.edn_reader.specs.Datum.{Datum}
use Rattle.edn_reader.specs.View.{view, views}
use Rattle.edn_reader.specs.declared.form.Form.{Form}
use Rattle.edn.specs.FirstFaults.{AreFaultless}
use Rattle.edn.proofs.FormsRead as forms
use Rattle.refutation.specs.declared.reason.Reason.{Reason}
use Rattle.refutation.specs.Denotes.{reason_in, reason_seen, Denotes}
use Rattle.refutation.specs.Faults.{reason_fault_number, IsReasonFault, IsFirstFault, AreReasonsSoundBefore}
use Rattle.refutation.specs.declared.fault.ReasonFault.{ReasonFault}
use Rattle.refutation.specs.declared.fault.ReasonFaultKind.{ReasonFaultKind}
use Rattle.refutation.specs.declared.fault.ReasonFaultKind.TheVariants.{NotAReason, NoMemory}

no_fault : (ds : List Datum) (rs : List Reason) → Denotes ds rs → AreFaultless IsReasonFault ds
no_fault ds rs h earlier later d NotAReason split fault =
    forms.is_read reason_in reason_seen earlier later d rs (ap (map reason_in) (sym split) ∙ h) fault
no_fault ds rs h earlier later d NoMemory split fault = fault

only_fault : (earlier : List Datum) (d : Datum) (kind other : ReasonFaultKind) → IsReasonFault earlier d kind
    → IsReasonFault earlier d other → reason_fault_number kind ≤ reason_fault_number other
only_fault earlier d NotAReason NotAReason h k = omega arith
only_fault earlier d NotAReason NoMemory h k = omega arith
only_fault earlier d NoMemory other h k = absurd h

-- what is wrong with a form is wrong with it after any others
after_any : (earlier : List Datum) (d : Datum) (kind : ReasonFaultKind) → IsReasonFault [] d kind
    → IsReasonFault earlier d kind
after_any earlier d NotAReason h = h
after_any earlier d NoMemory h = h

-- after forms that are reasons a fault of the next form is the first one
pub first_fault : (fs : List Form) (i : ℕ) (f : Form) (rs : List Reason) (kind : ReasonFaultKind) → i < length fs
    → f ≡ get_or fs i f → Denotes (views (take i fs)) rs → IsReasonFault [] (view f) kind
    → IsFirstFault (views fs) (record { kind = kind; form = i })
first_fault fs i f rs kind lt is h fault =
    let stands = after_any (views (take i fs)) (view f) kind fault in
    forms.first_fault IsReasonFault fs i f lt is (no_fault (views (take i fs)) rs h) reason_fault_number kind stands
    (λ k. only_fault (views (take i fs)) (view f) kind k stands)

pub not_denoted : (ds : List Datum) (e : ReasonFault) → IsFirstFault ds e → (rs : List Reason) → Denotes ds rs → ⊥
not_denoted ds e f rs h = no_fault ds rs h f.earlier f.later f.form e.kind f.split f.stands

pub sound_before : (fs : List Form) (i : ℕ) (f : Form) (rs : List Reason) → i < length fs → f ≡ get_or fs i f
    → Denotes (views (take i fs)) rs → AreReasonsSoundBefore (views fs) i
sound_before fs i f rs lt is h = forms.sound_before IsReasonFault fs i f lt is (no_fault (views (take i fs)) rs h)
