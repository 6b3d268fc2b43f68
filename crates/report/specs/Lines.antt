-- The lines of a verdict.
use Rattle.std.specs.Prelude.{ℕ, Bool, true, false, List, [], ◌∷◌, ◌++◌, codes, decimal}
use Rattle.std.specs.Fmt.{signed_decimal}
use Rattle.edn_reader.specs.Faults.{text_of_kind}
use Rattle.history.specs.Faults as history
use Rattle.certificate.specs.Faults as certificate
use Rattle.checker.specs.declared.refusal.OrderFault.{OrderFault}
use Rattle.checker.specs.declared.refusal.OrderFault.TheVariants.{UnknownOperation, Repeated}
use Rattle.checker.specs.declared.refusal.OrderFault.TheVariants.{TooLate, NotPossible, WrongReply}
use Rattle.checker.specs.declared.refusal.OrderFault.TheVariants.{Omitted}
use Rattle.checker.specs.declared.refusal.Refusal.{Refusal}
use Rattle.checker.specs.declared.refusal.Refusal.TheVariants as refusal
use Rattle.seq_objects.specs.Functions.{word_of}
use Rattle.seq_objects.specs.Values.{reply_value}
use Rattle.seq_objects.specs.declared.value.Value.{Value}
use Rattle.seq_objects.specs.declared.value.Value.TheVariants.{Nil, False, True, Int, Pair, Triple}
use Rattle.report.specs.declared.verdict.KindCount.{KindCount}
use Rattle.report.specs.declared.verdict.Summary.{Summary}
use Rattle.reading.specs.declared.text_failure.Fault.{Fault}
use Rattle.reading.specs.declared.text_failure.Fault.TheVariants.{HistoryText, HistoryMaps}
use Rattle.reading.specs.declared.text_failure.Fault.TheVariants.{CertificateText, CertificateForms}
use Rattle.report.specs.declared.verdict.Verdict.{Verdict}
use Rattle.report.specs.declared.verdict.Verdict.TheVariants.{Yes, No, Malformed, NoMemory}

-- what a line of a verdict begins with: the mark of a comment, or nothing
abbrev pub comment_text : Bool → List ℕ
comment_text true = codes "; "
comment_text false = []

-- ---- yes

-- the line of a kind, such as `queue: 1 objects, 2 operations`
abbrev pub kind_line : KindCount → List ℕ
kind_line k =
    word_of k.kind
    ++ (codes ": "
    ++ (decimal k.objects
    ++ (codes " objects, " ++ (decimal k.operations ++ codes " operations\n"))))

-- the lines of the kinds, each a comment if that is asked for
abbrev pub kind_lines : Bool → List KindCount → List ℕ
kind_lines commented [] = []
kind_lines commented (k ∷ ks) = (comment_text commented ++ kind_line k) ++ kind_lines commented ks

-- the first line of a yes, such as `yes: 3 operations, 1 objects`
abbrev pub total_line : Summary → List ℕ
total_line s =
    codes "yes: "
    ++
    (decimal s.operations ++ (codes " operations, " ++ (decimal s.objects ++ codes " objects\n")))

-- ---- no

-- a value in EDN, at the end of a line
abbrev pub value_line : Value → List ℕ
value_line Nil = codes "nil\n"
value_line False = codes "false\n"
value_line True = codes "true\n"
value_line (Int z) = signed_decimal z ++ codes "\n"
value_line (Pair a b) =
    codes "[" ++ (signed_decimal a ++ (codes " " ++ (signed_decimal b ++ codes "]\n")))
value_line (Triple a b c) =
    codes "["
    ++ (signed_decimal a
    ++ (codes " " ++ (signed_decimal b ++ (codes " " ++ (signed_decimal c ++ codes "]\n")))))

-- the line of a fault of the order for object x
abbrev pub order_line : ℕ → OrderFault → List ℕ
order_line x (UnknownOperation op) =
    codes "no: C3 object "
    ++ (decimal x ++ (codes ": " ++ (signed_decimal op ++ codes " is no operation\n")))
order_line x (Repeated op) =
    codes "no: C4 object "
    ++ (decimal x ++ (codes ": " ++ (signed_decimal op ++ codes " stands twice\n")))
order_line x (TooLate op by) =
    codes "no: C5 object "
    ++ (decimal x
    ++ (codes ": "
    ++ (signed_decimal op
    ++ (codes " returned before " ++ (decimal by ++ codes " was invoked\n")))))
order_line x (NotPossible op) =
    codes "no: C9 object "
    ++ (decimal x ++ (codes ": " ++ (signed_decimal op ++ codes " is not possible\n")))
order_line x (WrongReply op gives) =
    codes "no: C6 object "
    ++ (decimal x
    ++ (codes ": " ++ (signed_decimal op ++ (codes " gives " ++ value_line (reply_value gives)))))
order_line x (Omitted op) =
    codes "no: C7 object " ++ (decimal x ++ (codes ": " ++ (decimal op ++ codes " is left out\n")))

-- the line of a verdict if an allocation failed
abbrev pub no_memory_line : List ℕ
no_memory_line = codes "out of memory\n"

-- the line of a refusal, such as `no: C1 object 0 has no certificate`
abbrev pub refusal_line : Refusal → List ℕ
refusal_line (refusal.NoCertificate x) =
    codes "no: C1 object " ++ (decimal x ++ codes " has no certificate\n")
refusal_line (refusal.StrangeObject x) =
    codes "no: C2 object " ++ (decimal x ++ codes " is not in the history\n")
refusal_line (refusal.BadOrder x fault) = order_line x fault
refusal_line refusal.NoMemory = no_memory_line

-- ---- malformed

-- the line of a fault of a text, such as `malformed history: H1 at map 4`
abbrev pub fault_line : Fault → List ℕ
fault_line (HistoryText e) =
    codes "malformed history: "
    ++ (text_of_kind e.kind ++ (codes " at byte " ++ (decimal e.place ++ codes "\n")))
fault_line (HistoryMaps h) =
    codes "malformed history: H"
    ++ (decimal (history.history_fault_number h.kind)
    ++ (codes " at map " ++ (decimal h.map ++ codes "\n")))
fault_line (CertificateText e) =
    codes "malformed certificates: "
    ++ (text_of_kind e.kind ++ (codes " at byte " ++ (decimal e.place ++ codes "\n")))
fault_line (CertificateForms k) =
    codes "malformed certificates: K"
    ++ (decimal (certificate.cert_fault_number k.kind)
    ++ (codes " at form " ++ (decimal k.form ++ codes "\n")))

-- ---- all

-- the lines of a verdict, each a comment if that is asked for
abbrev pub verdict_text : Bool → Verdict → List ℕ
verdict_text commented (Yes s) =
    (comment_text commented ++ total_line s) ++ kind_lines commented s.kinds.items
verdict_text commented (No r) = comment_text commented ++ refusal_line r
verdict_text commented (Malformed f) = comment_text commented ++ fault_line f
verdict_text commented NoMemory = comment_text commented ++ no_memory_line
