-- Each line of a record may follow the last one of its process (`line_follows`): a client's lines are a call, what
-- came of it, the next call, and so on. By induction on its journal.
use Rattle.std.proofs.lemmas.List.{append-nil, reverse-append}
use Rattle.std.proofs.Common.{◌≡◌, ℕ, ◌==◌, Bool, true, false, cond, List, [], ◌∷◌, ◌++◌, filter, find, reverse, Option}
use Rattle.std.proofs.Common.{Some, None, refl, ap, sym, ◌∙◌, subst, append_assoc}
use Rattle.std.proofs.lemmas.Bool.{eq-eqb}
use Rattle.model.specs.declared.AnyOp.{AnyOp}
use Rattle.desk_model.specs.declared.Answer.TheVariants.{Reply, Refused}
use Rattle.desk_model.specs.declared.JournalEvent.TheVariants.{Invoked, Returned}
use Rattle.desk_model.specs.World.{AnyAnswer, AnyEvent}
use Rattle.events.specs.declared.event.Action.{Action}
use Rattle.events.specs.declared.event.Action.TheVariants.{Invoke, Ok, Fail, Info}
use Rattle.events.specs.Events.{HasShape}
use Rattle.recorder.proofs.Journals.{InTurn, none, last, call, Fits}
use Rattle.transcript.specs.declared.line.Call.{Call}
use Rattle.transcript.specs.declared.line.Line.{Line}
use Rattle.transcript.specs.Lines.{event_of_journal, journal_lines_from, journal_lines}

-- the line of a call that is under way
abbrev pub Pending : Option Line → ℕ → AnyOp → Type 0
Pending prior x op = (k : Line) × (prior ≡ Some k) × (k.event.action ≡ Invoke op) × (k.op ≡ op) × (k.event.object ≡ x)

-- what a line may be after the last one of its process
abbrev pub MayFollow : Option Line → ℕ → AnyOp → Action → Type 0
MayFollow prior x op (Invoke o) = (op ≡ o) × ((k : Line) (p : AnyOp) → prior ≡ Some k → k.event.action ≡ Invoke p → ⊥)
MayFollow prior x op (Ok r) = Pending prior x op × HasShape op r
MayFollow prior x op Fail = Pending prior x op
MayFollow prior x op Info = ⊥

-- a line may follow the one before it of the same process
abbrev pub Follows : Option Line → Line → Type 0
Follows prior l = MayFollow prior l.event.object l.op l.event.action

-- the lines of process p go on like that after this one
abbrev pub Goes : ℕ → Option Line → List Line → Type 0
Goes p prior [] = Unit {0}
Goes p prior (l ∷ ls) =
    ((l.event.process == p) ≡ true → Follows prior l × Goes p (Some l) ls)
    × ((l.event.process == p) ≡ false → Goes p prior ls)

-- the last line of a process
abbrev pub last_line : ℕ → List Line → Option Line
last_line p ls = find (λ l. l.event.process == p) (reverse ls)

last_push : (p : ℕ) (earlier : List Line) (l : Line)
    → last_line p (earlier ++ l ∷ []) ≡ cond (l.event.process == p) (Some l) (last_line p earlier)
last_push p earlier l = ap (find (λ (x : Line). x.event.process == p)) (reverse-append earlier (l ∷ []))

-- a process goes on as its own lines do
goes_part : (p : ℕ) (prior : Option Line) (ls : List Line) → Goes p prior (filter (λ l. l.event.process == p) ls)
    → Goes p prior ls
goes_part p prior [] h = tt
goes_part p prior (l ∷ ls) h = (
  λ q. let k : Goes p prior (l ∷ filter (λ (x : Line). x.event.process == p) ls) = rw q at h in
      ((k.0 q).0, goes_part p (Some l) ls (k.0 q).1),
  λ q. goes_part p prior ls (rw q at h),
)

goes_after : (p : ℕ) (front earlier ls : List Line) → Goes p (last_line p front) (earlier ++ ls)
    → Goes p (last_line p (front ++ earlier)) ls
goes_after p front [] ls h = subst (λ (xs : List Line). Goes p (last_line p xs) ls) (sym (append-nil front)) h
goes_after p front (l ∷ earlier) ls h =
    subst (λ (xs : List Line). Goes p (last_line p xs) ls) (append_assoc front (l ∷ []) earlier)
    (goes_after p (front ++ l ∷ []) earlier ls (next (l.event.process == p) refl))
  where
    next : (b : Bool) → (l.event.process == p) ≡ b → Goes p (last_line p (front ++ l ∷ [])) (earlier ++ ls)
    next true q = rw (last_push p front l, q) (h.0 q).1
    next false q = rw (last_push p front l, q) (h.1 q)

-- the lines of a journal go on like that

journal_goes : (c : ℕ) (q : Option Call) (prior : Option Line) (js : List AnyEvent) → InTurn js
    → ((k : Line) (p : AnyOp) → prior ≡ Some k → k.event.action ≡ Invoke p → ⊥)
    → Goes c prior (journal_lines_from c q js)
journal_goes c q prior l none h = tt
journal_goes c q prior l (last t x op) h = (λ e. ((refl, h), tt), λ e. tt)
journal_goes c q prior l (call t x op u a js fits rest) h = (
  λ e. ((refl, h), back a fits (λ o f. journal_goes c (Some (record { object = x; op = op })) o js rest f)),
  λ e. absurd (cc (e, eq-eqb c c refl)),
)
  where
    back : (a : AnyAnswer) → Fits op a
        → ((o : Option Line) → ((k : Line) (p : AnyOp) → o ≡ Some k → k.event.action ≡ Invoke p → ⊥)
        → Goes c o (journal_lines_from c (Some (record { object = x; op = op })) js))
        → Goes c (Some (record { event = event_of_journal c x (Invoked t x op); op = op }))
        (record { event = event_of_journal c x (Returned u a); op = op }
        ∷ journal_lines_from c (Some (record { object = x; op = op })) js)
    back (Reply r) f later = (
      λ e. (
        ((record { event = event_of_journal c x (Invoked t x op); op = op }, refl, refl, refl, refl), f),
        later (Some (record { event = event_of_journal c x (Returned u (Reply r)); op = op }))
            (λ k p s i. let same : record { event = event_of_journal c x (Returned u (Reply r)); op = op }
            ≡ k = cc (s) in
            let act : Ok r ≡ Invoke p =
            ap (λ (z : Line). z.event.action) same ∙ i in absurd (cc (act))),
      ),
      λ e. absurd (cc (e, eq-eqb c c refl)),
    )
    back Refused f later = (
      λ e. (
        (record { event = event_of_journal c x (Invoked t x op); op = op }, refl, refl, refl, refl),
        later (Some (record { event = event_of_journal c x (Returned u Refused); op = op }))
            (λ k p s i. let same : record { event = event_of_journal c x (Returned u Refused); op = op } ≡ k = cc (s) in
            let act : Fail ≡ Invoke p =
            ap (λ (z : Line). z.event.action) same ∙ i in absurd (cc (act))),
      ),
      λ e. absurd (cc (e, eq-eqb c c refl)),
    )

-- each line follows the last one of its process
pub line_follows : (ls : List Line) (journals : ℕ → List AnyEvent) → ((c : ℕ) → InTurn (journals c))
    → ((c : ℕ) → filter (λ l. l.event.process == c) ls ≡ journal_lines c (journals c))
    → (earlier later : List Line) (l : Line) → ls ≡ earlier ++ l ∷ later → Follows (last_line l.event.process earlier) l
line_follows ls journals turn parts earlier later l is =
    let c = l.event.process in
    let all : Goes c None ls =
    goes_part c None ls (subst (Goes c None) (sym (parts c))
    (journal_goes c None None (journals c) (turn c) (λ k p s i. absurd (cc (s))))) in
    ((goes_after c [] earlier (l ∷ later) (subst (Goes c None) is all)).0 (eq-eqb c c refl)).0
