-- The entries of a client in a log that grows, and the replay of such a log: by induction along the log, one entry at a
-- time.
use Rattle.std.proofs.Common.{arith, ◌≡◌, ◌≢◌, ℕ, cond, eq-eqb, ne_eqb, List, [], ◌∷◌, ◌++◌, map, refl, sym, ap, subst}
use Rattle.std.proofs.Common.{◌∙◌, append_assoc, append-nil}
use Rattle.model.specs.declared.AnyOp.{AnyOp}
use Rattle.model.specs.declared.AnyReply.{AnyReply}
use Rattle.model.specs.declared.Kind.{Kind}
use Rattle.model.specs.Objects.{Content, empty, next}
use Rattle.desk_model.specs.declared.Answer.TheVariants.{Reply, Refused}
use Rattle.desk_model.specs.Images.{entry_in, event_in}
use Rattle.desk_model.specs.World.{AnyEntry, AnyEvent, AnyRequest, AnyAnswer, AnyDone, logged, logged_on}
use Rattle.desk_model.specs.World.{entries_of_client, served, Replays, IsLegalLog, StartsWith, Serves}

-- a beginning of a beginning of a log is a beginning of the log
pub starts_longer : (xs ys zs : List AnyEntry) → StartsWith xs ys → StartsWith ys zs → StartsWith xs zs
starts_longer xs ys zs a b = (b.0 ++ a.0, a.1 ∙ (ap (λ l. l ++ a.0) b.1 ∙ append_assoc zs b.0 a.0))

-- a log begins with itself
pub starts_same : (xs : List AnyEntry) → StartsWith xs xs
starts_same xs = ([], sym (append-nil xs))

-- the entries of a client in two logs, one after the other
pub entries-append : (client : ℕ) (xs ys : List AnyEntry)
    → entries_of_client client (xs ++ ys) ≡ entries_of_client client xs ++ entries_of_client client ys
entries-append client [] ys = refl
entries-append client (e ∷ es) ys = let rest = entries-append client es ys in grind arith

-- what an answer to a client puts into a log is all that client's
pub own_entries : (client : ℕ) (request : AnyRequest) (answer : AnyAnswer)
    → entries_of_client client (logged client request answer) ≡ logged client request answer
own_entries client request (Reply p) = ap (λ b. cond b (logged client request (Reply p)) []) (eq-eqb client client refl)
own_entries client request Refused = refl

-- what an answer to one client puts into a log has no entry of another
pub others_entries : (client row : ℕ) (request : AnyRequest) (answer : AnyAnswer) → client ≢ row
    → entries_of_client client (logged row request answer) ≡ []
others_entries client row request (Reply p) other =
    ap (λ b. cond b (logged row request (Reply p)) []) (ne_eqb row client (λ e. other (sym e)))
others_entries client row request Refused other = refl

-- what an answer puts into the log of the request's own object
pub logged_here : (object client : ℕ) (request : AnyRequest) (answer : AnyAnswer) → request.object ≡ object
    → logged_on object client request answer ≡ logged client request answer
logged_here object client request answer on =
    ap (λ b. cond b (logged client request answer) []) (eq-eqb request.object object on)

-- an answer puts nothing into the log of another object
pub logged_else : (object client : ℕ) (request : AnyRequest) (answer : AnyAnswer) → request.object ≢ object
    → logged_on object client request answer ≡ []
logged_else object client request answer other =
    ap (λ b. cond b (logged client request answer) []) (ne_eqb request.object object other)

served-append : (object client : ℕ) (done es : List AnyDone)
    → served object client (done ++ es) ≡ served object client done ++ served object client es
served-append object client [] es = refl
served-append object client (d ∷ done) es =
    ap (λ z. logged_on object client d.request d.answer ++ z) (served-append object client done es)
    ∙ sym (append_assoc (logged_on object client d.request d.answer) (served object client done)
    (served object client es))

-- one call more
pub served_more : (object client ticket : ℕ) (done : List AnyDone) (request : AnyRequest) (answer : AnyAnswer)
    → served object client (done ++ record { request = request; answer = answer; returned = ticket } ∷ [])
    ≡ served object client done ++ logged_on object client request answer
served_more object client ticket done request answer =
    served-append object client done (record { request = request; answer = answer; returned = ticket } ∷ [])
    ∙ ap (λ z. served object client done ++ z) (append-nil (logged_on object client request answer))

-- a log that is replayed goes on with what is served
pub replays_more : (content between after : Content) (log : List AnyEntry) (row : ℕ) (request : AnyRequest)
    (answer : AnyAnswer) → Replays content log between → Serves between request.op answer after
    → Replays content (log ++ logged row request answer) after
replays_more content between after [] row request (Reply p) h s = (after, ap (λ z. next z request.op) h ∙ s, refl)
replays_more content between after [] row request Refused h s = h ∙ sym s
replays_more content between after (e ∷ es) row request answer (mid, step, later) s =
    (mid, step, replays_more mid between after es row request answer later s)

-- what a log begins with is legal where the log is
replays_front : (content after : Content) (xs ys : List AnyEntry) → Replays content (xs ++ ys) after
    → (between : Content) × Replays content xs between
replays_front content after [] ys h = (content, refl)
replays_front content after (x ∷ xs) ys (mid, step, later) =
    let (between, replayed) = replays_front mid after xs ys later in
    (between, (mid, step, replayed))

-- a beginning of a legal log is legal
pub legal_front : (kind : Kind) (log seen : List AnyEntry) → StartsWith log seen → IsLegalLog kind log
    → IsLegalLog kind seen
legal_front kind log seen begins legal =
    replays_front (empty kind) legal.0 seen begins.0 (subst (λ z. Replays (empty kind) z legal.0) begins.1 legal.1)

-- ---- events and entries of operations of all kinds are their own images

event_as_it_is : (e : AnyEvent) → event_in (λ (op : AnyOp). op) (λ (r : AnyReply). r) e ≡ e
event_as_it_is e = grind arith

-- events of journals whose operations and replies are of all kinds stand for themselves
pub events_as_they_are : (es : List AnyEvent) → map (event_in (λ (op : AnyOp). op) (λ (r : AnyReply). r)) es ≡ es
events_as_they_are [] = refl
events_as_they_are (e ∷ es) = λ i. event_as_it_is e i ∷ events_as_they_are es i

-- entries of logs whose operations and replies are of all kinds stand for themselves
pub entries_as_they_are : (es : List AnyEntry) → map (entry_in (λ (op : AnyOp). op) (λ (r : AnyReply). r)) es ≡ es
entries_as_they_are [] = refl
entries_as_they_are (e ∷ es) = λ i. e ∷ entries_as_they_are es i
