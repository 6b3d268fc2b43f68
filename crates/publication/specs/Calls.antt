-- What the desk's calls say of clients and of what they hold.
use Rattle.std.specs.Prelude.{◌≡◌, ◌≢◌, ◌⊎◌, ℕ, ◌<◌, ◌≤◌, true, false, List, [], ◌∷◌, ◌++◌}
use Rattle.std.specs.Prelude.{length, map, All, Contains, ⊤, IsSome}
use Rattle.model.specs.declared.Kind.{Kind}
use Rattle.model.specs.declared.AnyOp.{AnyOp}
use Rattle.model.specs.declared.AnyReply.{AnyReply}
use Rattle.model.specs.Objects.{Content, empty, kind_of, next}
use Rattle.desk_model.specs.declared.JournalEvent.TheVariants.{Invoked, Returned}
use Rattle.desk_model.specs.World.{AnyEntry, AnyRequest, AnyAnswer, kind_at, logged}
use Rattle.desk_model.specs.World.{entries_of_client}
use Rattle.desk_model.specs.World.{served, calls_made, Replays, IsLegalLog, StartsWith}
use Rattle.desk_invariant.specs.declared.board.Own.TheVariants as own
use Rattle.desk_invariant.specs.declared.board.DeskView.{DeskView}
use Rattle.desk_invariant.specs.Views.{row_place, seen_of, own_request, journal, is_waiting}
use Rattle.desk_invariant.specs.Views.{after_miss, after_row_miss, after_win, after_pick}
use Rattle.desk_invariant.specs.Views.{after_put_back, after_answer, with_own, after_take}
use Rattle.desk_invariant.specs.Views.{after_return, after_meet, after_end_unset, IsAccount}
use Rattle.desk_model.specs.Images.{entry_in, event_in}
use Rattle.desk_model.specs.Records.{IsSoundRecord}
use Rattle.recorder.specs.Records.{Recorded, journal_at, log_at}
use Rattle.publication_list.specs.Calls.{PlaceSeen}
use Rattle.publication.specs.declared.desk.Post.{Post}
use Rattle.publication.specs.declared.desk.Post.TheVariants as post
use Rattle.publication.specs.declared.desk.Win.{Win}
use Rattle.publication.specs.declared.desk.Win.TheVariants as win
use Rattle.publication.specs.declared.desk.Picked.{Picked}
use Rattle.publication.specs.declared.desk.Picked.TheVariants as pick
use Rattle.publication.specs.Handles.{DeskId, DeskSeen, Known, PassState, Holding, Handling}

-- The call was posted as the outstanding one of an idle client: its invocation is the last event of
-- the journal.
pub record IsPosted (v : DeskView) (object : ℕ) (op : AnyOp) (w : DeskView) : Type 0 where
  pub ticket : ℕ
  pub was_idle : v.own ≡ own.Idle
  pub knows : w ≡ with_own (own.Waiting record { object = object; ticket = ticket; op = op }) v
  pub journal : journal w ≡ journal v ++ Invoked ticket object op ∷ []

-- of the client that knows this no call is outstanding, and it may make one more
abbrev pub HasCallLeft : DeskId → DeskView → Type 0
HasCallLeft d v = (is_waiting v.own ≡ false) × (calls_made v.done (own_request v.own) < d.quota)

-- the client has no call outstanding, and may post one more
abbrev pub MayPost : Known → Type 0
MayPost c = HasCallLeft c.desk c.knows

-- there is no object x, or it is of another kind
abbrev pub IsNotOfKind : List Kind → ℕ → Kind → Post → Type 0
IsNotOfKind kinds x kind post.NoSuchObject = length kinds ≤ x
IsNotOfKind kinds x kind post.OtherKind = (x < length kinds) × (kind ≢ kind_at kinds x)
IsNotOfKind kinds x kind e = ⊥

-- why a call on the object x was not posted
abbrev pub IsPostRefusal : DeskSeen → Known → ℕ → AnyOp → Post → Type 0
IsPostRefusal d c x op post.Outstanding = is_waiting c.knows.own ≡ true
IsPostRefusal d c x op post.Spent =
    (is_waiting c.knows.own ≡ false)
    × (c.desk.quota ≤ calls_made c.knows.done (own_request c.knows.own))
IsPostRefusal d c x op e = MayPost c × IsNotOfKind d.id.kinds x (kind_of op) e

-- The own call is over, with this answer. The log of its object that was seen is legal, begins with
-- all that was seen before, and holds of the client's own calls those that are over and this one.
-- The ticket of the return is greater than each in it, and the return is the last event of the
-- journal.
pub record IsPollAnswer (v : DeskView) (a : AnyAnswer) (w : DeskView) : Type 0 where
  pub request : AnyRequest
  pub log : List AnyEntry
  pub ticket : ℕ
  pub waited : v.own ≡ own.Waiting request
  pub knows : w ≡ after_return request a ticket (after_take request a log v)
  pub seen : seen_of w request.object ≡ log
  pub legal : IsLegalLog (kind_at v.kinds request.object) log
  pub begins : StartsWith log (seen_of v request.object)
  pub counted : entries_of_client v.number log
      ≡ served request.object v.number v.done ++ logged v.number request a
  pub later : All (λ e. e.ticket < ticket) log
  pub journal : journal w ≡ journal v ++ Returned ticket a ∷ []

-- nothing was outstanding, or the row was tried once, and the client did not know that it was
-- answered
abbrev pub IsPollMiss : DeskView → DeskView → Type 0
IsPollMiss v w =
    ((is_waiting v.own ≡ false) × (w ≡ v))
    ⊎ ((w ≡ after_miss (row_place v.number) v) × (v.ready ≡ false))

-- The object x is held. Its log is legal, and begins with all that was seen of it.
pub record IsWon (c : Known) (x : ℕ) (p : Holding) : Type 0 where
  pub object : p.object ≡ x
  pub knows : p.knows ≡ after_win x p.log c.knows
  pub legal : IsLegalLog (kind_at c.desk.kinds x) p.log
  pub begins : StartsWith p.log (seen_of c.knows x)

-- The request of the row is in hand. It is for the object that is held, and of its kind. It is the
-- one that this pass had put back there, if any, and at the own row it is the own one.
pub record IsPicked (p : Holding) (r : ℕ) (h : Handling) : Type 0 where
  pub object : h.object ≡ p.object
  pub log : h.log ≡ p.log
  pub row : h.row ≡ r
  pub knows : h.knows ≡ after_pick p.object p.log r h.request p.knows
  pub on : h.request.object ≡ p.object
  pub of_kind : kind_of h.request.op ≡ kind_at p.knows.kinds p.object
  pub again : All (λ b. b.row ≡ r → b.request ≡ h.request) p.knows.back
  pub mine : (q : AnyRequest) → r ≡ p.knows.number → p.knows.own ≡ own.Waiting q → h.request ≡ q

-- the row was tried once, and had no request for the object; so this pass had put none back there
pub record IsPickMiss (p : Holding) (r : ℕ) (q : Holding) : Type 0 where
  pub object : q.object ≡ p.object
  pub log : q.log ≡ p.log
  pub knows : q.knows ≡ after_row_miss (row_place r) p.object p.knows
  pub none_back : All (λ b. b.row ≢ r) p.knows.back

-- after the log, the object can do the operation
abbrev pub CanDoAfter : Kind → List AnyEntry → AnyOp → Type 0
CanDoAfter kind log op =
    (content : Content) × Replays (empty kind) log content × IsSome (next content op)

-- the kind of the object that is held
abbrev pub kind_held : Handling → Kind
kind_held h = kind_at h.knows.kinds h.object

-- The request in hand is answered: the log has one entry more, with the request's client, ticket
-- and operation, and the reply, and is legal; or an allocation failed, and it has none.
pub record IsAnsweredCall (h : Handling) (a : AnyAnswer) (p : Holding) : Type 0 where
  pub object : p.object ≡ h.object
  pub log : p.log ≡ h.log ++ logged h.row h.request a
  pub legal : IsLegalLog (kind_held h) p.log
  pub knows : p.knows ≡ after_answer h.row h.object p.log h.knows

-- the request in hand is back in its row, and nothing else changed
pub record IsPutBack (h : Handling) (p : Holding) : Type 0 where
  pub object : p.object ≡ h.object
  pub log : p.log ≡ h.log
  pub knows : p.knows ≡ after_put_back h.object h.log h.row h.request h.knows

-- Both have seen one legal log of the object x, which begins with what each had seen, and nothing
-- else of theirs has changed but what they were told. So no word has changed: of the steps that
-- change one only those of a pass, from win to release, leave no other trace in what a client
-- knows, and neither began one.
pub record HaveBothMet (x : ℕ) (one other one' other' : Known) : Type 0 where
  pub log : List AnyEntry
  pub first : one'.knows ≡ after_meet x log (record one.knows { received = one'.knows.received })
  pub second : other'.knows
      ≡ after_meet x log (record other.knows { received = other'.knows.received })
  -- neither has won an object in the meantime
  pub no_pass : (one'.knows.won ≡ one.knows.won) × (other'.knows.won ≡ other.knows.won)
  pub seen_first : seen_of one'.knows x ≡ log
  pub seen_second : seen_of other'.knows x ≡ log
  pub legal : IsLegalLog (kind_at one.desk.kinds x) log
  pub begins_first : StartsWith log (seen_of one.knows x)
  pub begins_second : StartsWith log (seen_of other.knows x)

-- another client than the last had not retired when its end word was read, and all others of lower
-- number had
pub record IsStillThere (d : DeskSeen) (last : Known) (client : ℕ) (after : Known) : Type 0 where
  pub client_low : client < d.clients
  pub other : client ≢ last.knows.number
  -- and none that is known to have retired, since it told
  pub untold : All (λ l. l.client ≢ client) last.knows.left
  pub least : (c : ℕ) → c < client → c ≢ last.knows.number → Contains after.knows.retired c
  -- of the last client nothing else has changed: it knows who has retired, and found this one there
  pub looked : (v : DeskView) × (after.knows ≡ after_end_unset client v)
      × (v ≡ record last.knows { retired = v.retired })

module _ {O R : Type 0} (op_in : O → AnyOp) (reply_in : R → AnyReply) where
  -- The record has a journal for each client and a log for each object, and is sound: its history
  -- is well-formed, and each log is legal and a valid order. The last client's journal is its own,
  -- and each log begins with what it had seen.
  pub record IsClosedRecord (d : DeskSeen) (last : Known) (r : Recorded O R) : Type 0 where
    pub journals : length r.journals ≡ d.clients
    pub logs : length r.logs ≡ length d.id.kinds
    pub own : map (event_in op_in reply_in) (journal_at r last.knows.number) ≡ journal last.knows
    pub legal : (x : ℕ) → x < length d.id.kinds
        → IsLegalLog (kind_at d.id.kinds x) (map (entry_in op_in reply_in) (log_at r x))
    pub seen : (x : ℕ) → x < length d.id.kinds
        → StartsWith (map (entry_in op_in reply_in) (log_at r x)) (seen_of last.knows x)
    -- the journal of each client that told of its end is the one that it told of
    pub left : All (λ l. map (event_in op_in reply_in) (journal_at r l.client)
        ≡ l.journal) last.knows.left
    -- of the last client's calls each log holds just those that were not refused, each once and in
    -- order
    pub accounts : (x : ℕ) → IsAccount x last.knows (map (entry_in op_in reply_in) (log_at r x))
    pub sound : IsSoundRecord d.id.kinds d.id.quota (λ c. map (event_in op_in reply_in)
        (journal_at r c)) (λ x. map (entry_in op_in reply_in) (log_at r x))

module _ {S O R : Type 0} where
  -- the desk of a client after its try to win an object
  abbrev pub desk_after_win : Win S O R → DeskId
  desk_after_win (win.Won p) = p.desk
  desk_after_win (win.Held c) = c.desk

  -- if the client won the object, this holds of the client with the object
  abbrev pub IfWon : Win S O R → (Holding → Type 0) → Type 0
  IfWon (win.Won p) P = P p
  IfWon (win.Held c) P = ⊤

  -- if the lock of the object was held, this holds of the client, which has not won the object
  abbrev pub IfHeld : Win S O R → (Known → Type 0) → Type 0
  IfHeld (win.Won p) P = ⊤
  IfHeld (win.Held c) P = P c

  -- the desk of a client after its try to pick up a request
  abbrev pub desk_after_pick : Picked S O R → DeskId
  desk_after_pick (pick.Got h) = h.desk
  desk_after_pick (pick.Not p) = p.desk

  -- what else is in the hands of a client after its try to pick up a request
  abbrev pub state_after_pick : Picked S O R → PassState
  state_after_pick (pick.Got h) = h.state
  state_after_pick (pick.Not p) = p.state

  -- the places of a client after its try to win an object
  abbrev pub places_after_win : Win S O R → List PlaceSeen
  places_after_win (win.Won p) = p.state.places
  places_after_win (win.Held c) = c.places

  -- if a request was picked up, this holds of the client with the request
  abbrev pub IfGot : Picked S O R → (Handling → Type 0) → Type 0
  IfGot (pick.Got h) P = P h
  IfGot (pick.Not p) P = ⊤

  -- if no request was picked up, this holds of the client, which still holds the object
  abbrev pub IfNot : Picked S O R → (Holding → Type 0) → Type 0
  IfNot (pick.Got h) P = ⊤
  IfNot (pick.Not p) P = P p
