-- What contracts see of a desk, of a client, and of a client that holds an object.
use Rattle.std.specs.Prelude.{◌≡◌, ℕ, zero, suc, ◌+◌, ◌-◌, ◌<◌, ◌≤◌, Bool, false, List, [], ◌∷◌}
use Rattle.std.specs.Prelude.{◌++◌, map, length, replicate, vec_len, vec_capacity}
use Rattle.std.specs.declared.vec.Vec.{Vec}
use mathlib.Core.Option.{some}
use lib.ListN.{get_elem?}
use Rattle.atomic_table.specs.Table.{Me}
use Rattle.atomic_table.specs.Seated.{TableId}
use Rattle.model.specs.declared.Kind.{Kind}
use Rattle.model.specs.declared.AnyOp.{AnyOp}
use Rattle.model.specs.declared.AnyReply.{AnyReply}
use Rattle.model.specs.Objects.{Content, kind_of}
use Rattle.desk_model.specs.declared.Request.{Request}
use Rattle.desk_model.specs.World.{AnyEntry, AnyRequest, kind_at, calls_made, IsLegalLog}
use Rattle.desk_model.specs.Images.{request_in, entry_in, event_in}
use Rattle.publication_list.specs.declared.list_table.Enlist.{Enlist}
use Rattle.publication_list.specs.Calls.{PlaceSeen, WalkerSeen}
use Rattle.desk_invariant.specs.declared.board.Core.{Core}
use Rattle.desk_invariant.specs.declared.board.Journal.{Journal}
use Rattle.desk_invariant.specs.declared.board.Leaving.{Leaving}
use Rattle.desk_invariant.specs.declared.board.Plan.{Plan}
use Rattle.desk_invariant.specs.declared.board.Slot.{Slot}
use Rattle.desk_invariant.specs.declared.board.Slot.TheVariants as slot
use Rattle.desk_invariant.specs.declared.board.Own.{Own}
use Rattle.desk_invariant.specs.declared.board.Own.TheVariants as own
use Rattle.desk_invariant.specs.declared.board.Held.TheVariants as held
use Rattle.desk_invariant.specs.declared.board.Role.TheVariants as role
use Rattle.desk_invariant.specs.declared.board.DeskView.{DeskView}
use Rattle.desk_invariant.specs.Views.{new_client, with_own, own_request, journal, is_waiting}
use Rattle.desk_invariant.specs.Views.{seen_of, IsAtRest, IsAccount}
use Rattle.desk_invariant.specs.Rule.{CoreFits}
use Rattle.desk_model.specs.Limits.{max_objects, max_clients, max_calls}
use Rattle.desk_invariant.specs.Views.{table_words, table_slots, call_slot, journal_slot}

-- which desk: its table, the quota of each of its clients, the kind of each of its objects, and
-- which roster the publication list of each object is
pub record DeskId : Type 0 where
  pub table : TableId
  pub quota : ℕ
  pub kinds : List Kind
  pub lists : List TableId

-- the publication list of the object x is this roster
abbrev pub IsListOf : DeskId → ℕ → TableId → Type 0
IsListOf d x list = get_elem? d.lists x ≡ some list

-- a desk, with the number of its clients
pub record DeskSeen : Type 0 where
  pub id : DeskId
  pub clients : ℕ

-- a client: its desk, what it knows, and its place in the list of each object
pub record Known : Type 0 where
  pub desk : DeskId
  pub knows : DeskView
  pub places : List PlaceSeen

-- one try more at the place in the list of x
abbrev pub trying : ℕ → Enlist → List PlaceSeen → List PlaceSeen
trying x result [] = []
trying zero result (p ∷ ps) = record p { tries = p.tries ++ result ∷ [] } ∷ ps
trying (suc x) result (p ∷ ps) = p ∷ trying x result ps

-- the client's place in the list of the object x is of its own row
abbrev pub HasPlaceAt : Known → ℕ → Type 0
HasPlaceAt c x =
    (p : PlaceSeen) × (get_elem? c.places x ≡ some p) × (p.row ≡ c.knows.number)
    × IsListOf c.desk x p.roster

-- these places are of the row c, one in each of these lists
pub record ArePlacesOf (c : ℕ) (lists : List TableId) (places : List PlaceSeen) : Type 0 where
  pub rows : map (λ p. p.row) places ≡ replicate max_objects c
  pub lists_are : map (λ p. p.roster) places ≡ lists

-- What else there is in a client's hands while it holds an object: how many passes there were over
-- the object, for how many entries more its log has room, its publication list, the age of each
-- row, and the client's places.
pub record PassState : Type 0 where
  pub passes : ℕ
  pub room : ℕ
  pub list : WalkerSeen
  pub ages : List ℕ
  pub places : List PlaceSeen

-- a client that holds an object: also the object's number and its log
pub record Holding : Type 0 where
  pub desk : DeskId
  pub knows : DeskView
  pub object : ℕ
  pub log : List AnyEntry
  pub state : PassState

-- a client that holds an object and a request: also the row that the request is of
pub record Handling : Type 0 where
  pub desk : DeskId
  pub knows : DeskView
  pub object : ℕ
  pub log : List AnyEntry
  pub state : PassState
  pub row : ℕ
  pub request : AnyRequest

-- that clients have retired: at which table, and what they told of their ends
pub record Notice : Type 0 where
  pub table : TableId
  pub left : List Leaving

-- nothing is in it yet, and n elements fit
abbrev pub IsRoom : {A Z : Type 0} → ℕ → Vec A Z → Type 0
IsRoom n v = (v.items ≡ []) × (n ≤ vec_capacity v)

-- a desk over this table
abbrev pub IsDesk : TableId → Plan → DeskSeen → Type 0
IsDesk table plan d =
    (table.words ≡ table_words) × (table.slots ≡ table_slots) × (plan.kinds.items ≡ d.id.kinds)
    × (plan.clients ≡ d.clients) × (plan.quota ≡ d.id.quota) × (length d.id.kinds < 1 + max_objects)
    × (d.clients < 1 + max_clients) × (d.id.quota < 1 + max_calls)

module _ {O R : Type 0} (op_in : O → AnyOp) (reply_in : R → AnyReply) where
  -- what the client's fields say of what it knows
  pub record Agrees (number calls quota : ℕ) (outstanding : Bool) (j : Journal O R) (v : DeskView) :
      Type 0 where
    pub client_is : v.role ≡ role.Client
    pub number_is : v.number ≡ number
    pub number_low : number < max_clients
    pub at_rest : IsAtRest v.own
    pub going : v.ended ≡ false
    pub calls_is : calls ≡ calls_made v.done (own_request v.own)
    pub within : calls ≤ quota
    pub few : quota < 1 + max_calls
    pub outstanding_is : outstanding ≡ is_waiting v.own
    pub journal_is : map (event_in op_in reply_in) j.events.items ≡ journal v
    pub room : quota + quota ≤ vec_capacity j.events
    pub wide : length v.seen ≡ max_objects
    pub legal : (x : ℕ) → IsLegalLog (kind_at v.kinds x) (seen_of v x)
    pub accounts : (x : ℕ) → IsAccount x v (seen_of v x)

module _ {S O R : Type 0} where
  -- the slots that the client has: that of its journal, and that of its request while it has none
  abbrev pub at_hand : ℕ → Own → List (ℕ × Slot S O R)
  at_hand c own.Idle = (call_slot c, slot.Nothing) ∷ (journal_slot c, slot.Nothing) ∷ []
  at_hand c o = (journal_slot c, slot.Nothing) ∷ []

module _ {S O R : Type 0} (op_in : O → AnyOp) (reply_in : R → AnyReply) where
  -- The fields of a client that holds no object agree with what it knows, and with the slots that
  -- it has.
  pub record IsClient (number calls quota : ℕ) (outstanding : Bool) (j : Journal O R)
      (me : Me (Slot S O R) DeskView) : Type 0 where
    pub agrees : Agrees op_in reply_in number calls quota outstanding j me.0
    pub free : me.0.held ≡ held.Free
    pub in_hand : me.1 ≡ at_hand number me.0.own

  -- the log of a core as contracts see it
  abbrev pub log_of : Core S O R → List AnyEntry
  log_of core = map (entry_in op_in reply_in) core.log.items

module _ {S O R : Type 0} where
  -- what is in the hands of a client with this core and these places, besides the object and its
  -- log
  abbrev pub state_of : Core S O R → List PlaceSeen → PassState
  state_of core places =
      record {
        passes = core.passes;
        room = vec_capacity core.log - vec_len core.log;
        list = core.list;
        ages = core.ages;
        places = places;
      }

module _ {S O R : Type 0} (content : S → Content) (op_in : O → AnyOp) (reply_in : R → AnyReply)
  where
    -- The fields of a client that holds this object, with its core, agree with what it knows, and
    -- with the slots that it has.
    pub record IsPass (number calls quota : ℕ) (outstanding : Bool) (j : Journal O R) (object : ℕ)
        (core : Core S O R) (me : Me (Slot S O R) DeskView) : Type 0 where
      pub agrees : Agrees op_in reply_in number calls quota outstanding j me.0
      pub holds : me.0.held ≡ held.Pass object (log_of op_in reply_in core)
      pub in_hand : me.1 ≡ (object, slot.Nothing) ∷ at_hand number me.0.own
      pub fits : CoreFits content op_in reply_in (kind_at me.0.kinds object)
          (get_elem? me.0.lists object)
          core (log_of op_in reply_in core)
      pub low : object < max_objects

    -- The fields of a client that holds this object, and in its hand the request of this row, agree
    -- with what it knows, and with the slots that it has.
    pub record IsHand (number calls quota : ℕ) (outstanding : Bool) (j : Journal O R) (object : ℕ)
        (core : Core S O R) (row : ℕ) (request : Request O) (me : Me (Slot S O R) DeskView) : Type 0
      where
        pub agrees : Agrees op_in reply_in number calls quota outstanding j me.0
        pub holds : me.0.held
            ≡ held.Hand object (log_of op_in reply_in core) row (request_in op_in request)
        pub in_hand : me.1
            ≡ (call_slot row, slot.Nothing) ∷ (object, slot.Nothing) ∷ at_hand number me.0.own
        pub fits : CoreFits content op_in reply_in (kind_at me.0.kinds object)
            (get_elem? me.0.lists object)
            core (log_of op_in reply_in core)
        pub low : object < max_objects
        pub row_low : row < max_clients
        pub on : request.object ≡ object
        pub of_kind : kind_of (op_in request.op) ≡ kind_at me.0.kinds object

-- places of the row c in these lists, at which nothing was tried
abbrev pub fresh_places : ℕ → List TableId → List PlaceSeen
fresh_places c lists = map (λ id. record { roster = id; row = c; tries = [] }) lists

-- a client that has made no call, and has not tried to enlist its row
abbrev pub new_client_known : DeskId → ℕ → Known
new_client_known d c =
    record {
      desk = d;
      knows = with_own own.Idle (new_client d.kinds d.lists c);
      places = fresh_places c d.lists;
    }

-- each of these clients, the first of which is client 0, has made no call, and has not tried to
-- enlist its row
abbrev pub AreAllNew : DeskId → List Known → Type 0
AreAllNew d cs = (c : ℕ) → c < length cs → get_elem? cs c ≡ some (new_client_known d c)
