-- The transitions of the world: one step of one client, if it is possible, and what it changes.
-- Hendler, Incze, Shavit, Tzafrir, SPAA 2010, section 2, step by step; put back is this project's.
use Rattle.std.specs.Prelude.{◌≡◌, ◌≢◌, ℕ, ◌+◌, ◌<◌, ◌==◌, true, false, List, [], ◌∷◌, ◌++◌, length}
use Rattle.std.specs.Prelude.{Option, Some, None, IsSome, if◌then◌else◌}
use Rattle.model.specs.declared.Kind.{Kind}
use Rattle.model.specs.declared.AnyOp.{AnyOp}
use Rattle.model.specs.Objects.{Content, empty, kind_of, next}
use Rattle.desk_model.specs.World.{AnyRequest, AnyAnswer, AnyDone, Stage, absent, idle, drawn}
use Rattle.desk_model.specs.World.{posted, picked, answered, taken, World, kind_at, logged}
use Rattle.desk_model.specs.World.{calls_made, Replays, Serves}
use Rattle.desk_model.specs.Limits.{max_clients}

-- the function with another value at i
unfoldable pub changed : {A : Type 0} → (ℕ → A) → ℕ → A → ℕ → A
changed f i v j = if j == i then v else f j

-- the client c goes to the stage t
abbrev pub staged : World → ℕ → Stage → World
staged w c t = record w { stage = changed w.stage c t }

-- the client draws a ticket, and goes to the stage t, with these calls over
abbrev pub ticked : World → ℕ → Stage → List AnyDone → World
ticked w c t ds =
    record w { clock = w.clock + 1; stage = changed w.stage c t; done = changed w.done c ds }

-- the object x has this holder
abbrev pub held_by : World → ℕ → Option ℕ → World
held_by w x h = record w { holder = changed w.holder x h }

-- the holder of x has this in hand, and the row r goes to the stage t
abbrev pub handed : World → ℕ → Option ℕ → ℕ → Stage → World
handed w x h r t = record w { hand = changed w.hand x h; stage = changed w.stage r t }

-- the request in hand is answered
abbrev pub served_by : World → ℕ → ℕ → AnyRequest → AnyAnswer → World
served_by w x r q a =
    record (handed w x None r (answered q a)) { log = changed w.log x (w.log x ++ logged r q a) }

-- the client c has ended
abbrev pub ended_by : World → ℕ → World
ended_by w c = record w { ended = changed w.ended c true }

-- a step of a client
pub data Step : Type 0 where
  -- draws the ticket of a call on an object
  draw_call : ℕ → AnyOp → Step
  -- draws the ticket of a return
  draw_return : Step
  -- puts its request into its row
  post : Step
  -- takes the lock of an object
  win : ℕ → Step
  -- takes the request of a row into its hand
  pick : ℕ → Step
  -- does the operation of the request in hand, and answers it
  answer : Step
  -- puts the request in hand back into its row
  put_back : Step
  -- takes the answer of its own request
  take : Step
  -- frees the lock
  release : Step
  -- ends: it makes no further step
  end : Step

-- the client c holds no object
abbrev pub HoldsNothing : World → ℕ → Type 0
HoldsNothing w c = (x : ℕ) → w.holder x ≢ Some c

-- The client c holds x, with the request of the row r in hand, whose operation is asked of this
-- content
abbrev pub InHand : List Kind → World → ℕ → ℕ → ℕ → AnyRequest → Content → Type 0
InHand kinds w c x r q content =
    (w.holder x ≡ Some c) × (w.hand x ≡ Some r) × (w.stage r ≡ picked q)
    × Replays (empty (kind_at kinds x)) (w.log x) content

-- a client may end unless its call is between two of its own steps
abbrev pub MayEnd : Stage → Type 0
MayEnd (drawn q) = ⊥
MayEnd (taken q a) = ⊥
MayEnd t = Unit {0}

-- Each step of a client c: the world w allows it, and w' is the world after it.
module _ (kinds : List Kind) (quota : ℕ) where
  -- an idle client that has calls left draws the ticket of one, of op on the object x
  pub record DrawsCall (x : ℕ) (op : AnyOp) (w : World) (c : ℕ) (w' : World) : Type 0 where
    pub was : w.stage c ≡ idle
    pub calls_left : calls_made (w.done c) None < quota
    pub on_object : x < length kinds
    pub of_kind : kind_of op ≡ kind_at kinds x
    pub after : w' ≡ ticked w c (drawn record { object = x; ticket = w.clock; op = op }) (w.done c)

  -- a client that has taken its answer draws the ticket of its return, and the call is over
  pub record DrawsReturn (w : World) (c : ℕ) (w' : World) : Type 0 where
    pub request : AnyRequest
    pub given : AnyAnswer
    pub was : w.stage c ≡ taken request given
    pub after : w' ≡ ticked w c idle
        (w.done c ++ record { request = request; answer = given; returned = w.clock } ∷ [])

  -- a request that has its ticket goes into the client's row
  pub record Posts (w : World) (c : ℕ) (w' : World) : Type 0 where
    pub request : AnyRequest
    pub was : w.stage c ≡ drawn request
    pub after : w' ≡ staged w c (posted request)

  -- a client that holds nothing wins the object x, which is free
  pub record Wins (x : ℕ) (w : World) (c : ℕ) (w' : World) : Type 0 where
    pub on_object : x < length kinds
    pub free : w.holder x ≡ None
    pub holds_nothing : HoldsNothing w c
    pub after : w' ≡ held_by w x (Some c)

  -- a holder with a free hand picks up a request for its object from the row r
  pub record Picks (r : ℕ) (w : World) (c : ℕ) (w' : World) : Type 0 where
    pub object : ℕ
    pub request : AnyRequest
    pub held : w.holder object ≡ Some c
    pub free : w.hand object ≡ None
    pub was : w.stage r ≡ posted request
    pub for_object : request.object ≡ object
    pub after : w' ≡ handed w object (Some r) r (picked request)

  -- the request in hand is possible in what the log leaves, and is answered as `next` says, or
  -- refused for an allocation failure, and then nothing is done
  pub record Answers (w : World) (c : ℕ) (w' : World) : Type 0 where
    pub object : ℕ
    pub row : ℕ
    pub request : AnyRequest
    pub content : Content
    pub left : Content
    pub given : AnyAnswer
    pub in_hand : InHand kinds w c object row request content
    pub possible : IsSome (next content request.op)
    pub serves : Serves content request.op given left
    pub after : w' ≡ served_by w object row request given

  -- the request in hand is not possible in what the log leaves, and goes back into its row
  pub record PutsBack (w : World) (c : ℕ) (w' : World) : Type 0 where
    pub object : ℕ
    pub row : ℕ
    pub request : AnyRequest
    pub content : Content
    pub in_hand : InHand kinds w c object row request content
    pub impossible : next content request.op ≡ None
    pub after : w' ≡ handed w object None row (posted request)

  -- the client takes the answer out of its row
  pub record TakesAnswer (w : World) (c : ℕ) (w' : World) : Type 0 where
    pub request : AnyRequest
    pub given : AnyAnswer
    pub was : w.stage c ≡ answered request given
    pub after : w' ≡ staged w c (taken request given)

  -- a holder with a free hand lets its object go
  pub record Releases (w : World) (c : ℕ) (w' : World) : Type 0 where
    pub object : ℕ
    pub held : w.holder object ≡ Some c
    pub free : w.hand object ≡ None
    pub after : w' ≡ held_by w object None

  -- a client that holds nothing, and is not between two steps of a call, ends
  pub record Ends (w : World) (c : ℕ) (w' : World) : Type 0 where
    pub may_end : MayEnd (w.stage c)
    pub holds_nothing : HoldsNothing w c
    pub after : w' ≡ ended_by w c

  -- the client c takes the step, and the world is w' then
  abbrev pub Takes : Step → World → ℕ → World → Type 0
  Takes (draw_call x op) = DrawsCall x op
  Takes draw_return = DrawsReturn
  Takes post = Posts
  Takes (win x) = Wins x
  Takes (pick r) = Picks r
  Takes answer = Answers
  Takes put_back = PutsBack
  Takes take = TakesAnswer
  Takes release = Releases
  Takes end = Ends

  -- the step of the client c, which has come and has not ended, leads from w to w'
  abbrev pub Transition : Step → World → ℕ → World → Type 0
  Transition step w c w' =
      (c < max_clients) × (w.ended c ≡ false) × (w.stage c ≢ absent) × Takes step w c w'
