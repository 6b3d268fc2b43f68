-- The history of an object's calls alone: no other object, and no other call.
use Rattle.std.specs.Prelude.{ℕ, nat_lt, List, [], ◌∷◌, Option, Some, None, if◌then◌else◌}
use Rattle.model.specs.Histories.{Inv, Res}
use Rattle.model.specs.Orders.{Call, Numbered, Return}

-- an event among later ones, in its place by its number
abbrev pub placed : Numbered → List Numbered → List Numbered
placed m [] = m ∷ []
placed m (n ∷ later) =
    if nat_lt n.number m.number then n ∷ placed m later else m ∷ n ∷ later

-- the response of process p on object x, if there is one, in its place among later events
abbrev pub with_return : ℕ → ℕ → Option Return → List Numbered → List Numbered
with_return p x None later = later
with_return p x (Some r) later =
    placed (record { number = r.at; event = Res p x r.reply }) later

-- The calls on object x, each by a process of its own, which has the number of the call. Each event
-- has the number that it has in the call.
abbrev pub alone : ℕ → List Call → List Numbered
alone x [] = []
alone x (e ∷ later) =
    record { number = e.number; event = Inv e.number x e.op }
    ∷ with_return e.number x e.returned (alone x later)
