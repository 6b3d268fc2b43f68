-- Clients that have made no call: all that a desk was made with (`all_new`), and each that has made none since
-- (`still_none`). The last of them is taken off the list and put back (`client_taken`, `client_added`).
use Rattle.std.proofs.Common.{◌≡◌, ℕ, zero, suc, ◌+◌, ◌<◌, List, [], ◌∷◌, ◌++◌, length, length-append, refl, sym, ap}
use Rattle.std.proofs.Common.{◌∙◌, subst, ⊎_elim, arith}
use mathlib.Core.Option.{some, some-injective, some-ne-none}
use lib.ListN.{get_elem?}
use Rattle.atomic_table.proofs.Lists.{at_longer, at_last}
use Rattle.publication_list.proofs.RosterMaking.{at_end}
use Rattle.combiner.specs.Passes.{KeepsCalls}
use Rattle.publication.specs.Handles.{AreAllNew, DeskId, Known, new_client_known}
use Rattle.clients.specs.Made.{AreNew, HasMadeNoCall}

inside : {A : Type 0} (l : List A) (i : ℕ) (a : A) → get_elem? l i ≡ some a → i < length l
inside [] i a e = absurd (some-ne-none a (sym e))
inside (x ∷ xs) zero a e = omega arith
inside (x ∷ xs) (suc i) a e = let low = inside xs i a e in omega arith

-- the clients that a desk was made with
pub all_new : (d : DeskId) (cs : List Known) → AreAllNew d cs → AreNew d cs
all_new d cs begins c k at =
    let is : k ≡ new_client_known d c =
    some-injective k (new_client_known d c) (sym at ∙ begins c (inside cs c k at)) in
    record {
      desk = ap (λ z. z.desk) is;
      number = ap (λ z. z.knows.number) is;
      idle = ap (λ z. z.knows.own) is;
      none = ap (λ z. z.knows.done) is;
    }

-- a client that has made no call, and has made none since
pub still_none : (id : DeskId) (number : ℕ) (before after : Known) → HasMadeNoCall id number before
    → after.desk ≡ before.desk → KeepsCalls before.knows after.knows → HasMadeNoCall id number after
still_none id number before after new desk kept = record {
  desk = desk ∙ new.desk;
  number = kept.number ∙ new.number;
  idle = kept.own ∙ new.idle;
  none = kept.done ∙ new.none;
}

-- of clients that have made no call the last is taken: it has made none, and those before it have made none
pub client_taken : (id : DeskId) (others all : List Known) (last : Known) → all ≡ others ++ last ∷ [] → AreNew id all
    → HasMadeNoCall id (length others) last × (length others + 1 ≡ length all) × AreNew id others
client_taken id others all last is new = (
  new (length others) last (ap (λ z. get_elem? z (length others)) is ∙ at_last others last (length others) refl),
  sym (ap length is ∙ length-append others (last ∷ [])),
  λ c k at. new c k (ap (λ z. get_elem? z c) is ∙ at_longer others (last ∷ []) c k at),
)

-- one client more that has made no call, at the end of a list of such clients
pub client_added : (id : DeskId) (others all : List Known) (last : Known) → all ≡ others ++ last ∷ [] → AreNew id others
    → HasMadeNoCall id (length others) last → AreNew id all
client_added id others all last is new none c k at = ⊎_elim
    (λ (t : get_elem? others c ≡ some k). new c k t)
    (λ (t : (c ≡ length others) × (last ≡ k)).
    subst (λ (z : ℕ × Known). HasMadeNoCall id z.0 z.1) (λ i. (sym t.0 i, t.1 i)) none)
    (at_end others last k c (sym (ap (λ z. get_elem? z c) is) ∙ at))
