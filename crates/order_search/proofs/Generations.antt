-- The pairs that are remembered stay dead, whichever are forgotten (`remembered_dead`): each generation is a list of
-- dead pairs. So a pair that is met again is dead (`hit_any`).
use Rattle.std.proofs.Common.{◌≡◌, ℕ, ◌<◌, ◌≤◌, ◌⊎◌, inl, inr, List, [], ◌∷◌, Option, Some, None, IfSome, length}
use Rattle.std.proofs.Common.{arith}
use Rattle.std.proofs.lemmas.List.Elements.{All-push}
use Rattle.model.specs.declared.AnyReply.{AnyReply}
use Rattle.model.specs.Objects.{Content, next}
use Rattle.order_search.specs.Undoing.{content_kept}
use Rattle.order_search.specs.declared.level.Level.{Level}
use Rattle.order_search.specs.declared.trials.Trials.{Trials}
use Rattle.order_search.specs.declared.pairs.Pair.{Pair}
use Rattle.order_search.specs.declared.dead.Dead.{Dead}
use Rattle.order_search.specs.Arranged.{call_at}
use Rattle.order_search.specs.Continuations.{IsDeadPair, IsDeadAt}
use Rattle.order_search.specs.Links.{next_without}
use Rattle.order_search.specs.Remembered.{HasPair, AreDeadKept, IsRemembered, IsRememberedIfSome}
use Rattle.order_search.specs.Searching.{places, Position, Turn, IsPairDead, AreDead, AreAllDead, IsWalk}
use Rattle.order_search.proofs.Steps.{hit}

-- no remembered pairs, each of which is dead
pub none_dead : (t : Trials) (pairs : List Pair) → pairs ≡ [] → AreDead t pairs
none_dead t [] e = λ k d l. absurd (omega arith)
none_dead t (p ∷ pairs) e = absurd (cc e)

kept_dead : (t : Trials) (before kept : Dead) → AreAllDead t before → AreDeadKept before kept → AreAllDead t kept
kept_dead t before kept all is_kept = elim is_kept [
  | inl e ↦ rw e all
  | inr o ↦ record {
    older = rw o.older all.younger;
    younger = none_dead t kept.younger.pairs.items o.younger;
  }
]

-- a pair that is dead is remembered among such
remembered_dead : (t : Trials) (before : Dead) (pair : Pair) (after : Dead) → AreAllDead t before
    → IsDeadPair (length t.items.items) (call_at t.items.items) pair.high pair.not_done.items
    (content_kept pair.content)
    → IsRemembered before pair after → AreAllDead t after
remembered_dead t before pair after all dead r =
    let k = kept_dead t before r.kept all r.is_kept in
    record {
      older = rw r.older k.older;
      younger = rw r.younger
          (All-push (λ p. IsDeadPair (length t.items.items) (call_at t.items.items) p.high p.not_done.items
          (content_kept p.content)) r.kept.younger.pairs.items pair k.younger dead);
    }

-- all remembered pairs are dead with one more that is
pub remembered_some : (t : Trials) (before : Dead) (pair : Option Pair) (after : Dead) → AreAllDead t before
    → IfSome pair (IsPairDead t)
    → IsRememberedIfSome before pair after → AreAllDead t after
remembered_some t before (Some pair) after all dead r = remembered_dead t before pair after all dead r
remembered_some t before None after all dead r = rw r all

module _ (t : Trials) {start : Content} {ls : List Level} {bs : List Content} {here : Position} {to : Turn}
    (w : IsWalk (length t.items.items) (call_at t.items.items) start ls bs here to) where
  -- one of these pairs is met
  hit_one : {after : Content} {nx : List ℕ} {high : ℕ} {gives : AnyReply} (pairs : List Pair)
      → to.at < length t.items.items → next here.content (call_at t.items.items to.at).op ≡ Some (after, gives)
      → nx ≡ next_without here.next here.back to.at → here.high ≤ high → to.at < high → AreDead t pairs
      → HasPair pairs nx high after → Pair
      → IsDeadAt (length t.items.items) (call_at t.items.items) (places ls) here.content to.at
  hit_one pairs l does en hi hat dead h d = let q = h.2 d in hit w l does en q.1 hi hat (dead h.0 d h.1) q.0 q.2

  -- one of either generation is met
  pub hit_any : {after : Content} {nx : List ℕ} {high : ℕ} {gives : AnyReply} (d : Dead) → to.at < length t.items.items
      → next here.content (call_at t.items.items to.at).op ≡ Some (after, gives)
      → nx ≡ next_without here.next here.back to.at → here.high ≤ high → to.at < high → AreAllDead t d
      → HasPair d.older.pairs.items nx high after ⊎ HasPair d.younger.pairs.items nx high after → Pair
      → IsDeadAt (length t.items.items) (call_at t.items.items) (places ls) here.content to.at
  hit_any d l does en hi hat all h p = elim h [
    | inl a ↦ hit_one d.older.pairs.items l does en hi hat all.older a p
    | inr b ↦ hit_one d.younger.pairs.items l does en hi hat all.younger b p
  ]
