-- `form`, `vector` and `map`: the tokens taken are those of the forms made, and items or pairs begin what is left.
-- That gets shorter. The measure is twice its length, plus one in `vector` and `map`, one token later.
use Rattle.std.proofs.Common.{◌≡◌, ◌+◌, ◌++◌, ◌≤◌, suc, length}
use Rattle.edn_reader.specs.Forming.{BeginsItems, BeginsPairs}
use Rattle.edn_reader.specs.Formings.{tokens_left}
use Rattle.edn_reader.specs.View.{views, pair_views}
use Rattle.edn_reader.proofs.Consumed.{list_tokens, pairs_tokens}
use Rattle.edn_reader.proofs.forming.Tokens.+forms.Given as goal

abbrev pub decreases-form : goal.decreases-form
decreases-form l = length l.self.now.rest.now + length l.self.now.rest.now

abbrev pub decreases-vector : goal.decreases-vector
decreases-vector l = suc (length l.self.now.rest.now + length l.self.now.rest.now)

abbrev pub decreases-map : goal.decreases-map
decreases-map l = suc (length l.self.now.rest.now + length l.self.now.rest.now)

abbrev pub invariant-vector-items : goal.invariant-vector-items
invariant-vector-items l =
    (tokens_left l.initial.self ≡ list_tokens (views l.forms.items) ++ tokens_left l.self)
    × BeginsItems (tokens_left l.self)
    × (length l.self.rest.now ≤ length l.initial.self.rest.now)

abbrev pub decreases-vector-items : goal.decreases-vector-items
decreases-vector-items l = length l.self.rest.now

abbrev pub invariant-map-pairs : goal.invariant-map-pairs
invariant-map-pairs l =
    (tokens_left l.initial.self ≡ pairs_tokens (pair_views l.pairs.items) ++ tokens_left l.self)
    × BeginsPairs (tokens_left l.self) × (length l.self.rest.now ≤ length l.initial.self.rest.now)

abbrev pub decreases-map-pairs : goal.decreases-map-pairs
decreases-map-pairs l = length l.self.rest.now
