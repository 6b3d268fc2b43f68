-- `take_map`: one map more is taken in, or the fault is found among the maps with this one as the last. The map has
-- an event exactly where it is of a client (`event_is`, `no_client`); any other goes to no shard.
use Rattle.std.proofs.Common.{◌≤◌, ◌/◌, ◌++◌, ◌∷◌, ◌∙◌, [], arith, refl, sym, rules}
use Rattle.std.proofs.lemmas.List.{length-append}
use Rattle.history.specs.LongReading.{AreReadAtAnyLength}
use Rattle.history.specs.Views.{client_map}
use Rattle.shards.specs.Taking.{forms_of}
use Rattle.shards.proofs.EventsOfMaps.{event_is, no_client, says_client}
use Rattle.shards.specs.Dividing.{FitsAmong, most_names}
use Rattle.std.proofs.lemmas.List.Elements.{All-map}
use Rattle.shards.proofs.TakingMaps.{all_before, taken_map, taken_unseen, unfit_last}
use Rattle.shards.proofs.divider.Divider.take_map.Goals as goal

pub returns-in-Ok-clause-taken : goal.returns-in-Ok-clause-taken
returns-in-Ok-clause-taken c = λ count maps written d says spells h.
    let ds = forms_of maps in
    let some = c.in-Ok-Some in
    let own = event_is ds d some.event
    (rw some.field-0-is at (some.ensures.event ds d says h.read)) in
    let read : AreReadAtAnyLength c.put.new.self.reader (ds ++ d ∷ []) =
    rw c.in-Ok.ensures.reader (some.ensures.read ds d says h.read) in
    let client = rw c.in-OfClient.is at says in
    taken_map count c.args.self.now c.put.new.self maps written d (client_map c.in-OfClient.map client.0)
    some.event.number h read client.1 (search rules) own.number c.in-Ok.ensures.shards c.in-Ok.ensures.tally
    (c.in-Ok.ensures.adds d client spells)

pub returns-in-Ok-None-clause-taken : goal.returns-in-Ok-None-clause-taken
returns-in-Ok-None-clause-taken c = λ count maps written d says spells h.
    let ds = forms_of maps in
    let none = c.in-Ok-None in
    let read = none.ensures.read ds d says h.read in
    let no = no_client ds d read.faultless
    (rw none.field-0-is at (none.ensures.event ds d says h.read)) in
    taken_unseen count c.args.self.now _ maps written d h read no refl refl refl

pub returns-then-not-fits-clause-fault : goal.returns-then-not-fits-clause-fault
returns-then-not-fits-clause-fault c = λ count maps written d says h.
    let ds = forms_of maps in
    let map = c.in-OfClient.map in
    let client = rw c.in-OfClient.is at says in
    let read = c.in-Ok-Some.ensures.read ds d says h.read in
    let past = c.if-not-fits.ensures in
    let shards = c.args.self.now.shards in
    let own : shards ≤ map.object / most_names = grind (arith, past) in
    let unfit = rw h.shards at own in
    unfit_last count ds d (client_map map client.0) read.faultless client.1 unfit
    (All-map (FitsAmong count) (λ m. m.form) maps h.fit)

-- only the map of a client has an event
pub returns-in_default : goal.returns-in_default
returns-in_default c = record {
  taken = λ count maps written d says spells h.
      let ds = forms_of maps in
      let some = c.in-Ok-Some in
      let own = event_is ds d some.event
      (rw some.field-0-is at (some.ensures.event ds d says h.read)) in
      absurd (says_client c.args.said d own.map says own.client c.in_default.not-OfClient);
  fault = tt;
  of_map = tt;
}

pub returns-in-Err-clause-fault : goal.returns-in-Err-clause-fault
returns-in-Err-clause-fault c = λ count maps written d says h other.
    let ds = forms_of maps in
    let e = c.in-Err.ensures in (
      λ few. e.fault few other ds d says h.read,
      λ many. let long = e.too_many many ds d says h.read in (
        sym (e.place ds h.read) ∙ long,
        omega (arith, long, length-append ds (d ∷ [])),
        all_before ds d long h.read.faultless,
      ),
    )
