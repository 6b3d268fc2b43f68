use Rattle.std.proofs.Common.{refl}
use Rattle.std.proofs.lemmas.Result.{on_ok_weaker}
use Rattle.history.specs.Views.{client_map}
use Rattle.shards.proofs.TakingMaps.{says_by}
use Rattle.shards.proofs.divider.Divider.put.Goals as goal

pub returns-clause-adds : goal.returns-clause-adds
returns-clause-adds c =
    let d = c.args.self.now in
    let x = c.args.map.now.object in
    on_ok_weaker c.put_text-2.result
    (λ adds f client spells.
    let own = c.in_ok-own.ensures f client spells in
    record {
      own = own.0;
      text = c.in_ok-own.own.items;
      says = says_by c.name_of-name.result x f own.0 (client_map c.args.map.now client.0) client.1 refl
          c.name_of-name.ensures own.1;
      spells = own.2;
      adds = rw c.deref.ensures.value at adds;
    })
    c.put_text-2.ensures.adds

pub returns-then-from-map-clause-tally : goal.returns-then-from-map-clause-tally
returns-then-from-map-clause-tally c =
    on_ok_weaker c.put_text.result (λ _. rw c.put_text.ensures.tally c.in_ok-count.ensures) c.put_text.ensures.adds

pub returns-clause-tally : goal.returns-clause-tally
returns-clause-tally c =
    on_ok_weaker c.put_text-2.result (λ _. rw c.put_text-2.ensures.tally c.in_ok-count.ensures)
    c.put_text-2.ensures.adds
