-- `enlist`: the client's places remember the try, and the place is of its own row in this object's list. The try
-- changes no roster, so the places are still its own (`still_own`).
use Rattle.std.proofs.Common.{rules, arith, ◌<◌, length, map, sym, ap, subst, ◌∙◌}
use Rattle.publication_list.specs.Calls.{PlaceSeen}
use Rattle.publication.specs.Handles.{Known, HasPlaceAt, IsClient, ArePlacesOf, trying}
use Rattle.publication.proofs.Dealing.{same_rosters, still_own, own_place}
use Rattle.publication.proofs.desk.Desk.enlist.Goals as goal

pub enlist-requires : goal.enlist-requires
enlist-requires g c =
    let few = c.self.invariant.0.5 in
    let low : c.args.object < length c.self.inside.kinds.items = search rules in
    omega arith

pub invariant_of-client : goal.invariant_of-client
invariant_of-client g c = let client = c.client.invariant in
    subst (λ z. IsClient g.S.SeqObject.op_in g.S.SeqObject.reply_in c.client.inside.number z.calls z.quota
    z.outstanding z.journal c.client.inside.seat.me
    × ArePlacesOf c.client.inside.number c.client.inside.seat.me.0.lists z.places) (sym c.enlist.ensures)
    (client.0, still_own _ c.args.object c.enlist.result _ _ client.1)

pub returns-clause-tried : goal.returns-clause-tried
returns-clause-tried g c =
    let inside = c.client.inside in
    let tried = c.enlist.ensures in
    let lists = ap (λ z. map (λ (p : PlaceSeen). p.roster) z.places) tried
    ∙ same_rosters c.args.object c.enlist.result inside.member.places in
    (λ i. record {
      desk = record {
        table = inside.seat.table_id;
        quota = (tried i).quota;
        kinds = inside.seat.me.0.kinds;
        lists = lists i;
      };
      knows = inside.seat.me.0;
      places = (tried i).places;
    }) ∙ ap (λ (k : Known). record k { places = trying c.args.object c.enlist.result k.places }) c.client.view_is

pub returns-clause-own : goal.returns-clause-own
returns-clause-own g c =
    let few = c.self.invariant.0.5 in
    let low : c.args.object < length c.self.inside.kinds.items = search rules in
    let client = c.client.invariant in
    let place = own_place _ c.args.object _ _ (omega arith) client.1 in
    subst (λ (z : Known). HasPlaceAt z c.args.object) c.client.view_is
    (place.0, place.1, place.2 ∙ sym client.0.agrees.number_is, place.3)
