-- `make_all`: there is a client for each number, and each is at its beginning. The loop keeps that of the clients
-- so far, and that each journal left has room and each owner left has its places. Each turn takes one journal.
use Rattle.std.proofs.Common.{rules, arith, ◌≡◌, ◌+◌, ◌∷◌, [], length, length-append, vec_len, IfSome, sym, ap}
use Rattle.std.proofs.Common.{subst, ◌∙◌}
use Rattle.std.proofs.lemmas.List.Elements.{All-pop}
use Rattle.publication.specs.Handles.{new_client_known, fresh_places}
use Rattle.publication.specs.Making.{HasRoom, HasPlaces, AreDealt}
use Rattle.publication.proofs.Dealing.{first_gone}
use Rattle.publication.proofs.Growing.{numbered_more}
use Rattle.publication.proofs.new_desk.make_all.Goals as goal

pub loop-journal-preserved : goal.loop-journal-preserved
loop-journal-preserved g c =
    let so_far = c.loop-journal.invariant in
    let pushed = c.push_reserved.ensures in
    let popped = All-pop (HasRoom c.args.quota) c.loop-journal.journals.items c.pop.new.self.items c.pop.result
    c.pop.ensures.items so_far.3 in
    let long : length c.push_reserved.new.self.items ≡ length c.loop-journal.made.items + 1 =
    ap length pushed.items ∙ length-append c.loop-journal.made.items (c.new_client.result ∷ []) in
    let n = pushed.len in
    let count = so_far.2 in
    let one = c.in-Some.ensures.cases in
    let m = so_far.5 in
    let made = so_far.7 in
    let lists = c.args.table.now.shared.key.lists.items in
    let owners = first_gone c.loop-journal.number
    (vec_len c.pop.new.self) lists c.loop-journal.owners.items c.remove.new.self.items
    c.remove.ensures.items (subst (λ z. AreDealt c.loop-journal.number z lists c.loop-journal.owners.items)
    (let one = c.in-Some.ensures.cases in omega arith) so_far.4) in (
      c.new_client.ensures.maker.0 ∙ so_far.0,
      c.new_client.ensures.maker.1,
      omega arith,
      popped.0,
      owners,
      omega arith,
      search rules,
      omega arith,
      numbered_more (new_client_known (record {
        table = c.args.table.now.shared.table_id;
        quota = c.args.quota;
        kinds = c.args.table.now.shared.key.kinds.items;
        lists = c.args.table.now.shared.key.lists.items;
      })) c.loop-journal.made.items c.push_reserved.new.self.items c.new_client.result pushed.items
          (ap (new_client_known (record {
            table = c.args.table.now.shared.table_id;
            quota = c.args.quota;
            kinds = c.args.table.now.shared.key.kinds.items;
            lists = c.args.table.now.shared.key.lists.items;
          })) so_far.7 ∙ sym c.new_client.ensures.client) so_far.8,
    )

pub remove-requires : goal.remove-requires
remove-requires g c =
    let so_far = c.loop-journal.invariant in
    omega (arith, so_far.4.0, c.loop-journal.owners.ok.0, c.in-Some.ensures.cases)

pub invariant_of-places : goal.invariant_of-places
invariant_of-places g c =
    let so_far = c.loop-journal.invariant in
    let count = so_far.4.0 in
    let one = c.in-Some.ensures.cases in
    let k = subst (HasPlaces _ _) (sym c.remove.ensures.value) (so_far.4.1 0 c.remove.result (omega arith)) in
    omega (arith, k.1, c.remove.result.ok.0, c.requires.owners.1)

pub new_client-requires-clause-journal : goal.new_client-requires-clause-journal
new_client-requires-clause-journal g c = λ κs bounds. let so_far = c.loop-journal.invariant in
    subst (HasRoom c.args.quota) (sym c.in_ok-member.ensures.1)
    (subst (λ r. IfSome r (HasRoom c.args.quota)) c.in-Some.is
    (All-pop (HasRoom c.args.quota) c.loop-journal.journals.items c.pop.new.self.items c.pop.result
    c.pop.ensures.items so_far.3).1)

pub new_client-requires-clause-places : goal.new_client-requires-clause-places
new_client-requires-clause-places g c = λ κs bounds.
    let so_far = c.loop-journal.invariant in
    let count = so_far.4.0 in
    let one = c.in-Some.ensures.cases in
    let k = subst (HasPlaces _ _) (sym c.remove.ensures.value) (so_far.4.1 0 c.remove.result (omega arith)) in (
      c.in_ok-member.ensures.2
          ∙ (k.0 ∙ ap (λ z. fresh_places z c.args.table.now.shared.key.lists.items) (omega arith)),
      c.requires.owners.1,
    )
