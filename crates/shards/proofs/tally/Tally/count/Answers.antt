use Rattle.std.proofs.Common.{◌≡◌, ◌+◌, Some, unwrap_or, ap, sym, ◌∙◌}
use Rattle.number_map.specs.Lookup.{value_of}
use Rattle.shards.proofs.LargeObjects.{IsOneMore, count_of, counts_pushed}
use Rattle.shards.proofs.tally.Tally.count.Goals as goal

pub returns-in_ok-push : goal.returns-in_ok-push
returns-in_ok-push c =
    let old = c.args.self.now.counts in
    let x = c.args.object in
    let before : c.unwrap_or-before.result ≡ count_of old x =
    c.unwrap_or-before.ensures ∙ ap (λ o. unwrap_or o 0) (c.get.ensures ∙ ap (value_of old) c.from.ensures) in
    let own : value_of c.insert.new.self x ≡ Some (count_of old x + 1) =
    ap (value_of c.insert.new.self) (sym c.from-2.ensures)
    ∙ (c.in_ok-insert.ensures.own ∙ ap Some (c.in-Some.ensures.1 ∙ ap (λ n. n + 1) before)) in
    let one : IsOneMore old c.insert.new.self x = record {
      own = own;
      others = λ k ne. c.in_ok-insert.ensures.others k (λ q. ne (q ∙ c.from-2.ensures));
    } in
    counts_pushed c.args.self.now _ x one c.in_ok-push.ensures.items (sym before ∙ c.if-before-eq-MAX_MAPS.true)
