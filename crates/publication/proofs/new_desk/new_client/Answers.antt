-- `new_client`: the client is at its beginning, and the maker is at the next number. Its next step may be to make a
-- seat (`making_keeps_rule`), and the first step of that seat is to begin (`begin_keeps_rule`).
use Rattle.std.proofs.Common.{arith, ℕ, Bool, refl, sym, ap, subst, ◌∙◌}
use Rattle.desk_invariant.proofs.Beginnings.{making_keeps_rule, begin_keeps_rule}
use Rattle.publication.specs.Handles.{IsClient}
use Rattle.publication.proofs.Dealing.{own_still, fresh_own}
use Rattle.publication.proofs.NewClients.{begun_ok, entered}
use Rattle.publication.proofs.new_desk.new_client.Goals as goal

pub split_seat-seat-requires : goal.split_seat-seat-requires
split_seat-seat-requires g c =
    let me = c.requires.maker in
    let made = ap (λ m. m.0.made) me in
    let low = c.requires.plan.1 in
    let wide = c.requires.table.1 in
    (c.requires.table.0, omega arith, making_keeps_rule _ _ _ _ _ _ _ _ (ap (λ m. m.0.role) me) (omega arith))

pub load-requires : goal.load-requires
load-requires g c =
    let me = c.requires.maker in
    let made = ap (λ m. m.0.made) me in
    let low = c.requires.plan.1 in
    let few = c.requires.plan.0.1 in
    let wide = c.requires.table.1 in
    let seat = c.split_seat-seat.ensures.4 in (
      c.split_seat-seat.ensures.3 ∙ c.requires.table.0,
      omega arith,
      begin_keeps_rule _ _ _ _ _ _ _ _ c.args.number _ (ap (λ m. m.0.role) seat) (ap (λ m. m.0.number) seat ∙ made)
          (omega arith)
          (ap (λ m. m.0.own) seat) (ap (λ m. m.0.held) seat) (ap (λ m. m.0.ended) seat),
    )

pub invariant_of-result : goal.invariant_of-result
invariant_of-result g c =
    let few = c.requires.plan.0.1 in
    let low = c.requires.plan.1 in
    let quota = c.requires.plan.0.2 in
    let is = c.requires.plan.2 in
    let key = c.args.table.now.shared.key in
    let fresh = c.requires.fresh in
    let me =
    entered key.kinds.items key.lists.items c.args.number c.args.maker.now.me c.split_seat-seat.result.me
    c.load.new.seat.me c.requires.maker
    c.split_seat-seat.ensures.4 (c.load.ensures.2 c.args.number refl) in (
      subst (λ (z : ℕ × ℕ × Bool). IsClient g.S.SeqObject.op_in g.S.SeqObject.reply_in c.args.number z.0 z.1 z.2
          c.args.member.journal c.load.new.seat.me)
          (λ i. (sym fresh.0 i, sym fresh.1 i, sym fresh.2 i))
          (begun_ok g.S.SeqObject.op_in g.S.SeqObject.reply_in key.kinds.items key.lists.items c.args.number
          c.args.quota c.args.member.journal c.load.new.seat.me
          (omega arith) (omega arith) c.requires.journal me),
      own_still _ _ _ _ (ap (λ m. m.0.lists) me)
          (fresh_own c.args.number key.lists.items c.args.member.places c.requires.places.1 c.requires.places.0),
    )

pub returns-clause-client : goal.returns-clause-client
returns-clause-client g c =
    let table = c.load.ensures.0 ∙ (c.split_seat-seat.ensures.3 ∙ c.requires.table.0) in
    let key = c.args.table.now.shared.key in
    let me =
    entered key.kinds.items key.lists.items c.args.number c.args.maker.now.me c.split_seat-seat.result.me
    c.load.new.seat.me c.requires.maker
    c.split_seat-seat.ensures.4 (c.load.ensures.2 c.args.number refl) in
    let own = fresh_own c.args.number key.lists.items c.args.member.places c.requires.places.1 c.requires.places.0 in
    λ i. record {
      desk = record {
        table = table i;
        quota = c.requires.fresh.1 i;
        kinds = (me i).0.kinds;
        lists = own.lists_are i;
      };
      knows = (me i).0;
      places = c.requires.places.0 i;
    }
