-- The scope of `run_all`: client 0 has made its calls and met each other client. The first loop keeps which worker
-- promises which client's work, and the second that client 0 has met those that were joined so far.
use Rattle.std.proofs.Common.{rules, ◌≡◌, ◌∙◌, ◌<◌, ◌≤◌, ◌+◌, ◌∷◌, [], ℕ, length, length-append, ap, sym, subst, arith}
use Rattle.publication.specs.Handles.{DeskSeen}
use Rattle.clients.specs.Workloads.{Work}
use Rattle.clients.specs.Made.{HasMetBelow, HasWorked}
use Rattle.clients.proofs.Ends.{is_new}
use Rattle.clients.proofs.Meetings.{keeps_on, met_more, still_worked}
use Rattle.clients.proofs.NewClients.{client_taken}
use Rattle.clients.proofs.Workers.{all_but_last, and_last}
use Rattle.clients.proofs.run.fn.run_all.scope.Goals as goal

pub spawn_with-requires-clause-runs : goal.spawn_with-requires-clause-runs
spawn_with-requires-clause-runs g c κs within =
    let d = c.captures.desk.now in
    let w = c.captures.workload.now in
    let so_far = c.loop.invariant in
    let one = client_taken d.id c.pop.new.self.items c.loop.clients.items c.in-Some.client c.in-Some.ensures.items
    so_far.clients in
    let low : length c.pop.new.self.items < length w.calls = omega (arith, one.1, so_far.left, so_far.started) in
    (is_new d w (length c.pop.new.self.items) c.in-Some.client one.0 so_far.desk low, search rules)

pub loop-preserved : goal.loop-preserved
loop-preserved g c =
    let d = c.captures.desk.now in
    let w = c.captures.workload.now in
    let so_far = c.loop.invariant in
    let one = client_taken d.id c.pop.new.self.items c.loop.clients.items c.in-Some.client c.in-Some.ensures.items
    so_far.clients in
    let worker = c.in_ok-worker.worker in
    let items = c.push_reserved.ensures.items in
    let long = ap length items ∙ length-append c.loop.workers.items (worker ∷ []) in
    let promise = c.in_ok-worker.ensures.ok in
    let number = ap (λ p. p.2) promise ∙ (c.number-number.ensures.number ∙ one.0.number) in
    record {
      desk = so_far.desk;
      clients = one.2;
      left = omega (arith, one.1, so_far.left);
      started = omega (arith, long, so_far.started);
      room = subst (λ z. length w.calls ≤ z) (sym c.push_reserved.ensures.capacity) so_far.room;
      promised = and_last
          (λ h k. (h.promise.0.now ≡ d) × (h.promise.1.now ≡ w) × (h.promise.2 + (k + 1) ≡ length w.calls))
          c.loop.workers.items
          c.push_reserved.new.self.items worker items so_far.promised (
            ap (λ p. p.0.now) promise,
            ap (λ p. p.1.now) promise,
            omega (arith, number, one.1, so_far.left, so_far.started),
          );
    }

pub work-own-requires-after_bounds : goal.work-own-requires-after_bounds
work-own-requires-after_bounds g c κs within =
    let d = c.captures.desk.now in
    let w = c.captures.workload.now in
    let so_far = c.loop.invariant in
    let one = client_taken d.id c.pop-2.new.self.items c.loop.clients.items c.in-Some-pop.own
    c.in-Some-pop.ensures.items so_far.clients in
    let low : length c.pop-2.new.self.items < length w.calls = omega (arith, one.1, so_far.left, so_far.started) in
    is_new d w (length c.pop-2.new.self.items) c.in-Some-pop.own one.0 so_far.desk low

pub meet_and_retire-own-requires : goal.meet_and_retire-own-requires
meet_and_retire-own-requires g c =
    let d = c.captures.desk.now in
    let so_far = c.loop-2.invariant in
    let worker = c.in-Some-pop-2.worker in
    let here = all_but_last (λ h k. h.promise.0.now ≡ d) c.pop-in-loop-2.new.self.items c.loop-2.workers.items worker
    c.in-Some-pop-2.ensures.items so_far.desks in
    record { own = so_far.own; other = c.join.ensures.desk ∙ ap (λ (e : DeskSeen). e.id) here.0 }

pub loop-2-preserved : goal.loop-2-preserved
loop-2-preserved g c =
    let d = c.captures.desk.now in
    let so_far = c.loop-2.invariant in
    let worker = c.in-Some-pop-2.worker in
    let before = c.pop-in-loop-2.new.self.items in
    let items = c.in-Some-pop-2.ensures.items in
    let here = all_but_last (λ h k. h.promise.0.now ≡ d) before c.loop-2.workers.items worker items so_far.desks in
    let long = ap length items ∙ length-append before (worker ∷ []) in
    record {
      own = c.meet_and_retire-own.ensures.desk ∙ so_far.own;
      kept = keeps_on c.work-own.result.knows c.loop-2.own.knows c.meet_and_retire-own.result.knows so_far.kept
          c.meet_and_retire-own.ensures.kept;
      left = omega (arith, long, so_far.left);
      desks = here.1;
      met = λ w made all.
          let h = so_far.met w made all in
          let there = all_but_last (λ h k. (h.promise.1.now ≡ w) × (h.promise.2 + (k + 1) ≡ c.clients-end-2.result))
          before c.loop-2.workers.items worker items h.0 in
          let number : worker.promise.2 ≡ c.loop-2.counter = omega (arith, there.0.1, long, so_far.left) in
          let work = there.0.0 in
          let desk = here.0 in
          let worked : HasWorked d w c.loop-2.counter c.join.result = subst
          (λ (t : DeskSeen × Work × ℕ). HasWorked t.0 t.1 t.2 c.join.result) (λ i. (desk i, work i, number i))
          c.join.ensures in (
            there.1,
            met_more w c.loop-2.own c.meet_and_retire-own.result c.loop-2.counter h.1 c.meet_and_retire-own.ensures.kept
                (c.meet_and_retire-own.ensures.met w c.loop-2.counter made worked),
          );
    }

pub returns : goal.returns
returns g c =
    let d = c.captures.desk.now in
    let w = c.captures.workload.now in
    let started = c.loop.invariant in
    let so_far = c.loop-2.invariant in
    let one = client_taken d.id c.pop-2.new.self.items c.loop.clients.items c.in-Some-pop.own
    c.in-Some-pop.ensures.items started.clients in
    let end = c.clients-end-2.ensures.clients in
    let first : c.in-Some-pop.own.knows.number ≡ 0 =
    one.0.number ∙ omega (arith, one.1, started.left, c.clients-end.ensures.clients, c.loop-test.false) in
    let all : c.loop-2.counter ≡ d.clients =
    omega (arith, so_far.left, c.loop-2-test.false, end, started.desk.clients) in
    let met = so_far.met w started.desk (λ k e low.
    let p = started.promised k e low in
    (p.1, p.2 ∙ sym end)) in (
      record {
        worked = still_worked d w 0 c.work-own.result c.loop-2.own
            (subst (λ n. HasWorked d w n c.work-own.result) first c.work-own.ensures)
            so_far.kept so_far.own;
        met = subst (HasMetBelow w c.loop-2.own) all met.1;
      },
      tt,
    )
