-- `run_all`: first, the workers are started for the clients from the last on, and the clients that are left are
-- new. Then the own client has met all whose threads were joined.
use Rattle.std.proofs.Common.{◌≡◌, ℕ, ◌+◌, ◌<◌, ◌≤◌, length, get_or, vec_capacity}
use Rattle.clients.specs.Workloads.{Work}
use Rattle.clients.specs.Made.{AreNew, HasMetBelow, IsDeskFor, Keeps}
use Rattle.clients.proofs.run.fn.run_all.scope.Given as goal

-- The workers are started from the last client on: the one at place k is of the client that has k others after it.
abbrev pub invariant-loop : goal.invariant-loop
invariant-loop g l = record {
  desk : IsDeskFor l.desk l.workload;
  clients : AreNew l.desk.id l.clients.items;
  left : length l.clients.items + l.counter ≡ length l.workload.calls + 1;
  started : length l.workers.items + 1 ≡ l.counter;
  room : length l.workload.calls ≤ vec_capacity l.workers;
  promised : (k : ℕ) (d : _) → k < length l.workers.items → ((get_or l.workers.items k d).promise.0.now ≡ l.desk)
      × ((get_or l.workers.items k d).promise.1.now ≡ l.workload)
      × ((get_or l.workers.items k d).promise.2 + (k + 1) ≡ length l.workload.calls);
}

-- client 0 has met those whose threads have ended
abbrev pub invariant-loop-2 : goal.invariant-loop-2
invariant-loop-2 g l = record {
  own : l.own.desk ≡ l.desk.id;
  kept : Keeps l.initial.own.knows l.own.knows;
  left : length l.workers.items + l.counter ≡ l.end;
  desks : (k : ℕ) (d : _) → k < length l.workers.items → (get_or l.workers.items k d).promise.0.now ≡ l.desk;
  met : (w : Work) → IsDeskFor l.desk w
      → ((k : ℕ) (d : _) → k < length l.initial.workers.items
      → ((get_or l.initial.workers.items k d).promise.1.now ≡ w)
      × ((get_or l.initial.workers.items k d).promise.2 + (k + 1) ≡ l.end))
      → ((k : ℕ) (d : _) → k < length l.workers.items
      → ((get_or l.workers.items k d).promise.1.now ≡ w)
      × ((get_or l.workers.items k d).promise.2 + (k + 1) ≡ l.end))
      × HasMetBelow w l.own l.counter;
}
