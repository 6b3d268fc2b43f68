-- The history of a world's journals: each client's events, merged by their tickets.
use Rattle.std.proofs.Common.{◌≡◌, ℕ, ◌<◌, ◌==◌, List, filter, ap, sym, ◌∙◌, subst}
use Rattle.model.specs.Histories.{IsSequential, process_of}
use Rattle.model.specs.Lists.{In}
use Rattle.model.specs.Orders.{Numbered, events, ProcessCall, calls_in, IsHistory}
use Rattle.model.proofs.Lists.{Pairs, all_from_pairs, pairs_from_all}
use Rattle.desk_model.specs.World.{World, journal_in, tickets_in, request_of}
use Rattle.desk_model.specs.Sound.{ShareOut}
use Rattle.desk_model.specs.Records.{Denotes, IsHistoryOf}
use Rattle.locality.proofs.Entries.{number_of}
use Rattle.locality.proofs.ProcessHistories.{part, events-part, calls_in-part, calls_rise}
use Rattle.desk_model.proofs.Shares.{Shares, merged, merged_rises, merged_part}
use Rattle.desk_model.proofs.Owners.{owner, drawn_by}
use Rattle.desk_model.proofs.Denoted.{denoted, made, denotes, of_client, denoted_rises, denoted_sequential, made_in}

abbrev pub events_of : World → ℕ → List Numbered
events_of world client = denoted client (world.done client) (request_of (world.stage client))

abbrev number_in : Numbered → ℕ
number_in m = m.number

abbrev process_in : Numbered → ℕ
process_in m = process_of m.event

-- the calls of a client
abbrev pub calls_by : World → ℕ → List ProcessCall
calls_by world client = made client (world.done client) (request_of (world.stage client))

module _ (world : World) (share : ShareOut world.clock (tickets_in world)) where
  pub tickets_rise : (client : ℕ) → Pairs (λ t u. t < u) (tickets_in world client)
  tickets_rise client = pairs_from_all (λ t u. t < u) (tickets_in world client) (share.rising client)

  -- each event is of the client, and its number is a ticket that the client drew
  own_event : (client : ℕ) (m : Numbered) → In m (events_of world client)
      → (process_of m.event ≡ client) × In m.number (tickets_in world client)
  own_event client m i = of_client client (world.done client) (request_of (world.stage client)) m i

  shares : Shares number_in process_in world.clock (owner share) (events_of world)
  shares = record {
    rising = λ client. denoted_rises client (world.done client) (request_of (world.stage client)) (tickets_rise client);
    below = λ client m i. (drawn_by share client m.number (own_event client m i).1).0;
    owned = λ client m i. (drawn_by share client m.number (own_event client m i).1).1;
    own = λ client m i. (own_event client m i).0;
  }

  pub history : List Numbered
  history = merged number_in world.clock (owner share) (events_of world)

  history_rises : Pairs (λ a b. a.number < b.number) history
  unfolding history
  history_rises = merged_rises number_in process_in world.clock (owner share) (events_of world) shares

  history_part : (client : ℕ) → part client history ≡ events_of world client
  unfolding history
  history_part client = merged_part number_in process_in world.clock (owner share) (events_of world) shares client

  pub history_denoted : IsHistoryOf (journal_in world) history
  history_denoted = record {
    rising = all_from_pairs (λ a b. a.number < b.number) history history_rises;
    each = λ client. subst (Denotes client (journal_in world client)) (sym (history_part client))
        (denotes client (world.done client) (request_of (world.stage client)));
  }

  pub history_well_formed : IsHistory history
  history_well_formed = record {
    rising = all_from_pairs (λ a b. a.number < b.number) history history_rises;
    well_formed = λ p. subst IsSequential (ap events (sym (history_part p)) ∙ events-part p history)
        (denoted_sequential p (world.done p) (request_of (world.stage p)));
  }

  -- its operations, and those of one client among them
  pub calls_up : Pairs (λ a b. number_of a < number_of b) (calls_in history)
  calls_up = calls_rise history history_rises

  pub calls_of_client : (client : ℕ) → filter (λ o. o.process == client) (calls_in history) ≡ calls_by world client
  calls_of_client client = sym (calls_in-part client history)
      ∙ (ap calls_in (history_part client) ∙ made_in client (world.done client) (request_of (world.stage client)))
