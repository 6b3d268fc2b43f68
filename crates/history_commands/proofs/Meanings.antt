-- The status of an output shows, for yes, that each object has a valid order, and for no, that some object has none. So
-- by locality the history is, or is not, linearizable (`is_search`, `is_refute`).
use Rattle.std.proofs.Common.{arith, ◌≢◌, ◌∙◌, ℕ, List, inl, inr, sym}
use Rattle.events.specs.declared.event.Event.{Event}
use Rattle.certificate.specs.declared.Certificate.{Certificate}
use Rattle.checker.specs.Refusals.{AreValid}
use Rattle.reading.specs.Texts.{DenotesHistory, IsLinearizableText}
use Rattle.report.specs.declared.verdict.Verdict.{Verdict}
use Rattle.history_commands.specs.Outputs.{status_of}
use Rattle.history_commands.specs.declared.status.Status.TheVariants as status_is
use Rattle.history_commands.specs.declared.status.Status.{Status}
use Rattle.history_commands.specs.Refuted.{IsRefute, IsRefuteOutput}
use Rattle.history_commands.specs.Searches.{IsSearchResult, IsSearchOutput, IsHistoryUnread}

-- ---- a search

unsearched_no_yes : (h : List ℕ) (v : Verdict) → IsHistoryUnread h v → status_of v ≢ status_is.Yes
unsearched_no_yes h v u e = grind arith

unsearched_no_no : (h : List ℕ) (v : Verdict) → IsHistoryUnread h v → status_of v ≢ status_is.No
unsearched_no_no h v u e = grind arith

pub is_search : ((text : List ℕ) (es : List Event) (cs : List Certificate) → DenotesHistory text es → AreValid es cs
    → IsLinearizableText text)
    → (h : List ℕ) (limit : ℕ) (status : Status) (out : List ℕ) → IsSearchOutput h limit status out
    → IsSearchResult h limit status out
is_search suffices h limit status out (inl m) = record {
  output = inl m;
  certified = λ e. let k = m.3.certified e in
      record {
        client_events = m.1;
        history_text = m.2;
        certificates = k.0;
        valid = k.1;
        distinct = k.2;
        text_is = k.3;
      };
  linearizable = λ e. let k = m.3.certified e in suffices h m.1 k.0 m.2 k.1;
  refuted = λ e. record { client_events = m.1; history_text = m.2; not_linearizable = m.3.refuted e };
}
is_search suffices h limit status out (inr v) = record {
  output = inr v;
  certified = λ e. absurd (unsearched_no_yes h v.0 v.1 (sym v.2 ∙ e));
  linearizable = λ e. absurd (unsearched_no_yes h v.0 v.1 (sym v.2 ∙ e));
  refuted = λ e. absurd (unsearched_no_no h v.0 v.1 (sym v.2 ∙ e));
}

malformed_not_no : status_is.Malformed ≢ status_is.No
malformed_not_no e = absurd cc

-- ---- a check of reasons

pub is_refute : (h r : List ℕ) (limit : ℕ) (status : Status) (out : List ℕ) → IsRefuteOutput h r limit status out
    → IsRefute h r limit status out
is_refute h r limit status out (inl (short, es, denotes, inl answered)) = record {
  output = inl (short, es, denotes, inl answered);
  refuted = λ e. record { client_events = es; history_text = denotes; not_linearizable = answered.5.refuted e };
}
is_refute h r limit status out (inl (short, es, denotes, inr fault)) = record {
  output = inl (short, es, denotes, inr fault);
  refuted = λ e. absurd (malformed_not_no (sym fault.3.0 ∙ e));
}
is_refute h r limit status out (inr v) =
    record { output = inr v; refuted = λ e. absurd (unsearched_no_no h v.0 v.1 (sym v.2 ∙ e)) }
