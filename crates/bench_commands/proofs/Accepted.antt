-- The output for a sound record is a yes, except if an allocation fails: its verdict is none of the others, by cases on
-- the verdict and on the status.
use Rattle.std.proofs.Common.{arith, ◌≡◌, ◌≢◌, ◌∙◌, ℕ, List, [], ◌++◌, true, inl, inr, refl, sym, ap, append_assoc}
use Rattle.model.specs.declared.Kind.{Kind}
use Rattle.desk_model.specs.World.{AnyEntry, AnyEvent}
use Rattle.desk_model.specs.Records.{IsSoundRecord}
use Rattle.report.specs.Lines.{verdict_text}
use Rattle.report.specs.declared.verdict.Verdict.{Verdict}
use Rattle.report.specs.declared.verdict.Verdict.TheVariants.{Yes, No, NoMemory}
use Rattle.text_check.specs.Verdicts.{IsYesUnlessMemory}
use Rattle.clients.specs.Made.{IsRunRecord}
use Rattle.command_line.specs.declared.lines.RunOptions.{RunOptions}
use Rattle.history_commands.specs.Outputs.{status_of}
use Rattle.history_commands.specs.declared.status.Status.{Status}
use Rattle.history_commands.specs.declared.status.Status.TheVariants as status_is
use Rattle.history_commands.specs.Comments.{comment_lines}
use Rattle.bench_commands.specs.Runs.{IsAcceptedOutput, IsAcceptedRun, IsReported, IsRunOutput, HasSoundRecord, Says}
use Rattle.bench_commands.specs.Runs.{journals_of, logs_of, work_of}
use Rattle.bench_commands.proofs.Reports.{sound_as_it_is}

module _ (kinds : List Kind) (quota : ℕ) (journals : ℕ → List AnyEvent) (logs : ℕ → List AnyEntry) (between : List ℕ)
    (sound : IsSoundRecord kinds quota journals logs) where
  not_no : (v : Verdict) → IsYesUnlessMemory v → status_of v ≡ status_is.No → ⊥
  not_no v k e = grind arith

  accepted_as : (status : Status) (out : List ℕ) (h : IsReported journals logs between status out) → (v : Verdict)
      → h.verdict ≡ v → IsYesUnlessMemory v
      → status_of v ≡ status_is.Yes → Says journals logs v → IsAcceptedOutput journals logs between out
  accepted_as status out h (Yes counts) is k e says = record {
    accepted = says.0;
    history = h.is_text.history;
    is_history = h.is_text.is_history;
    certificates = h.is_text.certificates;
    are_certificates = h.is_text.are_certificates;
    counts = counts;
    are_counts = says.1;
    out_is =
        h.text_is ∙ (ap (λ xs. xs ++ verdict_text true h.verdict) h.is_text.text_is
        ∙ (ap (λ w. (h.is_text.history ++ (between ++ comment_lines h.is_text.certificates))
        ++ verdict_text true w) is
        ∙ (append_assoc h.is_text.history (between ++ comment_lines h.is_text.certificates)
        (verdict_text true (Yes counts))
        ∙ ap (λ xs. h.is_text.history ++ xs)
        (append_assoc between (comment_lines h.is_text.certificates) (verdict_text true (Yes counts))))));
  }
  accepted_as status out h NoMemory is k e says = absurd cc
  accepted_as status out h v e k g q = absurd k

  pub record_accepted : (status : Status) (out : List ℕ) → IsReported journals logs between status out
      → status ≡ status_is.Yes → IsAcceptedOutput journals logs between out
  record_accepted status out h e =
      accepted_as status out h h.verdict refl (h.accepted kinds quota sound) (sym h.status_is ∙ e) h.says

  pub record_not_no : (status : Status) (out : List ℕ) → IsReported journals logs between status out
      → status ≡ status_is.No → ⊥
  record_not_no status out h e = not_no h.verdict (h.accepted kinds quota sound) (sym h.status_is ∙ e)

-- ---- the record of a run

module _ (o : RunOptions) where
  sound_run : (r : _) → IsRunRecord (work_of o) r → HasSoundRecord r
  sound_run r ran = sound_as_it_is r (work_of o).kinds _ ran.sound

  pub run_accepted : (status : Status) (out : List ℕ) → IsRunOutput o status out → status ≡ status_is.Yes
      → IsAcceptedRun o out
  run_accepted status out (inl h) e =
      let s = sound_run h.0 h.1 in
      record {
        recorded = h.0;
        ran = h.1;
        lines = record_accepted s.0 s.1 (journals_of h.0) (logs_of h.0) [] s.2 status out h.2 e;
      }
  run_accepted status out (inr h) e = absurd cc

  pub run_not_no : (status : Status) (out : List ℕ) → IsRunOutput o status out → status ≢ status_is.No
  run_not_no status out (inl h) e =
      let s = sound_run h.0 h.1 in record_not_no s.0 s.1 (journals_of h.0) (logs_of h.0) [] s.2 status out h.2 e
  run_not_no status out (inr h) e = absurd cc
