-- A file that was not read: what the reading leaves of two sources (`unread_by`), and of one (`unread_only_by`), if the
-- command ends with the source that failed.
use Rattle.std.proofs.Common.{◌≡◌, ℕ, List, Option, Bool, subst, sym, refl}
use Rattle.std.specs.Prelude.{Result, Ok, Err, IfErr}
use Rattle.reading.specs.Reads.{SourceAfterFault, WasRefused}
use Rattle.reading.specs.TwoTexts.{IsUnread}
use Rattle.reading.specs.declared.from_source.ReadFault.{ReadFault}
use Rattle.reading.specs.declared.from_source.ReadFault.TheVariants.{Failed}
use Rattle.reading.specs.declared.two_texts.WhichSource.{WhichSource}
use Rattle.reading.specs.declared.two_texts.WhichSource.TheVariants.{First, Second}
use Rattle.file_commands.specs.OnFiles.{IsUnreadFile, IsUnreadOnly}

module _ {F G S : Type 0} (first_left : F → Option (List ℕ)) (first_broken : F → Bool)
    (first_refuses : F → ℕ → F → Type 0) (second_left : G → Option (List ℕ)) (second_broken : G → Bool)
    (second_refuses : G → ℕ → G → Type 0) (first first_after : F) (second second_after : G) (sink sink_after : S)
  where
    unread_file : (which : WhichSource) (fault : ReadFault)
        → IsUnread first_left first_broken first_refuses second_left second_broken second_refuses first first_after
        second second_after which fault
        → fault ≡ Failed → sink_after ≡ sink
        → IsUnreadFile first_left first_broken first_refuses second_left second_broken second_refuses first first_after
        second second_after sink sink_after which
    unread_file which fault u failed nothing = record {
      unread_first = λ w. (
        subst (SourceAfterFault (first_broken first_after)) failed (u.first_state w),
        u.second_untouched w,
      );
      unread_second = λ w. (
        u.first_usable w,
        subst (SourceAfterFault (second_broken second_after)) failed (u.second_state w),
      );
      first_refused = λ w. u.first_refused w failed;
      second_refused = λ w. u.second_refused w failed;
      nothing_written = nothing;
    }

    -- the source that was not read is the one that is returned
    pub unread_by : (which : WhichSource) (fault : ReadFault) (ended : Result ℕ WhichSource)
        → IsUnread first_left first_broken first_refuses second_left second_broken second_refuses first first_after
        second second_after which fault
        → IfErr ended (λ w. (w ≡ which) × (fault ≡ Failed)) → IfErr ended (λ _. sink_after ≡ sink)
        → IfErr ended (IsUnreadFile first_left first_broken first_refuses second_left second_broken second_refuses first
        first_after second second_after sink sink_after)
    unread_by which fault (Ok number) u e nothing = tt
    unread_by which fault (Err w) u e nothing =
        subst (IsUnreadFile first_left first_broken first_refuses second_left second_broken second_refuses first
        first_after second second_after sink sink_after) (sym e.0) (unread_file which fault u e.1 nothing)

module _ {F S : Type 0} (left : F → Option (List ℕ)) (broken : F → Bool) (refuses : F → ℕ → F → Type 0)
    (file file_after : F) (sink sink_after : S) where
  -- the only source was not read
  pub unread_only_by : (fault : ReadFault) (ended : Result ℕ WhichSource) → SourceAfterFault (broken file_after) fault
      → (fault ≡ Failed → WasRefused left refuses file file_after)
      → IfErr ended (λ w. (w ≡ First) × (fault ≡ Failed)) → IfErr ended (λ _. sink_after ≡ sink)
      → IfErr ended (IsUnreadOnly left broken refuses file file_after sink sink_after)
  unread_only_by fault (Ok number) state refused e nothing = tt
  unread_only_by fault (Err w) state refused e nothing = record {
    first = e.0;
    failed = subst (SourceAfterFault (broken file_after)) e.1 state;
    refused = refused e.1;
    nothing_written = nothing;
  }

  -- the only source is the first of a command that has two, and leaves the second as it is
  pub only_is_first : {G : Type 0} (second_left : G → Option (List ℕ)) (second_broken : G → Bool)
      (second_refuses : G → ℕ → G → Type 0) (second : G) (which : WhichSource)
      → IsUnreadOnly left broken refuses file file_after sink sink_after which
      → IsUnreadFile left broken refuses second_left second_broken second_refuses file file_after second second sink
      sink_after which
  only_is_first second_left second_broken second_refuses second which u = record {
    unread_first = λ w. (u.failed, refl);
    unread_second = λ w. absurd (not_second w);
    first_refused = λ w. u.refused;
    second_refused = λ w. absurd (not_second w);
    nothing_written = u.nothing_written;
  }
    where
      not_second : which ≡ Second → ⊥
      not_second w = let first = u.first in cc
