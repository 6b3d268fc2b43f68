-- What was read of two sources, the first of which has the text of a history.
use Rattle.std.specs.Prelude.{◌≡◌, ℕ, Bool, false, List, Option, Result}
use Rattle.edn.specs.Given.{WasRead}
use Rattle.events.specs.declared.event.Event.{Event}
use Rattle.reading.specs.Reads.{SourceAfterFault, WasRefused, read_limit}
use Rattle.reading.specs.Texts.{IsHistoryRead}
use Rattle.reading.specs.declared.from_source.ReadFault.{ReadFault}
use Rattle.reading.specs.declared.from_source.ReadFault.TheVariants as fault_is
use Rattle.reading.specs.declared.text_failure.TextFailure.{TextFailure}
use Rattle.reading.specs.declared.two_texts.WhichSource.{WhichSource}
use Rattle.reading.specs.declared.two_texts.WhichSource.TheVariants.{First, Second}

-- Both texts were read: the first denotes this history, or has what stopped its reading, and this
-- is the second. What their sources have left is given as it was before and after.
pub record AreRead (first first_left second second_left : Option (List ℕ))
    (history : Result (List Event) TextFailure) (text : List ℕ) : Type 0 where
  pub history_text : List ℕ
  pub first_read : WasRead read_limit first first_left history_text
  pub history_read : IsHistoryRead history_text history
  pub second_read : WasRead read_limit second second_left text

-- Which source was not read, and why: it failed, since it refused a call, or an allocation failed
-- and no source did. If it is the first, nothing was read of the second; if it is the second, the
-- first has not failed. What a source has left, whether it is broken, and what it refuses are given
-- for the first and for the second.
pub record IsUnread {F G : Type 0} (first_left : F → Option (List ℕ)) (first_broken : F → Bool)
    (first_refuses : F → ℕ → F → Type 0) (second_left : G → Option (List ℕ))
    (second_broken : G → Bool) (second_refuses : G → ℕ → G → Type 0)
    (first first_after : F) (second second_after : G) (which : WhichSource) (fault : ReadFault)
    : Type 0 where
  pub first_state : which ≡ First → SourceAfterFault (first_broken first_after) fault
  pub second_untouched : which ≡ First → second_after ≡ second
  pub first_usable : which ≡ Second → first_broken first_after ≡ false
  pub second_state : which ≡ Second → SourceAfterFault (second_broken second_after) fault
  -- it failed only if it refused a call
  pub first_refused : which ≡ First → fault ≡ fault_is.Failed
      → WasRefused first_left first_refuses first first_after
  pub second_refused : which ≡ Second → fault ≡ fault_is.Failed
      → WasRefused second_left second_refuses second second_after
