-- Forms at the front of a text, and one more after them (`along_more`): what is sound after a front is sound in the
-- text, since the front and the rest are spelled one after the other.
use Rattle.std.proofs.Common.{◌≡◌, ◌≢◌, ℕ, ◌+◌, Bool, true, false, cond, Some, None, List, [], ◌∷◌, ◌++◌}
use Rattle.std.proofs.Common.{length, sym, ap, subst, ◌∙◌, append_assoc, arith}
use Rattle.std.specs.Str.{IsUtf8}
use Rattle.edn_reader.specs.Datum.{Datum}
use Rattle.edn_reader.specs.Elements.{SpellsFront, SpellsNothing, ReadsElement, ReadsNext}
use Rattle.edn_reader.specs.Sound.{IsShort, IsSoundAt, IsSoundFrom, IsUnreadable}
use Rattle.edn_reader.specs.Spells.{Spells}
use Rattle.edn_reader.specs.Token.{Token}
use Rattle.edn_reader.specs.declared.fault.EdnFault.{EdnFault}
use Rattle.edn_reader.specs.declared.fault.FaultKind.TheVariants.{TooLong, NoMemory}
use Rattle.std.proofs.lemmas.List.{append-nil}
use Rattle.edn_reader.proofs.Consumed.{list_tokens}
use Rattle.edn_reader.proofs.Joined.{tokens-append, fits-append}
use Rattle.edn_reader.proofs.Fronts.{both_begin}

-- a front, and forms after it
pub front_more : (text mid rest : List ℕ) (ds more : List Datum) → SpellsFront text ds mid → SpellsFront mid more rest
    → SpellsFront text (ds ++ more) rest
front_more text mid rest ds more f g =
    record {
      begins = rw (tokens-append ds more)
          (both_begin (list_tokens ds) (list_tokens more) text mid rest f.begins g.begins);
      fits = fits-append 16 ds more f.fits g.fits;
      on = λ es k. rw append_assoc (f.on (more ++ es) (g.on es k));
      only = λ es k. (
          let a = f.only es k in
          let b = g.only a.0 a.2 in
          (b.0, a.1 ∙ ap (λ (xs : List Datum). ds ++ xs) b.1 ∙ sym (append_assoc ds more b.0), b.2)
          );
    }

-- what is sound after a front is sound in the text
pub sound_after : (text rest : List ℕ) (ds : List Datum) (start place : ℕ) → IsUtf8 text → SpellsFront text ds rest
    → start + length rest ≡ length text → IsSoundFrom start place rest → IsSoundAt place text
sound_after text rest ds start place u f l (n, e, s) =
    let first : list_tokens s.forms ≡ s.before ++ s.token ∷ s.more = s.are_first in
    record {
      utf8 = u;
      forms = ds ++ s.forms;
      fit = fits-append 16 ds s.forms f.fits s.fit;
      before = list_tokens ds ++ s.before;
      token = s.token;
      more = s.more;
      are_first = rw (tokens-append ds s.forms, first) (simp append_assoc);
      gap = s.gap;
      here = s.here;
      rest = s.rest;
      begins = both_begin (list_tokens ds) s.before text rest (s.gap ++ s.here) f.begins s.begins;
      is_gap = s.is_gap;
      stands = s.stands;
      stands_at = omega (arith, s.stands_at);
    }

-- ---- along the text

-- The forms so far, of which this holds, and the rest, which begins at this byte.
pub record Along (P : List Datum → Type 0) (text rest : List ℕ) (start : ℕ) : Type 0 where
  pub forms : List Datum
  pub front : SpellsFront text forms rest
  pub holds : P forms
  pub place : start + length rest ≡ length text

-- one form more
pub along_more : (P Q : List Datum → Type 0) (text mid rest : List ℕ) (before start : ℕ) (d : Datum)
    → SpellsFront mid (d ∷ []) rest
    → start + length rest ≡ before + length mid → ((ds : List Datum) → P ds → Q (ds ++ d ∷ []))
    → Along P text mid before → Along Q text rest start
along_more P Q text mid rest before start d f moves put a =
    record {
      forms = a.forms ++ d ∷ [];
      front = front_more text mid rest a.forms (d ∷ []) a.front f;
      holds = put a.forms a.holds;
      place = moves ∙ a.place;
    }

-- The forms in front of a place are also in front of a place that is equal to it.
pub along_moved : (P : List Datum → Type 0) (text rest other : List ℕ) (start from : ℕ) → other ≡ rest → from ≡ start
    → Along P text rest start → Along P text other from
along_moved P text rest other start from e s a =
    rw (e, s) a

-- no element more
pub along_spells : (P : List Datum → Type 0) (text rest : List ℕ) (start : ℕ) (a : Along P text rest start)
    → SpellsNothing rest → Spells a.forms text
along_spells P text rest start a n =
    subst (λ (xs : List Datum). Spells xs text) (append-nil a.forms) (a.front.on [] n.spelled)

-- what the rest can't spell, the text can't
pub along_none : (P : List Datum → Type 0) (text rest : List ℕ) (start : ℕ) → Along P text rest start
    → ((ds : List Datum) → Spells ds rest → ⊥) → (ds : List Datum) → Spells ds text → ⊥
along_none P text rest start a none ds k = let b = a.front.only ds k in none b.0 b.2

-- what the rest can't spell for a fault of its own
pub unreadable_after : (P : List Datum → Type 0) (text rest : List ℕ) (start : ℕ) (e : EdnFault) → IsShort text
    → Along P text rest start → e.kind ≢ TooLong
    → (e.kind ≢ NoMemory → (ds : List Datum) → Spells ds rest → ⊥) → e.kind ≢ NoMemory → IsUnreadable text e
unreadable_after P text rest start e short a not_long none not_memory =
    record {
      not_memory = not_memory;
      too_long = (λ t. absurd (not_long t), λ l. absurd (omega (arith, l, short)));
      nothing = λ _. along_none P text rest start a (none not_memory);
    }

pub reads_some : (cuts b : Bool) (text : List ℕ) (tokens : List Token) (rest : List ℕ) → b ≡ true
    → ReadsNext cuts text tokens (cond b (Some rest) None) → ReadsElement cuts text tokens rest
reads_some cuts true text tokens rest e h = h
reads_some cuts false text tokens rest e h = absurd cc

pub reads_none : (cuts b : Bool) (text : List ℕ) (tokens : List Token) (rest : List ℕ) → b ≡ false
    → ReadsNext cuts text tokens (cond b (Some rest) None) → SpellsNothing text
reads_none cuts true text tokens rest e h = absurd cc
reads_none cuts false text tokens rest e h = h
