-- If a text begins with the tokens of an element, the element is at the front of the text (`front_of`): the tokens make
-- one form, and what is left is shorter.
use Rattle.std.proofs.Common.{◌≡◌, ℕ, ◌<◌, ◌≤◌, Option, Some, None, List, [], ◌∷◌, ◌++◌, length, refl, ap, arith}
use Rattle.std.specs.Prelude.{option_and_then}
use Rattle.std.specs.Str.{IsUtf8}
use Rattle.std.proofs.lemmas.List.{append-nil}
use Rattle.std.proofs.lemmas.Option.{same_Some}
use Rattle.edn_reader.specs.Datum.{Datum, DatumFits, items_of, max_open}
use Rattle.edn_reader.specs.Elements.{SpellsFront, PassesElement}
use Rattle.edn_reader.specs.Reading.{in_text, State, step, steps, opening, closed}
use Rattle.edn_reader.specs.Sound.{BeginWith}
use Rattle.edn_reader.specs.Token.{Token, tokens_of}
use Rattle.edn_reader.proofs.Complete.{steps_items}
use Rattle.edn_reader.proofs.Next.{next_from}
use Rattle.edn_reader.proofs.Prefixes.{not_nothing}
use Rattle.edn_reader.proofs.Progress.{Progress, goes_on, next_shorter}
use Rattle.edn_reader.proofs.BufferTurns.{start, element_front}

-- ---- what is left is shorter

pub begin_within : (ts : List Token) (text rest : List ℕ) → BeginWith ts text rest → length rest ≤ length text
begin_within [] text rest b = omega (arith, ap length b)
begin_within (t ∷ ts) text rest (mid, n, b) =
    omega (arith, next_shorter text t mid (next_from text t mid n), begin_within ts mid rest b)

pub begin_shorter : (ts : List Token) (text rest : List ℕ) → ([] ≡ ts → ⊥) → BeginWith ts text rest
    → length rest < length text
begin_shorter [] text rest h b = absurd (h refl)
begin_shorter (t ∷ ts) text rest h (mid, n, b) =
    omega (arith, next_shorter text t mid (next_from text t mid n), begin_within ts mid rest b)

pub rest_shorter : (text rest : List ℕ) → PassesElement text rest → length rest < length text
rest_shorter text rest p = begin_shorter (tokens_of p.element ++ []) text rest (not_nothing p.element []) p.front.begins

-- ---- tokens that make a form

pub both_begin : (ts us : List Token) (text mid rest : List ℕ) → BeginWith ts text mid → BeginWith us mid rest
    → BeginWith (ts ++ us) text rest
both_begin [] us text mid rest b k = rw b k
both_begin (t ∷ ts) us text mid rest (q, n, b) k = (q, n, both_begin ts us q mid rest b k)

-- reading goes on by these tokens, from the state s to z
progress : (ts : List Token) (text mid rest : List ℕ) (s z : State) → BeginWith ts mid rest → steps ts s ≡ Some z
    → Progress text mid s → Progress text rest z
progress [] text mid rest s z b e p =
    rw (← b, ← same_Some s z e) p
progress (t ∷ ts) text mid rest s z (q, n, b) e p =
    by_step (step t s) refl e
    (λ x h k. progress ts text q rest x z b k (goes_on text mid t q s x (next_from mid t q n) h p))
  where
    by_step : (o : Option State) → step t s ≡ o → option_and_then (λ (x : State). steps ts x) o ≡ Some z
        → ((x : State) → step t s ≡ Some x → steps ts x ≡ Some z → Progress text rest z) → Progress text rest z
    by_step None h k go = absurd cc
    by_step (Some x) h k go = go x h k

-- the tokens of a form whose keys are distinct and whose brackets are not too deep
pub front_of : (text rest : List ℕ) (d : Datum) → IsUtf8 text → DatumFits max_open d → BeginWith (tokens_of d) text rest
    → SpellsFront text (d ∷ []) rest × IsUtf8 rest
front_of text rest d u f b =
    let e : steps (tokens_of d ++ []) opening ≡ Some (closed (d ∷ [])) =
    steps_items (items_of (d ∷ [])) 16 in_text (λ xs x. refl) [] [] (f, tt) refl in
    let p : Progress text rest (closed (d ∷ [])) =
    progress (tokens_of d ++ []) text text rest opening (closed (d ∷ []))
    (rw append-nil b) e (start text u) in
    (element_front p u, p.utf8)
