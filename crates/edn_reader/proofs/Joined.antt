-- The laws of reading and writing: what is written for a form spells it (`text_spells_it`), and texts of forms joined
-- by a line feed spell all their forms (`joined_spell`), since a line feed ends a token and a comment.
use Rattle.std.proofs.Common.{◌≡◌, ℕ, ◌++◌, List, [], ◌∷◌, refl, sym, ap, ◌∙◌, subst, append_assoc, inl, inr}
use Rattle.std.proofs.lemmas.List.{append-nil}
use Rattle.std.proofs.lemmas.Str.{IsUtf8-append, IsUtf8-nil}
use Rattle.edn_reader.specs.Datum.{Datum, DatumFits, ItemsFit, items_of, max_open}
use Rattle.edn_reader.specs.Token.{Token, leaf, tokens_of, items_tokens}
use Rattle.edn_reader.specs.Spells.{IsGap, EndsComment, IsEnding, EndsText, EndsToken, Begins, Lexes, Spells}
use Rattle.edn_reader.specs.Text.{InProfile, text_of, form_lines}
use Rattle.edn_reader.specs.Laws.{EachSpelled}
use Rattle.edn_reader.proofs.Utf8.{ascii_utf8, text_utf8}
use Rattle.edn_reader.proofs.Written.{ends_token, lexes_datum}

-- what is written for a form spells it
pub text_spells_it : (d : Datum) → DatumFits max_open d → InProfile d → Spells (d ∷ []) (text_of d)
text_spells_it d fits p =
    let l : Lexes (tokens_of d ++ []) (text_of d ++ []) = lexes_datum d [] [] p tt tt in
    record {
      utf8 = text_utf8 d p;
      tokens = rw (append-nil (text_of d)) at l;
      fits = (fits, tt);
    }

-- ---- gaps in front of a text

mutual
  gap_ending : (gap b : List ℕ) → IsGap gap → IsEnding b → IsEnding (gap ++ b)
  gap_ending [] b g e = e
  gap_ending (c ∷ cs) b (inl p) e = inl (p.0, gap_ending cs b p.1 e)
  gap_ending (c ∷ cs) b (inr p) e = inr (p.0, comment_ending cs b p.1 e)

  comment_ending : (gap b : List ℕ) → EndsComment gap → IsEnding b → EndsText (gap ++ b)
  comment_ending [] b g e = absurd g
  comment_ending (c ∷ cs) b (inl p) e = inl (p.0, gap_ending cs b p.1 e)
  comment_ending (c ∷ cs) b (inr p) e = inr (p.0, comment_ending cs b p.1 e)

mutual
  gap_gap : (gap b : List ℕ) → IsGap gap → IsGap b → IsGap (gap ++ b)
  gap_gap [] b g e = e
  gap_gap (c ∷ cs) b (inl p) e = inl (p.0, gap_gap cs b p.1 e)
  gap_gap (c ∷ cs) b (inr p) e = inr (p.0, comment_gap cs b p.1 e)

  comment_gap : (gap b : List ℕ) → EndsComment gap → IsGap b → EndsComment (gap ++ b)
  comment_gap [] b g e = absurd g
  comment_gap (c ∷ cs) b (inl p) e = inl (p.0, gap_gap cs b p.1 e)
  comment_gap (c ∷ cs) b (inr p) e = inr (p.0, comment_gap cs b p.1 e)

gap_first : (gap : List ℕ) (ts : List Token) (bytes : List ℕ) → IsGap gap → Lexes ts bytes → Lexes ts (gap ++ bytes)
gap_first gap [] bytes g l = gap_ending gap bytes g l
gap_first gap (t ∷ ts) bytes g (rest, (more, after, h, k, q), l) = (
  rest,
  (
    gap ++ more,
    after,
    gap_gap gap more g h,
    k,
    ap (λ (x : List ℕ). gap ++ x) q ∙ sym (append_assoc gap more after),
  ),
  l,
)

-- ---- a line feed closes the last comment

mutual
  ending_closed : (a : List ℕ) → IsEnding a → IsGap (a ++ 10 ∷ [])
  ending_closed [] e = inl (refl, tt)
  ending_closed (c ∷ cs) (inl p) = inl (p.0, ending_closed cs p.1)
  ending_closed (c ∷ cs) (inr p) = inr (p.0, text_closed cs p.1)

  text_closed : (a : List ℕ) → EndsText a → EndsComment (a ++ 10 ∷ [])
  text_closed [] e = inl (refl, tt)
  text_closed (c ∷ cs) (inl p) = inl (p.0, ending_closed cs p.1)
  text_closed (c ∷ cs) (inr p) = inr (p.0, text_closed cs p.1)

token_ends : (rest b : List ℕ) → EndsToken rest → EndsToken (rest ++ 10 ∷ b)
token_ends [] b e = ends_token 10 refl
token_ends (c ∷ cs) b e = e

begins_more : (after : List ℕ) (t : Token) (rest b : List ℕ) → Begins after t rest
    → Begins (after ++ 10 ∷ b) t (rest ++ 10 ∷ b)
begins_more after (leaf d) rest b (inl (a, own, q, w, e, p)) =
    inl (a, own, q, w, token_ends rest b e, rw p (simp append_assoc))
begins_more after (leaf d) rest b (inr (s, own, q, k, p)) =
    inr (s, own, q, k, rw p (simp append_assoc))
begins_more after t rest b h = ap (λ (x : List ℕ). x ++ 10 ∷ b) h

lexes_joined : (ts us : List Token) (a b : List ℕ) → Lexes ts a → Lexes us b → Lexes (ts ++ us) (a ++ 10 ∷ b)
lexes_joined [] us a b h k =
    subst (Lexes us) (append_assoc a (10 ∷ []) b) (gap_first (a ++ 10 ∷ []) us b (ending_closed a h) k)
lexes_joined (t ∷ ts) us a b (rest, (gap, after, g, n, q), h) k = (
  rest ++ 10 ∷ b,
  (
    gap,
    after ++ 10 ∷ b,
    g,
    begins_more after t rest b n,
    ap (λ (x : List ℕ). x ++ 10 ∷ b) q ∙ append_assoc gap after (10 ∷ b),
  ),
  lexes_joined ts us rest b h k,
)

pub tokens-append : (ds es : List Datum)
    → items_tokens (items_of (ds ++ es)) ≡ items_tokens (items_of ds) ++ items_tokens (items_of es)
tokens-append [] es = refl
tokens-append (d ∷ ds) es =
    rw (tokens-append ds es) (simp append_assoc)

pub fits-append : (n : ℕ) (ds es : List Datum) → ItemsFit n (items_of ds) → ItemsFit n (items_of es)
    → ItemsFit n (items_of (ds ++ es))
fits-append n [] es h k = k
fits-append n (d ∷ ds) es h k = (h.0, fits-append n ds es h.1 k)

pub joined_spell : (ds es : List Datum) (a b : List ℕ) → Spells ds a → Spells es b → Spells (ds ++ es) (a ++ 10 ∷ b)
joined_spell ds es a b h k =
    record {
      utf8 = IsUtf8-append a (10 ∷ b) h.utf8 (IsUtf8-append (10 ∷ []) b (ascii_utf8 (10 ∷ []) refl) k.utf8);
      tokens = rw (tokens-append ds es)
          (lexes_joined (items_tokens (items_of ds)) (items_tokens (items_of es)) a b h.tokens k.tokens);
      fits = fits-append max_open ds es h.fits k.fits;
    }

pub nothing_spelled : Spells [] []
nothing_spelled = record { utf8 = IsUtf8-nil; tokens = tt; fits = tt }

pub lines_spell_them : (ds : List Datum) → EachSpelled ds → Spells ds (form_lines ds)
lines_spell_them [] h = nothing_spelled
lines_spell_them (d ∷ ds) h = joined_spell (d ∷ []) ds (text_of d) (form_lines ds) h.0 (lines_spell_them ds h.1)
