-- Each step of the owner of a row keeps the rule of the list: it looks, wakes, links and enlists (`.._keeps_rule`),
-- may do so (`.._allowed`), and knows afterwards what its try has left (`.._leaves_..`).
use Rattle.std.proofs.Common.{◌≡◌, ◌≢◌, ℕ, true, false, ◌+◌, ◌<◌, eqb, List, [], ◌∷◌, ◌++◌, get_or, refl, sym, ap, ◌∙◌}
use Rattle.std.proofs.Common.{inl, inr, eq-eqb, ne_eqb, arith}
use mathlib.Core.Logic.{dite}
use mathlib.Mathlib.Logic.Function.Basic.{update_self}
use native.Mathlib.Decide.{ℕ_discrete}
use mathlib.Core.Option as maybe
use mathlib.Core.Option.{some}
use lib.ListN.{get_elem?}
use prog.Atomic.{either}
use Rattle.atomic_table.specs.Table.{Me, step, keeps, Allows}
use Rattle.publication_list.specs.Inside.{IsRowPlace, tries_of}
use Rattle.publication_list.specs.declared.list_table.Enlist.{Enlist}
use Rattle.publication_list.specs.declared.list_table.Enlist.TheVariants.{Already, Listed, Missed}
use Rattle.publication_list.specs.declared.list_table.RowKnowledge.{RowKnowledge}
use Rattle.publication_list.specs.declared.list_table.RowKnowledge.TheVariants as own
use Rattle.publication_list.specs.declared.list_table.ListView.{ListView}
use Rattle.publication_list.specs.declared.list_table.ListView.TheVariants as view
use Rattle.publication_list.specs.PublicationList.{Stage, asleep, awake, listed, unlinked, PublicationList, mark_of}
use Rattle.publication_list.specs.Rule.{OwnRowAgrees, Kept}
use Rattle.publication_list.specs.Plays as play
use Rattle.publication_list.proofs.RuleKept.{with_stage, place_step_keeps_others, stage_keeps_sound, mark_keeps_tied}
use Rattle.publication_list.proofs.RuleKept.{link_keeps_tied, enlist_keeps_sound, enlist_keeps_tied, St, kept_after}
use Rattle.publication_list.proofs.RuleKept.{same_words_keep_rule, unmade_stay_asleep}

-- ---- what the owner of a row knows

abbrev Holds : St → Type 0
Holds = Kept

abbrev Hands : Type 0
Hands = Me ℕ ListView

-- the view that the owner of a row has
known : (state : St) (kept : Kept state) (id row : ℕ) (knows : RowKnowledge) (tries : List Enlist)
    → get_elem? state.views id ≡ some (view.Place row knows tries) → (id ≡ 1 + row) × (row < kept.list.made)
    × OwnRowAgrees knows (kept.list.stage row)
known state kept id row knows tries at = kept.seats id (view.Place row knows tries) at

abbrev number_of : ListView → ℕ
number_of (view.Place row knows tries) = row
number_of v = 0

abbrev over : Enlist → ListView → ListView
over e (view.Place row knows tries) = view.Place row knows (tries ++ e ∷ [])
over e v = v

-- a row that is not known to be woken, and whose mark is 0, is asleep
unmarked : (knows : RowKnowledge) (stage : Stage) → knows ≡ own.Unknown → OwnRowAgrees knows stage → mark_of stage ≡ 0
    → stage ≡ asleep
unmarked knows stage is ok e = grind arith

-- ---- each step of the owner keeps the rule

-- of the owner of a row, with what it has tried, and with what its seat holds
module _ (slots id row : ℕ) (tries : List Enlist) (held : List (ℕ × ℕ)) where
  -- the owner of a row reads any word
  pub see_keeps_rule : (i : ℕ) (knows : RowKnowledge)
      → Allows Holds slots id (view.Place row knows tries, held) i (λ f. f)
      (play.sees (step slots i 0 0 maybe.none) (view.Place row knows tries, held))
  see_keeps_rule i knows state kept deep at small = (
    view.Place row knows tries,
    keeps,
    tt,
    same_words_keep_rule state kept i id (view.Place row knows tries) held
        (kept.seats id (view.Place row knows tries) at),
    refl,
  )

  -- the owner of a row looks at its mark
  pub look_keeps_rule : Allows Holds slots id (view.Place row own.Unknown tries, held) (33 + row) (λ f. f)
      (play.looks (step slots (33 + row) 0 0 maybe.none) (view.Place row own.Unknown tries, held))
  look_keeps_rule state kept deep at small =
      let list : PublicationList = kept.list in
      let me : ListView = view.Place row own.Unknown tries in
      let ok = known state kept id row own.Unknown tries at in
      let few = kept.sound.few in
      let low = ok.1 in
      let word = kept.tied.marks row (omega arith) in
      dite (ℕ_discrete (get_or state.words (33 + row) 0) 0)
      (λ zero. let asleep' = unmarked own.Unknown (list.stage row) refl ok.2 (sym word ∙ zero) in (
        view.Place row own.Asleep tries,
        keeps,
        tt,
        same_words_keep_rule state kept (33 + row) id (view.Place row own.Asleep tries) held (ok.0, ok.1, asleep'),
        λ d p ts is _. (
          (λ _. ap (λ (z : ListView). (view.Place (number_of z) own.Asleep (tries_of z), held)) is),
          λ ne. absurd (ne zero),
        ),
      ))
      (λ ne. (
        over Already me,
        keeps,
        tt,
        same_words_keep_rule state kept (33 + row) id (over Already me) held ok,
        λ d p ts is _. ((λ e. absurd (ne e)), λ _. ap (λ (z : ListView). (over Already z, held)) is),
      ))

  -- the owner of a row that is asleep sets its mark
  pub wake_keeps_rule : Allows Holds slots id (view.Place row own.Asleep tries, held) (33 + row) (λ _. 1)
      (λ _. play.wakes (step slots (33 + row) 1 0 maybe.none) (view.Place row own.Asleep tries, held) 1)
  wake_keeps_rule state kept deep at small =
      let list : PublicationList = kept.list in
      let ok = known state kept id row own.Asleep tries at in
      let few = kept.sound.few in
      let low = ok.1 in
      let next : ℕ = get_or state.words (1 + row) 0 in
      let was : list.stage row ≡ asleep = ok.2 in
      let not_listed : list.stage row ≢ listed = λ e. absurd cc in
      let not_unlinked : list.stage row ≢ unlinked = λ e. absurd cc in (
        view.Place row (own.Awake next) tries,
        keeps,
        tt,
        kept_after state kept id (view.Place row (own.Awake next) tries) record {
          list = with_stage list row (awake next) list.rows;
          same = refl;
          sound = stage_keeps_sound list row (awake next) not_listed (λ e. absurd (cc)) kept.sound;
          tied = mark_keeps_tied list row 1 (awake next) state.words (omega arith) refl (λ m e. cc) kept.sound
              kept.tied;
          unmade = unmade_stay_asleep list row (awake next) low kept.unmade;
          others = λ j u other. place_step_keeps_others list row (awake next) list.rows [] not_unlinked
              (λ e. absurd (cc)) refl j u (λ e. other (e ∙ sym ok.0));
          own = (ok.0, ok.1, update_self ℕ_discrete row (awake next) list.stage);
        },
        λ d p ts is _. (next, ap (λ (z : ListView). (view.Place (number_of z) (own.Awake next) (tries_of z), held)) is),
      )

  -- the owner of a row that is awake sets the row's next word
  pub link_keeps_rule : (was next : ℕ)
      → Allows Holds slots id (view.Place row (own.Awake was) tries, held) (1 + row) (λ _. next)
      (λ _. play.links (step slots (1 + row) next 0 maybe.none) (view.Place row (own.Awake was) tries, held) next)
  link_keeps_rule was next state kept deep at small =
      let list : PublicationList = kept.list in
      let ok = known state kept id row (own.Awake was) tries at in
      let few = kept.sound.few in
      let low = ok.1 in
      let stage : list.stage row ≡ awake was = ok.2 in
      let not_listed : list.stage row ≢ listed = λ e. absurd cc in
      let not_unlinked : list.stage row ≢ unlinked = λ e. absurd cc in (
        view.Place row (own.Awake next) tries,
        keeps,
        tt,
        kept_after state kept id (view.Place row (own.Awake next) tries) record {
          list = with_stage list row (awake next) list.rows;
          same = refl;
          sound = stage_keeps_sound list row (awake next) not_listed (λ e. absurd (cc)) kept.sound;
          tied = link_keeps_tied list row next was state.words (omega arith) stage kept.sound kept.tied;
          unmade = unmade_stay_asleep list row (awake next) low kept.unmade;
          others = λ j u other. place_step_keeps_others list row (awake next) list.rows [] not_unlinked
              (λ e. absurd (cc)) refl j u (λ e. other (e ∙ sym ok.0));
          own = (ok.0, ok.1, update_self ℕ_discrete row (awake next) list.stage);
        },
        λ d p ts is _. ap (λ (z : ListView). (view.Place (number_of z) (own.Awake next) (tries_of z), held)) is,
      )

  -- the owner of a row that is awake puts it at the head if the head is its next word; otherwise it has missed
  pub enlist_keeps_rule : (next : ℕ)
      → Allows Holds slots id (view.Place row (own.Awake next) tries, held) 0 (λ f. either (eqb f next) (1 + row) f)
      (play.enlists (step slots 0 next (1 + row) maybe.none) (view.Place row (own.Awake next) tries, held))
  enlist_keeps_rule next state kept deep at small =
      let list : PublicationList = kept.list in
      let me : ListView = view.Place row (own.Awake next) tries in
      let ok = known state kept id row (own.Awake next) tries at in
      let few = kept.sound.few in
      let low = ok.1 in
      let stage : list.stage row ≡ awake next = ok.2 in
      let not_unlinked : list.stage row ≢ unlinked = λ e. absurd cc in
      let found : ℕ = get_or state.words 0 0 in
      dite (ℕ_discrete found next)
      (λ hit. (
        view.Place row own.Unknown (tries ++ Listed ∷ []),
        keeps,
        tt,
        rw (eq-eqb found next hit)
            (kept_after state kept id (view.Place row own.Unknown (tries ++ Listed ∷ [])) record {
              list = with_stage list row listed (row ∷ list.rows);
              same = refl;
              sound = enlist_keeps_sound list row next low stage kept.sound;
              tied = enlist_keeps_tied list row next state.words (omega arith) stage hit kept.sound kept.tied;
              unmade = unmade_stay_asleep list row listed low kept.unmade;
              others = λ j u other. place_step_keeps_others list row listed (row ∷ list.rows) (row ∷ []) not_unlinked
                  (λ e. absurd (cc)) refl j u (λ e. other (e ∙ sym ok.0));
              own = (ok.0, ok.1, inr (inl (update_self ℕ_discrete row listed list.stage)));
            }),
        λ d p ts is _. (
          (λ _. ap
              (λ (z : ListView). (view.Place (number_of z) own.Unknown (tries_of z ++ Listed ∷ []), held)) is),
          λ ne. absurd (ne hit),
        ),
      ))
      (λ miss. (
        over Missed me,
        keeps,
        tt,
        rw (ne_eqb found next miss) (same_words_keep_rule state kept 0 id (over Missed me) held ok),
        λ d p ts is _. ((λ e. absurd (miss e)), λ _. ap (λ (z : ListView). (over Missed z, held)) is),
      ))

-- ---- the same, of what a place has in its hands

abbrev pub on : ℕ → RowKnowledge → List Enlist → Hands
on row knows tries = (view.Place row knows tries, [])

pub at_rest : (row : ℕ) (tries : List Enlist) (hands : Hands) → IsRowPlace row false tries hands
    → hands ≡ on row own.Unknown tries
at_rest row tries hands p = p.1.1 ∙ ap (λ o. on row o tries) p.1.2

pub trying : (row : ℕ) (tries : List Enlist) (hands : Hands) → IsRowPlace row true tries hands
    → (n : ℕ) × (hands ≡ on row (own.Awake n) tries)
trying row tries hands p = (p.1.2.0, p.1.1 ∙ ap (λ o. on row o tries) p.1.2.1)

-- the owner of a row may look at its mark, and learns whether it is asleep
pub look_allowed : (slots id row : ℕ) (tries : List Enlist) (hands : Hands) → IsRowPlace row false tries hands
    → Allows Holds slots id hands (33 + row) (λ f. f) (play.looks (step slots (33 + row) 0 0 maybe.none) hands)
look_allowed slots id row tries hands p = rw (at_rest row tries hands p) (look_keeps_rule slots id row tries [])

-- the mark was not set
pub look_found_asleep : (row found : ℕ) (tries : List Enlist) (hands after : Hands) → IsRowPlace row false tries hands
    → play.looks (step 0 (33 + row) 0 0 maybe.none) hands found after → found ≡ 0 → after ≡ on row own.Asleep tries
look_found_asleep row found tries hands after p h e =
    let is = at_rest row tries hands p in
    (h row own.Unknown tries (ap (λ z. z.0) is) refl).0 e ∙ ap (λ z. (view.Place row own.Asleep tries, z.1)) is

-- the owner of a row that is asleep may set its mark
pub wake_allowed : (slots id row : ℕ) (tries : List Enlist) (hands : Hands) → hands ≡ on row own.Asleep tries
    → Allows Holds slots id hands (33 + row) (λ _. 1) (λ _. play.wakes (step slots (33 + row) 1 0 maybe.none) hands 1)
wake_allowed slots id row tries hands e = rw e (wake_keeps_rule slots id row tries [])

-- after its mark was set the row is awake
pub wake_leaves_awake : (row : ℕ) (tries : List Enlist) (hands after : Hands) → row < 32
    → hands ≡ on row own.Asleep tries
    → play.wakes (step 0 (33 + row) 1 0 maybe.none) hands 1 after → IsRowPlace row true tries after
wake_leaves_awake row tries hands after low is h =
    let a = h row own.Asleep tries (ap (λ z. z.0) is) refl in
    (low, (own.Awake a.0, a.1 ∙ ap (λ z. (view.Place row (own.Awake a.0) tries, z.1)) is, (a.0, refl)))

-- the owner of a row that is awake may look at the head
pub see_allowed : (slots id row : ℕ) (tries : List Enlist) (hands : Hands) → IsRowPlace row true tries hands
    → Allows Holds slots id hands 0 (λ f. f) (play.sees (step slots 0 0 0 maybe.none) hands)
see_allowed slots id row tries hands p =
    let a = trying row tries hands p in rw a.1 (see_keeps_rule slots id row tries [] 0 (own.Awake a.0))

-- the owner of a row that is awake may set its next word
pub link_allowed : (slots id row next : ℕ) (tries : List Enlist) (hands : Hands) → IsRowPlace row true tries hands
    → Allows Holds slots id hands (1 + row) (λ _. next)
    (λ _. play.links (step slots (1 + row) next 0 maybe.none) hands next)
link_allowed slots id row next tries hands p =
    let a = trying row tries hands p in rw a.1 (link_keeps_rule slots id row tries [] a.0 next)

-- after its next word was set the row is awake with this next word
pub link_leaves_linked : (row next : ℕ) (tries : List Enlist) (hands after : Hands) → IsRowPlace row true tries hands
    → play.links (step 0 (1 + row) next 0 maybe.none) hands next after → after ≡ on row (own.Awake next) tries
link_leaves_linked row next tries hands after p h =
    let a = trying row tries hands p in
    h row (own.Awake a.0) tries (ap (λ z. z.0) a.1) refl ∙ ap (λ z. (view.Place row (own.Awake next) tries, z.1)) a.1

-- the owner of a row that is awake may put it at the head, if the head is its next word
pub enlist_allowed : (slots id row next : ℕ) (tries : List Enlist) (hands : Hands)
    → hands ≡ on row (own.Awake next) tries
    → Allows Holds slots id hands 0 (λ f. either (eqb f next) (1 + row) f)
    (play.enlists (step slots 0 next (1 + row) maybe.none) hands)
enlist_allowed slots id row next tries hands e = rw e (enlist_keeps_rule slots id row tries [] next)

-- after a try that missed the row is still awake
pub enlist_leaves_missed : (row next found : ℕ) (tries : List Enlist) (hands after : Hands) → row < 32
    → hands ≡ on row (own.Awake next) tries
    → play.enlists (step 0 0 next (1 + row) maybe.none) hands found after → found ≢ next
    → IsRowPlace row true (tries ++ Missed ∷ []) after
enlist_leaves_missed row next found tries hands after low is h e = (
  low,
  (
    own.Awake next,
    (h row (own.Awake next) tries (ap (λ z. z.0) is) refl).1 e
        ∙ ap (λ z. (view.Place row (own.Awake next) (tries ++ Missed ∷ []), z.1)) is,
    (next, refl),
  ),
)
