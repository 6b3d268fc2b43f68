-- Each step of the walker keeps the rule of the list: it meets newcomers, follows links, takes a row out and lets it
-- sleep (`.._keeps_rule`). The list is newcomers first, then what the walker has met, in its order.
use Rattle.std.proofs.lemmas.List.{take_all, get_or-append-add}
use Rattle.std.proofs.Math.Seq.{take-suc}
use Rattle.std.proofs.Common.{◌≡◌, ◌≢◌, ℕ, zero, suc, ◌+◌, ◌-◌, ◌<◌, ◌≤◌, List, [], ◌∷◌, ◌++◌, take, lt_of_not-le}
use Rattle.std.proofs.Common.{length, get_or, set, remove, Option, Some, None, length-append, refl, sym, ap, ◌∙◌, subst}
use Rattle.std.proofs.Common.{arith}
use mathlib.Core.Option as maybe
use mathlib.Core.Option.{some}
use lib.ListN.{get_elem?}
use Rattle.std.proofs.lemmas.List.Edits.{length-remove}
use mathlib.Core.Logic.{dite}
use mathlib.Mathlib.Logic.Function.Basic.{update_self}
use native.Mathlib.Decide.{dec_le, ℕ_discrete}
use Rattle.atomic_table.specs.Table.{Me, step, keeps, Allows}
use Rattle.publication_list.specs.declared.list_table.RowKnowledge.{RowKnowledge}
use Rattle.publication_list.specs.declared.list_table.ListView.{ListView}
use Rattle.publication_list.specs.declared.list_table.ListView.TheVariants as view
use Rattle.publication_list.specs.PublicationList.{Stage, asleep, listed, unlinked, PublicationList, IsDistinct}
use Rattle.publication_list.specs.PublicationList.{word_at}
use Rattle.publication_list.specs.Rule.{OwnRowAgrees, TakenOutAgrees, Tied, Kept}
use Rattle.publication_list.specs.Inside.{list_left, made_of, walks_of, HasMetRows, Meeting}
use Rattle.publication_list.specs.Plays as play
use Rattle.publication_list.proofs.Rows.{updated_all, word_at_in, word_at_past, word_at_append, remove_append, was_at}
use Rattle.publication_list.proofs.Rows.{distinct_right, few_below}
use Rattle.publication_list.proofs.RuleKept.{with_stage, walker_step_keeps_others, stage_keeps_sound, mark_keeps_tied}
use Rattle.publication_list.proofs.RuleKept.{unlink_keeps_sound, unlink_keeps_tied, St, kept_after}
use Rattle.publication_list.proofs.RuleKept.{same_words_keep_rule, unmade_stay_asleep}

-- ---- what the walker knows

abbrev Holds : St → Type 0
Holds = Kept

abbrev Hands : Type 0
Hands = Me ℕ ListView

abbrev out_of : ListView → Option ℕ
out_of (view.Walker made left out walks) = out
out_of v = None

-- the view that the walker has
known : (state : St) (kept : Kept state) (id made : ℕ) (left : List ℕ) (out : Option ℕ) (walks : List (List ℕ))
    → get_elem? state.views id ≡ some (view.Walker made left out walks)
    → (id ≡ 0) × (made ≡ kept.list.made) × ((newcomers : List ℕ) × (kept.list.rows ≡ newcomers ++ left))
    × TakenOutAgrees kept.list out
known state kept id made left out walks at = kept.seats id (view.Walker made left out walks) at

-- ---- the walker meets the list

-- the list as it is now begins with newcomers, and goes on with what the walker has met
pub meet_keeps_rule : (slots id made : ℕ) (left : List ℕ) (out : Option ℕ) (walks : List (List ℕ)) (held : List (ℕ × ℕ))
    → Allows Holds slots id (view.Walker made left out walks, held) 0 (λ f. f)
    (play.meets (step slots 0 0 0 maybe.none) (view.Walker made left out walks, held))
meet_keeps_rule slots id made left out walks held state kept deep at small =
    let list : PublicationList = kept.list in
    let ok = known state kept id made left out walks at in
    let front : List ℕ = ok.2.0 in (
      view.Walker made list.rows out (walks ++ list.rows ∷ []),
      keeps,
      tt,
      same_words_keep_rule state kept 0 id (view.Walker made list.rows out (walks ++ list.rows ∷ [])) held
          (ok.0, ok.1, ([], refl), ok.3),
      λ made' left' out' walks' is _.
          let m : made ≡ made' = ap made_of is in
          let m' : made ≡ list.made = ok.1 in (
            list.rows,
            ap (λ (z : ListView). (view.Walker (made_of z) list.rows (out_of z) (walks_of z ++ list.rows ∷ []), held))
                is,
            kept.tied.head,
            (front, ok.2.1 ∙ ap (λ (z : ListView). front ++ list_left z) is, kept.sound.distinct),
            (λ i l. let low = kept.sound.low i l in omega arith),
            (let few = few_below list.made list.rows kept.sound.distinct kept.sound.low in omega arith),
          ),
    )

-- ---- the walker goes on to the next row

-- where a place of what the walker has met is in the list
placed : (rows front left : List ℕ) (i : ℕ) → rows ≡ front ++ left → get_or rows (length front + i) 0 ≡ get_or left i 0
placed rows front left i e = ap (λ z. get_or z (length front + i) 0) e ∙ get_or-append-add front left i 0

placed_low : (rows front left : List ℕ) (i : ℕ) → rows ≡ front ++ left → i < length left
    → length front + i < length rows
placed_low rows front left i e low =
    let long : length rows ≡ length (front ++ left) = ap length e in
    let both = length-append front left in omega arith

-- the next word of a row that the walker has met leads to the place after it
next_of : (list : PublicationList) (words front left : List ℕ) (i : ℕ) → list.rows ≡ front ++ left → i < length left
    → Tied list words → get_or words (1 + get_or left i 0) 0 ≡ word_at left (suc i)
next_of list words front left i e low tied =
    ap (λ z. get_or words (1 + z) 0) (sym (placed list.rows front left i e))
    ∙ (tied.nexts (length front + i) (placed_low list.rows front left i e low)
    ∙ (ap (λ z. word_at z (suc (length front + i))) e
    ∙ word_at_append front left (suc i) (suc (length front + i)) (omega arith)))

-- the walker reads the next word of a row that it has met
pub follow_keeps_rule : (slots id i made : ℕ) (left : List ℕ) (out : Option ℕ) (walks : List (List ℕ))
    (held : List (ℕ × ℕ))
    → Allows Holds slots id (view.Walker made left out walks, held) i (λ f. f)
    (play.follows (step slots i 0 0 maybe.none) (view.Walker made left out walks, held))
follow_keeps_rule slots id i made left out walks held state kept deep at small =
    let list : PublicationList = kept.list in
    let ok = known state kept id made left out walks at in
    let front : List ℕ = ok.2.0 in (
      view.Walker made left out walks,
      keeps,
      tt,
      same_words_keep_rule state kept i id (view.Walker made left out walks) held ok,
      λ made' left' out' walks' place is low word. let same : left ≡ left' = ap list_left is in (
        refl,
        ap (λ z. get_or state.words z 0) word ∙ next_of list state.words front left' place
            (ok.2.1 ∙ ap (λ z. front ++ z) same) low kept.tied,
      ),
    )

-- ---- a row is taken out, and put to sleep

-- a row that was listed may be taken out, for all that its owner knows
taken_out : (stage : Stage) → stage ≡ listed → (knows : RowKnowledge) → OwnRowAgrees knows stage
    → OwnRowAgrees knows unlinked
taken_out stage is knows ok = grind arith

put_to_sleep : (stage : Stage) → stage ≡ unlinked → (knows : RowKnowledge) → OwnRowAgrees knows stage
    → OwnRowAgrees knows asleep
put_to_sleep stage is knows ok = grind arith

-- the walker takes out a row that is not the first: the row before gets the next word of the row taken out
pub unlink_keeps_rule : (slots id i next place made : ℕ) (left : List ℕ) (walks : List (List ℕ)) (held : List (ℕ × ℕ))
    → suc place < length left → i ≡ 1 + get_or left place 0 → next ≡ word_at left (suc (suc place))
    → Allows Holds slots id (view.Walker made left None walks, held) i (λ _. next)
    (λ _. play.unlinks (step slots i next 0 maybe.none) (view.Walker made left None walks, held) next)
unlink_keeps_rule slots id i next place made left walks held low word leads state kept deep at small =
    let list : PublicationList = kept.list in
    let ok = known state kept id made left None walks at in
    let front : List ℕ = ok.2.0 in
    let e = ok.2.1 in
    let P : ℕ = length front + place in
    let Q : ℕ = suc P in
    let at_p : get_or list.rows P 0 ≡ get_or left place 0 = placed list.rows front left place e in
    let Q_is : Q ≡ length front + suc place = omega arith in
    let at_q : get_or list.rows Q 0 ≡ get_or left (suc place) 0 =
    ap (λ z. get_or list.rows z 0) Q_is ∙ placed list.rows front left (suc place) e in
    let inside : Q < length list.rows =
    subst (λ z. z < length list.rows) (sym Q_is) (placed_low list.rows front left (suc place) e low) in
    let leads_on : next ≡ word_at list.rows (suc Q) =
    leads ∙ sym (ap (λ z. word_at z (suc Q)) e ∙ word_at_append front left (suc (suc place)) (suc Q) (omega arith)) in
    let was = kept.sound.listed Q inside in
    let view_after : ListView = view.Walker made (remove left (suc place)) (Some (get_or left (suc place) 0)) walks in
    let row : ℕ = get_or list.rows Q 0 in
    let after : PublicationList = with_stage list row unlinked (remove list.rows Q) in
    let r_low = kept.sound.low Q inside in (
      view_after,
      keeps,
      tt,
      kept_after state kept id view_after record {
        list = after;
        same = refl;
        sound = unlink_keeps_sound list Q inside kept.sound;
        tied = subst (λ z. Tied after (set state.words z next)) (ap (λ z. 1 + z) at_p ∙ sym word)
            (unlink_keeps_tied list P next state.words inside leads_on kept.sound kept.tied);
        unmade = unmade_stay_asleep list row unlinked r_low kept.unmade;
        others = λ j u other. walker_step_keeps_others list row unlinked (remove list.rows Q)
            (taken_out (list.stage row) was) j u
            (λ f. other (f ∙ sym ok.0));
        own = (
          ok.0,
          ok.1,
          (front, ap (λ z. remove z Q) e ∙ remove_append front left (suc place) Q Q_is),
          subst (λ z. (z < list.made) × (after.stage z ≡ unlinked) × ((q : ℕ) → after.stage q ≡ unlinked → q ≡ z))
              at_q (
                r_low,
                update_self ℕ_discrete row unlinked list.stage,
                updated_all (λ q z. z ≡ unlinked → q ≡ row) list.stage row unlinked (λ _. refl)
                    (λ q _ e. absurd (ok.3 q e)),
              ),
        );
      },
      λ made' left' out' walks' q is q_low q_word. let same : left ≡ left' = ap list_left is in
          let q_low' : suc q < length left = subst (λ z. suc q < length z) (sym same) q_low in
          let q_row : get_or left' q 0 ≡ get_or left q 0 = ap (λ z. get_or z q 0) (sym same) in
          let q_is : q ≡ place = distinct_right front left (subst IsDistinct e kept.sound.distinct) q place
          (omega arith)
          (omega arith) (omega arith) in
          ap (λ (z : ListView). (
            view.Walker (made_of z) (remove (list_left z) (suc place))
                (Some (get_or (list_left z) (suc place) 0)) (walks_of z),
            held,
          )) is
          ∙ ap (λ (z : ℕ). (view.Walker made' (remove left' (suc z)) (Some (get_or left' (suc z) 0)) walks', held))
          (sym q_is),
    )

-- the walker clears the mark of the row that it has taken out, and the row is asleep
pub sleep_keeps_rule : (slots id row made : ℕ) (left : List ℕ) (walks : List (List ℕ)) (held : List (ℕ × ℕ))
    → Allows Holds slots id (view.Walker made left (Some row) walks, held) (33 + row) (λ _. 0)
    (λ _. play.sleeps (step slots (33 + row) 0 0 maybe.none) (view.Walker made left (Some row) walks, held) 0)
sleep_keeps_rule slots id row made left walks held state kept deep at small =
    let list : PublicationList = kept.list in
    let ok = known state kept id made left (Some row) walks at in
    let low : row < list.made = ok.3.0 in
    let was : list.stage row ≡ unlinked = ok.3.1 in
    let few = kept.sound.few in
    let not_listed : list.stage row ≢ listed = λ e. absurd cc in
    let view_after : ListView = view.Walker made left None walks in (
      view_after,
      keeps,
      tt,
      kept_after state kept id view_after record {
        list = with_stage list row asleep list.rows;
        same = refl;
        sound = stage_keeps_sound list row asleep not_listed (λ e. absurd (cc)) kept.sound;
        tied = mark_keeps_tied list row 0 asleep state.words (omega arith) refl (λ m e. absurd (cc)) kept.sound
            kept.tied;
        unmade = unmade_stay_asleep list row asleep low kept.unmade;
        others = λ j u other. walker_step_keeps_others list row asleep list.rows (put_to_sleep (list.stage row) was) j u
            (λ f. other (f ∙ sym ok.0));
        own = (
          ok.0,
          ok.1,
          ok.2,
          updated_all (λ q z. z ≢ unlinked) list.stage row asleep (λ e. absurd (cc)) (λ q other e. other (ok.3.2 q e)),
        );
      },
      λ made' left' r' walks' is _.
          ap (λ (z : ListView). (view.Walker (made_of z) (list_left z) None (walks_of z), held)) is,
    )

-- ---- the same, of what a walker has in its hands

module _ (slots id : ℕ) (left : List ℕ) (walks : List (List ℕ)) (m : Hands) (p : HasMetRows left walks m) where
  pub meet_allowed : Allows Holds slots id m 0 (λ f. f) (play.meets (step slots 0 0 0 maybe.none) m)
  meet_allowed =
      subst (λ z. Allows Holds slots id z 0 (λ f. f) (play.meets (step slots 0 0 0 maybe.none) z)) (sym p)
      (meet_keeps_rule slots id (made_of m.0) left None walks [])

  pub follow_allowed : (i : ℕ) → Allows Holds slots id m i (λ f. f) (play.follows (step slots i 0 0 maybe.none) m)
  follow_allowed i =
      subst (λ z. Allows Holds slots id z i (λ f. f) (play.follows (step slots i 0 0 maybe.none) z)) (sym p)
      (follow_keeps_rule slots id i (made_of m.0) left None walks [])

-- the walk begins at the head
pub walk_begins : (found : ℕ) (left : List ℕ) (walks : List (List ℕ)) (hands after : Hands)
    → HasMetRows left walks hands
    → play.meets (step 0 0 0 0 maybe.none) hands found after → Meeting left walks (made_of hands.0) [] found after
walk_begins found left walks hands after p t =
    let a = t (made_of hands.0) left None walks (ap (λ z. z.0) p) refl in
    let is : after ≡ (view.Walker (made_of hands.0) a.0 None (walks ++ a.0 ∷ []), []) =
    a.1 ∙ ap (λ z. (view.Walker (made_of hands.0) a.0 None (walks ++ a.0 ∷ []), z.1)) p in
    let within : 0 ≤ length a.0 = omega arith in rw is (assumption (a.2, a.3, a.4, a.5))

module _ (left : List ℕ) (walks : List (List ℕ)) (made : ℕ) (rows : List ℕ) (at : ℕ) (m : Hands)
    (k : Meeting left walks made rows at m) where
  -- the word that was found names a row, which is the next
  pub walk_goes_on : at ≢ 0 → (length rows < length (list_left m.0)) × (at ≡ 1 + get_or (list_left m.0) (length rows) 0)
  walk_goes_on ne = dite (dec_le (length (list_left m.0)) (length rows))
      (λ past. absurd (ne (k.at_is ∙ word_at_past (list_left m.0) (length rows) past)))
      (λ n. let low = lt_of_not-le n in (low, k.at_is ∙ word_at_in (list_left m.0) (length rows) low))

  pub walk_met_all : at ≡ 0 → rows ≡ list_left m.0
  walk_met_all e = dite (dec_le (length (list_left m.0)) (length rows))
      (λ past. k.so_far ∙ take_all (length rows) (list_left m.0) past)
      (λ n. absurd (omega (arith, word_at_in (list_left m.0) (length rows) (lt_of_not-le n), k.at_is)))

  -- one row more is met
  module _ (rows' : List ℕ) (i found : ℕ) (m' : Hands) (ne : at ≢ 0) (same : i ≡ at)
      (more : rows' ≡ rows ++ (at - 1) ∷ []) (t : play.follows (step 0 i 0 0 maybe.none) m found m') where
    told : (m' ≡ m) × (found ≡ word_at (list_left m.0) (suc (length rows)))
    unfolding walk_goes_on
    told =
        let g = walk_goes_on ne in
        t (made_of m.0) (list_left m.0) None (walks ++ list_left m.0 ∷ []) (length rows) (ap (λ z. z.0) k.met) g.0
        (same ∙ g.1)

    longer : length rows' ≡ suc (length rows)
    longer = ap length more ∙ (length-append rows ((at - 1) ∷ []) ∙ omega arith)

    pub walk_meets_one_more : Meeting left walks made rows' found m'
    walk_meets_one_more =
        let g = walk_goes_on ne in
        let low = g.0 in
        let word = g.1 in
        let n : ℕ = length rows in
        let all : List ℕ = list_left m.0 in
        let row : at - 1 ≡ get_or all n 0 = omega arith in
        let long = longer in
        let within : length rows' ≤ length all = omega arith in rw told.0 (assumption (
          k,
          told.1 ∙ ap (word_at all) (sym long),
          more ∙ ((λ j. k.so_far j ++ row j ∷ []) ∙ (sym (take-suc all n 0 low) ∙ ap (λ z. take z all) (sym long))),
        ))

    pub walk_gets_shorter : length (list_left m'.0) - length rows' < length (list_left m.0) - length rows
    walk_gets_shorter =
        let low = (walk_goes_on ne).0 in
        let kept : length (list_left m'.0) ≡ length (list_left m.0) = ap (λ z. length (list_left z.0)) told.0 in
        omega (arith, longer)

-- a place that is not the first is after another
one_before : (at : ℕ) → 1 ≤ at → (p : ℕ) × (at ≡ suc p)
one_before zero h = absurd (omega arith)
one_before (suc p) h = (p, refl)

module _ (i n at made : ℕ) (left : List ℕ) (walks : List (List ℕ)) (m : Hands)
    (is : m ≡ (view.Walker made left None walks, [])) (first : 1 ≤ at)
    (low : at < length left) (word : i ≡ 1 + get_or left (at - 1) 0) where
  pub unlink_allowed : (slots id : ℕ) → n ≡ word_at left (at + 1)
      → Allows Holds slots id m i (λ _. n) (λ _. play.unlinks (step slots i n 0 maybe.none) m n)
  unlink_allowed slots id next =
      let b = one_before at first in
      let p : ℕ = b.0 in
      let e = b.1 in
      let e' : at - 1 ≡ p = omega arith in
      let e'' : at + 1 ≡ suc (suc p) = omega arith in
      rw is (unlink_keeps_rule slots id i n p made left walks [] (omega arith) (word ∙ ap (λ z. 1 + get_or left z 0) e')
      (next ∙ ap (word_at left) e''))

  pub unlink_leaves : (m' : Hands) → play.unlinks (step 0 i n 0 maybe.none) m n m'
      → m' ≡ (view.Walker made (remove left at) (Some (get_or left at 0)) walks, [])
  unlink_leaves m' t =
      let b = one_before at first in
      let p : ℕ = b.0 in
      let e = b.1 in
      let e' : at - 1 ≡ p = omega arith in
      t made left None walks p (ap (λ z. z.0) is) (omega arith) (word ∙ ap (λ z. 1 + get_or left z 0) e')
      ∙ (ap (λ z. (view.Walker made (remove left (suc p)) (Some (get_or left (suc p) 0)) walks, z.1)) is
      ∙ ap (λ (z : ℕ). (view.Walker made (remove left z) (Some (get_or left z 0)) walks, [])) (sym e))

-- the place `at` was taken out, and is to be marked
module _ (r made : ℕ) (left : List ℕ) (walks : List (List ℕ)) (m : Hands)
    (is : m ≡ (view.Walker made left (Some r) walks, [])) where
  pub sleep_allowed : (slots id : ℕ)
      → Allows Holds slots id m (33 + r) (λ _. 0) (λ _. play.sleeps (step slots (33 + r) 0 0 maybe.none) m 0)
  sleep_allowed slots id = rw is (sleep_keeps_rule slots id r made left walks [])

  pub sleep_leaves : (m' : Hands) → play.sleeps (step 0 (33 + r) 0 0 maybe.none) m 0 m'
      → m' ≡ (view.Walker made left None walks, [])
  sleep_leaves m' t = t made left r walks (ap (λ z. z.0) is) refl ∙ ap (λ z. (view.Walker made left None walks, z.1)) is

-- what stays where a row was taken out
pub less_one : (n : ℕ) (rows : List ℕ) (i : ℕ) → i < length rows → length rows ≤ n
    → ((k : ℕ) → k < length rows → get_or rows k 0 < n) → (length (remove rows i) ≤ n)
    × ((k : ℕ) → k < length (remove rows i) → get_or (remove rows i) k 0 < n)
less_one n rows i inside few low =
    let long = length-remove rows i inside in
    (omega arith, λ k h. let a = was_at rows i k inside h in subst (λ z. z < n) (sym a.2) (low a.0 a.1))
