-- A step keeps the rule: of the list itself, of the words, and of what the other seats know.
use Rattle.std.proofs.Common.{inr, inl, ◌≡◌, ◌≢◌, ◌⊎◌, ℕ, zero, suc, ◌+◌, ◌<◌, ◌≤◌, List, ◌∷◌, ◌++◌, length, get_or}
use Rattle.std.proofs.Common.{set, remove, Option, Some, None, length-set, get_or-set_other, get_or-set_same, refl, sym}
use Rattle.std.proofs.Common.{ap, ◌∙◌, subst, append_assoc, arith}
use mathlib.Mathlib.Logic.Function.Basic.{update, update_self, update_of_ne}
use native.Mathlib.Decide.{ℕ_discrete}
use mathlib.Core.Option.{some}
use lib.ListN.{get_elem?}
use lib.Seq.{set-get_or}
use Rattle.atomic_table.specs.Table.{State, keeps, stepped}
use Rattle.atomic_table.proofs.Lists.{at_set}
use Rattle.publication_list.specs.declared.list_table.RowKnowledge.{RowKnowledge}
use Rattle.publication_list.specs.declared.list_table.ListView.{ListView}
use Rattle.publication_list.specs.declared.list_table.ListView.TheVariants as view
use Rattle.publication_list.specs.PublicationList.{Stage, asleep, awake, listed, unlinked, PublicationList, word_at}
use Rattle.publication_list.specs.PublicationList.{mark_of}
use Rattle.publication_list.specs.Rule.{OwnRowAgrees, TakenOutAgrees, ListViewAgrees, Sound, Tied, Kept}
use Rattle.publication_list.proofs.Rows.{updated_all, was_at, is_at, word_at-remove_below, word_at-remove_above}
use Rattle.publication_list.proofs.Rows.{distinct_remove, distinct_more, gone}

-- ---- what the other seats know

-- the row r is in the list
abbrev Stands : List ℕ → ℕ → Type 0
Stands rows r = (k : ℕ) × (k < length rows) × (get_or rows k 0 ≡ r)

-- the list with a row at another stage, and these rows listed
abbrev pub with_stage : PublicationList → ℕ → Stage → List ℕ → PublicationList
with_stage list row stage rows =
    record { made = list.made; rows = rows; stage = update ℕ_discrete list.stage row stage }

-- what was taken out, where another row goes to a stage that is not that
out_stays : (list : PublicationList) (row : ℕ) (stage : Stage) (rows : List ℕ) (out : Option ℕ)
    → list.stage row ≢ unlinked → stage ≢ unlinked → TakenOutAgrees list out
    → TakenOutAgrees (with_stage list row stage rows) out
out_stays list row stage rows None not new ok = updated_all (λ q z. z ≢ unlinked) list.stage row stage new (λ q _. ok q)
out_stays list row stage rows (Some p) not new ok = (
  ok.0,
  update_of_ne ℕ_discrete (λ e. not (ap list.stage (sym e) ∙ ok.1)) stage list.stage ∙ ok.1,
  updated_all (λ q z. z ≡ unlinked → q ≡ p) list.stage row stage (λ e. absurd (new e)) (λ q _. ok.2 q),
)

-- what the others know stays true after a step of the owner of a row, by which the list may have grown in front
pub place_step_keeps_others : (list : PublicationList) (row : ℕ) (stage : Stage) (rows front : List ℕ)
    → list.stage row ≢ unlinked → stage ≢ unlinked
    → rows ≡ front ++ list.rows → (j : ℕ) (seen : ListView) → j ≢ 1 + row → ListViewAgrees list j seen
    → ListViewAgrees (with_stage list row stage rows) j seen
place_step_keeps_others list row stage rows front not new grown j (view.Walker made left out walks) other ok = (
  ok.0,
  ok.1,
  (front ++ ok.2.0, grown ∙ (ap (λ z. front ++ z) ok.2.1 ∙ sym (append_assoc front ok.2.0 left))),
  out_stays list row stage rows out not new ok.3,
)
place_step_keeps_others list row stage rows front not new grown j (view.Place d o ts) other ok = (
  ok.0,
  ok.1,
  subst (OwnRowAgrees o) (sym (update_of_ne ℕ_discrete
      (λ e. other (ok.0 ∙ ap (λ z. 1 + z) e)) stage list.stage)) ok.2,
)

-- what the owners know stays true after a step of the walker
pub walker_step_keeps_others : (list : PublicationList) (row : ℕ) (stage : Stage) (rows : List ℕ)
    → ((o : RowKnowledge) → OwnRowAgrees o (list.stage row) → OwnRowAgrees o stage)
    → (j : ℕ) (u : ListView) → j ≢ 0 → ListViewAgrees list j u → ListViewAgrees (with_stage list row stage rows) j u
walker_step_keeps_others list row stage rows follows j (view.Walker made left out walks) other ok = absurd (other ok.0)
walker_step_keeps_others list row stage rows follows j (view.Place d o ts) other ok = (
  ok.0,
  ok.1,
  updated_all (λ q s. OwnRowAgrees o (list.stage q) → OwnRowAgrees o s) list.stage row stage (follows o)
      (λ q _ k. k) d ok.2,
)

-- ---- steps of a row that is not listed

-- a row that is not listed goes to another such stage
pub stage_keeps_sound : (list : PublicationList) (row : ℕ) (stage : Stage) → list.stage row ≢ listed → stage ≢ listed
    → Sound list → Sound (with_stage list row stage list.rows)
stage_keeps_sound list row stage not new sound = assumption (
  updated_all (λ q z. z ≡ listed → Stands list.rows q) list.stage row stage (λ e. absurd (new e))
      (λ q _. sound.stands q),
  λ (i : ℕ) (l : i < length list.rows).
      update_of_ne ℕ_discrete (λ e. not (ap list.stage (sym e) ∙ sound.listed i l)) stage list.stage ∙ sound.listed i l,
)

-- the mark of a row that is not listed changes
pub mark_keeps_tied : (list : PublicationList) (row mark : ℕ) (stage : Stage) (words : List ℕ) → row < 32
    → mark ≡ mark_of stage → ((m : ℕ) → stage ≡ awake m → get_or words (1 + row) 0 ≡ m) → Sound list → Tied list words
    → Tied (with_stage list row stage list.rows) (set words (33 + row) mark)
mark_keeps_tied list row mark stage words low word link sound tied =
    let wide = tied.wide in
    let few = sound.few in record {
      wide = length-set words (33 + row) mark ∙ wide;
      head = get_or-set_other words (33 + row) 0 mark 0 (λ e. omega arith) ∙ tied.head;
      nexts = λ i l. let h = sound.low i l in
          get_or-set_other words (33 + row) (1 + get_or list.rows i 0) mark 0 (λ e. omega arith) ∙ tied.nexts i l;
      links = λ q m l e. get_or-set_other words (33 + row) (1 + q) mark 0 (λ f. omega arith)
          ∙ updated_all (λ p z. p < 32 → z ≡ awake m → get_or words (1 + p) 0 ≡ m) list.stage row stage (λ _. link m)
          (λ p _ lp. tied.links p m lp) q l e;
      marks = updated_all (λ p z. p < 32 → get_or (set words (33 + row) mark) (33 + p) 0 ≡ mark_of z) list.stage row
          stage
          (λ _. get_or-set_same words (33 + row) mark 0 (omega arith) ∙ word)
          (λ p other l. get_or-set_other words (33 + row) (33 + p) mark 0 (λ e. other (omega arith)) ∙ tied.marks p l);
    }

-- the next word of a row that is awake changes
pub link_keeps_tied : (list : PublicationList) (row next old : ℕ) (words : List ℕ) → row < 32
    → list.stage row ≡ awake old → Sound list → Tied list words
    → Tied (with_stage list row (awake next) list.rows) (set words (1 + row) next)
link_keeps_tied list row next old words low was sound tied =
    let wide = tied.wide in
    let few = sound.few in record {
      wide = length-set words (1 + row) next ∙ wide;
      head = get_or-set_other words (1 + row) 0 next 0 (λ e. omega arith) ∙ tied.head;
      nexts = λ i l. get_or-set_other words (1 + row) (1 + get_or list.rows i 0) next 0
          (λ e.
          let same : get_or list.rows i 0 ≡ row = omega arith in
          let g = sym was ∙ (ap list.stage (sym same) ∙ sound.listed i l) in
          absurd (cc)) ∙ tied.nexts i l;
      links = λ q p l. updated_all
          (λ q z. q < 32 → z ≡ awake p → get_or (set words (1 + row) next) (1 + q) 0 ≡ p) list.stage row (awake next)
          (λ _ e. get_or-set_same words (1 + row) next 0 (omega arith) ∙ (cc))
          (λ q other lq e. get_or-set_other words (1 + row) (1 + q) next 0 (λ f. other (omega arith))
          ∙ tied.links q p lq e) q l;
      marks = updated_all (λ q z. q < 32 → get_or (set words (1 + row) next) (33 + q) 0 ≡ mark_of z) list.stage row
          (awake next)
          (λ l. get_or-set_other words (1 + row) (33 + row) next 0 (λ e. omega arith)
          ∙ (tied.marks row l ∙ ap mark_of was))
          (λ q other l. get_or-set_other words (1 + row) (33 + q) next 0 (λ e. omega arith) ∙ tied.marks q l);
    }

-- ---- a row is put in front

-- a row that is awake is put in front
pub enlist_keeps_sound : (list : PublicationList) (row next : ℕ) → row < list.made → list.stage row ≡ awake next
    → Sound list → Sound (with_stage list row listed (row ∷ list.rows))
enlist_keeps_sound list row next low was sound = record {
  few = sound.few;
  low = λ i l. grind (arith, low, sound.low);
  distinct = distinct_more row list.rows apart sound.distinct;
  listed = λ i l. listed_there i l;
  stands = updated_all (λ q z. z ≡ listed → Stands (row ∷ list.rows) q) list.stage row listed
      (λ _. (0, omega arith, refl)) (λ q _ e. let a = sound.stands q e in (suc a.0, omega (arith, a.1), a.2));
}
  where
    apart : (i : ℕ) → i < length list.rows → get_or list.rows i 0 ≢ row
    apart i l same = let g = sym was ∙ (ap list.stage (sym same) ∙ sound.listed i l) in absurd (cc)

    listed_there : (i : ℕ) → i < length (row ∷ list.rows)
        → update ℕ_discrete list.stage row listed (get_or (row ∷ list.rows) i 0) ≡ listed
    listed_there zero l = update_self ℕ_discrete row listed list.stage
    listed_there (suc i) l =
        let h : i < length list.rows = omega arith in
        update_of_ne ℕ_discrete (apart i h) listed list.stage ∙ sound.listed i h

-- the words after a row that is awake was put in front: the head leads to it, and its next word stays
pub enlist_keeps_tied : (list : PublicationList) (row next : ℕ) (words : List ℕ) → row < 32
    → list.stage row ≡ awake next → get_or words 0 0 ≡ next → Sound list → Tied list words
    → Tied (with_stage list row listed (row ∷ list.rows)) (set words 0 (1 + row))
enlist_keeps_tied list row next words low was at sound tied = let wide = tied.wide in record {
  wide = length-set words 0 (1 + row) ∙ wide;
  head = get_or-set_same words 0 (1 + row) 0 (omega arith);
  nexts = λ i l. next_there i l;
  links = λ q p l. updated_all
      (λ q z. q < 32 → z ≡ awake p → get_or (set words 0 (1 + row)) (1 + q) 0 ≡ p) list.stage row listed
      (λ _ e. absurd (cc)) (λ q other lq e. get_or-set_other words 0 (1 + q) (1 + row) 0 (λ f. omega arith)
      ∙ tied.links q p lq e) q l;
  marks = updated_all (λ q z. q < 32 → get_or (set words 0 (1 + row)) (33 + q) 0 ≡ mark_of z) list.stage row listed
      (λ l. get_or-set_other words 0 (33 + row) (1 + row) 0 (λ e. omega arith) ∙ (tied.marks row l ∙ ap mark_of was))
      (λ q other l. get_or-set_other words 0 (33 + q) (1 + row) 0 (λ e. omega arith) ∙ tied.marks q l);
}
  where
    next_there : (i : ℕ) → i < length (row ∷ list.rows)
        → get_or (set words 0 (1 + row)) (1 + get_or (row ∷ list.rows) i 0) 0 ≡ word_at (row ∷ list.rows) (suc i)
    next_there i l = grind (arith, tied.nexts, tied.links row next low was, tied.head, get_or-set_other words 0)

-- ---- a row is taken out

-- the row after the place p is taken out
pub unlink_keeps_sound : (list : PublicationList) (p : ℕ) → p < length list.rows → Sound list
    → Sound (with_stage list (get_or list.rows p 0) unlinked (remove list.rows p))
unlink_keeps_sound list p inside sound = record {
  few = sound.few;
  low = λ i l. let a = was_at list.rows p i inside l in subst (λ z. z < list.made) (sym a.2) (sound.low a.0 a.1);
  distinct = distinct_remove list.rows p inside sound.distinct;
  listed = λ i l. let a = was_at list.rows p i inside l in
      update_of_ne ℕ_discrete (gone list.rows p i inside sound.distinct l) unlinked list.stage
      ∙ (ap list.stage a.2 ∙ sound.listed a.0 a.1);
  stands = updated_all (λ q z. z ≡ listed → Stands (remove list.rows p) q) list.stage (get_or list.rows p 0) unlinked
      (λ e. absurd (cc)) (λ q other e. let a = sound.stands q e in
      let b = is_at list.rows p a.0 inside a.1 (λ same. other (sym a.2 ∙ ap (λ z. get_or list.rows z 0) same)) in
      (b.0, b.1, b.2 ∙ a.2));
}

-- the words after a row was taken out: the row before it leads to the row after it
pub unlink_keeps_tied : (list : PublicationList) (p next : ℕ) (words : List ℕ) → suc p < length list.rows
    → next ≡ word_at list.rows (suc (suc p)) → Sound list → Tied list words
    → Tied (with_stage list (get_or list.rows (suc p) 0) unlinked (remove list.rows (suc p)))
    (set words (1 + get_or list.rows p 0) next)
unlink_keeps_tied list p next words inside word sound tied =
    let wide = tied.wide in
    let few = sound.few in
    let low = sound.low p (omega arith) in record {
      wide = length-set words (1 + get_or list.rows p 0) next ∙ wide;
      head = get_or-set_other words (1 + get_or list.rows p 0) 0 next 0 (λ e. omega arith)
          ∙ (tied.head ∙ sym (word_at-remove_below list.rows (suc p) 0 inside (omega arith)));
      nexts = λ i l. next_there i l (was_at list.rows (suc p) i inside l);
      -- the next words of the rows that are awake stay
      links = λ q m l. updated_all
          (λ q z. q < 32 → z ≡ awake m → get_or (set words (1 + get_or list.rows p 0) next) (1 + q) 0 ≡ m) list.stage
          (get_or list.rows (suc p) 0) unlinked
          (λ _ e. absurd (cc)) (λ q other lq e.
          get_or-set_other words (1 + get_or list.rows p 0) (1 + q) next 0 (λ f.
          let same : q ≡ get_or list.rows p 0 = omega arith in
          let g = sym e ∙ (ap list.stage same ∙ sound.listed p (omega arith)) in
          absurd (cc))
          ∙ tied.links q m lq e) q l;
      -- the marks stay, and the row taken out has that of a listed one
      marks = updated_all (λ q z. q < 32 → get_or (set words (1 + get_or list.rows p 0) next) (33 + q) 0 ≡ mark_of z)
          list.stage (get_or list.rows (suc p) 0) unlinked
          (λ l. get_or-set_other words (1 + get_or list.rows p 0) (33 + get_or list.rows (suc p) 0) next 0
          (λ e. omega arith)
          ∙ (tied.marks (get_or list.rows (suc p) 0) l ∙ ap mark_of (sound.listed (suc p) inside)))
          (λ q other l. get_or-set_other words (1 + get_or list.rows p 0) (33 + q) next 0 (λ e. omega arith)
          ∙ tied.marks q l);
    }
  where
    -- of another row than that at p, the next word is as it was
    next_else : (j : ℕ) → j < length list.rows → j ≢ p
        → get_or (set words (1 + get_or list.rows p 0) next) (1 + get_or list.rows j 0) 0 ≡ word_at list.rows (suc j)
    next_else j l other = get_or-set_other words (1 + get_or list.rows p 0) (1 + get_or list.rows j 0) next 0
        (λ e. other (sound.distinct j p l (omega arith) (omega arith))) ∙ tied.nexts j l

    next_there : (i : ℕ) → i < length (remove list.rows (suc p))
        → (a : (j : ℕ) × (j < length list.rows) × (get_or (remove list.rows (suc p)) i 0 ≡ get_or list.rows j 0)
        × (((i < suc p) × (j ≡ i)) ⊎ ((suc p ≤ i) × (j ≡ i + 1))))
        → get_or (set words (1 + get_or list.rows p 0) next) (1 + get_or (remove list.rows (suc p)) i 0) 0
        ≡ word_at (remove list.rows (suc p)) (suc i)
    next_there i l a =
        let few = sound.few in
        let low = sound.low p (omega arith) in
        let wide = tied.wide in
        let here = get_or-set_same words (1 + get_or list.rows p 0) next 0 (omega arith) in
        grind (
          arith,
          a,
          here,
          next_else,
          word_at-remove_above list.rows (suc p) (suc i) inside,
          word_at-remove_below list.rows (suc p) (suc i) inside,
        )

-- ---- the rule, after a step of one seat

-- a state of a publication list's table
abbrev pub St : Type 0
St = State ℕ ListView

-- after a step of the seat id to another list, each view is true
seats_after : (list after : PublicationList) (views : List ListView) (id : ℕ) (own : ListView)
    → ((j : ℕ) (seen : ListView) → get_elem? views j ≡ some seen → ListViewAgrees list j seen)
    → ((j : ℕ) (seen : ListView) → j ≢ id → ListViewAgrees list j seen → ListViewAgrees after j seen)
    → ListViewAgrees after id own
    → (j : ℕ) (seen : ListView) → get_elem? (set views id own) j ≡ some seen → ListViewAgrees after j seen
seats_after list after views id own before others ok j seen e =
    elim (at_set views id j own seen e) [
      | inl t ↦ subst (λ (z : ℕ × ListView). ListViewAgrees after z.0 z.1) (λ i. (sym t.0 i, t.1 i)) ok
      | inr t ↦ others j seen t.0 (before j seen t.1)
    ]

-- the list after a step of the seat id, with what the rule asks of it
pub record After (s : St) (k : Kept s) (id : ℕ) (v' : ListView) (words : List ℕ) : Type 0 where
  pub list : PublicationList
  pub same : list.made ≡ k.list.made
  pub sound : Sound list
  pub tied : Tied list words
  pub unmade : (r : ℕ) → list.made ≤ r → list.stage r ≡ asleep
  pub others : (j : ℕ) (u : ListView) → j ≢ id → ListViewAgrees k.list j u → ListViewAgrees list j u
  pub own : ListViewAgrees list id v'

-- the rule holds after a step of one seat, if words and views are as the list then says
pub kept_after : {words : List ℕ} (state : St) (kept : Kept state) (id : ℕ) (own : ListView)
    → After state kept id own words
    → Kept {S = ℕ} record { words = words; homes = state.homes; views = set state.views id own }
kept_after state kept id own after = record {
  list = after.list;
  sound = after.sound;
  tied = after.tied;
  count = length-set state.views id own ∙ (kept.count ∙ ap (λ z. 1 + z) (sym after.same));
  unmade = after.unmade;
  seats = seats_after kept.list after.list state.views id own kept.seats after.others after.own;
}

-- a step that changes no word
pub same_words_keep_rule : (state : St) (kept : Kept state) (i id : ℕ) (own : ListView) (held : List (ℕ × ℕ))
    → ListViewAgrees kept.list id own
    → Kept (stepped state i (get_or state.words i 0) id held own keeps)
same_words_keep_rule state kept i id own held ok =
    rw (set-get_or state.words i 0) (kept_after state kept id own record {
      list = kept.list;
      same = refl;
      sound = kept.sound;
      tied = kept.tied;
      unmade = kept.unmade;
      others = λ j u _ b. b;
      own = ok;
    })

-- rows that have not been made stay asleep, where a row that has been made goes to another stage
pub unmade_stay_asleep : (list : PublicationList) (row : ℕ) (stage : Stage) → row < list.made
    → ((other : ℕ) → list.made ≤ other → list.stage other ≡ asleep) → (other : ℕ) → list.made ≤ other
    → update ℕ_discrete list.stage row stage other ≡ asleep
unmade_stay_asleep list row stage low before other later =
    update_of_ne ℕ_discrete (λ e. omega arith) stage list.stage ∙ before other later
