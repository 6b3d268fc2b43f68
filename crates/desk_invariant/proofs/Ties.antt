-- Words and slots stay tied to the world if one word and the slot that it guards change with it: a lemma for each kind
-- of word, by cases on whether a word is the changed one.
use Rattle.std.proofs.Common.{◌≡◌, ◌≢◌, ℕ, ◌+◌, ◌<◌, Bool, true, false, List, map, length, get_or, set, Option, None}
use Rattle.std.proofs.Common.{sym, ap, subst, ◌∙◌, arith, length-set, get_or-set_other, get_or-set_same}
use mathlib.Core.Option as maybe
use mathlib.Core.Option.{some}
use lib.ListN.{get_elem?}
use Rattle.atomic_table.specs.Seated.{TableId}
use Rattle.atomic_table.proofs.Lists.{set_here, set_else}
use Rattle.model.specs.declared.Kind.{Kind}
use Rattle.model.specs.declared.AnyOp.{AnyOp}
use Rattle.model.specs.declared.AnyReply.{AnyReply}
use Rattle.model.specs.Objects.{Content}
use Rattle.desk_invariant.specs.declared.board.Journal.{Journal}
use Rattle.desk_invariant.specs.declared.board.Slot.{Slot}
use Rattle.desk_invariant.specs.declared.board.Slot.TheVariants as slot
use Rattle.desk_model.specs.World.{AnyEntry, AnyDone, Stage, absent, World, kind_at, request_of, journal_of}
use Rattle.desk_model.specs.Transitions.{changed, staged, ticked, held_by, ended_by}
use Rattle.desk_model.specs.Images.{event_in}
use Rattle.desk_model.proofs.Changed.{changed_else, changed_all}
use Rattle.desk_invariant.specs.Views.{row_place, end_place, clock_place, call_slot, journal_slot}
use Rattle.desk_invariant.specs.Rule.{Home, lock_word, row_word, end_word, CoreFits, CoreAt, CallAt, JournalAt, Tied}
use Rattle.desk_model.specs.Limits.{max_clients}

module _ {S O R : Type 0} {content : S → Content} {op_in : O → AnyOp} {reply_in : R → AnyReply} where
  -- the slot of a journal serves a stage with the same request, unless the client has not come
  journaled_on : (home : Home S O R) (stage stage' : Stage) (done : List AnyDone) (ended : Bool) → stage' ≢ absent
      → request_of stage' ≡ request_of stage → JournalAt content op_in reply_in home stage done ended
      → JournalAt content op_in reply_in home stage' done ended
  journaled_on home stage stage' done ended come same at = record {
    at_first = λ e. absurd (come e);
    at_last = λ e. let (book, home, says) = at.at_last e in (book, home, says ∙ ap (journal_of done) (sym same));
  }

module _ {S O R : Type 0} {content : S → Content} {op_in : O → AnyOp} {reply_in : R → AnyReply} {kinds : List Kind}
    {lists : List TableId} {world : World} {words : List ℕ} {homes : List (maybe.Option (Slot S O R))} where
  -- ---- the words of locks and rows

  -- the object goes to another holder: its lock is set to the word, and its slot to home
  pub tied_lock : (object word : ℕ) (holder : Option ℕ) (home : maybe.Option (Slot S O R)) → object < length kinds
      → word ≡ lock_word holder
      → (holder ≡ None
      → CoreAt content op_in reply_in (kind_at kinds object) (get_elem? lists object) (some home) (world.log object))
      → Tied content op_in reply_in kinds lists world words homes
      → Tied content op_in reply_in kinds lists (held_by world object holder) (set words object word)
      (set homes object home)
  tied_lock object word holder home inside is_word back tied =
      let wide = tied.wide in
      let deep = tied.deep in
      let few = tied.objects in
      record {
        wide = length-set words object word ∙ wide;
        deep = length-set homes object home ∙ deep;
        objects = few;
        locks = changed_all (λ y g. y < length kinds → get_or (set words object word) y 0 ≡ lock_word g)
            world.holder object holder
            (λ l. get_or-set_same words object word 0 (omega arith) ∙ is_word)
            (λ y other l. get_or-set_other words object y word 0 other ∙ tied.locks y l);
        rows = λ r l. get_or-set_other words object (row_place r) word 0 (λ e. omega arith) ∙ tied.rows r l;
        ends = λ c l. get_or-set_other words object (end_place c) word 0 (λ e. omega arith) ∙ tied.ends c l;
        clock = get_or-set_other words object clock_place word 0 (λ e. omega arith) ∙ tied.clock;
        cores = changed_all (λ y g. y < length kinds → g ≡ None
            → CoreAt content op_in reply_in (kind_at kinds y) (get_elem? lists y) (get_elem? (set homes object home) y)
            (world.log y))
            world.holder object holder
            (λ l e. let (core, there, fits) = back e in (core, set_here homes object home (omega arith) ∙ there, fits))
            (λ y other l e.
            let (core, there, fits) = tied.cores y l e in
            (core, set_else homes object y home other ∙ there, fits));
        calls = λ r l. rw ((set_else homes object (call_slot r) home (λ e. omega arith))) (tied.calls r l);
        journals = λ c l. rw ((set_else homes object (journal_slot c) home (λ e. omega arith))) (tied.journals c l);
      }

  -- the row goes to the stage: its word is set to this one, and its slot to home
  pub tied_row : (row word : ℕ) (stage : Stage) (hands : ℕ → Option ℕ) (logs : ℕ → List AnyEntry)
      (home : maybe.Option (Slot S O R)) → row < max_clients → ((x : ℕ) → world.holder x ≡ None → logs x ≡ world.log x)
      → stage ≢ absent → request_of stage ≡ request_of (world.stage row) → word ≡ row_word stage
      → CallAt content op_in reply_in (some home) stage
      → Tied content op_in reply_in kinds lists world words homes
      → Tied content op_in reply_in kinds lists
      (record world { hand = hands; log = logs; stage = changed world.stage row stage })
      (set words (row_place row) word) (set homes (call_slot row) home)
  tied_row row word stage hands logs home low kept come same is_word ok tied =
      let wide = tied.wide in
      let deep = tied.deep in
      let few = tied.objects in
      record {
        wide = length-set words (row_place row) word ∙ wide;
        deep = length-set homes (call_slot row) home ∙ deep;
        objects = few;
        locks = λ x l. get_or-set_other words (row_place row) x word 0 (λ e. omega arith) ∙ tied.locks x l;
        rows = changed_all
            (λ j u. j < max_clients → get_or (set words (row_place row) word) (row_place j) 0 ≡ row_word u)
            world.stage row stage
            (λ l. get_or-set_same words (row_place row) word 0 (omega arith) ∙ is_word)
            (λ j other l. get_or-set_other words (row_place row) (row_place j) word 0 (λ e. other (omega arith))
            ∙ tied.rows j l);
        ends = λ c l. get_or-set_other words (row_place row) (end_place c) word 0 (λ e. omega arith) ∙ tied.ends c l;
        clock = get_or-set_other words (row_place row) clock_place word 0 (λ e. omega arith) ∙ tied.clock;
        cores = λ x l e. let (core, there, fits) = tied.cores x l e in (
          core,
          set_else homes (call_slot row) x home (λ e. omega arith) ∙ there,
          subst (CoreFits content op_in reply_in (kind_at kinds x) (get_elem? lists x) core) (sym (kept x e)) fits,
        );
        calls = changed_all
            (λ j u. j < max_clients
            → CallAt content op_in reply_in (get_elem? (set homes (call_slot row) home) (call_slot j)) u)
            world.stage row stage
            (λ l. rw ((set_here homes (call_slot row) home (omega arith))) ok)
            (λ j other l. rw ((set_else homes (call_slot row) (call_slot j) home (λ e. other (omega arith))))
            (tied.calls j l));
        journals = λ c l. rw ((set_else homes (call_slot row) (journal_slot c) home (λ e. omega arith)))
            (changed_all (λ d u. d < max_clients
            → JournalAt content op_in reply_in (get_elem? homes (journal_slot d)) u (world.done d) (world.ended d))
            world.stage row stage
            (λ l. journaled_on (get_elem? homes (journal_slot row)) (world.stage row) stage (world.done row)
            (world.ended row) come same (tied.journals row l))
            (λ d _. tied.journals d) c l);
      }

  -- ---- the clock, and the words of a client that comes or ends

  -- the client, which has not ended, draws a ticket: the clock goes on, and the client to the stage
  pub tied_clock : (client word : ℕ) (stage : Stage) (done : List AnyDone) → stage ≢ absent
      → world.ended client ≡ false → row_word (world.stage client) ≡ row_word stage
      → ((home : Home S O R) → CallAt content op_in reply_in home stage) → word ≡ world.clock + 1
      → Tied content op_in reply_in kinds lists world words homes
      → Tied content op_in reply_in kinds lists (ticked world client stage done) (set words clock_place word) homes
  tied_clock client word stage done come going same ok is_word tied =
      let wide = tied.wide in
      let few = tied.objects in
      record {
        wide = length-set words clock_place word ∙ wide;
        deep = tied.deep;
        objects = few;
        locks = λ x l. get_or-set_other words clock_place x word 0 (λ e. omega arith) ∙ tied.locks x l;
        rows = changed_all (λ j u. j < max_clients → get_or (set words clock_place word) (row_place j) 0 ≡ row_word u)
            world.stage client stage
            (λ l. get_or-set_other words clock_place (row_place client) word 0 (λ e. omega arith)
            ∙ (tied.rows client l ∙ same))
            (λ j _ l. get_or-set_other words clock_place (row_place j) word 0 (λ e. omega arith) ∙ tied.rows j l);
        ends = λ d l. get_or-set_other words clock_place (end_place d) word 0 (λ e. omega arith) ∙ tied.ends d l;
        clock = get_or-set_same words clock_place word 0 (omega arith) ∙ is_word;
        cores = tied.cores;
        calls = changed_all (λ j u. j < max_clients → CallAt content op_in reply_in (get_elem? homes (call_slot j)) u)
            world.stage client stage (λ l. ok (get_elem? homes (call_slot client))) (λ j _. tied.calls j);
        journals = λ d. changed_all (λ d u. d < max_clients
            → JournalAt content op_in reply_in (get_elem? homes (journal_slot d)) u (changed world.done client done d)
            (world.ended d))
            world.stage client stage
            (λ l. record { at_first = λ e. absurd (come e); at_last = λ e. absurd cc })
            (λ d other l. subst
            (λ z. JournalAt content op_in reply_in (get_elem? homes (journal_slot d)) (world.stage d) z (world.ended d))
            (sym (changed_else world.done client done d other)) (tied.journals d l)) d;
      }

  -- the client ends, and its journal is in its slot
  pub tied_end : (client : ℕ) (book : Journal O R) → client < max_clients → world.stage client ≢ absent
      → map (event_in op_in reply_in) book.events.items
      ≡ journal_of (world.done client) (request_of (world.stage client))
      → Tied content op_in reply_in kinds lists world words homes
      → Tied content op_in reply_in kinds lists (ended_by world client) (set words (end_place client) 1)
      (set homes (journal_slot client) (some (slot.Journal book)))
  tied_end client book low come says tied =
      let wide = tied.wide in
      let deep = tied.deep in
      let few = tied.objects in
      let home : maybe.Option (Slot S O R) = some (slot.Journal book) in
      record {
        wide = length-set words (end_place client) 1 ∙ wide;
        deep = length-set homes (journal_slot client) home ∙ deep;
        objects = few;
        locks = λ x l. get_or-set_other words (end_place client) x 1 0 (λ e. omega arith) ∙ tied.locks x l;
        rows = λ r l. get_or-set_other words (end_place client) (row_place r) 1 0 (λ e. omega arith) ∙ tied.rows r l;
        ends = changed_all
            (λ d b. d < max_clients → get_or (set words (end_place client) 1) (end_place d) 0 ≡ end_word b)
            world.ended client true
            (λ l. get_or-set_same words (end_place client) 1 0 (omega arith))
            (λ d other l. get_or-set_other words (end_place client) (end_place d) 1 0 (λ e. other (omega arith))
            ∙ tied.ends d l);
        clock = get_or-set_other words (end_place client) clock_place 1 0 (λ e. omega arith) ∙ tied.clock;
        cores = λ x l e. let (core, there, fits) = tied.cores x l e in (
          core,
          set_else homes (journal_slot client) x home (λ e. omega arith) ∙ there,
          fits,
        );
        calls = λ r l. rw ((set_else homes (journal_slot client) (call_slot r) home (λ e. omega arith)))
            (tied.calls r l);
        journals = changed_all (λ d b. d < max_clients
            → JournalAt content op_in reply_in (get_elem? (set homes (journal_slot client) home) (journal_slot d))
            (world.stage d) (world.done d) b)
            world.ended client true
            (λ l. record {
              at_first = λ e. absurd (come e);
              at_last = λ e. (book, set_here homes (journal_slot client) home (omega arith), says);
            })
            (λ d other l. rw ((set_else homes (journal_slot client) (journal_slot d) home (λ e. other (omega arith))))
            (tied.journals d l));
      }

  -- the client comes, and takes its two slots out
  pub tied_coming : (client word : ℕ) (stage : Stage) → client < max_clients → stage ≢ absent
      → world.ended client ≡ false → word ≡ row_word stage
      → ((home : Home S O R) → CallAt content op_in reply_in home stage)
      → Tied content op_in reply_in kinds lists world words homes
      → Tied content op_in reply_in kinds lists (staged world client stage) (set words (row_place client) word)
      (set (set homes (journal_slot client) maybe.none) (call_slot client) maybe.none)
  tied_coming client word stage low come going is_word ok tied =
      let wide = tied.wide in
      let deep = tied.deep in
      let few = tied.objects in
      let first : List (maybe.Option (Slot S O R)) = set homes (journal_slot client) maybe.none in
      let both : List (maybe.Option (Slot S O R)) = set first (call_slot client) maybe.none in
      let away : (i : ℕ) → i ≢ journal_slot client → i ≢ call_slot client → get_elem? both i ≡ get_elem? homes i =
      λ i a b. set_else first (call_slot client) i maybe.none b ∙ set_else homes (journal_slot client) i maybe.none a in
      record {
        wide = length-set words (row_place client) word ∙ wide;
        deep = length-set first (call_slot client) maybe.none
            ∙ (length-set homes (journal_slot client) maybe.none ∙ deep);
        objects = few;
        locks = λ x l. get_or-set_other words (row_place client) x word 0 (λ e. omega arith) ∙ tied.locks x l;
        rows = changed_all
            (λ j u. j < max_clients → get_or (set words (row_place client) word) (row_place j) 0 ≡ row_word u)
            world.stage client stage
            (λ l. get_or-set_same words (row_place client) word 0 (omega arith) ∙ is_word)
            (λ j other l. get_or-set_other words (row_place client) (row_place j) word 0 (λ e. other (omega arith))
            ∙ tied.rows j l);
        ends = λ d l. get_or-set_other words (row_place client) (end_place d) word 0 (λ e. omega arith) ∙ tied.ends d l;
        clock = get_or-set_other words (row_place client) clock_place word 0 (λ e. omega arith) ∙ tied.clock;
        cores = λ x l e. let (core, there, fits) = tied.cores x l e in (
          core,
          away x (λ e. omega arith) (λ e. omega arith) ∙ there,
          fits,
        );
        calls = changed_all (λ j u. j < max_clients → CallAt content op_in reply_in (get_elem? both (call_slot j)) u)
            world.stage client stage
            (λ l. ok (get_elem? both (call_slot client)))
            (λ j other l. rw ((away (call_slot j) (λ e. omega arith) (λ e. other (omega arith)))) (tied.calls j l));
        journals = changed_all (λ d u. d < max_clients
            → JournalAt content op_in reply_in (get_elem? both (journal_slot d)) u (world.done d) (world.ended d))
            world.stage client stage
            (λ l. record { at_first = λ e. absurd (come e); at_last = λ e. absurd cc })
            (λ d other l. rw ((away (journal_slot d) (λ e. other (omega arith)) (λ e. omega arith)))
            (tied.journals d l));
      }
