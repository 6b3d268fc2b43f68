-- What clap found in the words is what a program's line is read from. So the line that was read is
-- the one that is asked for, and where none was read, none is.
use Rattle.std.proofs.Common.{◌≡◌, ◌≢◌, ◌∙◌, ◌⊎◌, Bor, List, [], Option, Some, None, true, refl, sym, subst, inl, inr}
use Rattle.std.specs.Prelude.{option_map}
use Rattle.std.specs.Box.{box_value}
use Rattle.clap.proofs.OnLiterals.{clap_on_literals}
use Rattle.clap.specs.Faults.{fault_of, is_simple_and_free}
use Rattle.clap.specs.Kinds.{HasKind}
use Rattle.clap.specs.Matches.{subcommand_name_of}
use Rattle.clap.specs.Simple.{App, HasMatchesOf, is_simple, subcommand_of, subcommand_rows_of}
use Rattle.clap.specs.Values.{kind_of}
use Rattle.clap.specs.Walk.{Row, Text}
use Rattle.clap.specs.declared.error.Error.{Error}
use Rattle.clap.specs.declared.error.kind.ErrorKind.TheVariants.{OutOfMemory}
use Rattle.clap.specs.declared.parser.matches.ArgMatches.{ArgMatches}
use Rattle.clap.specs.declared.parser.matches.ArgMatches.TheViews.{out-ArgMatches, out-SubCommand}
use Rattle.command_line.specs.Command.{bench, verifier}
use Rattle.command_line.specs.Lines.{AreWordsRefused, AskFor, Finds, IsClapFaultFor, IsLineFault, rows_in}
use Rattle.command_line.specs.declared.line_fault.LineFault.{LineFault}
use Rattle.command_line.specs.declared.line_fault.LineFault.TheVariants as said
use Rattle.command_line.specs.declared.values.Unfit.{Unfit}
use Rattle.command_line.specs.declared.values.Unfit.TheVariants.{NoMemory, NoCommand, Value}

-- clap can say of the programs what it does with any words
pub bench_simple : (is_simple_and_free bench ≡ true) × (is_simple bench ≡ true)
unfolding clap_on_literals
bench_simple = (refl, refl)

pub verifier_simple : (is_simple_and_free verifier ≡ true) × (is_simple verifier ≡ true)
unfolding clap_on_literals
verifier_simple = (refl, refl)

-- ---- what was found

abbrev both : {X : Type 0} → (X → Text) → (X → List Row) → X → Text × List Row
both a b x = (a x, b x)

module _ {X Y : Type 0} (a : X → Text) (b : X → List Row) (c : Y → Text) (d : Y → List Row) where
  paired : (x : Option X) (y : Option Y) → option_map a x ≡ option_map c y
      → option_map b x ≡ option_map (λ (p : Text × List Row). p.1) (option_map (both c d) y)
      → option_map (both a b) x ≡ option_map (both c d) y
  paired None None e h = refl
  paired None (Some y) e h = cc
  paired (Some x) None e h = cc
  paired (Some x) (Some y) e h = cc

-- the command that clap returns, with its name, is the one that it found
pub found_is : (m : ArgMatches) (command : Option (Bor Text × Bor ArgMatches))
    → option_map (λ (c : Bor Text × Bor ArgMatches). c.0.now) command ≡ subcommand_name_of m
    → option_map (λ (c : Bor Text × Bor ArgMatches). rows_in c.1.now) command
    ≡ option_map (λ (p : Text × List Row). p.1) (subcommand_rows_of m)
    → option_map (λ (c : Bor Text × Bor ArgMatches). (c.0.now, rows_in c.1.now)) command ≡ subcommand_rows_of m
found_is m command =
    paired (λ c. c.0.now) (λ c. rows_in c.1.now) (λ b. (out-SubCommand (box_value b)).name.now)
    (λ b. rows_in (out-SubCommand (box_value b)).matches) command (out-ArgMatches m).subcommand

-- ---- what clap answers

memory_fault : (f : LineFault) → IsClapFaultFor OutOfMemory f → f ≡ said.NoMemory
memory_fault (said.Help t) h = elim h [ inl e ↦ cc | inr e ↦ cc ]
memory_fault (said.Refused t) h = absurd (h.0 refl)
memory_fault said.NoMemory h = refl

module _ {L : Type 0} (IsLineOf : Text → List Row → L → Type 0) (program : App)
    (simple : (is_simple_and_free program ≡ true) × (is_simple program ≡ true)) (a : App) (words : List Text)
    (is : a ≡ program)
  where
    pub refused : (e : Error) (f : LineFault) → (is_simple_and_free a ≡ true → HasKind (fault_of a words) e)
        → IsClapFaultFor (kind_of e) f → IsLineFault program IsLineOf words f
    refused e f h k = elim (subst (λ a. is_simple_and_free a ≡ true → HasKind (fault_of a words) e) is h simple.0) [
      | inl memory ↦ inl (memory_fault f (subst (λ x. IsClapFaultFor x f) memory k))
      | inr among ↦ inr (inl (kind_of e, among, k))
    ]

    module _ (m : ArgMatches) (kinds : is_simple_and_free a ≡ true → fault_of a words ≡ [])
        (has : HasMatchesOf a words m) (command : Option (Text × List Row)) (found : command ≡ subcommand_rows_of m)
      where
        faultless : fault_of program words ≡ []
        faultless = subst (λ a. is_simple_and_free a ≡ true → fault_of a words ≡ []) is kinds simple.0

        entered : command ≡ subcommand_of program words
        entered = found ∙ (subst (λ a. HasMatchesOf a words m) is has simple.1).1

        pub asked : (l : L) → Finds IsLineOf command l → AskFor program IsLineOf words l
        asked l f = record { faultless = faultless; finds = subst (λ o. Finds IsLineOf o l) entered f }

        unasked : ((l : L) → Finds IsLineOf command l → ⊥) → (l : L)
            → Finds IsLineOf (subcommand_of program words) l → ⊥
        unasked none l f = none l (subst (λ o. Finds IsLineOf o l) (sym entered) f)

        unfit : (f : LineFault) → ((l : L) → Finds IsLineOf command l → ⊥) → (f ≡ said.NoMemory) ⊎ AreWordsRefused f
            → IsLineFault program IsLineOf words f
        unfit f none refuses = elim refuses [
          | inl e ↦ inl e
          | inr r ↦ inr (inr (record { faultless = faultless; none = unasked none; refused = r }))
        ]

        pub not_read : (u : Unfit) (f : LineFault) → (u ≡ NoMemory → f ≡ said.NoMemory)
            → (f ≡ said.NoMemory) ⊎ AreWordsRefused f → (u ≢ NoMemory → (l : L) → Finds IsLineOf command l → ⊥)
            → IsLineFault program IsLineOf words f
        not_read NoMemory f memory refuses none = inl (memory refl)
        not_read NoCommand f memory refuses none = unfit f (none (λ e. cc)) refuses
        not_read (Value name takes) f memory refuses none = unfit f (none (λ e. cc)) refuses
