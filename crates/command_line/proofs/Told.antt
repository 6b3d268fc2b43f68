-- `clap` is told the table, argument by argument and command by command. Each step takes the first of the rows that are
-- left, and adds its rule or its shape.
use Rattle.std.proofs.Common.{◌≡◌, ◌∙◌, ◌<◌, ◌+◌, ◌||◌, ℕ, Bool, true, false, cond, List, ◌∷◌, Some, length, drop, map}
use Rattle.std.proofs.Common.{get_or, refl, sym, ap, subst}
use Rattle.std.specs.Prelude.{find}
use Rattle.std.proofs.lemmas.List.{at_drop_more}
use Rattle.clap.specs.Built.{AddsArg, AddsSubcommand}
use Rattle.clap.specs.Simple.{App, app_of, with_rule, with_subcommand}
use Rattle.clap.specs.Walk.{Rule, rule_of}
use Rattle.clap.specs.declared.builder.arg.Arg.{Arg}
use Rattle.clap.specs.declared.builder.command.Command.{Command}
use Rattle.clap.specs.declared.builder.command.Command.TheViews.{out-Command as fields_of}
use Rattle.command_line.specs.Command.{with_commands, with_rules}

or_false : (b : Bool) → (b || false) ≡ b
or_false true = refl
or_false false = refl

-- an argument that clap was told of is one more rule of the command
pub adds_rule : (old : Command) (a : Arg) (new : Command) (r : Rule) → AddsArg old a new → a.global ≡ false
    → rule_of a ≡ r
    → (app_of new ≡ with_rule (app_of old) r) × ((fields_of new).has_globals ≡ (fields_of old).has_globals)
adds_rule old a new r adds local is = (
  adds.shape local ∙ ap (with_rule (app_of old)) is,
  adds.globals ∙ ap (λ b. (fields_of old).has_globals || b) local
      ∙ or_false (fields_of old).has_globals,
)

pub adds_command : (old sub new : Command) (s : App) → AddsSubcommand old sub new → (fields_of sub).has_globals ≡ false
    → app_of sub ≡ s
    → app_of new ≡ with_subcommand (app_of old) s.top
adds_command old sub new s adds local is = adds.shape local ∙ ap (λ (a : App). with_subcommand (app_of old) a.top) is

not_first : {Y : Type 0} (is : Y → Bool) (y : Y) (ys : List Y) → is y ≡ false → find is (y ∷ ys) ≡ find is ys
not_first is y ys not = subst (λ b. cond b (Some y) (find is ys) ≡ find is ys) (sym not) refl

module _ {X : Type 0} (xs : List X) (i : ℕ) (d : X) (h : i < length xs) where
  -- the rules that are left to be added, after one was
  pub more_rules : {Y : Type 0} (rule : Y → Rule) (of : X → Y) (old new : App)
      → new ≡ with_rule old (rule (of (get_or xs i d)))
      → with_rules new (map rule (map of (drop (i + 1) xs))) ≡ with_rules old (map rule (map of (drop i xs)))
  more_rules rule of old new is =
      ap (λ a. with_rules a (map rule (map of (drop (i + 1) xs)))) is
      ∙ sym (at_drop_more (λ l. with_rules old (map rule (map of l))) xs i d h)

  pub more_commands : (app : X → App) (old new : App) → new ≡ with_subcommand old (app (get_or xs i d)).top
      → with_commands new (map app (drop (i + 1) xs)) ≡ with_commands old (map app (drop i xs))
  more_commands app old new is = ap (λ a. with_commands a (map app (drop (i + 1) xs))) is
      ∙ sym (at_drop_more (λ l. with_commands old (map app l)) xs i d h)

  -- where the next row is not the one that is looked for, it is among those after it, or there is none
  pub passed_over : {Y : Type 0} (is : Y → Bool) (of : X → Y) → is (of (get_or xs i d)) ≡ false
      → find is (map of (drop (i + 1) xs)) ≡ find is (map of (drop i xs))
  passed_over is of not =
      sym (not_first is (of (get_or xs i d)) (map of (drop (i + 1) xs)) not)
      ∙ sym (at_drop_more (λ l. find is (map of l)) xs i d h)
