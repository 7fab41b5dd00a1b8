-- What the parser knows of a command that is made argument by argument.
use Rattle.std.specs.Prelude.{◌≡◌, false, Result, IfOk}
use Rattle.clap.specs.Walk.{Rule, rule_of}
use Rattle.clap.specs.Simple.{App, app_of, with_rule, with_subcommand}
use Rattle.clap.specs.declared.builder.arg.Arg.{Arg}
use Rattle.clap.specs.declared.builder.command.Command.{Command}
use Rattle.clap.specs.declared.builder.command.Command.TheViews.{out-Command}
use Rattle.command_line.specs.Commands.{explain_rules, with_rules}

-- a command that the parser knows so, and none of whose arguments is global
abbrev pub IsMade : Command → App → Type 0
IsMade c a = (app_of c ≡ a) × ((out-Command c).has_globals ≡ false)

module _ {E : Type 0} (made : Result Command E) where
  -- what came of the command that was made: it has one more argument, the flags about explanations, nothing more, or one
  -- more subcommand
  abbrev pub AddsRule : Arg → Command → Type 0
  AddsRule argument c =
      (a : App) (r : Rule) → IfOk made (λ m. IsMade m a) → argument.global ≡ false → rule_of argument ≡ r
      → IsMade c (with_rule a r)

  abbrev pub AddsExplain : Command → Type 0
  AddsExplain c = (a : App) → IfOk made (λ m. IsMade m a) → IsMade c (with_rules a explain_rules)

  abbrev pub IsMadeAs : Command → Type 0
  IsMadeAs c = (a : App) → IfOk made (λ m. IsMade m a) → IsMade c a

  abbrev pub AddsCommand : Result Command E → Command → Type 0
  AddsCommand below c =
      (a b : App) → IfOk made (λ m. app_of m ≡ a) → IfOk below (λ s. IsMade s b)
      → app_of c ≡ with_subcommand a b.top
