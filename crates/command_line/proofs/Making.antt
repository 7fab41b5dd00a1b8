-- A command that is made argument by argument.
use Rattle.std.proofs.Common.{◌≡◌, ◌∙◌, ◌||◌, false, Result, ap, ap₂}
use Rattle.std.specs.Prelude.{IfOk}
use Rattle.std.proofs.lemmas.Result.{IfOk-weaker}
use Rattle.clap.specs.Built.{AddsArg, AddsSubcommand}
use Rattle.clap.specs.Simple.{App, app_of, with_rule, with_subcommand}
use Rattle.clap.specs.Walk.{Rule, rule_of}
use Rattle.clap.specs.declared.builder.arg.Arg.{Arg}
use Rattle.clap.specs.declared.builder.command.Command.{Command}
use Rattle.command_line.specs.Commands.{with_rules, explain_rules}
use Rattle.command_line.specs.Making.{AddsCommand, AddsExplain, AddsRule, IsMade}

pub with_arg : (old new : Command) (a : Arg) (r : Rule) (app : App) → AddsArg old a new → a.global ≡ false → rule_of a ≡ r → IsMade old app → IsMade new (with_rule app r)
with_arg old new a r app added local rule is = (added.shape local ∙ ap₂ with_rule is.0 rule, added.globals ∙ ap₂ ◌||◌ is.1 local)

pub with_sub : (old sub new : Command) (app below : App) → AddsSubcommand old sub new → IsMade sub below → app_of old ≡ app → app_of new ≡ with_subcommand app below.top
with_sub old sub new app below added made is = added.shape made.1 ∙ ap₂ with_subcommand is (ap (λ (a : App). a.top) made.0)

-- what was made, with more
module _ {E : Type 0} (made more : Result Command E) (app : App) where
  pub and_rule : (a : Arg) (r : Rule) → IfOk more (λ c. AddsRule made a c) → IfOk made (λ m. IsMade m app) → a.global ≡ false → rule_of a ≡ r → IfOk more (λ c. IsMade c (with_rule app r))
  and_rule a r adds is local rule = IfOk-weaker more _ _ (λ c h. h app r is local rule) adds

  pub and_explain : IfOk more (λ c. AddsExplain made c) → IfOk made (λ m. IsMade m app) → IfOk more (λ c. IsMade c (with_rules app explain_rules))
  and_explain adds is = IfOk-weaker more _ _ (λ c h. h app is) adds

  pub and_command : (sub : Result Command E) (below : App) → IfOk more (λ c. AddsCommand made sub c) → IfOk made (λ m. app_of m ≡ app) → IfOk sub (λ s. IsMade s below)
      → IfOk more (λ c. app_of c ≡ with_subcommand app below.top)
  and_command sub below adds is under = IfOk-weaker more _ _ (λ c h. h app below is under) adds
