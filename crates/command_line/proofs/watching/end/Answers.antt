use Rattle.std.proofs.Common.{[], refl, subst, sym}
use Rattle.command_line.specs.declared.watching.OptionStage.{OptionStage}
use Rattle.command_line.specs.declared.watching.OptionStage.TheVariants as stages
use Rattle.command_line.specs.Watching.{none, Ends}
use Rattle.command_line.proofs.Sorting.{ends_now, ends_empty}
use Rattle.command_line.proofs.watching.end.Goals as goal

pub returns-in-Plain : goal.returns-in-Plain
returns-in-Plain c = subst (λ (stage : OptionStage). Ends stage c.args.found.now c.args.found.now) (sym c.in-Plain.is) (ends_now stages.Plain c.args.found.now c.args.found.now none refl)

pub returns-in-Over : goal.returns-in-Over
returns-in-Over c = subst (λ (stage : OptionStage). Ends stage c.args.found.now c.args.found.now) (sym c.in-Over.is) (ends_now stages.Over c.args.found.now c.args.found.now refl refl)

pub returns-in_ok-give-in-Waits : goal.returns-in_ok-give-in-Waits
returns-in_ok-give-in-Waits c =
    subst (λ (stage : OptionStage). Ends stage c.args.found.now c.give.new.found) (sym c.in-Waits.is)
    (ends_empty c.in-Waits.which [] c.args.found.now c.give.new.found refl c.in_ok-give-in-Waits.ensures)
