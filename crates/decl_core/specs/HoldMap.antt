-- Holds without where they lie in memory.
use Rattle.std.specs.Prelude.{List, map}
use Rattle.decl_core.specs.declared.hold.Hold.{Hold}
use Rattle.decl_core.specs.declared.hold.Every.{Every}
use Rattle.decl_core.specs.declared.hold.Rules.{Rules}
use Rattle.decl_core.specs.HoldForm.{HoldForm, EveryForm, RulesForm, rules_with}

abbrev pub hold_of : Hold → HoldForm
hold_of h = record { op = h.op; until = h.until.items; by_any = h.by_any }

abbrev pub holds_of : List Hold → List HoldForm
holds_of holds = map hold_of holds

abbrev pub every_of : Every → EveryForm
every_of e = record { seconds = e.seconds; op = e.op }

abbrev pub everies_of : List Every → List EveryForm
everies_of everies = map every_of everies

abbrev pub rules_of : Rules → RulesForm
rules_of r = rules_with (holds_of r.holds.items) (everies_of r.everies.items)

abbrev pub all_rules_of : List Rules → List RulesForm
all_rules_of all = map rules_of all
