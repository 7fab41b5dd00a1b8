-- What is held of an object, without where it lies in memory.
use Rattle.std.specs.Prelude.{◌≡◌, map}
use Rattle.decl_core.specs.HoldForm.{called_in}
use Rattle.decl_core.specs.HoldMap.{rules_of}
use Rattle.client_core.specs.declared.holding.Holding.TheInside.{Inside}
use Rattle.client_core.specs.declared.ticking.Ticking.{Ticking}
use Rattle.client_core.specs.Holding.{Holding}

abbrev pub holding_of : Inside → Holding
holding_of h = record {
  rules = rules_of h.rules;
  held = h.holds;
  since = h.since.items;
  away = h.away;
  gone = h.gone.items;
  ticking = h.ticking.items;
}

-- what is called again and again is what the object says, in its order
abbrev pub CallsEach : Inside → Type 0
CallsEach h = map (λ (t : Ticking). t.op) h.ticking.items ≡ called_in (rules_of h.rules).everies
