-- What is held of objects, without who is gone.
use Rattle.std.specs.Prelude.{List, map}
use Rattle.client_core.specs.Holding.{Holding}
use Rattle.client_core.specs.Custody.{Custody, Custodies}
use Rattle.client_core.specs.declared.all.AllHeld.TheInside.{Inside}

abbrev pub custody_of : Holding → Custody
custody_of h = record { rules = h.rules; held = h.held }

abbrev pub custodies_of : List Holding → Custodies
custodies_of all = map custody_of all

-- each object's, by its place
abbrev pub all_of : Inside → List Holding
all_of h = h.rows.items
