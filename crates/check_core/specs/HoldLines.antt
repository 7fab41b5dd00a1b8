-- What a check writes of holds, and of what is called again and again.
use Rattle.std.specs.Prelude.{ℕ, Bool, true, false, List, [], ◌∷◌, ◌++◌, slice_get, codes, decimal}
use Rattle.decl_core.specs.ObjectForm.{ObjectForm}
use Rattle.check_core.specs.Report.{operation_name}
use Rattle.decl_core.specs.HoldForm.{HoldForm, EveryForm, RulesForm}

-- the names of these operations, each behind a comma, and the first behind this
abbrev pub names_behind : ObjectForm → List ℕ → List ℕ → List ℕ
names_behind o first [] = []
names_behind o first (op ∷ ops) =
    first ++ operation_name (slice_get o.operations op) ++ names_behind o (codes ", ") ops

abbrev pub loose_text : Bool → List ℕ
loose_text true = codes " by any"
loose_text false = []

-- hold OP until A, B  or  hold OP until A, B by any
abbrev pub hold_line : ObjectForm → HoldForm → List ℕ
hold_line o h =
    codes "hold " ++ operation_name (slice_get o.operations h.op) ++ names_behind o (codes " until ") h.until
    ++ loose_text h.by_any ++ codes "\n"

abbrev pub hold_lines : ObjectForm → List HoldForm → List ℕ
hold_lines o [] = []
hold_lines o (h ∷ holds) = hold_line o h ++ hold_lines o holds

-- every S call OP
abbrev pub every_line : ObjectForm → EveryForm → List ℕ
every_line o e =
    codes "every " ++ decimal e.seconds ++ codes " call " ++ operation_name (slice_get o.operations e.op) ++ codes "\n"

abbrev pub every_lines : ObjectForm → List EveryForm → List ℕ
every_lines o [] = []
every_lines o (e ∷ everies) = every_line o e ++ every_lines o everies

abbrev pub rule_lines : ObjectForm → RulesForm → List ℕ
rule_lines o r = hold_lines o r.holds ++ every_lines o r.everies
