-- What an object of a source is judged.
use Rattle.std.proofs.Common.{ℕ, List, sym, subst}
use Rattle.decl_core.specs.ObjectForm.{ObjectForm}
use Rattle.decl_core.specs.Exclusive.{IsExclusive}
use Rattle.check_core.specs.Named.{NamesObject}
use Rattle.check_core.specs.Opening.{IsObjectIn, IsTold, refused}
use Rattle.check_core.specs.View.{IsOpened, IsJudged}
use Rattle.check_core.specs.declared.open.OpenedScript.{OpenedScript}
use Rattle.check_core.specs.declared.open.OpenedScript.TheVariants as opened

pub opened_by : (source text name : List ℕ) (o : ObjectForm) (r : OpenedScript) → NamesObject text name → IsObjectIn source name o → IsJudged o r → IsOpened source text r
opened_by source text name o (opened.Ready object) named found judged = record {
  name = name;
  named = named;
  found = subst (IsObjectIn source name) (sym judged.0) found;
  exclusive = subst IsExclusive (sym judged.0) judged.1;
}
opened_by source text name o (opened.Told line) named found judged = subst (IsTold source text) (sym judged.4) (refused named found judged.3)
