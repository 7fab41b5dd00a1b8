-- The objects of a source, with their holds.
use Rattle.std.specs.Prelude.{◌≡◌, ℕ, ◌≤◌, List, [], ◌∷◌, ◌++◌, length, Option, Some, None}
use Rattle.path_tree.specs.Tokens.{Placed, AreTokens}
use Rattle.decl_core.specs.ObjectForm.{ObjectForm}
use Rattle.decl_read.specs.Sources.{AreObjectsOf}
use Rattle.token_read.specs.Reader.{◌>>=◌}
use Rattle.decl_core.specs.HoldForm.{RulesForm, no_rules}
use Rattle.decl_read.specs.Sections.{lexemes_in, behind_object, rules_at, cut_by}
use Rattle.decl_read.specs.Holds.{IsRules}
use Rattle.decl_read.specs.HoldReading.{rules_in}

-- what an object says of clients that are gone and of time; these tokens begin where it does
abbrev pub IsRuled : ObjectForm → Option (List Placed) → RulesForm → Type 0
IsRuled o None r = r ≡ no_rules
IsRuled o (Some ts) r = IsRules o.operations (lexemes_in ts) r

-- what each object says of them; the objects stand in these tokens one after the other
pub data AreRuled : List ObjectForm → List Placed → List RulesForm → Type 0 where
  no_object : {ts : List Placed} → behind_object ts ≡ None → AreRuled [] ts []
  an_object : {o : ObjectForm} {objects : List ObjectForm} {ts own : List Placed} {r : RulesForm} {rs : List RulesForm} →
      behind_object ts ≡ Some own → IsRuled o (rules_at own) r → AreRuled objects own rs →
      AreRuled (o ∷ objects) ts (r ∷ rs)

-- These are the objects of a source, and what each says of clients that are gone and of time: the source without its
-- holds has these objects, and the holds that it has in each of them are these.
pub record AreHeldObjectsOf (source : List ℕ) (objects : List ObjectForm) (all : List RulesForm) : Type 0 where
  pub tokens : List Placed
  pub short : length source ≤ 65536
  pub lexed : AreTokens source tokens
  pub are : AreObjectsOf (cut_by tokens source) objects
  pub ruled : AreRuled objects tokens all

-- no object says anything of them
abbrev pub SayNothing : List RulesForm → Type 0
SayNothing [] = Unit {0}
SayNothing (r ∷ all) = (r ≡ no_rules) × SayNothing all

-- the same, read from left to right
abbrev pub ruled_in : ObjectForm → Option (List Placed) → Option RulesForm
ruled_in o None = Some no_rules
ruled_in o (Some ts) = rules_in o.operations (lexemes_in ts)

abbrev pub at_last : List RulesForm → Option (List Placed) → Option (List RulesForm)
at_last done None = Some done
at_last done (Some ts) = None

unfoldable pub all_rules_in : List RulesForm → List ObjectForm → List Placed → Option (List RulesForm)
all_rules_in done [] ts = at_last done (behind_object ts)
all_rules_in done (o ∷ objects) ts = do
  own ← behind_object ts
  r ← ruled_in o (rules_at own)
  all_rules_in (done ++ r ∷ []) objects own
