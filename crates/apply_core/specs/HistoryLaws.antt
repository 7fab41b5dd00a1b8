-- Laws of histories: one after another is legal, and leads on, from where the first one leads.
use Rattle.std.specs.Prelude.{◌≡◌, ◌↔◌, ℕ, List, [], ◌∷◌, ◌++◌}
use Rattle.value_core.specs.declared.datum.Datum.{Datum}
use Rattle.value_core.specs.Contents.{Contents}
use Rattle.decl_core.specs.Form.{Body}
use Rattle.apply_core.specs.declared.reply.Reply.TheVariants.{Refused}
use Rattle.apply_core.specs.History.{End, IsReplyOn, left_by, leads_to, IsLegal}

-- a history and another one after it lead to what the other one leads to from where the first one leads
abbrev pub LeadsOn : Type 0
LeadsOn =
    (history later : List End) (parts : List Contents) →
    leads_to (history ++ later) parts ≡ leads_to later (leads_to history parts)

-- they are legal exactly where the first one is, and the other one is from where the first one leads
abbrev pub LegalSplits : Type 0
LegalSplits =
    (history later : List End) (parts : List Contents) →
    IsLegal (history ++ later) parts ↔ (IsLegal history parts × IsLegal later (leads_to history parts))

-- a history and one end more lead to what this end leaves of where the history leads
abbrev pub LeadsByOne : Type 0
LeadsByOne =
    (history : List End) (end : End) (parts : List Contents) →
    leads_to (history ++ end ∷ []) parts ≡ left_by end.reply end.body end.arguments (leads_to history parts)

-- they are legal exactly where the history is, and the reply of this end is that of the sequential object
-- where the history leads
abbrev pub LegalByOne : Type 0
LegalByOne =
    (history : List End) (end : End) (parts : List Contents) →
    IsLegal (history ++ end ∷ []) parts ↔ (IsLegal history parts
    × IsReplyOn end.reply end.body end.arguments (leads_to history parts))

-- a refused call changes nothing
abbrev pub RefusedChangesNone : Type 0
RefusedChangesNone =
    (word : List ℕ) (body : Body) (arguments : List Datum) (parts : List Contents) →
    IsReplyOn (Refused word) body arguments parts → left_by (Refused word) body arguments parts ≡ parts
