-- One history after another, and what a refused call leaves.
use Rattle.std.proofs.Common.{◌≡◌, ℕ, List, [], ◌∷◌, Ok, Err, refl}
use Rattle.value_core.specs.declared.datum.Datum.{Datum}
use Rattle.value_core.specs.Contents.{Contents}
use Rattle.decl_core.specs.Form.{Body}
use Rattle.decl_core.specs.Meaning.{Answer, Changed, refused, reply_before, ending, after_all, apply_body}
use Rattle.apply_core.specs.History.{left_by}
use Rattle.apply_core.specs.HistoryLaws.{LeadsOn, LegalSplits, LeadsByOne, LegalByOne, RefusedChangesNone}

pub leads_on : LeadsOn
leads_on [] later parts = refl
leads_on (end ∷ history) later parts = leads_on history later (left_by end.reply end.body end.arguments parts)

pub legal_splits : LegalSplits
legal_splits [] later parts = (λ legal. (tt, legal), λ both. both.1)
legal_splits (end ∷ history) later parts =
    let rest = legal_splits history later (left_by end.reply end.body end.arguments parts) in
    (λ legal. (let both = rest.0 legal.1 in ((legal.0, both.0), both.1)), λ both. (both.0.0, rest.1 (both.0.1, both.1)))

pub leads_by_one : LeadsByOne
leads_by_one history end parts = leads_on history (end ∷ []) parts

pub legal_by_one : LegalByOne
legal_by_one history end parts =
    let split = legal_splits history (end ∷ []) parts in
    (λ legal. (let both = split.0 legal in (both.0, both.1.0)), λ both. split.1 (both.0, (both.1, tt)))

-- a refused body leaves the contents as they were before it
ending_refused : (before : List Contents) (answer : Answer Changed) (word : List ℕ) → (ending before answer).0 ≡ refused word → (ending before answer).1 ≡ before
ending_refused before (Ok c) word is = absurd cc
ending_refused before (Err w) word is = refl

pub refused_leaves : (body : Body) (args : List Datum) (parts : List Contents) (word : List ℕ) → (apply_body body args parts).0 ≡ refused word → (apply_body body args parts).1 ≡ parts
refused_leaves body args parts word is = ending_refused parts (after_all args body.statements (record { parts = parts; reply = reply_before body.result })) word is

pub refused_changes_none : RefusedChangesNone
refused_changes_none word body arguments parts = refused_leaves body arguments parts word
