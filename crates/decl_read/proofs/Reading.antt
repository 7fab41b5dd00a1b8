-- From the objects that were read, and what each says, to the objects of a source with holds.
use Rattle.std.proofs.Common.{◌≡◌, ℕ, ◌≤◌, ◌<◌, List, [], ◌∷◌, ◌++◌, length, map, Option, Some, None, refl, sym, ap, subst, ◌∙◌, append_assoc, arith}
use Rattle.std.proofs.lemmas.List.{append-nil, length-map}
use Rattle.path_tree.specs.Tokens.{Placed, AreTokens, placed, placed_tokens}
use Rattle.path_tree.specs.declared.token.Token.{Token}
use Rattle.decl_core.specs.declared.object.Object.{Object}
use Rattle.decl_core.specs.ObjectForm.{ObjectForm}
use Rattle.decl_core.specs.ObjectMap.{objects_of}
use Rattle.std.specs.Prelude.{Result, Ok, Err, IfOk, MatchResult}
use Rattle.token_read.specs.declared.text_fault.TextFault.{TextFault}
use Rattle.token_read.specs.declared.text_fault.TextFault.TheVariants as text_faults
use Rattle.token_read.specs.Reader.{Fails}
use Rattle.decl_read.specs.declared.fault.DeclFault.{DeclFault}
use Rattle.decl_read.specs.declared.fault.DeclFault.TheVariants as faults
use Rattle.decl_read.specs.Sources.{AreObjectsOf, text_fault_told}
use Rattle.decl_read.proofs.Sources.{one_of_some}
use Rattle.decl_core.specs.HoldForm.{RulesForm, no_rules}
use Rattle.decl_core.specs.HoldMap.{all_rules_of}
use Rattle.decl_read.specs.declared.held_read.Held.{Held}
use Rattle.decl_read.specs.Sections.{cut_by}
use Rattle.decl_read.specs.HeldSources.{AreHeldObjectsOf, AreRuled, SayNothing, all_rules_in}
use Rattle.decl_read.proofs.Ruled.{all_found, all_read}

-- one object more
pub values_more : (all items rest left new : List Object) (o : Object) → all ≡ items ++ rest → rest ≡ o ∷ left → new ≡ items ++ o ∷ [] → all ≡ new ++ left
values_more all items rest left new o before is grown =
    before ∙ ap (λ x. items ++ x) is ∙ sym (append_assoc items (o ∷ []) left) ∙ ap (λ x. x ++ left) (sym grown)

pub values_none : (all items rest : List Object) → rest ≡ all → items ≡ [] → all ≡ items ++ rest
values_none all items rest is empty = subst (λ x. all ≡ x ++ rest) (sym empty) (sym is)

pub values_all : (all items rest : List Object) → all ≡ items ++ rest → rest ≡ [] → objects_of items ≡ objects_of all
values_all all items rest before none = ap objects_of (sym (before ∙ ap (λ x. items ++ x) none ∙ append-nil items))

-- what each object was found to say
pub ruled_all : (before all : List RulesForm) (objects given : List ObjectForm) (ts : List Placed) → before ≡ [] → given ≡ objects → all_rules_in before given ts ≡ Some all → AreRuled objects ts all
ruled_all before all objects given ts none same h =
    let read : all_rules_in [] objects ts ≡ Some all = subst (λ b. all_rules_in b objects ts ≡ Some all) none (subst (λ g. all_rules_in before g ts ≡ Some all) same h) in
    let found = all_found [] objects ts all read in
    subst (λ r. AreRuled objects ts r) (sym found.1) found.2

-- and what each says is found
pub found_all : (before rules : List RulesForm) (objects given : List ObjectForm) (tokens : List Token) → before ≡ [] → given ≡ objects → length tokens ≤ 65537 → AreRuled objects (placed_tokens tokens) rules →
    all_rules_in before given (placed_tokens tokens) ≡ Some rules
found_all before rules objects given tokens none same few are =
    let long = length-map tokens placed in
    let read = all_read [] objects (placed_tokens tokens) rules (omega (arith, few, long)) are in
    subst (λ b. all_rules_in b given (placed_tokens tokens) ≡ Some rules) (sym none) (subst (λ g. all_rules_in [] g (placed_tokens tokens) ≡ Some rules) (sym same) read)

pub same_some : {A : Type 0} {x y : A} (o : Option A) → o ≡ Some x → o ≡ Some y → x ≡ y
same_some o a b = one_of_some (sym a ∙ b)

-- where something is read, nothing is told but that memory ran out
pub only_memory : {A : Type 0} (fault : TextFault) (x : A) (read : Option A) → read ≡ Some x → Fails fault read → text_fault_told fault ≡ faults.Memory
only_memory text_faults.Memory x read is fails = refl
only_memory (text_faults.Path f) x read is fails = absurd cc
only_memory (text_faults.Syntax at) x read is fails = absurd cc
only_memory (text_faults.DuplicateName at) x read is fails = absurd cc
only_memory (text_faults.WrongType at) x read is fails = absurd cc
only_memory (text_faults.UnknownName at) x read is fails = absurd cc
only_memory (text_faults.TooMany at) x read is fails = absurd cc

-- the source without its holds has these objects, by the tokens that were read
pub cut_has : (source cut : List ℕ) (tokens : List Placed) (objects : List ObjectForm) (rules : List RulesForm) (p : AreHeldObjectsOf source objects rules) → p.tokens ≡ tokens → cut ≡ cut_by tokens source → AreObjectsOf cut objects
cut_has source cut tokens objects rules p same is = subst (λ c. AreObjectsOf c objects) (ap (λ ts. cut_by ts source) same ∙ sym is) p.are

pub ruled_by : (source : List ℕ) (tokens : List Placed) (objects read : List ObjectForm) (rules : List RulesForm) (p : AreHeldObjectsOf source objects rules) → p.tokens ≡ tokens → read ≡ objects → AreRuled read tokens rules
ruled_by source tokens objects read rules p same are = subst (λ o. AreRuled o tokens rules) (sym are) (subst (λ ts. AreRuled objects ts rules) same p.ruled)

abbrev Whole : List ObjectForm → List RulesForm → Result Held DeclFault → Type 0
Whole objects rules r = MatchResult r (λ h. (objects_of h.objects.items ≡ objects) × (all_rules_of h.rules.items ≡ rules)) (λ fault. fault ≡ faults.Memory)

pub both_only : (r : Result Held DeclFault) (tokens : List Placed) (cut : List ℕ) (read objects : List ObjectForm) (rules : List RulesForm) →
    IfOk r (λ h. (objects_of h.objects.items ≡ read) × AreRuled (objects_of h.objects.items) tokens (all_rules_of h.rules.items) × (h.cut.items ≡ cut)) →
    MatchResult r (λ h. all_rules_of h.rules.items ≡ rules) (λ fault. fault ≡ faults.Memory) → read ≡ objects → Whole objects rules r
both_only (Ok h) tokens cut read objects rules found only same = (found.0 ∙ same, only)
both_only (Err fault) tokens cut read objects rules found only same = only
