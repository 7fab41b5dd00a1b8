-- A source of the grammar without holds is read the same.
use Rattle.std.proofs.Common.{◌≡◌, ℕ, suc, ◌<◌, ◌≤◌, Bool, true, false, cond, not, ◌&&◌, List, [], ◌∷◌, ◌++◌, Option, Some, None, length, refl, sym, ap, subst, ◌∙◌, append_assoc, append-nil, length-append, arith}
use Rattle.std.specs.Prelude.{◌↔◌}
use Rattle.std.proofs.lemmas.List.{length-map}
use Rattle.path_tree.specs.declared.token.Symbol.TheVariants as symbols
use Rattle.path_tree.specs.Lexeme.{Lexeme, symbol, end_mark}
use Rattle.path_tree.specs.Tokens.{Placed, AreTokens, end_at}
use Rattle.path_tree.proofs.Gaps.{gap_le}
use Rattle.path_tree.proofs.TokenLists.{tokens_few, one_list}
use Rattle.token_read.specs.Series.{IsSeries, no_more, and_another}
use Rattle.decl_core.specs.ObjectForm.{ObjectForm}
use Rattle.decl_parts.specs.Declarations.{begins}
use Rattle.decl_read.specs.Declarations.{is_object_word, IsNextObject, next_object, IsFile, file}
use Rattle.decl_read.specs.Sources.{AreObjectsOf}
use Rattle.decl_read.specs.DeclarationReading.{file_in}
use Rattle.decl_read.proofs.Files.{file_read}
use Rattle.decl_read.proofs.Sources.{one_of_some}
use Rattle.decl_core.specs.HoldForm.{RulesForm, no_rules}
use Rattle.decl_read.specs.Sections.{lexemes_in, begins_rules, behind_object, rules_at, without, cut_by}
use Rattle.decl_read.specs.HeldSources.{AreRuled, no_object, an_object, IsRuled, AreHeldObjectsOf, SayNothing}
use Rattle.decl_read.specs.OldSources.{nothing_of_each}
use Rattle.decl_read.proofs.Ruled.{all_read}
use Rattle.decl_read.proofs.CalmTexts.{is_calm, behind_in, seen}
use Rattle.decl_read.proofs.CalmObjects.{ObjectSeen, object_seen}

calm_by : (b c : Bool) → (not b && c) ≡ true → c ≡ true
calm_by true c h = absurd cc
calm_by false c h = h

calm_behind : (w : Lexeme) (ws : List Lexeme) → is_calm (w ∷ ws) ≡ true → is_calm ws ≡ true
calm_behind w ws h = calm_by (begins_rules (w ∷ ws)) (is_calm ws) h

none_by : (a b c : Bool) (t : Placed) (ts : List Placed) → (c ≡ true → rules_at ts ≡ None) → (not b && c) ≡ true → cond a None (cond b (Some (t ∷ ts)) (rules_at ts)) ≡ None
none_by true b c t ts none h = refl
none_by false true c t ts none h = absurd cc
none_by false false c t ts none h = none h

-- where holds begin nowhere, none are found
none_found : (ts : List Placed) → is_calm (lexemes_in ts) ≡ true → rules_at ts ≡ None
none_found [] h = refl
none_found (t ∷ ts) h =
    none_by (is_object_word t.lexeme) (begins_rules (lexemes_in (t ∷ ts))) (is_calm (lexemes_in ts)) t ts (λ calm. none_found ts calm) h

whole_by : (b : Bool) (found : Option (List Placed)) (source : List ℕ) → found ≡ None → cond b (without found source) source ≡ source
whole_by true found source none = ap (λ x. without x source) none
whole_by false found source none = refl

-- and nothing is cut
pub nothing_cut : (ts : List Placed) (source : List ℕ) → is_calm (lexemes_in ts) ≡ true → cut_by ts source ≡ source
nothing_cut [] source h = refl
nothing_cut (t ∷ ts) source h =
    let calm = calm_behind t.lexeme (lexemes_in ts) h in
    ap (λ x. cut_by ts x) (whole_by (is_object_word t.lexeme) (rules_at ts) source (none_found ts calm)) ∙ nothing_cut ts source calm

-- tokens behind the next word `object`, by their lexemes
behind_by : (b : Bool) (ts : List Placed) (ws : List Lexeme) (found : Option (List Placed)) (behind : Option (List Lexeme)) →
    (behind ≡ Some ws → (own : List Placed) × (found ≡ Some own) × (lexemes_in own ≡ ws)) → cond b (Some (lexemes_in ts)) behind ≡ Some ws →
    (own : List Placed) × (cond b (Some ts) found ≡ Some own) × (lexemes_in own ≡ ws)
behind_by true ts ws found behind f h = (ts, refl, one_of_some h)
behind_by false ts ws found behind f h = f h

behind_found : (ts : List Placed) (ws : List Lexeme) → behind_in (lexemes_in ts) ≡ Some ws → (own : List Placed) × (behind_object ts ≡ Some own) × (lexemes_in own ≡ ws)
behind_found [] ws h = absurd cc
behind_found (t ∷ ts) ws h = behind_by (is_object_word t.lexeme) ts ws (behind_object ts) (behind_in (lexemes_in ts)) (λ e. behind_found ts ws e) h

nothing_by : (b : Bool) (ts : List Placed) (found : Option (List Placed)) (behind : Option (List Lexeme)) → (behind ≡ None → found ≡ None) → cond b (Some (lexemes_in ts)) behind ≡ None → cond b (Some ts) found ≡ None
nothing_by true ts found behind f h = absurd cc
nothing_by false ts found behind f h = f h

nothing_behind : (ts : List Placed) → behind_in (lexemes_in ts) ≡ None → behind_object ts ≡ None
nothing_behind [] h = refl
nothing_behind (t ∷ ts) h = nothing_by (is_object_word t.lexeme) ts (behind_object ts) (behind_in (lexemes_in ts)) (λ e. nothing_behind ts e) h

-- in objects one behind the other holds begin nowhere
objects_calm : (left : ℕ) (before : List ObjectForm) (ws : List Lexeme) (after : List ObjectForm) (rest : List Lexeme) → IsSeries IsNextObject (begins symbols.Object) left before ws after rest → is_calm rest ≡ true → is_calm ws ≡ true
objects_calm left before ws after rest (no_more is) h = h
objects_calm (suc left) before ws after rest (and_another {t = mid} {vs = vs} is (next_object {o = o} one new) others) h =
    let s = object_seen ws o vs one in
    ap is_calm s.stands ∙ ap (λ x. x.0) s.through ∙ objects_calm left mid vs after rest others h

-- objects that were read behind those before, each of which says nothing
record SayNone (before after : List ObjectForm) (ts : List Placed) : Type 0 where
  new : List ObjectForm
  grown : after ≡ before ++ new
  ruled : AreRuled new ts (nothing_of_each new)

say_none : (left : ℕ) (before : List ObjectForm) (ws : List Lexeme) (after : List ObjectForm) (rest : List Lexeme) → IsSeries IsNextObject (begins symbols.Object) left before ws after rest → seen rest ≡ (true, None) →
    (ts : List Placed) → seen (lexemes_in ts) ≡ seen ws → SayNone before after ts
say_none left before ws after rest (no_more is) last ts same =
    record { new = []; grown = sym (append-nil before); ruled = no_object (nothing_behind ts (ap (λ x. x.1) (same ∙ last))) }
say_none (suc left) before ws after rest (and_another {t = mid} {vs = vs} is (next_object {o = o} one new) others) last ts same =
    let s = object_seen ws o vs one in
    let found = behind_found ts s.own (ap (λ x. x.1) same ∙ ap behind_in s.stands) in
    let calm : is_calm (lexemes_in found.0) ≡ true = ap is_calm found.2 ∙ ap (λ x. x.0) s.through ∙ objects_calm left mid vs after rest others (ap (λ x. x.0) last) in
    let more = say_none left (before ++ o ∷ []) vs after rest others last found.0 (ap seen found.2 ∙ s.through) in
    record {
      new = o ∷ more.new;
      grown = more.grown ∙ append_assoc before (o ∷ []) more.new;
      ruled = an_object found.1 (subst (λ x. IsRuled o x no_rules) (sym (none_found found.0 calm)) refl) more.ruled;
    }

file_calm : (ws : List Lexeme) (objects : List ObjectForm) → IsFile ws objects → is_calm ws ≡ true
file_calm ws objects (file all) = objects_calm 16 [] ws objects (end_mark ∷ []) all refl

file_ruled : (ts : List Placed) (objects : List ObjectForm) → IsFile (lexemes_in ts) objects → AreRuled objects ts (nothing_of_each objects)
file_ruled ts objects (file all) =
    let none = say_none 16 [] (lexemes_in ts) objects (end_mark ∷ []) all refl ts refl in
    subst (λ x. AreRuled x ts (nothing_of_each x)) (sym none.grown) none.ruled

-- a source of the grammar without holds, as one with holds
pub old_is_held : (source : List ℕ) (objects : List ObjectForm) → AreObjectsOf source objects → AreHeldObjectsOf source objects (nothing_of_each objects)
old_is_held source objects p =
    let whole = nothing_cut p.tokens source (file_calm (lexemes_in p.tokens) objects p.is) in
    record {
      tokens = p.tokens;
      short = p.short;
      lexed = p.lexed;
      are = subst (λ x. AreObjectsOf x objects) (sym whole) p;
      ruled = file_ruled p.tokens objects p.is;
    }

-- a short source has few tokens
few_tokens : (source : List ℕ) (all : List Placed) → AreTokens source all → length source ≤ 65536 → length all < 131072
few_tokens source all h short =
    omega (arith, tokens_few source 0 h.last h.tokens h.in_order, gap_le source h.gap, ap length h.ends, length-append h.tokens (end_at (length source) ∷ []), short)

one_file : (source : List ℕ) (a b : List ObjectForm) → AreObjectsOf source a → AreObjectsOf source b → a ≡ b
one_file source a b p q =
    let same = one_list source p.tokens q.tokens p.lexed q.lexed in
    let few = few_tokens source p.tokens p.lexed p.short in
    let many = few_tokens source q.tokens q.lexed q.short in
    let first = file_read 131072 (lexemes_in p.tokens) a (omega (arith, few, length-map p.tokens (λ (t : Placed). t.lexeme))) p.is in
    let second = file_read 131072 (lexemes_in q.tokens) b (omega (arith, many, length-map q.tokens (λ (t : Placed). t.lexeme))) q.is in
    one_of_some (sym first ∙ ap (λ ts. file_in 131072 (lexemes_in ts)) same ∙ second)

one_ruling : (objects : List ObjectForm) (ts : List Placed) (a b : List RulesForm) → length ts < 131072 → AreRuled objects ts a → AreRuled objects ts b → a ≡ b
one_ruling objects ts a b few p q = one_of_some (sym (all_read [] objects ts a few p) ∙ all_read [] objects ts b few q)

-- and it has no others
old_alone : (source : List ℕ) (objects : List ObjectForm) → AreObjectsOf source objects → (read : List ObjectForm) (rules : List RulesForm) → AreHeldObjectsOf source read rules → (read ≡ objects) × (rules ≡ nothing_of_each objects)
old_alone source objects p read rules q =
    let same = one_list source q.tokens p.tokens q.lexed p.lexed in
    let whole = nothing_cut p.tokens source (file_calm (lexemes_in p.tokens) objects p.is) in
    let are = subst (λ x. AreObjectsOf x read) (ap (λ ts. cut_by ts source) same ∙ whole) q.are in
    let one : read ≡ objects = one_file source read objects are p in
    let ruled = subst (λ o. AreRuled o p.tokens rules) one (subst (λ ts. AreRuled read ts rules) same q.ruled) in
    (one, one_ruling objects p.tokens rules (nothing_of_each objects) (few_tokens source p.tokens p.lexed p.short) ruled (file_ruled p.tokens objects p.is))

nothing_said : (objects : List ObjectForm) → SayNothing (nothing_of_each objects)
nothing_said [] = tt
nothing_said (o ∷ objects) = (refl, nothing_said objects)

-- the objects that it has say nothing
pub old_say_nothing : (objects : List ObjectForm) (rules : List RulesForm) → rules ≡ nothing_of_each objects → SayNothing rules
old_say_nothing objects rules is = subst SayNothing (sym is) (nothing_said objects)

pub old_sources_stay : (source : List ℕ) (objects : List ObjectForm) → AreObjectsOf source objects → (read : List ObjectForm) (rules : List RulesForm) →
    AreHeldObjectsOf source read rules ↔ (read ≡ objects) × (rules ≡ nothing_of_each objects)
old_sources_stay source objects p read rules =
    (λ q. old_alone source objects p read rules q, λ same. subst (λ o. AreHeldObjectsOf source o rules) (sym same.0) (subst (λ r. AreHeldObjectsOf source objects r) (sym same.1) (old_is_held source objects p)))
