-- What objects say of clients that are gone and of time is read exactly.
use Rattle.std.proofs.Common.{◌≡◌, ℕ, ◌<◌, ◌≤◌, Bool, true, false, cond, List, [], ◌∷◌, ◌++◌, length, map, Option, Some, None, refl, sym, ap, subst, ◌∙◌, append_assoc, arith}
use Rattle.std.proofs.lemmas.List.{append-nil, length-map}
use Rattle.path_tree.specs.declared.token.Symbol.TheVariants as symbols
use Rattle.path_tree.specs.Lexeme.{Lexeme, symbol}
use Rattle.path_tree.specs.Reading.{symbol_at}
use Rattle.path_tree.specs.Tokens.{Placed}
use Rattle.path_tree.proofs.Found.{symbol_found}
use Rattle.token_read.specs.Series.{IsSeries, series_at}
use Rattle.token_read.proofs.Exact.{Exact, bind_some}
use Rattle.decl_core.specs.ObjectForm.{OperationForm, ObjectForm}
use Rattle.decl_read.specs.Declarations.{is_object_word}
use Rattle.decl_parts.proofs.Fronts.{provided_is}
use Rattle.decl_read.proofs.Sources.{one_of_some}
use Rattle.decl_core.specs.HoldForm.{RulesForm, rules_with, no_rules}
use Rattle.decl_read.specs.declared.words.HoldKeyword.TheVariants as words
use Rattle.decl_read.specs.Words.{begins_word}
use Rattle.decl_read.specs.Holds.{IsHoldItem, IsEveryItem, IsRules, rules, ends_object}
use Rattle.decl_read.specs.HoldReading.{hold_in, every_in, rules_in}
use Rattle.decl_read.specs.Sections.{lexemes_in, begins_rules, behind_object, rules_at}
use Rattle.decl_read.specs.HeldSources.{IsRuled, AreRuled, no_object, an_object, ruled_in, at_last, all_rules_in}
use Rattle.decl_read.proofs.HoldsExact.{holds_exact, everies_exact}

rules_found : (operations : List OperationForm) (ws : List Lexeme) (r : RulesForm) → rules_in operations ws ≡ Some r → IsRules operations ws r
unfolding rules_in
rules_found operations ws r h =
    let hs = bind_some (series_at (hold_in operations) (begins_word words.Hold) 16 [] ws) _ r h in
    let es = bind_some (series_at (every_in operations hs.0.0) (begins_word words.Every) 4 [] hs.0.1) _ r hs.2 in
    let end = bind_some (symbol_at symbols.End es.0.1) _ r es.2 in
    let last = bind_some (symbol_at symbols.Semicolon end.0) _ r end.2 in
    let tested = provided_is (ends_object last.0) (rules_with hs.0.0 es.0.0) r last.2 in
    let closing : es.0.1 ≡ symbol symbols.End ∷ symbol symbols.Semicolon ∷ last.0 =
    symbol_found symbols.End es.0.1 end.0 end.1 ∙ ap (λ x. symbol symbols.End ∷ x) (symbol_found symbols.Semicolon end.0 last.0 last.1) in
    let held = (holds_exact 131072 operations 16 []).found ws hs.0.0 hs.0.1 hs.1 in
    let called = (everies_exact 131072 operations hs.0.0 4 []).found hs.0.1 es.0.0 es.0.1 es.1 in
    subst (λ x. IsRules operations ws x) tested.1
    (rules held (subst (λ x. IsSeries (IsEveryItem operations hs.0.0) (begins_word words.Every) 4 [] hs.0.1 es.0.0 x) closing called) tested.0)

rules_read : (operations : List OperationForm) (ws : List Lexeme) (r : RulesForm) → length ws < 131072 → IsRules operations ws r → rules_in operations ws ≡ Some r
unfolding rules_in
rules_read operations ws r long (rules {holds = holds} {everies = everies} {vs = vs} {rest = rest} hs es ends) =
    let short = (holds_exact 131072 operations 16 []).shorter ws holds vs hs in
    rw (
      (holds_exact 131072 operations 16 []).read ws holds vs long hs,
      (everies_exact 131072 operations holds 4 []).read vs everies (symbol symbols.End ∷ symbol symbols.Semicolon ∷ rest) (omega (arith, long, short)) es,
      ends,
    ) refl

-- what stands behind is shorter
behind_by : (b : Bool) (t : Placed) (ts own : List Placed) (o : Option (List Placed)) → (o ≡ Some own → length own ≤ length ts) → cond b (Some ts) o ≡ Some own → length own ≤ length (t ∷ ts)
behind_by true t ts own o f h = let e : ts ≡ own = one_of_some h in omega (arith, ap length e)
behind_by false t ts own o f h = omega (arith, f h)

behind_shorter : (ts own : List Placed) → behind_object ts ≡ Some own → length own ≤ length ts
behind_shorter [] own h = absurd cc
behind_shorter (t ∷ ts) own h = behind_by (is_object_word t.lexeme) t ts own (behind_object ts) (λ e. behind_shorter ts own e) h

at_by : (a b : Bool) (t : Placed) (ts own : List Placed) (o : Option (List Placed)) → (o ≡ Some own → length own ≤ length ts) → cond a None (cond b (Some (t ∷ ts)) o) ≡ Some own → length own ≤ length (t ∷ ts)
at_by true b t ts own o f h = absurd cc
at_by false true t ts own o f h = let e : t ∷ ts ≡ own = one_of_some h in omega (arith, ap length e)
at_by false false t ts own o f h = omega (arith, f h)

at_shorter : (ts own : List Placed) → rules_at ts ≡ Some own → length own ≤ length ts
at_shorter [] own h = absurd cc
at_shorter (t ∷ ts) own h = at_by (is_object_word t.lexeme) (begins_rules (lexemes_in (t ∷ ts))) t ts own (rules_at ts) (λ e. at_shorter ts own e) h

ruled_found : (o : ObjectForm) (at : Option (List Placed)) (r : RulesForm) → ruled_in o at ≡ Some r → IsRuled o at r
ruled_found o None r h = sym (one_of_some h)
ruled_found o (Some ts) r h = rules_found o.operations (lexemes_in ts) r h

ruled_read : (o : ObjectForm) (at : Option (List Placed)) (r : RulesForm) → ((ts : List Placed) → at ≡ Some ts → length ts < 131072) → IsRuled o at r → ruled_in o at ≡ Some r
ruled_read o None r long is = ap Some (sym is)
ruled_read o (Some ts) r long is = rules_read o.operations (lexemes_in ts) r (omega (arith, long ts refl, length-map ts (λ (t : Placed). t.lexeme))) is

last_found : (done all : List RulesForm) (ts : List Placed) (b : Option (List Placed)) → behind_object ts ≡ b → at_last done b ≡ Some all → (rs : List RulesForm) × (all ≡ done ++ rs) × AreRuled [] ts rs
last_found done all ts None is h = ([], sym (one_of_some h) ∙ sym (append-nil done), no_object is)
last_found done all ts (Some own) is h = absurd cc

pub all_found : (done : List RulesForm) (objects : List ObjectForm) (ts : List Placed) (all : List RulesForm) → all_rules_in done objects ts ≡ Some all → (rs : List RulesForm) × (all ≡ done ++ rs) × AreRuled objects ts rs
unfolding all_rules_in
all_found done [] ts all h = last_found done all ts (behind_object ts) refl h
all_found done (o ∷ objects) ts all h =
    let own = bind_some (behind_object ts) _ all h in
    let r = bind_some (ruled_in o (rules_at own.0)) _ all own.2 in
    let rest = all_found (done ++ r.0 ∷ []) objects own.0 all r.2 in
    (r.0 ∷ rest.0, rest.1 ∙ append_assoc done (r.0 ∷ []) rest.0, an_object own.1 (ruled_found o (rules_at own.0) r.0 r.1) rest.2)

pub all_read : (done : List RulesForm) (objects : List ObjectForm) (ts : List Placed) (rs : List RulesForm) → length ts < 131072 → AreRuled objects ts rs → all_rules_in done objects ts ≡ Some (done ++ rs)
unfolding all_rules_in
all_read done [] ts (r ∷ rs) long x4 = elim x4 [ ]
all_read done (o ∷ objects) ts [] long x4 = elim x4 [ ]
all_read done [] ts [] long (no_object is) = ap (at_last done) is ∙ ap Some (sym (append-nil done))
all_read done (o ∷ objects) ts (r ∷ rs) long (an_object {own = own} behind one others) =
    let short = behind_shorter ts own behind in
    let read : ruled_in o (rules_at own) ≡ Some r = ruled_read o (rules_at own) r (λ us e. omega (arith, long, short, at_shorter own us e)) one in
    rw (behind, read) (all_read (done ++ r ∷ []) objects own rs (omega (arith, long, short)) others ∙ ap Some (append_assoc done (r ∷ []) rs))
