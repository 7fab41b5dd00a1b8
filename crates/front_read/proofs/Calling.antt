-- Calls are read from the words that tell them.
use Rattle.std.proofs.Common.{◌≡◌, ℕ, List, [], ◌∷◌, sym, ap, ◌∙◌, subst}
use Rattle.std.specs.Prelude.{All, Option, Some, None, MatchOption, map}
use Rattle.std.specs.Global.{Vec}
use Rattle.std.proofs.lemmas.List.Elements.{All-cons, All-nil}
use Rattle.value_core.specs.declared.datum.Datum.{Datum}
use Rattle.value_core.specs.Datum.{IsDatum}
use Rattle.decl_core.specs.ObjectForm.{ObjectForm}
use Rattle.word_core.specs.Text.{operation_name}
use Rattle.word_core.specs.Words.{Word}
use Rattle.word_core.specs.Data.{datum_word, bare_of, data_of}
use Rattle.word_core.proofs.Clear.{written_data}
use Rattle.live_core.specs.Front.{Every, IsCall}
use Rattle.front_read.specs.Calls.{operation_in, IsAsked, asked_words, asked_of}
use Rattle.front_read.specs.Rows.{Finds}

pub some_same : {X : Type 0} {x y : X} → ◌≡◌ {A = Option X} (Some x) (Some y) → x ≡ y
some_same is = cc

pub not_some : {X : Type 0} (x : X) → ◌≡◌ {A = Option X} None (Some x) → ⊥
not_some x is = absurd cc

pub all_of : {X : Type 0} (P : X → Type 0) (xs : List X) → Every P xs → All P xs
all_of P [] each = All-nil P
all_of P (x ∷ xs) each = All-cons P x xs each.0 (all_of P xs each.1)

-- what the words of a call begin with
pub asked_read : (o : ObjectForm) (ws rest : List Word) (name : List ℕ) → ◌≡◌ {A = Option (List ℕ × List Word)} (Some (name, rest)) (bare_of ws) → (x : ℕ × List Datum) → IsAsked o x → ws ≡ asked_words o x
    → (name ≡ operation_name o x.0) × (data_of rest ≡ Some x.1)
asked_read o ws rest name first x is same =
    let e : ◌≡◌ {A = List ℕ × List Word} (name, rest) (operation_name o x.0, map datum_word x.1) = some_same (first ∙ ap bare_of same) in
    (ap (λ (p : List ℕ × List Word). p.0) e, ap (λ (p : List ℕ × List Word). data_of p.1) e ∙ (written_data x.1 (all_of IsDatum x.1 is.each)).2)

-- no arguments
pub not_asked : (o : ObjectForm) (ws rest : List Word) (name : List ℕ) → ◌≡◌ {A = Option (List ℕ × List Word)} (Some (name, rest)) (bare_of ws) → None ≡ data_of rest → (x : ℕ × List Datum) → IsAsked o x → ws ≡ asked_words o x
    → ◌≡◌ {A = Option (ℕ × List Datum)} None (Some x)
not_asked o ws rest name first none x is same = absurd (not_some x.1 (none ∙ (asked_read o ws rest name first x is same).1))

-- the call of a name
pub asked_by : (o : ObjectForm) (ws rest : List Word) (name : List ℕ) (arguments : List Datum) (found : Option (ℕ × Vec Datum)) → ◌≡◌ {A = Option (List ℕ × List Word)} (Some (name, rest)) (bare_of ws) → Some arguments ≡ data_of rest
    → MatchOption found ((op : ℕ) → IsCall o op arguments → operation_in o name ≡ Some op → ⊥) (λ r. IsCall o r.0 r.1.items × (operation_in o name ≡ Some r.0) × (r.1.items ≡ arguments)) → Finds (IsAsked o) (asked_words o) asked_of ws found
asked_by o ws rest name arguments None first args none = (
  (λ x is same.
      let read = asked_read o ws rest name first x is same in
      let these : arguments ≡ x.1 = some_same (args ∙ read.1) in
      absurd (none x.0 (subst (IsCall o x.0) (sym these) is) (ap (operation_in o) read.0 ∙ is.operation.first))),
  tt,
)
asked_by o ws rest name arguments (Some r) first args is = (
  (λ x its same.
      let read = asked_read o ws rest name first x its same in
      let these : r.1.items ≡ x.1 = is.2 ∙ some_same (args ∙ read.1) in
      let op : r.0 ≡ x.0 = some_same (sym is.1 ∙ ap (operation_in o) read.0 ∙ its.operation.first) in
      λ i. Some (op i, these i)),
  is.0,
)
