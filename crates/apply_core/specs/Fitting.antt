-- What an expression and a statement ask of the kinds of the parts that are there.
use Rattle.std.specs.Prelude.{◌≡◌, ℕ, ◌<◌, List, [], ◌∷◌, length, slice_index_or}
use Rattle.value_core.specs.declared.kind.Elem.{Elem}
use Rattle.value_core.specs.declared.kind.Elem.TheVariants as elem
use Rattle.value_core.specs.declared.kind.Kind.{Kind}
use Rattle.value_core.specs.declared.kind.Kind.TheVariants as kind
use Rattle.value_core.specs.Kinds.{sort_of, IsArray, IsQueue, IsTable}
use Rattle.decl_core.specs.declared.expr.Signed.{Signed}
use Rattle.decl_core.specs.declared.expr.Signed.TheVariants as signs
use Rattle.decl_core.specs.Form.{From, argument, element, oldest, under, Integers, number, integer_from, count, add}
use Rattle.decl_core.specs.Form.{subtract, Texts, literal, text_from, Form, an_integer, a_text, Condition, compare}
use Rattle.decl_core.specs.Form.{same_texts, other_texts, has, is_not, Statement, block, set_element, set_result}
use Rattle.decl_core.specs.Form.{append, take, store, erase, choose, refuse, Statements, nothing, first_and}
use Rattle.decl_core.specs.Sorts.{sort_of_form}
use Rattle.decl_core.specs.View.{integers_of}

-- the kind of a part
abbrev pub kind_at : List Kind → ℕ → Kind
kind_at kinds p = slice_index_or kinds p (kind.Array 0 elem.Integer)

-- a part is there, and its kind is such a one
pub record IsAt (kinds : List Kind) (Fits : Kind → Type 0) (p : ℕ) : Type 0 where
  pub there : p < length kinds
  pub fits : Fits (kind_at kinds p)

-- a part is there, its kind is such a one, and its elements are of this sort
pub record IsAtOf (kinds : List Kind) (Fits : Kind → Type 0) (p : ℕ) (sort : Elem) : Type 0 where
  pub at : IsAt kinds Fits p
  pub elements : sort_of (kind_at kinds p) ≡ sort

abbrev mutual
  pub FromFits : List Kind → From → Type 0
  FromFits kinds (argument k) = Unit {0}
  FromFits kinds (element p i) = IsAt kinds IsArray p × IntegersFit kinds i
  FromFits kinds (oldest p) = IsAt kinds IsQueue p
  FromFits kinds (under p k) = IsAt kinds IsTable p × TextsFit kinds k

  pub IntegersFit : List Kind → Integers → Type 0
  IntegersFit kinds (number n) = Unit {0}
  IntegersFit kinds (integer_from s) = FromFits kinds s
  IntegersFit kinds (count p) = p < length kinds
  IntegersFit kinds (add a b) = IntegersFit kinds a × IntegersFit kinds b
  IntegersFit kinds (subtract a b) = IntegersFit kinds a × IntegersFit kinds b

  pub TextsFit : List Kind → Texts → Type 0
  TextsFit kinds (literal bytes) = Unit {0}
  TextsFit kinds (text_from s) = FromFits kinds s

-- a term of a sum asks of the kinds of the parts what its integer asks of them
abbrev pub SignedFits : List Kind → Signed → Type 0
SignedFits kinds (signs.Plus e) = IntegersFit kinds (integers_of e)
SignedFits kinds (signs.Minus e) = IntegersFit kinds (integers_of e)

abbrev pub TermsFit : List Kind → List Signed → Type 0
TermsFit kinds [] = Unit {0}
TermsFit kinds (s ∷ rest) = SignedFits kinds s × TermsFit kinds rest

abbrev pub FormFits : List Kind → Form → Type 0
FormFits kinds (an_integer e) = IntegersFit kinds e
FormFits kinds (a_text e) = TextsFit kinds e

abbrev pub ConditionFits : List Kind → Condition → Type 0
ConditionFits kinds (compare r a b) = IntegersFit kinds a × IntegersFit kinds b
ConditionFits kinds (same_texts a b) = TextsFit kinds a × TextsFit kinds b
ConditionFits kinds (other_texts a b) = TextsFit kinds a × TextsFit kinds b
ConditionFits kinds (has p k) = IsAt kinds IsTable p × TextsFit kinds k
ConditionFits kinds (is_not c) = ConditionFits kinds c

abbrev mutual
  pub StatementFits : List Kind → Statement → Type 0
  StatementFits kinds (block all) = StatementsFit kinds all
  StatementFits kinds (set_element p i x) =
      IsAtOf kinds IsArray p (sort_of_form x) × IntegersFit kinds i × FormFits kinds x
  StatementFits kinds (set_result x) = FormFits kinds x
  StatementFits kinds (append p x) = IsAtOf kinds IsQueue p (sort_of_form x) × FormFits kinds x
  StatementFits kinds (take p) = IsAt kinds IsQueue p
  StatementFits kinds (store p k x) = IsAtOf kinds IsTable p (sort_of_form x) × TextsFit kinds k × FormFits kinds x
  StatementFits kinds (erase p k) = IsAt kinds IsTable p × TextsFit kinds k
  StatementFits kinds (choose c s u) = ConditionFits kinds c × StatementFits kinds s × StatementFits kinds u
  StatementFits kinds (refuse w) = Unit {0}

  pub StatementsFit : List Kind → Statements → Type 0
  StatementsFit kinds nothing = Unit {0}
  StatementsFit kinds (first_and s rest) = StatementFits kinds s × StatementsFit kinds rest
