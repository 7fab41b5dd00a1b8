-- Rules that are read: each operation that ends a hold ends one alone.
use Rattle.std.proofs.Common.{◌≡◌, ◌⊎◌, inl, inr, ◌∙◌, ap, sym, subst, refl, arith, ℕ, zero, suc, List, [], ◌∷◌, ◌++◌, length}
use Rattle.std.specs.Prelude.{Bool, true, false, ◌==◌, ◌||◌, if◌then◌else◌, Option, Some, None, slice_get}
use Rattle.std.proofs.lemmas.Bool.Decides.{eqb_tells}
use Rattle.std.proofs.lemmas.Option.{same_Some}
use Rattle.path_tree.specs.Known.{next}
use Rattle.path_tree.specs.Lexeme.{Lexeme}
use Rattle.token_read.specs.Series.{IsSeries, no_more, and_another}
use Rattle.decl_core.specs.ObjectForm.{OperationForm}
use Rattle.decl_core.specs.HoldForm.{HoldForm, EveryForm, is_one_of, named_in, ending_in}
use Rattle.guest_core.specs.Held.{hold_ended}
use Rattle.decl_read.specs.Holds.{IsUndo, IsNextUndo, IsUndos, IsHoldItem, IsEveryItem}
use Rattle.decl_read.specs.Holds.IsUndo.{undo}
use Rattle.decl_read.specs.Holds.IsNextUndo.{next_undo}
use Rattle.decl_read.specs.Holds.IsUndos.{undos}
use Rattle.decl_read.specs.Holds.IsHoldItem.{a_hold}
use Rattle.decl_read.specs.Holds.IsEveryItem.{an_every}
use Rattle.decl_read.specs.Holds.IsRules.{rules as are_rules}
use Rattle.decl_read.proofs.HoldSteps.{named_step, ending_step}
use Rattle.history_law.specs.Keeps.{ReadAreApart}

or_parts : (a b : Bool) → (a || b) ≡ false → (a ≡ false) × (b ≡ false)
or_parts true b is = absurd cc
or_parts false b is = (refl, is)

-- an operation that no hold names ends none
none_named : (holds : List HoldForm) (op : ℕ) → is_one_of (named_in holds) op ≡ false → hold_ended holds op ≡ None
none_named [] op is = refl
none_named (h ∷ holds) op is =
    let a = or_parts (h.op == op || is_one_of h.until op) (is_one_of (named_in holds) op) (sym (named_step h holds op) ∙ is) in
    let b = or_parts (h.op == op) (is_one_of h.until op) a.0 in
    ap (λ (x : Bool). if x then Some 0 else next (hold_ended holds op)) b.1 ∙ ap next (none_named holds op a.1)

none_ended : (holds : List HoldForm) (op : ℕ) → is_one_of (ending_in holds) op ≡ false → hold_ended holds op ≡ None
none_ended [] op is = refl
none_ended (h ∷ holds) op is =
    let b = or_parts (is_one_of h.until op) (is_one_of (ending_in holds) op) (sym (ending_step h holds op) ∙ is) in
    ap (λ (x : Bool). if x then Some 0 else next (hold_ended holds op)) b.0 ∙ ap next (none_ended holds op b.1)

next_some : (found : Option ℕ) (p : ℕ) → next found ≡ Some p → (q : ℕ) × (found ≡ Some q) × (p ≡ suc q)
next_some None p is = absurd cc
next_some (Some q) p is = (q, refl, cc)

-- what one of the first holds ends it ends among all
ended_front : (holds more : List HoldForm) (op p : ℕ) → hold_ended holds op ≡ Some p → hold_ended (holds ++ more) op ≡ Some p
ended_front [] more op p is = absurd cc
ended_front (h ∷ holds) more op p is = by (is_one_of h.until op) refl (λ q e. ended_front holds more op q e)
  where
    by : (b : Bool) → is_one_of h.until op ≡ b → ((q : ℕ) → hold_ended holds op ≡ Some q → hold_ended (holds ++ more) op ≡ Some q) → hold_ended (h ∷ (holds ++ more)) op ≡ Some p
    by true here on =
        ap (λ (x : Bool). if x then Some 0 else next (hold_ended (holds ++ more) op)) here
        ∙ sym (ap (λ (x : Bool). if x then Some 0 else next (hold_ended holds op)) here) ∙ is
    by false other on =
        let later : next (hold_ended holds op) ≡ Some p = sym (ap (λ (x : Bool). if x then Some 0 else next (hold_ended holds op)) other) ∙ is in
        let q = next_some (hold_ended holds op) p later in
        ap (λ (x : Bool). if x then Some 0 else next (hold_ended (holds ++ more) op)) other ∙ ap next (on q.0 q.1) ∙ ap (λ n. Some n) (sym q.2)

-- what none of the first ends the one behind them ends
ended_last : (holds : List HoldForm) (h : HoldForm) (op : ℕ) → hold_ended holds op ≡ None → is_one_of h.until op ≡ true → hold_ended (holds ++ h ∷ []) op ≡ Some (length holds)
ended_last [] h op none is = ap (λ (x : Bool). if x then Some 0 else next None) is
ended_last (g ∷ holds) h op none is = by (is_one_of g.until op) refl (λ e. ended_last holds h op e is)
  where
    by : (b : Bool) → is_one_of g.until op ≡ b → (hold_ended holds op ≡ None → hold_ended (holds ++ h ∷ []) op ≡ Some (length holds)) →
        hold_ended (g ∷ (holds ++ h ∷ [])) op ≡ Some (suc (length holds))
    by true here on =
        let some : ◌≡◌ {A = Option ℕ} (Some 0) None = sym (ap (λ (x : Bool). if x then Some 0 else next (hold_ended holds op)) here) ∙ none in
        absurd cc
    by false other on =
        let later : next (hold_ended holds op) ≡ None = sym (ap (λ (x : Bool). if x then Some 0 else next (hold_ended holds op)) other) ∙ none in
        ap (λ (x : Bool). if x then Some 0 else next (hold_ended (holds ++ h ∷ []) op)) other ∙ ap next (on (nothing (hold_ended holds op) later))
      where
        nothing : (found : Option ℕ) → next found ≡ None → found ≡ None
        nothing None e = refl
        nothing (Some q) e = absurd cc

or_true : (b : Bool) → (b || true) ≡ true
or_true true = refl
or_true false = refl

-- one of some is among them
is_among : (ops : List ℕ) (k op : ℕ) → slice_get ops k ≡ Some op → is_one_of ops op ≡ true
is_among [] k op is = absurd (grind (arith, is))
is_among (x ∷ ops) zero op is =
    let same : x ≡ op = same_Some x op is in
    elim (eqb_tells x op) [ inl e ↦ ap (λ (b : Bool). b || is_one_of ops op) e.0 | inr other ↦ absurd (other.1 same) ]
is_among (x ∷ ops) (suc k) op is = ap (λ (b : Bool). (x == op) || b) (is_among ops k op is) ∙ or_true (x == op)

-- each operation that ends one of these holds ends that one
abbrev Own : List HoldForm → Type 0
Own holds = (place : ℕ) (h : HoldForm) (k op : ℕ) → slice_get holds place ≡ Some h → slice_get h.until k ≡ Some op → hold_ended holds op ≡ Some place

-- a hold of the first, or the one behind them
front_or_last : (holds : List HoldForm) (last h : HoldForm) (place : ℕ) → slice_get (holds ++ last ∷ []) place ≡ Some h → (slice_get holds place ≡ Some h) ⊎ ((place ≡ length holds) × (last ≡ h))
front_or_last [] last h zero is = inr (refl, same_Some last h is)
front_or_last [] last h (suc place) is = absurd (grind (arith, is))
front_or_last (g ∷ holds) last h zero is = inl is
front_or_last (g ∷ holds) last h (suc place) is = more (front_or_last holds last h place is)
  where
    more : (slice_get holds place ≡ Some h) ⊎ ((place ≡ length holds) × (last ≡ h)) → (slice_get holds place ≡ Some h) ⊎ ((suc place ≡ suc (length holds)) × (last ≡ h))
    more (inl front) = inl front
    more (inr (same, is)) = inr (ap suc same, is)

one_more : (holds : List HoldForm) (last : HoldForm) → Own holds → ((k op : ℕ) → slice_get last.until k ≡ Some op → is_one_of (named_in holds) op ≡ false) → Own (holds ++ last ∷ [])
one_more holds last own fresh place h k op there one = by (front_or_last holds last h place there)
  where
    by : (slice_get holds place ≡ Some h) ⊎ ((place ≡ length holds) × (last ≡ h)) → hold_ended (holds ++ last ∷ []) op ≡ Some place
    by (inl front) = ended_front holds (last ∷ []) op place (own place h k op front one)
    by (inr (same, is)) =
        let at : slice_get last.until k ≡ Some op = ap (λ (x : HoldForm). slice_get x.until k) is ∙ one in
        ended_last holds last op (none_named holds op (fresh k op at)) (is_among last.until k op at) ∙ ap (λ n. Some n) (sym same)

-- none of these is named by holds
abbrev Fresh : List HoldForm → List ℕ → Type 0
Fresh holds ops = (k op : ℕ) → slice_get ops k ≡ Some op → is_one_of (named_in holds) op ≡ false

fresh_more : (holds : List HoldForm) (ops : List ℕ) (u : ℕ) → Fresh holds ops → is_one_of (named_in holds) u ≡ false → Fresh holds (ops ++ u ∷ [])
fresh_more holds [] u fresh is zero op there = subst (λ n. is_one_of (named_in holds) n ≡ false) (same_Some u op there) is
fresh_more holds [] u fresh is (suc k) op there = absurd (grind (arith, there))
fresh_more holds (x ∷ ops) u fresh is zero op there = fresh zero op there
fresh_more holds (x ∷ ops) u fresh is (suc k) op there = fresh_more holds ops u (λ m p q. fresh (suc m) p q) is k op there

module _ (operations : List OperationForm) (holds : List HoldForm) (own : ℕ) where
  undo_fresh : (before after : List ℕ) (ws rest : List Lexeme) → IsUndo operations holds own before ws after rest → Fresh holds before → Fresh holds after
  undo_fresh before after ws rest (undo {u = u} known free may) fresh =
      let a = or_parts (own == u || is_one_of (named_in holds) u) (is_one_of before u) free in
      fresh_more holds before u fresh (or_parts (own == u) (is_one_of (named_in holds) u) a.0).1

  next_fresh : (before after : List ℕ) (ws rest : List Lexeme) → IsNextUndo operations holds own before ws after rest → Fresh holds before → Fresh holds after
  next_fresh before after ws rest (next_undo {ws = vs} is) fresh = undo_fresh before after vs rest is fresh

  series_fresh : (begins : List Lexeme → Bool) (n : ℕ) (before after : List ℕ) (ws rest : List Lexeme) → IsSeries (IsNextUndo operations holds own) begins n before ws after rest →
      Fresh holds before → Fresh holds after
  series_fresh begins n before after ws rest (no_more none) fresh = fresh
  series_fresh begins n before after ws rest (and_another {t = mid} {vs = vs} another one more) fresh =
      series_fresh begins _ mid after vs rest more (next_fresh before mid ws vs one fresh)

  undos_fresh : (all : List ℕ) (ws rest : List Lexeme) → IsUndos operations holds own ws all rest → Fresh holds all
  undos_fresh all ws rest (undos {one = one} {vs = vs} first more) =
      series_fresh _ 32 one all vs rest more (undo_fresh [] one ws vs first (λ k op there. absurd (grind (arith, there))))

hold_own : (operations : List OperationForm) (before after : List HoldForm) (ws rest : List Lexeme) → IsHoldItem operations before ws after rest → Own before → Own after
hold_own operations before after ws rest (a_hold {op = op} {all = all} {any = any} {ws = vs} {vs = us} known free are any_way) own =
    one_more before (record { op = op; until = all; by_any = any }) own (undos_fresh operations before op all vs us are)

holds_own : (operations : List OperationForm) (begins : List Lexeme → Bool) (n : ℕ) (before after : List HoldForm) (ws rest : List Lexeme) → IsSeries (IsHoldItem operations) begins n before ws after rest →
    Own before → Own after
holds_own operations begins n before after ws rest (no_more none) own = own
holds_own operations begins n before after ws rest (and_another {t = mid} {vs = vs} another one more) own =
    holds_own operations begins _ mid after vs rest more (hold_own operations before mid ws vs one own)

-- what is called again and again ends none
abbrev EndNone : List HoldForm → List EveryForm → Type 0
EndNone holds everies = (place : ℕ) (e : EveryForm) → slice_get everies place ≡ Some e → hold_ended holds e.op ≡ None

none_more : (holds : List HoldForm) (everies : List EveryForm) (e : EveryForm) → EndNone holds everies → hold_ended holds e.op ≡ None → EndNone holds (everies ++ e ∷ [])
none_more holds [] e none is zero x there = ap (λ (y : EveryForm). hold_ended holds y.op) (sym (same_Some e x there)) ∙ is
none_more holds [] e none is (suc place) x there = absurd (grind (arith, there))
none_more holds (y ∷ everies) e none is zero x there = none zero x there
none_more holds (y ∷ everies) e none is (suc place) x there = none_more holds everies e (λ p z t. none (suc p) z t) is place x there

every_none : (operations : List OperationForm) (holds : List HoldForm) (before after : List EveryForm) (ws rest : List Lexeme) → IsEveryItem operations holds before ws after rest →
    EndNone holds before → EndNone holds after
every_none operations holds before after ws rest (an_every {n = n} {op = op} least most known free is) none =
    none_more holds before (record { seconds = n; op = op }) none (none_ended holds op is.ends_none)

everies_none : (operations : List OperationForm) (holds : List HoldForm) (begins : List Lexeme → Bool) (n : ℕ) (before after : List EveryForm) (ws rest : List Lexeme) →
    IsSeries (IsEveryItem operations holds) begins n before ws after rest → EndNone holds before → EndNone holds after
everies_none operations holds begins n before after ws rest (no_more finish) none = none
everies_none operations holds begins n before after ws rest (and_another {t = mid} {vs = vs} another one more) none =
    everies_none operations holds begins _ mid after vs rest more (every_none operations holds before mid ws vs one none)

pub read_are_apart : ReadAreApart
read_are_apart operations ws rules (are_rules {holds = holds} {everies = everies} {vs = vs} first more ends) = record {
  own = holds_own operations _ 16 [] holds ws vs first (λ place h k op there one. absurd (grind (arith, there)));
  none = everies_none operations holds _ 4 [] everies vs _ more (λ place e there. absurd (grind (arith, there)));
}
