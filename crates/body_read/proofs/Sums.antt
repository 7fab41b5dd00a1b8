-- One step of reading a sum.
use Rattle.std.proofs.Common.{◌≡◌, ℕ, zero, suc, ◌-◌, ◌+◌, ◌≤◌, ◌<◌, Bool, List, [], ◌∷◌, ◌++◌, Option, Some, None, refl, sym, ◌∙◌, arith}
use Rattle.path_tree.specs.Lexeme.{Lexeme}
use Rattle.token_read.specs.declared.text_fault.TextFault.{TextFault}
use Rattle.decl_core.specs.declared.expr.Signed.{Signed}
use Rattle.decl_core.specs.Form.{Form, Integers}
use Rattle.decl_core.specs.View.{with_term, total_of_list}
use Rattle.token_read.specs.Reader.{Fails, Reader}
use Rattle.token_read.proofs.Steps.{by_fault}
use Rattle.token_read.specs.Names.{Names, sign_at}
use Rattle.body_read.specs.Reading.{integer_form, combined, term_in, with_more, more_at, expr_in, nested_at}

pub nested_step : (names : Names) (most depth : ℕ) (ws : List Lexeme) → 0 < depth →
    nested_at names most depth ws ≡ expr_in (term_in names (nested_at names most (depth - 1)) (depth - 1)) most ws
unfolding nested_at
nested_step names most zero ws h = absurd (omega arith)
nested_step names most (suc depth) ws h = let e : suc depth - 1 ≡ depth = omega arith in rw e refl

pub nested_none : (names : Names) (most depth : ℕ) (ws : List Lexeme) → depth ≡ 0 → nested_at names most depth ws ≡ None
unfolding nested_at
nested_none names most zero ws h = refl
nested_none names most (suc depth) ws h = absurd (omega arith)

-- one term more
pub one_more : (first : Integers) (terms : List Signed) (last : Signed) → total_of_list first (terms ++ last ∷ []) ≡ with_term (total_of_list first terms) last
one_more first [] last = refl
one_more first (s ∷ rest) last = one_more (with_term first s) rest last

-- the answer of a sum that is being read
abbrev pub IsSum : Reader Form → ℕ → Integers → List Lexeme → Option (Integers × List Lexeme) → Type 0
IsSum term left sum ws total = more_at term left sum ws ≡ total

step : (term : Reader Form) (most i : ℕ) (sum : Integers) (ws : List Lexeme) → i < most → more_at term (most - i) sum ws ≡ with_more (more_at term (most - (i + 1))) term sum ws (sign_at ws)
unfolding more_at
step term most i sum ws lt = let n : most - i ≡ suc (most - (i + 1)) = omega arith in rw n refl

pub sum_ends : (term : Reader Form) (most i : ℕ) (sum : Integers) (ws : List Lexeme) (total : Option (Integers × List Lexeme)) → i < most → sign_at ws ≡ None → IsSum term (most - i) sum ws total → total ≡ Some (sum, ws)
unfolding with_more
sum_ends term most i sum ws total lt none so_far = sym so_far ∙ step term most i sum ws lt ∙ rw none refl

pub sum_goes_on : (term : Reader Form) (most i : ℕ) (sum f : Integers) (x : Form) (plus : Bool) (ws behind after : List Lexeme) (total : Option (Integers × List Lexeme)) → i < most → sign_at ws ≡ Some (plus, behind) →
    term behind ≡ Some (x, after) → integer_form x ≡ Some f → IsSum term (most - i) sum ws total → IsSum term (most - (i + 1)) (combined plus sum f) after total
unfolding with_more
sum_goes_on term most i sum f x plus ws behind after total lt op read is so_far = sym (step term most i sum ws lt ∙ rw (op, read, is) refl) ∙ so_far

pub term_fails : (e : TextFault) (term : Reader Form) (most i : ℕ) (sum : Integers) (plus : Bool) (ws behind : List Lexeme) (total : Option (Integers × List Lexeme)) → i < most → sign_at ws ≡ Some (plus, behind) →
    Fails e (term behind) → IsSum term (most - i) sum ws total → Fails e total
unfolding with_more
term_fails e term most i sum plus ws behind total lt op fails so_far =
    let f : (term behind ≡ None) → (total ≡ None) = λ none. sym so_far ∙ step term most i sum ws lt ∙ rw (op, none) refl in
    by_fault e (term behind) total fails f

pub kind_fails : (e : TextFault) (term : Reader Form) (most i : ℕ) (sum : Integers) (x : Form) (plus : Bool) (ws behind after : List Lexeme) (total : Option (Integers × List Lexeme)) → i < most → sign_at ws ≡ Some (plus, behind) →
    term behind ≡ Some (x, after) → Fails e (integer_form x) → IsSum term (most - i) sum ws total → Fails e total
unfolding with_more
kind_fails e term most i sum x plus ws behind after total lt op read fails so_far =
    let f : (integer_form x ≡ None) → (total ≡ None) = λ none. sym so_far ∙ step term most i sum ws lt ∙ rw (op, read, none) refl in
    by_fault e (integer_form x) total fails f

pub sum_over : (term : Reader Form) (most i : ℕ) (sum : Integers) (ws : List Lexeme) (total : Option (Integers × List Lexeme)) → most ≤ i → IsSum term (most - i) sum ws total → total ≡ None
unfolding more_at
sum_over term most i sum ws total le so_far = let n : most - i ≡ 0 = omega arith in sym so_far ∙ rw n refl
