-- What stands at the front is passed by its length.
use Rattle.std.proofs.Common.{◌≡◌, ℕ, ◌+◌, ◌<◌, ◌^◌, List, [], ◌++◌, ◌∷◌, drop, suc, zero, ◌≤◌, ◌-◌, length, refl, sym, ap, ◌∙◌, subst, arith, length-append}
use Rattle.std.specs.Int.{w16, w32, to_be_bytes}
use Rattle.std.specs.Prelude.{All}
use Rattle.std.specs.List.{flat_map}
use Rattle.value_core.specs.Plain.{IsText}
use Rattle.value_core.specs.declared.format.Format.TheVariants.{Second}
use Rattle.value_core.specs.declared.datum.Datum.{Datum}
use Rattle.value_core.specs.declared.datum.Datum.TheVariants as datum
use Rattle.value_core.specs.declared.kind.Elem.TheVariants as elem
use Rattle.value_core.specs.Datum.{IsElement}
use Rattle.value_bytes.specs.Spelling.{spelled_text, spelled_datum}
use Rattle.value_core.specs.declared.kind.Elem.{Elem}
use Rattle.value_core.proofs.TableRows.{head, tail}
use Rattle.value_bytes.proofs.Apart.{fronts, text_behind, integer_apart, other_sort}

-- behind its length a text is cut off, where it stands there
pub cut_text : (bytes behind front later t rest : List ℕ) (n : ℕ) → bytes ≡ to_be_bytes w16 n ++ behind → n < 2 ^ 16 → behind ≡ front ++ later → length front ≡ n → IsText t → bytes ≡ spelled_text t ++ rest → (front ≡ t) × (later ≡ rest)
cut_text bytes behind front later t rest n at small cut long is spelled =
    let told = text_behind Second n behind t rest small is (sym at ∙ spelled) in
    fronts front t later rest (long ∙ told.0) (sym cut ∙ told.1)

-- where fewer bytes are left than its length says, none stands there
pub no_text_there : (bytes behind t rest : List ℕ) (n : ℕ) → bytes ≡ to_be_bytes w16 n ++ behind → n < 2 ^ 16 → length behind < n → IsText t → bytes ≡ spelled_text t ++ rest → ⊥
no_text_there bytes behind t rest n at small few is spelled =
    let told = text_behind Second n behind t rest small is (sym at ∙ spelled) in
    let long : length behind ≡ length t + length rest = ap length told.1 ∙ length-append t rest in
    omega (arith, few, told.0, long)

-- an integer is cut off
pub cut_integer : (bytes later rest : List ℕ) (n : ℕ) (d : Datum) → bytes ≡ to_be_bytes w32 n ++ later → n < 2 ^ 32 → IsElement elem.Integer d → bytes ≡ spelled_datum d ++ rest → later ≡ rest
cut_integer bytes later rest n (datum.Integer m) at small is spelled = (integer_apart n m later rest small is.datum (sym at ∙ spelled)).1
cut_integer bytes later rest n (datum.Text t) at small is spelled = absurd (other_sort elem.Integer refl is.sort)

pub as_text : (bytes later : List ℕ) → ((t rest : List ℕ) → IsText t → bytes ≡ spelled_text t ++ rest → later ≡ rest) → (d : Datum) (rest : List ℕ) → IsElement elem.Text d → bytes ≡ spelled_datum d ++ rest → later ≡ rest
as_text bytes later each (datum.Integer n) rest is spelled = absurd (other_sort elem.Text is.sort refl)
as_text bytes later each (datum.Text t) rest is spelled = each t rest is.datum spelled

-- the text that was cut off is the element
pub text_is : (bytes front : List ℕ) → ((t rest : List ℕ) → IsText t → bytes ≡ spelled_text t ++ rest → front ≡ t) → (d : Datum) (rest : List ℕ) → IsElement elem.Text d → bytes ≡ spelled_datum d ++ rest → datum.Text front ≡ d
text_is bytes front each (datum.Integer n) rest is spelled = absurd (other_sort elem.Text is.sort refl)
text_is bytes front each (datum.Text t) rest is spelled = ap datum.Text (each t rest is.datum spelled)

-- where no text stands, none stands as an element
pub no_text_is : (bytes : List ℕ) → ((t rest : List ℕ) → IsText t → bytes ≡ spelled_text t ++ rest → ⊥) → (d : Datum) (rest : List ℕ) → IsElement elem.Text d → bytes ≡ spelled_datum d ++ rest → ⊥
no_text_is bytes none (datum.Integer n) rest is spelled = absurd (other_sort elem.Text is.sort refl)
no_text_is bytes none (datum.Text t) rest is spelled = none t rest is.datum spelled

-- an integer that was read is the element
pub integer_is : (bytes later rest : List ℕ) (n : ℕ) (d : Datum) → bytes ≡ to_be_bytes w32 n ++ later → n < 2 ^ 32 → IsElement elem.Integer d → bytes ≡ spelled_datum d ++ rest → datum.Integer n ≡ d
integer_is bytes later rest n (datum.Integer m) at small is spelled = ap datum.Integer (integer_apart n m later rest small is.datum (sym at ∙ spelled)).0
integer_is bytes later rest n (datum.Text t) at small is spelled = absurd (other_sort elem.Integer refl is.sort)

step : {X : Type 0} (xs : List X) (i : ℕ) → i < length xs → (x : X) × (drop i xs ≡ x ∷ drop (suc i) xs)
step [] i less = absurd (omega (arith, less))
step (x ∷ xs) zero less = (x, refl)
step (x ∷ xs) (suc i) less = step xs i (omega (arith, less))

one_up : (i : ℕ) → suc i ≡ i + 1
one_up i = omega arith

-- behind these elements stands the next one
pub next_of : {X : Type 0} (xs : List X) (i : ℕ) → i < length xs → (x : X) × (drop i xs ≡ x ∷ drop (i + 1) xs)
next_of xs i less =
    let at = step xs i less in
    (at.0, at.1 ∙ ap (λ n. at.0 ∷ drop n xs) (one_up i))

pub each_from : (P : Datum → Type 0) (xs : List Datum) (i : ℕ) → All P xs → All P (drop i xs)
each_from P [] zero each = each
each_from P [] (suc i) each = each
each_from P (x ∷ xs) zero each = each
each_from P (x ∷ xs) (suc i) each = each_from P xs i (tail P x xs each)

-- so many elements stand before these bytes, where there are so many
abbrev pub IsBehind : Elem → List ℕ → List ℕ → ℕ → ℕ → Type 0
IsBehind e bytes rest place count =
    (xs : List Datum) → All (IsElement e) xs → bytes ≡ flat_map spelled_datum xs → count ≤ length xs → rest ≡ flat_map spelled_datum (drop place xs)

-- what stands next of them
pub stands_next : (e : Elem) (bytes rest : List ℕ) (place count : ℕ) → IsBehind e bytes rest place count → place < count → (xs : List Datum) → All (IsElement e) xs → bytes ≡ flat_map spelled_datum xs → count ≤ length xs
    → (x : Datum) × IsElement e x × (rest ≡ spelled_datum x ++ flat_map spelled_datum (drop (place + 1) xs))
stands_next e bytes rest place count so less xs each spelled few =
    let next = next_of xs place (omega (arith, less, few)) in
    (next.0, head (IsElement e) next.0 (drop (place + 1) xs) (subst (All (IsElement e)) next.1 (each_from (IsElement e) xs place each)), so xs each spelled few ∙ ap (λ ys. flat_map spelled_datum ys) next.1)

pub one_passed : (e : Elem) (bytes rest next : List ℕ) (place count : ℕ) → IsBehind e bytes rest place count → place < count → ((d : Datum) (r : List ℕ) → IsElement e d → rest ≡ spelled_datum d ++ r → next ≡ r) → IsBehind e bytes next (place + 1) count
one_passed e bytes rest next place count so less skipped = λ xs each spelled few.
    let at = stands_next e bytes rest place count so less xs each spelled few in
    skipped at.0 (flat_map spelled_datum (drop (place + 1) xs)) at.1 at.2

pub none_to_pass : (e : Elem) (bytes rest : List ℕ) (place count : ℕ) → IsBehind e bytes rest place count → place < count → ((d : Datum) (r : List ℕ) → IsElement e d → rest ≡ spelled_datum d ++ r → ⊥) → (xs : List Datum) → All (IsElement e) xs → bytes ≡ flat_map spelled_datum xs → count ≤ length xs → ⊥
none_to_pass e bytes rest place count so less none xs each spelled few =
    let at = stands_next e bytes rest place count so less xs each spelled few in
    none at.0 (flat_map spelled_datum (drop (place + 1) xs)) at.1 at.2

-- the bytes before the end
pub before_end : (bytes rest front first last : List ℕ) → bytes ≡ first ++ last → length first ≡ length bytes - length rest → bytes ≡ front ++ rest → first ≡ front
before_end bytes rest front first last cut long parts =
    let sum : length bytes ≡ length front + length rest = ap length parts ∙ length-append front rest in
    (fronts first front last rest (omega (arith, long, sum)) (sym cut ∙ parts)).0
