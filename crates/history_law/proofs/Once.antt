-- Lines tell of one and the same steps.
use Rattle.std.proofs.Common.{◌≡◌, ◌∙◌, ap, sym, subst, refl, arith, ℕ, suc, ◌+◌, List, [], ◌∷◌, ◌++◌, length, append_assoc}
use Rattle.std.specs.Prelude.{false, ◌==◌}
use Rattle.std.proofs.lemmas.List.{length-append}
use Rattle.decl_core.specs.ObjectForm.{ObjectForm}
use Rattle.audit_core.specs.Steps.{Step, Begun, Heard}
use Rattle.audit_core.specs.EpochTells.{Tell}
use Rattle.audit_core.proofs.EpochExact.{tells_once}
use Rattle.recover_core.specs.Lines.{IsLine, AreLines, joined}
use Rattle.live_core.specs.Scene.{Scene}
use Rattle.live_core.specs.HostedSteps.{Steps}
use Rattle.history_law.specs.Named.{IsNamed}
use Rattle.history_law.specs.Happens.{all_happen}
use Rattle.history_law.specs.Stands.{Stands}
use Rattle.history_law.specs.Told.{heard_of}
use Rattle.history_law.proofs.WrittenTelling.{steps_are_told}
use Rattle.history_law.proofs.Going.{all_more}

pub no_end : (b : ℕ) → (b == 10) ≡ false → b ≡ 10 → ⊥
no_end b other is = let so : (10 == 10) ≡ false = subst (λ n. (n == 10) ≡ false) is other in cc

head_same : (x y : ℕ) (xs ys : List ℕ) → x ∷ xs ≡ y ∷ ys → (x ≡ y) × (xs ≡ ys)
head_same x y xs ys is = (cc, cc)

pub line_head : (b : ℕ) (line : List ℕ) → IsLine (b ∷ line) → (b == 10) ≡ false
line_head b line is = is 0 b (omega arith)

pub line_tail : (b : ℕ) (line : List ℕ) → IsLine (b ∷ line) → IsLine line
line_tail b line is = λ k d inside. is (suc k) d (omega (arith, inside))

-- the first line of a text is one
pub first_once : (a b x y : List ℕ) → IsLine a → IsLine b → a ++ 10 ∷ x ≡ b ++ 10 ∷ y → (a ≡ b) × (x ≡ y)
first_once [] [] x y la lb is = (refl, (head_same 10 10 x y is).1)
first_once [] (c ∷ b) x y la lb is = absurd (no_end c (line_head c b lb) (sym (head_same 10 c x (b ++ 10 ∷ y) is).0))
first_once (c ∷ a) [] x y la lb is = absurd (no_end c (line_head c a la) (head_same c 10 (a ++ 10 ∷ x) y is).0)
first_once (c ∷ a) (d ∷ b) x y la lb is =
    let h = head_same c d (a ++ 10 ∷ x) (b ++ 10 ∷ y) is in
    let on = first_once a b x y (line_tail c a la) (line_tail d b lb) h.1 in
    (ap (λ n. n ∷ a) h.0 ∙ ap (λ l. d ∷ l) on.0, on.1)

empty_no : (x : ℕ) (xs ys : List ℕ) → [] ≡ xs ++ x ∷ ys → ⊥
empty_no x [] ys is = cc
empty_no x (y ∷ xs) ys is = cc

-- and so are all
pub lines_once : (xs ys : List (List ℕ)) → AreLines xs → AreLines ys → joined xs ≡ joined ys → xs ≡ ys
lines_once [] [] ax ay is = refl
lines_once [] (y ∷ ys) ax ay is = absurd (empty_no 10 y (joined ys) (is ∙ append_assoc y (10 ∷ []) (joined ys)))
lines_once (x ∷ xs) [] ax ay is = absurd (empty_no 10 x (joined xs) (sym is ∙ append_assoc x (10 ∷ []) (joined xs)))
lines_once (x ∷ xs) (y ∷ ys) ax ay is =
    let two = first_once x y (joined xs) (joined ys) ax.0 ay.0 (sym (append_assoc x (10 ∷ []) (joined xs)) ∙ is ∙ append_assoc y (10 ∷ []) (joined ys)) in
    ap (λ (l : List ℕ). l ∷ xs) two.0 ∙ ap (λ (l : List (List ℕ)). y ∷ l) (lines_once xs ys ax.1 ay.1 two.1)

pub tell_once : (o : ObjectForm) (e : Begun) (heard : Heard) (xs : List (List ℕ)) (a b : Heard) → Tell o e heard xs a → Tell o e heard xs b → a ≡ b
tell_once o e heard [] a b first second = first ∙ sym second
tell_once o e heard (x ∷ xs) a b (mid, one, first) (other, two, second) =
    tell_once o e other xs a b (subst (λ h. Tell o e h xs a) (tells_once o e heard x mid other one two) first) second

longer : (x : Step) (xs zs : List Step) → zs ≡ x ∷ (xs ++ zs) → ⊥
longer x xs zs is =
    let long : length zs ≡ suc (length (xs ++ zs)) = ap length is in
    let both : length (xs ++ zs) ≡ length xs + length zs = length-append xs zs in
    omega (arith, long, both)

heads : (x y : Step) (xs ys : List Step) → x ∷ xs ≡ y ∷ ys → (x ≡ y) × (xs ≡ ys)
heads x y xs ys is = (cc, cc)

cancel_right : (xs ys zs : List Step) → xs ++ zs ≡ ys ++ zs → xs ≡ ys
cancel_right [] [] zs is = refl
cancel_right [] (y ∷ ys) zs is = absurd (longer y ys zs is)
cancel_right (x ∷ xs) [] zs is = absurd (longer x xs zs (sym is))
cancel_right (x ∷ xs) (y ∷ ys) zs is =
    let two = heads x y (xs ++ zs) (ys ++ zs) is in
    ap (λ (s : Step). s ∷ xs) two.0 ∙ ap (λ (l : List Step). y ∷ l) (cancel_right xs ys zs two.1)

-- what an object adds tells what happened to it, and nothing else
pub one_account : (o : ObjectForm) (e : Begun) (heard : Heard) (old a b : Scene) (lines : List ℕ) (x : Steps old lines a) (y : Steps old lines b) → IsNamed o → Stands o e heard old →
    all_happen x [] ≡ all_happen y []
one_account o e heard old a b lines x y named stands =
    let one = steps_are_told o e heard old a lines x named stands in
    let two = steps_are_told o e heard old b lines y named stands in
    let same : one.lines ≡ two.lines = lines_once one.lines two.lines one.each two.each (sym one.cut ∙ two.cut) in
    let told : heard_of (all_happen x heard.steps) ≡ heard_of (all_happen y heard.steps) =
    tell_once o e heard two.lines (heard_of (all_happen x heard.steps)) (heard_of (all_happen y heard.steps))
    (subst (λ (l : List (List ℕ)). Tell o e heard l (heard_of (all_happen x heard.steps))) same one.told) two.told in
    let steps : all_happen x heard.steps ≡ all_happen y heard.steps = ap (λ (h : Heard). h.steps) told in
    cancel_right (all_happen x []) (all_happen y []) heard.steps
    (sym (all_more old a lines x heard.steps) ∙ steps ∙ all_more old b lines y heard.steps)
