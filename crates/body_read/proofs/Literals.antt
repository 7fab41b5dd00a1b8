-- Contents of strings, and levels.
use Rattle.std.proofs.Common.{◌≡◌, ℕ, zero, suc, ◌-◌, ◌≤◌, List, [], ◌∷◌, length, Bool, true, false, ◌&&◌, nat_le, Some, None, if◌then◌else◌, All, refl, arith}
use Rattle.std.proofs.lemmas.Bool.Decides.{nat_tests}
use Rattle.std.proofs.lemmas.List.Elements.{All-nil, All-cons, All-head, All-tail}
use Rattle.value_core.specs.Limits.{most_text_bytes}
use Rattle.value_core.specs.Plain.{IsPlain, IsText}
use Rattle.decl_core.specs.Form.{Form, a_text, literal}
use Rattle.body_read.specs.Reading.{all_plain, literal_of, level_of}

plain_all : (bytes : List ℕ) → All IsPlain bytes → all_plain bytes ≡ true
plain_all [] h = refl
plain_all (b ∷ bytes) h =
    let p = All-head IsPlain b bytes h in
    let low : nat_le 32 b ≡ true = grind (arith, nat_tests, p.0) in
    let high : nat_le b 126 ≡ true = grind (arith, nat_tests, p.1) in
    rw (low, high) (plain_all bytes (All-tail IsPlain b bytes h))

both : (a b c : Bool) → (a && b && c) ≡ true → (a ≡ true) × (b ≡ true) × (c ≡ true)
both true true true h = (refl, refl, refl)
both true true false h = absurd cc
both true false c h = absurd cc
both false b c h = absurd cc

all_plain_is : (bytes : List ℕ) → all_plain bytes ≡ true → All IsPlain bytes
all_plain_is [] h = All-nil IsPlain
all_plain_is (b ∷ bytes) h =
    let p = both (nat_le 32 b) (nat_le b 126) (all_plain bytes) h in
    let low : 32 ≤ b = grind (arith, nat_tests, p.0) in
    let high : b ≤ 126 = grind (arith, nat_tests, p.1) in
    All-cons IsPlain b bytes (low, high) (all_plain_is bytes p.2)

pub literal_some : (bytes : List ℕ) → IsText bytes → literal_of bytes ≡ Some (a_text (literal bytes))
unfolding literal_of
literal_some bytes h =
    let few : nat_le (length bytes) most_text_bytes ≡ true = grind (arith, nat_tests, h.few) in
    let plain : all_plain bytes ≡ true = plain_all bytes h.plain in
    rw (few, plain) refl

none_by : (a b : Bool) (f : Form) → ((a ≡ true) → (b ≡ true) → ⊥) → (if a && b then Some f else None) ≡ None
none_by true true f h = absurd (h refl refl)
none_by true false f h = refl
none_by false b f h = refl

pub literal_none : (bytes : List ℕ) → (IsText bytes → ⊥) → literal_of bytes ≡ None
unfolding literal_of
literal_none bytes never =
    none_by (nat_le (length bytes) most_text_bytes) (all_plain bytes) (a_text (literal bytes)) (λ few plain. never (record { few = grind (arith, nat_tests, few); plain = all_plain_is bytes plain }))

pub level_some : (depth : ℕ) → (depth ≡ 0 → ⊥) → level_of depth ≡ Some (depth - 1)
level_some zero h = absurd (h refl)
level_some (suc depth) h = let e : suc depth - 1 ≡ depth = omega arith in rw e refl

pub level_none : (depth : ℕ) → depth ≡ 0 → level_of depth ≡ None
level_none zero h = refl
level_none (suc depth) h = absurd (omega arith)

kept_by : (a b : Bool) (f g : Form) → (if a && b then Some f else None) ≡ Some g → (a ≡ true) × (b ≡ true) × (g ≡ f)
kept_by true true f g h = (refl, refl, cc)
kept_by true false f g h = absurd cc
kept_by false b f g h = absurd cc

pub literal_found : (bytes : List ℕ) (g : Form) → literal_of bytes ≡ Some g → IsText bytes × (g ≡ a_text (literal bytes))
unfolding literal_of
literal_found bytes g h =
    let k = kept_by (nat_le (length bytes) most_text_bytes) (all_plain bytes) (a_text (literal bytes)) g h in
    (record { few = grind (arith, nat_tests, k.0); plain = all_plain_is bytes k.1 }, k.2)
