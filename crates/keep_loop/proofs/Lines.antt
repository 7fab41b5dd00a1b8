-- What files of text and zeros stand for.
use Rattle.std.proofs.Common.{◌≡◌, ◌≢◌, ◌⊎◌, inl, inr, ⊎_elim, ℕ, zero, suc, ◌+◌, ◌≤◌, List, [], ◌∷◌, ◌++◌, length, take, drop, refl, sym, ◌∙◌, ap, subst, arith, append_assoc, length-append, length-drop}
use Rattle.std.specs.Prelude.{Bool, true, false, cond}
use lib.ListN.{replicate}
use Rattle.std.proofs.lemmas.List.{append-nil, length-take-le}
use Rattle.std.proofs.lemmas.Bool.{cases_eq}
use Rattle.std.proofs.lemmas.Bool.Decides.{nat_tests}
use Rattle.keep_loop.specs.Device.{IsTorn, with_bytes}
use Rattle.keep_loop.specs.Journal.{written, has_end, whole, recovered, IsSolid, AreLines, Begins, IsBetween, IsLoose}

-- the bytes before the first that is 0

pub written_solid : (byte : ℕ) (file : List ℕ) → byte ≢ 0 → written (byte ∷ file) ≡ byte ∷ written file
written_solid byte file solid = grind (arith, nat_tests)

pub written_zero : (byte : ℕ) (file : List ℕ) → byte ≡ 0 → written (byte ∷ file) ≡ []
written_zero byte file none = grind (arith, nat_tests)

pub written_past : (text file : List ℕ) → IsSolid text → written (text ++ file) ≡ text ++ written file
written_past [] file solid = refl
written_past (byte ∷ text) file solid = written_solid byte (text ++ file) solid.0 ∙ ap (λ (l : List ℕ). byte ∷ l) (written_past text file solid.1)

pub written_blank : (room : ℕ) → written (replicate room 0) ≡ []
written_blank zero = refl
written_blank (suc room) = refl

-- whole lines

pub bool_cases : (b : Bool) → (b ≡ true) ⊎ (b ≡ false)
bool_cases true = inl refl
bool_cases false = inr refl

pub ends_on : (text more : List ℕ) → has_end text ≡ true → has_end (text ++ more) ≡ true
ends_on [] more ends = absurd (cc ends)
ends_on (byte ∷ text) more ends = elim (cases_eq byte 10) [
  | inl is ↦ grind (arith, nat_tests)
  | inr other ↦
      let later : has_end text ≡ true = grind (arith, nat_tests) in
      let there : has_end (text ++ more) ≡ true = ends_on text more later in
      grind (arith, nat_tests)
]

chosen : {A : Type 0} (b : Bool) (x y z : A) → cond b x y ≡ z → ((b ≡ true) × (x ≡ z)) ⊎ ((b ≡ false) × (y ≡ z))
chosen true x y z is = inl (refl, is)
chosen false x y z is = inr (refl, is)

pub whole_parts : (byte : ℕ) (text : List ℕ) → whole (byte ∷ text) ≡ byte ∷ text → (has_end (byte ∷ text) ≡ true) × (whole text ≡ text)
whole_parts byte text is = elim (chosen (has_end (byte ∷ text)) (byte ∷ whole text) [] (byte ∷ text) is) [
  | inl h ↦ (h.0, cc h.1)
  | inr h ↦ absurd (cc h.1)
]

pub whole_keeps : (byte : ℕ) (text : List ℕ) → has_end (byte ∷ text) ≡ true → whole (byte ∷ text) ≡ byte ∷ whole text
whole_keeps byte text ends = ap (λ b. cond b (byte ∷ whole text) []) ends

pub whole_past : (text more : List ℕ) → whole text ≡ text → whole (text ++ more) ≡ text ++ whole more
whole_past [] more is = refl
whole_past (byte ∷ text) more is =
    let parts = whole_parts byte text is in
    let on : has_end (byte ∷ (text ++ more)) ≡ true = ends_on (byte ∷ text) more parts.0 in
    whole_keeps byte (text ++ more) on ∙ ap (λ (l : List ℕ). byte ∷ l) (whole_past text more parts.1)

-- beginnings

pub begins_self : (text : List ℕ) → Begins text text
begins_self text = ([], sym (append-nil text))

pub begins_on : (a b c : List ℕ) → Begins a b → Begins b c → Begins a c
begins_on a b c ab bc = (ab.0 ++ bc.0, bc.1 ∙ ap (λ (l : List ℕ). l ++ bc.0) ab.1 ∙ append_assoc a ab.0 bc.0)

pub begins_behind : (front a b : List ℕ) → Begins a b → Begins (front ++ a) (front ++ b)
begins_behind front a b ab = (ab.0, ap (λ (l : List ℕ). front ++ l) ab.1 ∙ sym (append_assoc front a ab.0))

pub whole_begins : (text : List ℕ) → Begins (whole text) text
whole_begins [] = ([], refl)
whole_begins (byte ∷ text) =
    let later = whole_begins text in
    elim (bool_cases (has_end (byte ∷ text))) [
      | inl ends ↦ (later.0, ap (λ (l : List ℕ). byte ∷ l) later.1 ∙ ap (λ (l : List ℕ). l ++ later.0) (sym (whole_keeps byte text ends)))
      | inr none ↦ (byte ∷ text, ap (λ (l : List ℕ). l ++ byte ∷ text) (sym (ap (λ b. cond b (byte ∷ whole text) []) none)))
    ]

-- what a crash leaves of bytes that were written where 0 stood begins as they do

pub loose_begins : (bytes file : List ℕ) (room : ℕ) → IsLoose bytes file → Begins (written (file ++ replicate room 0)) bytes
loose_begins [] [] room loose = ([], sym (append-nil _) ∙ ap (λ (l : List ℕ). l ++ []) (sym (written_blank room)))
loose_begins [] (is ∷ file) room loose = absurd loose
loose_begins (byte ∷ bytes) [] room loose = absurd loose
loose_begins (byte ∷ bytes) (is ∷ file) room loose =
    let later = loose_begins bytes file room loose.1 in
    let tail = file ++ replicate room 0 in
    elim (cases_eq is 0) [
      | inl zero_here ↦ (byte ∷ bytes, ap (λ (l : List ℕ). l ++ byte ∷ bytes) (sym (written_zero is tail zero_here)))
      | inr solid ↦
          let same : is ≡ byte = ⊎_elim (λ none. absurd (solid none)) (λ s. s) loose.0 in
          (later.0, ap (λ (l : List ℕ). byte ∷ l) later.1 ∙ ap (λ (b : ℕ). b ∷ (written tail ++ later.0)) (sym same) ∙ ap (λ (l : List ℕ). l ++ later.0) (sym (written_solid is tail solid)))
    ]

pub loose_length : (bytes file : List ℕ) → IsLoose bytes file → length file ≡ length bytes
loose_length [] [] loose = refl
loose_length [] (is ∷ file) loose = absurd loose
loose_length (byte ∷ bytes) [] loose = absurd loose
loose_length (byte ∷ bytes) (is ∷ file) loose = ap suc (loose_length bytes file loose.1)

pub loose_append : (a b f g : List ℕ) → IsLoose a f → IsLoose b g → IsLoose (a ++ b) (f ++ g)
loose_append [] b [] g one two = two
loose_append [] b (is ∷ f) g one two = absurd one
loose_append (byte ∷ a) b [] g one two = absurd one
loose_append (byte ∷ a) b (is ∷ f) g one two = (one.0, loose_append a b f g one.1 two)

pub loose_none : (file : List ℕ) → IsLoose [] file → file ≡ []
loose_none [] loose = refl
loose_none (is ∷ file) loose = absurd loose

-- what a torn write leaves

torn_same : (file c : List ℕ) → IsTorn file file c → c ≡ file
torn_same [] [] torn = refl
torn_same [] (is ∷ c) torn = absurd torn
torn_same (byte ∷ file) [] torn = absurd torn
torn_same (byte ∷ file) (is ∷ c) torn =
    let same : is ≡ byte = ⊎_elim (λ s. s) (λ s. s) torn.0 in
    ap (λ (b : ℕ). b ∷ c) same ∙ ap (λ (l : List ℕ). byte ∷ l) (torn_same file c torn.1)

pub torn_front : (front old new c : List ℕ) → IsTorn (front ++ old) (front ++ new) c → (rest : List ℕ) × (c ≡ front ++ rest) × IsTorn old new rest
torn_front [] old new c torn = (c, refl, torn)
torn_front (byte ∷ front) old new [] torn = absurd torn
torn_front (byte ∷ front) old new (is ∷ c) torn =
    let same : is ≡ byte = ⊎_elim (λ s. s) (λ s. s) torn.0 in
    let later = torn_front front old new c torn.1 in
    (later.0, ap (λ (b : ℕ). b ∷ c) same ∙ ap (λ (l : List ℕ). byte ∷ l) later.1, later.2)

pub torn_blank : (lines c : List ℕ) (all room : ℕ) → all ≡ length lines + room → IsTorn (replicate all 0) (lines ++ replicate room 0) c →
    (more : List ℕ) × IsLoose lines more × (c ≡ more ++ replicate room 0)
torn_blank [] c all room is torn =
    let same : all ≡ room = omega (arith, is) in ([], tt, torn_same (replicate room 0) c (subst (λ (n : ℕ). IsTorn (replicate n 0) (replicate room 0) c) same torn))
torn_blank (byte ∷ lines) c zero room is torn = absurd (omega arith)
torn_blank (byte ∷ lines) [] (suc all) room is torn = absurd torn
torn_blank (byte ∷ lines) (here ∷ c) (suc all) room is torn =
    let later = torn_blank lines c all room (omega arith) torn.1 in
    (here ∷ later.0, (torn.0, later.1), ap (λ (l : List ℕ). here ∷ l) later.2)

-- solid texts and lines

pub solid_append : (a b : List ℕ) → IsSolid a → IsSolid b → IsSolid (a ++ b)
solid_append [] b one two = two
solid_append (byte ∷ a) b one two = (one.0, solid_append a b one.1 two)

pub lines_append : (a b : List ℕ) → AreLines a → AreLines b → AreLines (a ++ b)
lines_append a b one two = record {
  solid = solid_append a b one.solid two.solid;
  ended = whole_past a b one.ended ∙ ap (λ (l : List ℕ). a ++ l) two.ended;
}

pub no_lines : AreLines []
no_lines = record { solid = tt; ended = refl }

-- what a journal's file stands for

pub found : (stored rest : List ℕ) → AreLines stored → recovered (stored ++ rest) ≡ stored ++ recovered rest
found stored rest lines = ap whole (written_past stored rest lines.solid) ∙ whole_past stored (written rest) lines.ended

pub recovered_blank : (room : ℕ) → recovered (replicate room 0) ≡ []
recovered_blank room = ap whole (written_blank room)

pub recovered_file : (stored loose : List ℕ) (room : ℕ) → AreLines stored → AreLines loose → recovered (stored ++ loose ++ replicate room 0) ≡ stored ++ loose
recovered_file stored loose room one two =
    found (stored ++ loose) (replicate room 0) (lines_append stored loose one two) ∙ ap (λ (l : List ℕ). (stored ++ loose) ++ l) (recovered_blank room) ∙ append-nil (stored ++ loose)

pub between : (stored loose holes : List ℕ) (room : ℕ) → AreLines stored → IsLoose loose holes → IsBetween stored (stored ++ loose) (recovered (stored ++ holes ++ replicate room 0))
between stored loose holes room lines is_loose =
    let tail = holes ++ replicate room 0 in
    let is : recovered (stored ++ holes ++ replicate room 0) ≡ stored ++ recovered tail = ap recovered (append_assoc stored holes (replicate room 0)) ∙ found stored tail lines in
    let part : Begins (recovered tail) loose = begins_on _ _ _ (whole_begins (written tail)) (loose_begins loose holes room is_loose) in
    record {
      all_stored = (recovered tail, is);
      nothing_else = subst (λ l. Begins l (stored ++ loose)) (sym is) (begins_behind stored (recovered tail) loose part);
    }

-- what is recovered of any file are lines

written_solid_all : (file : List ℕ) → IsSolid (written file)
written_solid_all [] = tt
written_solid_all (byte ∷ file) = elim (cases_eq byte 0) [
  | inl none ↦ subst IsSolid (sym (written_zero byte file none)) tt
  | inr solid ↦ subst IsSolid (sym (written_solid byte file solid)) (solid, written_solid_all file)
]

whole_solid : (text : List ℕ) → IsSolid text → IsSolid (whole text)
whole_solid [] solid = tt
whole_solid (byte ∷ text) solid = elim (bool_cases (has_end (byte ∷ text))) [
  | inl ends ↦ subst IsSolid (sym (whole_keeps byte text ends)) (solid.0, whole_solid text solid.1)
  | inr none ↦ subst IsSolid (sym (ap (λ b. cond b (byte ∷ whole text) []) none)) tt
]

-- a line end is kept
pub whole_has : (text : List ℕ) → has_end text ≡ true → has_end (whole text) ≡ true
whole_has [] ends = absurd (cc ends)
whole_has (byte ∷ text) ends = elim (cases_eq byte 10) [
  | inl is ↦
      let here : has_end (byte ∷ whole text) ≡ true = grind (arith, nat_tests) in
      ap has_end (whole_keeps byte text ends) ∙ here
  | inr other ↦
      let later : has_end text ≡ true = grind (arith, nat_tests) in
      let there : has_end (whole text) ≡ true = whole_has text later in
      let here : has_end (byte ∷ whole text) ≡ true = grind (arith, nat_tests) in
      ap has_end (whole_keeps byte text ends) ∙ here
]

whole_twice : (text : List ℕ) → whole (whole text) ≡ whole text
whole_twice [] = refl
whole_twice (byte ∷ text) = elim (bool_cases (has_end (byte ∷ text))) [
  | inl ends ↦
      let kept : whole (byte ∷ text) ≡ byte ∷ whole text = whole_keeps byte text ends in
      let still : has_end (byte ∷ whole text) ≡ true = ap has_end (sym kept) ∙ whole_has (byte ∷ text) ends in
      ap whole kept ∙ whole_keeps byte (whole text) still ∙ ap (λ (l : List ℕ). byte ∷ l) (whole_twice text) ∙ sym kept
  | inr none ↦
      let kept : whole (byte ∷ text) ≡ [] = ap (λ b. cond b (byte ∷ whole text) []) none in
      ap whole kept ∙ sym kept
]

pub recovered_lines : (file : List ℕ) → AreLines (recovered file)
recovered_lines file = record { solid = whole_solid (written file) (written_solid_all file); ended = whole_twice (written file) }

-- a write that was cut short before its first byte, and one that was not

pub torn_old : (old new : List ℕ) → length old ≡ length new → IsTorn old new old
torn_old [] [] same = tt
torn_old [] (b ∷ new) same = absurd (omega (arith, same))
torn_old (a ∷ old) [] same = absurd (omega (arith, same))
torn_old (a ∷ old) (b ∷ new) same = (inl refl, torn_old old new (omega (arith, same)))

pub torn_new : (old new : List ℕ) → length old ≡ length new → IsTorn old new new
torn_new [] [] same = tt
torn_new [] (b ∷ new) same = absurd (omega (arith, same))
torn_new (a ∷ old) [] same = absurd (omega (arith, same))
torn_new (a ∷ old) (b ∷ new) same = (inr refl, torn_new old new (omega (arith, same)))

pub length-with_bytes : (at : ℕ) (bytes file : List ℕ) → at + length bytes ≤ length file → length file ≡ length (with_bytes at bytes file)
length-with_bytes at bytes file inside =
    omega (arith, inside, length-append (take at file ++ bytes) (drop (at + length bytes) file), length-append (take at file) bytes, length-take-le at file (omega (arith, inside)), length-drop (at + length bytes) file)
