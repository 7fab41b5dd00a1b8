-- The beginning of a line.
use Rattle.std.proofs.Common.{◌≡◌, ◌≢◌, ℕ, ◌+◌, ◌-◌, ◌<◌, ◌≤◌, List, [], ◌∷◌, ◌++◌, length, get_or, take, drop, refl, sym, ◌∙◌, ap, subst, arith, append_assoc, length-drop, take-append-drop}
use Rattle.std.specs.Prelude.{Bool, true, false, cond, ◌==◌, ◌||◌}
use Rattle.std.proofs.lemmas.Bool.Decides.{nat_tests}
use Rattle.std.proofs.lemmas.List.{append-nil, drop-drop, drop_all, drop_more, take_more, get_or-drop, take-take, drop-take}
use Rattle.keep_loop.specs.Journal.{written, has_end, whole, recovered}

-- no byte is 0, and none ends a line
abbrev pub IsQuiet : List ℕ → Type 0
IsQuiet [] = Unit {0}
IsQuiet (byte ∷ text) = (byte ≢ 0) × (byte ≢ 10) × IsQuiet text

pub quiet_push : (text : List ℕ) (byte : ℕ) → IsQuiet text → byte ≢ 0 → byte ≢ 10 → IsQuiet (text ++ byte ∷ [])
quiet_push [] byte quiet solid inner = (solid, inner, tt)
quiet_push (b ∷ text) byte quiet solid inner = (quiet.0, quiet.1, quiet_push text byte quiet.2 solid inner)

or_true : (b : Bool) → b || true ≡ true
or_true true = refl
or_true false = refl

ends_behind : (byte : ℕ) (text : List ℕ) → has_end text ≡ true → has_end (byte ∷ text) ≡ true
ends_behind byte text ends = ap (λ b. byte == 10 || b) ends ∙ or_true (byte == 10)

pub none_ends : (text : List ℕ) → IsQuiet text → has_end text ≡ false
none_ends [] quiet = refl
none_ends (byte ∷ text) quiet = let later : has_end text ≡ false = none_ends text quiet.2 in grind (arith, nat_tests)

whole_none : (text : List ℕ) → has_end text ≡ false → whole text ≡ []
whole_none [] none = refl
whole_none (byte ∷ text) none = ap (λ b. cond b (byte ∷ whole text) []) none

written_quiet : (text file : List ℕ) → IsQuiet text → written (text ++ file) ≡ text ++ written file
written_quiet [] file quiet = refl
written_quiet (byte ∷ text) file quiet =
    let later : written (text ++ file) ≡ text ++ written file = written_quiet text file quiet.2 in
    let here : written (byte ∷ (text ++ file)) ≡ byte ∷ written (text ++ file) = grind (arith, nat_tests) in
    here ∙ ap (λ (l : List ℕ). byte ∷ l) later

-- nothing is whole where the file ends, or a 0 stands
pub quiet_end : (text : List ℕ) → IsQuiet text → recovered text ≡ []
quiet_end text quiet =
    ap recovered (sym (append-nil text)) ∙ ap whole (written_quiet text [] quiet ∙ append-nil text) ∙ whole_none text (none_ends text quiet)

pub quiet_zero : (text : List ℕ) (byte : ℕ) (file : List ℕ) → IsQuiet text → byte ≡ 0 → recovered (text ++ byte ∷ file) ≡ []
quiet_zero text byte file quiet is =
    let none : written (byte ∷ file) ≡ [] = grind (arith, nat_tests) in
    ap whole (written_quiet text (byte ∷ file) quiet ∙ ap (λ (l : List ℕ). text ++ l) none ∙ append-nil text) ∙ whole_none text (none_ends text quiet)

-- a line is whole where its end stands
pub line_ends : (text more : List ℕ) → has_end (text ++ 10 ∷ more) ≡ true
line_ends [] more = refl
line_ends (byte ∷ text) more = let later : has_end (text ++ 10 ∷ more) ≡ true = line_ends text more in ends_behind byte (text ++ 10 ∷ more) later

pub whole_line : (text more : List ℕ) → IsQuiet text → whole (text ++ 10 ∷ more) ≡ text ++ 10 ∷ whole more
whole_line [] more quiet = refl
whole_line (byte ∷ text) more quiet =
    let later : whole (text ++ 10 ∷ more) ≡ text ++ 10 ∷ whole more = whole_line text more quiet.2 in
    let ends : has_end (text ++ 10 ∷ more) ≡ true = line_ends text more in
    let here : has_end (byte ∷ (text ++ 10 ∷ more)) ≡ true = ends_behind byte (text ++ 10 ∷ more) ends in
    ap (λ b. cond b (byte ∷ whole (text ++ 10 ∷ more)) []) here ∙ ap (λ (l : List ℕ). byte ∷ l) later

pub quiet_line : (text : List ℕ) (byte : ℕ) (file : List ℕ) → IsQuiet text → byte ≡ 10 → recovered (text ++ byte ∷ file) ≡ text ++ byte ∷ recovered file
quiet_line text byte file quiet is =
    let ten : recovered (text ++ 10 ∷ file) ≡ text ++ 10 ∷ recovered file = ap whole (written_quiet text (10 ∷ file) quiet) ∙ whole_line text (written file) quiet in
    ap (λ (b : ℕ). recovered (text ++ b ∷ file)) is ∙ ten ∙ ap (λ (b : ℕ). text ++ b ∷ recovered file) (sym is)

-- a file is read up to at: whole lines up to size, and then the beginning of one
pub record Reads (file : List ℕ) (size at : ℕ) : Type 0 where
  pub order : size ≤ at
  pub lines : recovered file ≡ take size file ++ recovered (drop size file)
  pub quiet : IsQuiet (take (at - size) (drop size file))

pub reads_none : (file : List ℕ) → Reads file 0 0
reads_none file = record { order = omega arith; lines = refl; quiet = tt }

module _ (file : List ℕ) (size at : ℕ) (reads : Reads file size at) where
  abbrev line : List ℕ
  line = take (at - size) (drop size file)

  split : drop size file ≡ line ++ drop at file
  split =
      let order = reads.order in
      sym (take-append-drop (at - size) (drop size file)) ∙ ap (λ (l : List ℕ). line ++ l) (drop-drop (at - size) size file ∙ ap (λ (n : ℕ). drop n file) (omega (arith, order)))

  pub reads_more : at < length file → get_or file at 0 ≢ 0 → get_or file at 0 ≢ 10 → Reads file size (at + 1)
  reads_more inside solid inner =
      let order = reads.order in
      let here : get_or (drop size file) (at - size) 0 ≡ get_or file at 0 = get_or-drop size file (at - size) 0 ∙ ap (λ (n : ℕ). get_or file n 0) (omega (arith, order)) in
      let grown : take (at + 1 - size) (drop size file) ≡ line ++ get_or file at 0 ∷ [] =
      ap (λ (n : ℕ). take n (drop size file)) (omega (arith, order)) ∙ take_more (drop size file) (at - size) 0 (omega (arith, order, inside, length-drop size file)) ∙ ap (λ (b : ℕ). line ++ b ∷ []) here in
      record {
        order = omega (arith, order);
        lines = reads.lines;
        quiet = subst IsQuiet (sym grown) (quiet_push line (get_or file at 0) reads.quiet solid inner);
      }

  pub reads_line : at < length file → get_or file at 0 ≡ 10 → Reads file (at + 1) (at + 1)
  reads_line inside is =
      let order = reads.order in
      let byte = get_or file at 0 in
      let next : drop at file ≡ byte ∷ drop (at + 1) file = drop_more file at 0 inside in
      let rest : recovered (drop size file) ≡ line ++ byte ∷ recovered (drop (at + 1) file) =
      ap recovered (split ∙ ap (λ (l : List ℕ). line ++ l) next) ∙ quiet_line line byte (drop (at + 1) file) reads.quiet is in
      let before : take at file ≡ take size file ++ line =
      sym (take-append-drop size (take at file)) ∙ ap (λ (l : List ℕ). l ++ drop size (take at file)) (take-take size at file order)
      ∙ ap (λ (l : List ℕ). take size file ++ l) (ap (λ (n : ℕ). drop size (take n file)) (omega (arith, order)) ∙ drop-take size (at - size) file) in
      let front : take (at + 1) file ≡ take size file ++ (line ++ byte ∷ []) =
      take_more file at 0 inside ∙ ap (λ (l : List ℕ). l ++ byte ∷ []) before ∙ append_assoc (take size file) line (byte ∷ []) in
      let found : recovered file ≡ take (at + 1) file ++ recovered (drop (at + 1) file) =
      reads.lines ∙ ap (λ (l : List ℕ). take size file ++ l) (rest ∙ sym (append_assoc line (byte ∷ []) (recovered (drop (at + 1) file))))
      ∙ sym (append_assoc (take size file) (line ++ byte ∷ []) (recovered (drop (at + 1) file))) ∙ ap (λ (l : List ℕ). l ++ recovered (drop (at + 1) file)) (sym front) in
      let none : at + 1 - (at + 1) ≡ 0 = omega arith in
      record { order = omega arith; lines = found; quiet = subst (λ (n : ℕ). IsQuiet (take n (drop (at + 1) file))) (sym none) tt }

  pub reads_all : length file ≤ at → take size file ≡ recovered file
  reads_all past =
      let nothing : recovered (drop size file) ≡ [] = ap recovered (split ∙ ap (λ (l : List ℕ). line ++ l) (drop_all at file past) ∙ append-nil line) ∙ quiet_end line reads.quiet in
      sym (reads.lines ∙ ap (λ (l : List ℕ). take size file ++ l) nothing ∙ append-nil (take size file))

  pub reads_zero : at < length file → get_or file at 0 ≡ 0 → take size file ≡ recovered file
  reads_zero inside is =
      let nothing : recovered (drop size file) ≡ [] =
      ap recovered (split ∙ ap (λ (l : List ℕ). line ++ l) (drop_more file at 0 inside)) ∙ quiet_zero line (get_or file at 0) (drop (at + 1) file) reads.quiet is in
      sym (reads.lines ∙ ap (λ (l : List ℕ). take size file ++ l) nothing ∙ append-nil (take size file))
