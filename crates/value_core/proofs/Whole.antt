-- A run over a reader, from one read to the next.
use Rattle.std.proofs.Common.{◌≡◌, ℕ, ◌+◌, Bool, true, false, Option, Some, None, List, [], ◌∷◌, ◌++◌, length, take, refl, sym, ap, ◌∙◌, subst, append_assoc, arith, length-append}
use Rattle.std.specs.Prelude.{unwrap_or}
use Rattle.std.specs.Str.Lines.{lines}
use Rattle.std.specs.Io.KnownBytes.{Appends, Consumes, Keeps, IsAtEnd}
use Rattle.std.proofs.lemmas.List.{append-nil}
use Rattle.std.proofs.Math.Seq.{take-length, take-append-add}
use Rattle.value_core.specs.Runs.{Runs, Cuts, Fed, Finished}
use Rattle.value_core.specs.Ends.{Ends, Answered, Begins}
use Rattle.value_core.specs.declared.machine.LinesEnd.TheVariants as ends
use Rattle.value_core.proofs.Cutting.{Cuts-none, Cuts-then}
use Rattle.value_core.proofs.Known.{Appends-none, Appends-then, Consumes-none, Consumes-kept, Consumes-then}

-- one run after another
pub Runs-append : {S : Type 0} (gives : S → ℕ → List ℕ → List ℕ → Bool → S → Type 0) (old : S) (number : ℕ) (whole : List (List ℕ)) (text : List ℕ) (mid : S) (others : List (List ℕ)) (more : List ℕ) (new : S)
    → Runs gives old number whole text mid → Runs gives mid (number + length whole) others more new → Runs gives old number (whole ++ others) (text ++ more) new
Runs-append gives old number [] text mid others more new (none, same) second =
    let at : number + 0 ≡ number = omega arith in
    let from_old : Runs gives old (number + 0) others more new = subst (λ m. Runs gives m (number + 0) others more new) same second in
    rw none (rw at at from_old)
Runs-append gives old number (line ∷ whole) text mid others more new (first, rest, next, same, step, runs) second =
    let at : number + length (line ∷ whole) ≡ (number + 1) + length whole = omega arith in
    let moved : Runs gives mid ((number + 1) + length whole) others more new = rw at at second in
    (first, rest ++ more, next, (rw same (append_assoc first rest more)), step, Runs-append gives next (number + 1) whole rest mid others more new runs moved)

-- what stands before a read: the lines so far are answered, and the answers written
pub record Sofar {S : Type 0} (gives : S → ℕ → List ℕ → List ℕ → Bool → S → Type 0) (old : S) (unread sent : Option (List ℕ)) (new : S) (unread' sent' : Option (List ℕ)) (number : ℕ) (held : List ℕ) : Type 0 where
  pub text : List ℕ
  pub whole : List (List ℕ)
  pub written : List ℕ
  pub consumed : Consumes unread unread' text
  pub told : Appends sent sent' written
  pub cuts : Cuts text whole held
  pub runs : Runs gives old 1 whole written new
  pub counted : number ≡ 1 + length whole

pub Sofar-none : {S : Type 0} (gives : S → ℕ → List ℕ → List ℕ → Bool → S → Type 0) (old : S) (unread sent : Option (List ℕ))
    → Sofar gives old unread sent old unread sent 1 []
Sofar-none gives old unread sent = record {
  text = [];
  whole = [];
  written = [];
  consumed = Consumes-none unread;
  told = Appends-none sent;
  cuts = Cuts-none [];
  runs = (refl, refl);
  counted = refl;
}

-- one more piece
pub Sofar-more : {S : Type 0} (gives : S → ℕ → List ℕ → List ℕ → Bool → S → Type 0) (old : S) (unread sent : Option (List ℕ)) (mid : S) (unread' sent' : Option (List ℕ)) (number : ℕ) (held piece answers : List ℕ) (new : S) (unread'' sent'' : Option (List ℕ)) (next : ℕ) (holds : List ℕ)
    → Sofar gives old unread sent mid unread' sent' number held → Consumes unread' unread'' piece → Appends sent' sent'' answers
    → Fed gives mid number (held ++ piece) true answers new next holds
    → Sofar gives old unread sent new unread'' sent'' next holds
Sofar-more gives old unread sent mid unread' sent' number held piece answers new unread'' sent'' next holds s consumed told (others, cuts, runs, counted) =
    let runs' : Runs gives mid (1 + length s.whole) others answers new = rw (sym s.counted) runs in
    record {
      text = s.text ++ piece;
      whole = s.whole ++ others;
      written = s.written ++ answers;
      consumed = Consumes-then unread unread' unread'' s.text piece s.consumed consumed;
      told = Appends-then sent sent' sent'' s.written answers s.told told;
      cuts = Cuts-then s.text s.whole held piece others holds s.cuts cuts;
      runs = Runs-append gives old 1 s.whole s.written mid others answers new s.runs runs';
      counted = omega (arith, length-append s.whole others, s.counted, counted);
    }

-- nothing is known to be left
pub nothing_left : (unread : Option (List ℕ)) → IsAtEnd unread → unwrap_or unread [] ≡ []
nothing_left None end = refl
nothing_left (Some xs) end = end

-- a line of the piece stops the run
pub Sofar-stops : {S : Type 0} (gives : S → ℕ → List ℕ → List ℕ → Bool → S → Type 0) (old : S) (unread sent : Option (List ℕ)) (mid : S) (unread' sent' : Option (List ℕ)) (number : ℕ) (held piece answers : List ℕ) (new : S) (unread'' sent'' : Option (List ℕ)) (next : ℕ) (holds : List ℕ)
    → Sofar gives old unread sent mid unread' sent' number held → Consumes unread' unread'' piece → Appends sent' sent'' answers
    → Fed gives mid number (held ++ piece) false answers new next holds
    → (text : List ℕ) × (written : List ℕ) × Consumes unread unread'' text × Appends sent sent'' written × Ends gives old text unread'' (ends.Stopped next) written new
Sofar-stops gives old unread sent mid unread' sent' number held piece answers new unread'' sent'' next holds s consumed told (before, line, after, (first, last, at, runs, step, both), counted) =
    let left = unwrap_or unread'' [] in
    let runs' : Runs gives mid (1 + length s.whole) before first at = rw (sym s.counted) runs in
    let place : number + length before ≡ 1 + length (s.whole ++ before) = omega (arith, length-append s.whole before, s.counted) in
    let step' : gives at (1 + length (s.whole ++ before)) line last false new = rw place at step in
    let cut : lines ((s.text ++ piece) ++ left) ≡ (s.whole ++ before) ++ line ∷ (after left).0
    = ap lines (append_assoc s.text piece left) ∙ s.cuts (piece ++ left)
    ∙ ap (λ bs. s.whole ++ lines bs) (sym (append_assoc held piece left)) ∙ ap (λ ls. s.whole ++ ls) (after left).1
    ∙ sym (append_assoc s.whole before (line ∷ (after left).0)) in (
      s.text ++ piece,
      s.written ++ answers,
      Consumes-then unread unread' unread'' s.text piece s.consumed consumed,
      Appends-then sent sent' sent'' s.written answers s.told told,
      (
        s.whole ++ before,
        line,
        (after left).0,
        omega (arith, length-append s.whole before, s.counted, counted),
        cut,
        (
          s.written ++ first,
          last,
          at,
          Runs-append gives old 1 s.whole s.written mid before first at s.runs runs',
          step',
          ap (λ bs. s.written ++ bs) both ∙ sym (append_assoc s.written first last),
        ),
      ),
    )

-- the end of the text
pub Sofar-whole : {S : Type 0} (gives : S → ℕ → List ℕ → List ℕ → Bool → S → Type 0) (old : S) (unread sent : Option (List ℕ)) (mid : S) (unread' sent' : Option (List ℕ)) (number : ℕ) (held answers : List ℕ) (new : S) (unread'' sent'' : Option (List ℕ))
    → Sofar gives old unread sent mid unread' sent' number held → Consumes unread' unread'' [] → IsAtEnd unread'' → Appends sent' sent'' answers
    → Finished gives mid number held true answers new
    → (text : List ℕ) × (written : List ℕ) × Consumes unread unread'' text × Appends sent sent'' written × Ends gives old text unread'' ends.Whole written new
Sofar-whole gives old unread sent mid unread' sent' number held answers new unread'' sent'' s consumed end told runs =
    let runs' : Runs gives mid (1 + length s.whole) (lines held) answers new = rw (sym s.counted) runs in
    let cut : lines s.text ≡ s.whole ++ lines held
    = ap lines (sym (append-nil s.text)) ∙ s.cuts [] ∙ ap (λ bs. s.whole ++ lines bs) (append-nil held) in
    let all : Runs gives old 1 (s.whole ++ lines held) (s.written ++ answers) new = Runs-append gives old 1 s.whole s.written mid (lines held) answers new s.runs runs' in (
      s.text,
      s.written ++ answers,
      (let h = Consumes-then unread unread' unread'' s.text [] s.consumed consumed in rw append-nil at h),
      Appends-then sent sent' sent'' s.written answers s.told told,
      (end, rw cut all),
    )

-- the last line, which has no LF, stops the run
pub Sofar-last : {S : Type 0} (gives : S → ℕ → List ℕ → List ℕ → Bool → S → Type 0) (old : S) (unread sent : Option (List ℕ)) (mid : S) (unread' sent' : Option (List ℕ)) (number : ℕ) (held answers : List ℕ) (new : S) (unread'' sent'' : Option (List ℕ))
    → Sofar gives old unread sent mid unread' sent' number held → Consumes unread' unread'' [] → IsAtEnd unread'' → Appends sent' sent'' answers
    → Finished gives mid number held false answers new
    → (text : List ℕ) × (written : List ℕ) × Consumes unread unread'' text × Appends sent sent'' written × Ends gives old text unread'' (ends.Stopped number) written new
Sofar-last gives old unread sent mid unread' sent' number held answers new unread'' sent'' s consumed end told (line, last, step) =
    let none = nothing_left unread'' end in
    let cut : lines (s.text ++ unwrap_or unread'' []) ≡ s.whole ++ line ∷ []
    = ap (λ bs. lines (s.text ++ bs)) none ∙ s.cuts [] ∙ ap (λ bs. s.whole ++ lines bs) (append-nil held) ∙ ap (λ ls. s.whole ++ ls) last in
    let step' : gives mid (1 + length s.whole) line answers false new = rw s.counted at step in (
      s.text,
      s.written ++ answers,
      (let h = Consumes-then unread unread' unread'' s.text [] s.consumed consumed in rw append-nil at h),
      Appends-then sent sent' sent'' s.written answers s.told told,
      (
        s.whole,
        line,
        [],
        omega (arith, s.counted),
        cut,
        (s.written, answers, mid, s.runs, step', refl),
      ),
    )

-- a read that took nothing
pub Sofar-unread : {S : Type 0} (gives : S → ℕ → List ℕ → List ℕ → Bool → S → Type 0) (old : S) (unread sent : Option (List ℕ)) (mid : S) (unread' sent' : Option (List ℕ)) (number : ℕ) (held : List ℕ) (unread'' : Option (List ℕ))
    → Sofar gives old unread sent mid unread' sent' number held → Keeps unread' unread'' → Sofar gives old unread sent mid unread'' sent' number held
Sofar-unread gives old unread sent mid unread' sent' number held unread'' s keeps = record {
  text = s.text;
  whole = s.whole;
  written = s.written;
  told = s.told;
  cuts = s.cuts;
  runs = s.runs;
  counted = s.counted;
  consumed = (let h = Consumes-then unread unread' unread'' s.text [] s.consumed (Consumes-kept unread' unread'' keeps) in rw append-nil at h);
}

-- what feeding a piece answers, seen from the start
Answered-fed : {S : Type 0} (gives : S → ℕ → List ℕ → List ℕ → Bool → S → Type 0) (old : S) (unread sent : Option (List ℕ)) (mid : S) (unread' sent' : Option (List ℕ)) (number : ℕ) (held piece : List ℕ) (goes : Bool) (answers : List ℕ) (new : S) (next : ℕ) (holds left : List ℕ)
    → (s : Sofar gives old unread sent mid unread' sent' number held) → Fed gives mid number (held ++ piece) goes answers new next holds
    → (whole : List (List ℕ)) × (after : List (List ℕ)) × (lines ((s.text ++ piece) ++ left) ≡ whole ++ after) × Answered gives old whole goes (s.written ++ answers) new
Answered-fed gives old unread sent mid unread' sent' number held piece true answers new next holds left s (others, cuts, runs, counted) =
    let runs' : Runs gives mid (1 + length s.whole) others answers new = rw (sym s.counted) runs in
    (s.whole ++ others, lines (holds ++ left), Cuts-then s.text s.whole held piece others holds s.cuts cuts left, Runs-append gives old 1 s.whole s.written mid others answers new s.runs runs')
Answered-fed gives old unread sent mid unread' sent' number held piece false answers new next holds left s (before, line, after, (first, last, at, runs, step, both), counted) =
    let runs' : Runs gives mid (1 + length s.whole) before first at = rw (sym s.counted) runs in
    let place : number + length before ≡ 1 + length (s.whole ++ before) = omega (arith, length-append s.whole before, s.counted) in
    let step' : gives at (1 + length (s.whole ++ before)) line last false new = rw place at step in
    let cut : lines ((s.text ++ piece) ++ left) ≡ ((s.whole ++ before) ++ line ∷ []) ++ (after left).0
    = ap lines (append_assoc s.text piece left) ∙ s.cuts (piece ++ left)
    ∙ ap (λ bs. s.whole ++ lines bs) (sym (append_assoc held piece left)) ∙ ap (λ ls. s.whole ++ ls) (after left).1
    ∙ simp append_assoc in (
      (s.whole ++ before) ++ line ∷ [],
      (after left).0,
      cut,
      (
        s.whole ++ before,
        line,
        refl,
        (
          s.written ++ first,
          last,
          at,
          Runs-append gives old 1 s.whole s.written mid before first at s.runs runs',
          step',
          ap (λ bs. s.written ++ bs) both ∙ sym (append_assoc s.written first last),
        ),
      ),
    )

-- what the end of the text answers, seen from the start
Answered-finished : {S : Type 0} (gives : S → ℕ → List ℕ → List ℕ → Bool → S → Type 0) (old : S) (unread sent : Option (List ℕ)) (mid : S) (unread' sent' : Option (List ℕ)) (number : ℕ) (held : List ℕ) (goes : Bool) (answers : List ℕ) (new : S)
    → (s : Sofar gives old unread sent mid unread' sent' number held) → Finished gives mid number held goes answers new
    → (whole : List (List ℕ)) × (lines s.text ≡ whole) × Answered gives old whole goes (s.written ++ answers) new
Answered-finished gives old unread sent mid unread' sent' number held true answers new s runs =
    let runs' : Runs gives mid (1 + length s.whole) (lines held) answers new = rw (sym s.counted) runs in (
      s.whole ++ lines held,
      ap lines (sym (append-nil s.text)) ∙ s.cuts [] ∙ ap (λ bs. s.whole ++ lines bs) (append-nil held),
      Runs-append gives old 1 s.whole s.written mid (lines held) answers new s.runs runs',
    )
Answered-finished gives old unread sent mid unread' sent' number held false answers new s (line, last, step) =
    let step' : gives mid (1 + length s.whole) line answers false new = rw s.counted at step in (
      s.whole ++ line ∷ [],
      ap lines (sym (append-nil s.text)) ∙ s.cuts [] ∙ ap (λ bs. s.whole ++ lines bs) (append-nil held) ∙ ap (λ ls. s.whole ++ ls) last,
      (s.whole, line, refl, (s.written, answers, mid, s.runs, step', refl)),
    )

-- a fault before any of the newest answers was written
pub Begins-sofar : {S : Type 0} (gives : S → ℕ → List ℕ → List ℕ → Bool → S → Type 0) (old : S) (unread sent : Option (List ℕ)) (mid : S) (unread' sent' : Option (List ℕ)) (number : ℕ) (held piece : List ℕ) (unread'' : Option (List ℕ))
    → Sofar gives old unread sent mid unread' sent' number held → Consumes unread' unread'' piece
    → (text : List ℕ) × (written : List ℕ) × Consumes unread unread'' text × Appends sent sent' written × Begins gives old text unread'' written
Begins-sofar gives old unread sent mid unread' sent' number held piece unread'' s consumed =
    let left = unwrap_or unread'' [] in (
      s.text ++ piece,
      s.written,
      Consumes-then unread unread' unread'' s.text piece s.consumed consumed,
      s.told,
      (
        s.whole,
        lines (held ++ (piece ++ left)),
        ap lines (append_assoc s.text piece left) ∙ s.cuts (piece ++ left),
        true,
        s.written,
        mid,
        s.runs,
        length s.written,
        sym (take-length s.written),
      ),
    )

-- a fault in the middle of a piece's answers
pub Begins-fed : {S : Type 0} (gives : S → ℕ → List ℕ → List ℕ → Bool → S → Type 0) (old : S) (unread sent : Option (List ℕ)) (mid : S) (unread' sent' : Option (List ℕ)) (number : ℕ) (held piece : List ℕ) (goes : Bool) (answers : List ℕ) (new : S) (next : ℕ) (holds : List ℕ) (unread'' sent'' : Option (List ℕ)) (count : ℕ)
    → Sofar gives old unread sent mid unread' sent' number held → Consumes unread' unread'' piece → Appends sent' sent'' (take count answers)
    → Fed gives mid number (held ++ piece) goes answers new next holds
    → (text : List ℕ) × (written : List ℕ) × Consumes unread unread'' text × Appends sent sent'' written × Begins gives old text unread'' written
Begins-fed gives old unread sent mid unread' sent' number held piece goes answers new next holds unread'' sent'' count s consumed told fed =
    let whole = Answered-fed gives old unread sent mid unread' sent' number held piece goes answers new next holds (unwrap_or unread'' []) s fed in (
      s.text ++ piece,
      s.written ++ take count answers,
      Consumes-then unread unread' unread'' s.text piece s.consumed consumed,
      Appends-then sent sent' sent'' s.written (take count answers) s.told told,
      (whole.0, whole.1, whole.2, goes, s.written ++ answers, new, whole.3, length s.written + count, sym (take-append-add s.written answers count)),
    )

-- a fault in the middle of the last line's answer
pub Begins-finished : {S : Type 0} (gives : S → ℕ → List ℕ → List ℕ → Bool → S → Type 0) (old : S) (unread sent : Option (List ℕ)) (mid : S) (unread' sent' : Option (List ℕ)) (number : ℕ) (held : List ℕ) (goes : Bool) (answers : List ℕ) (new : S) (unread'' sent'' : Option (List ℕ)) (count : ℕ)
    → Sofar gives old unread sent mid unread' sent' number held → Consumes unread' unread'' [] → IsAtEnd unread'' → Appends sent' sent'' (take count answers)
    → Finished gives mid number held goes answers new
    → (text : List ℕ) × (written : List ℕ) × Consumes unread unread'' text × Appends sent sent'' written × Begins gives old text unread'' written
Begins-finished gives old unread sent mid unread' sent' number held goes answers new unread'' sent'' count s consumed end told finished =
    let whole = Answered-finished gives old unread sent mid unread' sent' number held goes answers new s finished in
    let all : lines (s.text ++ unwrap_or unread'' []) ≡ whole.0 ++ [] = ap (λ bs. lines (s.text ++ bs)) (nothing_left unread'' end) ∙ ap lines (append-nil s.text) ∙ whole.1 ∙ sym (append-nil whole.0) in (
      s.text,
      s.written ++ take count answers,
      (let h = Consumes-then unread unread' unread'' s.text [] s.consumed consumed in rw append-nil at h),
      Appends-then sent sent' sent'' s.written (take count answers) s.told told,
      (whole.0, [], all, goes, s.written ++ answers, new, whole.2, length s.written + count, sym (take-append-add s.written answers count)),
    )
