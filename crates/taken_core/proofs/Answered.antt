-- What is answered of a file.
use Rattle.std.proofs.Common.{◌≡◌, ◌≢◌, inl, inr, ℕ, ◌+◌, ◌^◌, ◌<◌, ◌≤◌, List, [], ◌∷◌, ◌++◌, length, take, drop, refl, sym, ◌∙◌, ap, subst, arith}
use Rattle.std.specs.Prelude.{Bool, true, false, Option, Some, None, MatchOption, Result, Ok, Err, IfOk, MatchResult, codes}
use Rattle.std.proofs.lemmas.Fmt.{decimal_digit}
use Rattle.std.proofs.lemmas.List.{append-nil}
use Rattle.keep_loop.specs.Device.{IsAtMost}
use Rattle.keep_loop.specs.Journal.{recovered, written, whole, AreLines}
use Rattle.keep_loop.specs.Taken.{cut, spelled, begins_with, Names, Spells, SpellsNone, has_front, plain, AreRight, IsChecked, IsKept, IsTaken, format_words, without_form, told, taken}
use Rattle.keep_loop.proofs.Lines.{recovered_lines, written_past}
use Rattle.keep_loop.proofs.TakenLines.{taken_lines}
use Rattle.keep_loop.proofs.Heads.{names_one}
use Rattle.taken_core.specs.TakeFile.{TellsFormat, IsOfForm, IsBare, SaysNoFormat, IsWrongNext, IsFirstWrong, AreTaken, Lacks, counted, count_solid, Answers, TellsLines}
use Rattle.taken_core.specs.declared.taken.TakenFile.{TakenFile}
use Rattle.taken_core.specs.declared.taken.TakeFault.{TakeFault}
use Rattle.taken_core.specs.declared.taken.TakeFault.TheVariants.{Line, Format, Behind}
use Rattle.taken_core.specs.declared.checked.Checked.{Checked}
use Rattle.taken_core.proofs.Formats.{spelled_same}
use Rattle.taken_core.proofs.Taking.{right_at}

-- the words of the form are its spelling
form_spelled : (more : List ℕ) → format_words ++ more ≡ spelled (codes "format ") 2 more
form_spelled more = ap (λ (l : List ℕ). codes "format " ++ l ++ 32 ∷ more) (sym (decimal_digit 2 (omega arith)))

spelled_begins : (format : ℕ) (more : List ℕ) → begins_with (codes "format ") (spelled (codes "format ") format more) ≡ true
spelled_begins format more = refl

-- what line 1 tells
pub bare_of : (text rest : List ℕ) → Names text rest → Spells rest 1 → IsBare text
bare_of text rest names (inl s) = (rest, names, s.1)
bare_of text rest names (inr s) = let two = s.0 in absurd (omega (arith, two))

pub form_of : (text rest : List ℕ) → Names text rest → Spells rest 2 → IsOfForm text
form_of text rest names (inl s) = let one = s.0 in absurd (omega (arith, one))
form_of text rest names (inr s) = (s.2, subst (λ (l : List ℕ). Names text l) (s.3 ∙ sym (form_spelled s.2)) names)

pub other_of : (text rest : List ℕ) (format : ℕ) → Names text rest → Spells rest format → format ≢ 1 → format ≢ 2 → TellsFormat text format × (2 < format) × (format < 2 ^ 64)
other_of text rest format names (inl s) one two = absurd (one s.0)
other_of text rest format names (inr s) one two = ((s.2, subst (λ (l : List ℕ). Names text l) s.3 names), (let least = s.0 in omega (arith, least, two)), s.1)

-- which answers go together
form_not_bare : (text more : List ℕ) → Names text (format_words ++ more) → IsBare text → ⊥
form_not_bare text more names bare =
    let same = (names_one text (format_words ++ more) bare.0 names bare.1).1 in
    let begins : begins_with (codes "format ") bare.0 ≡ true = ap (λ (l : List ℕ). begins_with (codes "format ") l) (sym same) in
    let not = bare.2 in absurd (cc (begins, not))

other_not_bare : (text : List ℕ) (format : ℕ) → TellsFormat text format → IsBare text → ⊥
other_not_bare text format tells bare =
    let same = (names_one text (spelled (codes "format ") format tells.0) bare.0 tells.1 bare.1).1 in
    let begins : begins_with (codes "format ") bare.0 ≡ true = ap (λ (l : List ℕ). begins_with (codes "format ") l) (sym same) ∙ spelled_begins format tells.0 in
    let not = bare.2 in absurd (cc (begins, not))

other_not_form : (text : List ℕ) (format : ℕ) (more : List ℕ) → TellsFormat text format → 2 < format → format < 2 ^ 64 → Names text (format_words ++ more) → ⊥
other_not_form text format more tells least small names =
    let same = (names_one text (spelled (codes "format ") format tells.0) (format_words ++ more) tells.1 names).1 in
    let two : format ≡ 2 = spelled_same (codes "format ") format 2 tells.0 more small (omega arith) (same ∙ form_spelled more) in
    absurd (omega (arith, two, least))

none_not_bare : (text : List ℕ) → SaysNoFormat text → IsBare text → ⊥
none_not_bare text none bare = none bare.0 bare.1 1 (inl (refl, bare.2))

none_not_form : (text more : List ℕ) → SaysNoFormat text → Names text (format_words ++ more) → ⊥
none_not_form text more none names = none (format_words ++ more) names 2 (inr (omega arith, omega arith, more, form_spelled more))

wrong_next : (before rest : List (List ℕ)) → IsWrongNext before rest → AreRight [] (before ++ rest) → has_front (before ++ rest) ≡ true → ⊥
wrong_next before [] wrong right fronted = let all : has_front before ≡ true = ap has_front (sym (append-nil before)) ∙ fronted in absurd (cc (all, wrong))
wrong_next before (line ∷ rest) wrong right fronted = wrong (right_at [] before rest line right)

wrong_not_checked : (text : List ℕ) (number : ℕ) → IsFirstWrong (cut text) number → IsChecked text → ⊥
wrong_not_checked text number w c = wrong_next w.before w.rest w.wrong (subst (AreRight []) w.lines_are c.right) (ap has_front (sym w.lines_are) ∙ c.fronted)

-- What may have been left is never refused.
told_checked : (file : List ℕ) (accepts_cut : Bool) (answer : Result TakenFile TakeFault) → Answers file accepts_cut answer → IsChecked (recovered file) → (accepts_cut ≡ false → IsKept file) → TellsLines (taken file) answer
told_checked file accepts_cut (Ok t) a c kept = elim a.lines [
  | inl bare ↦ absurd (form_not_bare (recovered file) c.rest c.names bare.1)
  | inr checked ↦ checked.2
]
told_checked file accepts_cut (Err (Line line)) (inl none) c kept = none_not_form (recovered file) c.rest none.1 c.names
told_checked file accepts_cut (Err (Line line)) (inr wrong) c kept = wrong_not_checked (recovered file) line wrong.1 c
told_checked file accepts_cut (Err (Format format)) a c kept = other_not_form (recovered file) format c.rest a.0 a.1 a.2 c.names
told_checked file accepts_cut (Err (Behind line count)) a c kept = a.0.lacks (kept a.1)

told_bare : (file : List ℕ) (accepts_cut : Bool) (answer : Result TakenFile TakeFault) → Answers file accepts_cut answer → IsBare (recovered file) → TellsLines (recovered file) answer
told_bare file accepts_cut (Ok t) a bare = elim a.lines [
  | inl is ↦ is.2
  | inr checked ↦ absurd (form_not_bare (recovered file) checked.1.rest checked.1.names bare)
]
told_bare file accepts_cut (Err (Line line)) (inl none) bare = none_not_bare (recovered file) none.1 bare
told_bare file accepts_cut (Err (Line line)) (inr wrong) bare = form_not_bare (recovered file) wrong.0.0 wrong.0.1 bare
told_bare file accepts_cut (Err (Format format)) a bare = other_not_bare (recovered file) format a.0 bare
told_bare file accepts_cut (Err (Behind line count)) a bare = form_not_bare (recovered file) a.0.checked.rest a.0.checked.names bare

pub taken_told : {E : Type 0} (r : Result (Result TakenFile TakeFault) E) (file : List ℕ) (accepts_cut : Bool) → IfOk r (Answers file accepts_cut) → IsTaken file → IfOk r (TellsLines (taken file))
taken_told (Ok answer) file accepts_cut a t = told_checked file accepts_cut answer a t.checked (λ off. t.kept)
taken_told (Err e) file accepts_cut a t = tt

pub cut_told : {E : Type 0} (r : Result (Result TakenFile TakeFault) E) (file : List ℕ) (accepts_cut : Bool) → IfOk r (Answers file accepts_cut) → IsChecked (recovered file) → accepts_cut ≡ true → IfOk r (TellsLines (taken file))
cut_told (Ok answer) file accepts_cut a c accepts = told_checked file accepts_cut answer a c (λ off. absurd (cc (accepts, off)))
cut_told (Err e) file accepts_cut a c accepts = tt

pub bare_told : {E : Type 0} (r : Result (Result TakenFile TakeFault) E) (file : List ℕ) (accepts_cut : Bool) → IfOk r (Answers file accepts_cut) → IsBare (recovered file) → IfOk r (TellsLines (recovered file))
bare_told (Ok answer) file accepts_cut a bare = told_bare file accepts_cut answer a bare
bare_told (Err e) file accepts_cut a bare = tt

-- What is told are lines.
nothing_in : (before rest : List ℕ) → [] ≡ before ++ 10 ∷ rest → ⊥
nothing_in [] rest is = absurd (cc is)
nothing_in (byte ∷ before) rest is = absurd (cc is)

drop_length : (text : List ℕ) → drop (length text) text ≡ []
drop_length [] = refl
drop_length (byte ∷ text) = drop_length text

written_lines : (text : List ℕ) → AreLines text → written text ≡ text
written_lines text are = ap written (sym (append-nil text)) ∙ written_past text [] are.solid ∙ append-nil text

lines_kept : (text : List ℕ) → AreLines text → IsKept text
lines_kept text are has =
    let all : drop (length (written text)) text ≡ [] = ap (λ (l : List ℕ). drop (length l) text) (written_lines text are) ∙ drop_length text in
    nothing_in has.0 has.1 (sym all ∙ has.2)

checked_lines : (file : List ℕ) → IsChecked (recovered file) → AreLines (taken file)
checked_lines file c =
    let text = recovered file in
    let are = recovered_lines file in
    let same : recovered text ≡ text = ap whole (written_lines text are) ∙ are.ended in
    subst (λ (l : List ℕ). AreLines (told l)) same (taken_lines text (record { checked = subst IsChecked (sym same) c; kept = lines_kept text are }))

told_lines : (file : List ℕ) (accepts_cut : Bool) (answer : Result TakenFile TakeFault) → Answers file accepts_cut answer → IfOk answer (λ t. AreLines t.lines.items)
told_lines file accepts_cut (Ok t) a = elim a.lines [
  | inl bare ↦ subst AreLines (sym bare.2) (recovered_lines file)
  | inr checked ↦ subst AreLines (sym checked.2) (checked_lines file checked.1)
]
told_lines file accepts_cut (Err fault) a = tt

pub lines_told : {E : Type 0} (r : Result (Result TakenFile TakeFault) E) (file : List ℕ) (accepts_cut : Bool) → IfOk r (Answers file accepts_cut) → IfOk r (λ answer. IfOk answer (λ t. AreLines t.lines.items))
lines_told (Ok answer) file accepts_cut a = told_lines file accepts_cut answer a
lines_told (Err e) file accepts_cut a = tt

-- what is answered in the end
pub answered_told : (file : List ℕ) (accepts_cut : Bool) (told : TakenFile) (size : ℕ) (lines : List ℕ) → size ≤ length file → take size file ≡ recovered file → IsChecked (recovered file) →
    lines ≡ plain (cut (recovered file)) → ((accepts_cut ≡ false) × Lacks file → ⊥) → (told.format ≡ 2) × (told.size ≡ size) × (told.behind ≡ counted (count_solid (drop size file))) × (told.lines.items ≡ without_form 2 lines) →
    Answers file accepts_cut (Ok told)
answered_told file accepts_cut told size lines fits is c lines_are kept t = record {
  size = subst (λ (n : ℕ). n ≤ length file) (sym t.1) fits;
  whole = ap (λ (n : ℕ). take n file) t.1 ∙ is;
  behind = t.2 ∙ ap (λ (n : ℕ). counted (count_solid (drop n file))) (sym t.1);
  lines = inr (t.0, c, t.3 ∙ ap (λ (l : List ℕ). without_form 2 l) lines_are, λ off lacks. kept (off, lacks));
}

pub answered_bare : (file : List ℕ) (accepts_cut : Bool) (told : TakenFile) (size : ℕ) → size ≤ length file → take size file ≡ recovered file → IsBare (recovered file) →
    (told.format ≡ 1) × (told.size ≡ size) × (told.behind ≡ counted (count_solid (drop size file))) × (told.lines.items ≡ take size file) → Answers file accepts_cut (Ok told)
answered_bare file accepts_cut told size fits is bare t = record {
  size = subst (λ (n : ℕ). n ≤ length file) (sym t.1) fits;
  whole = ap (λ (n : ℕ). take n file) t.1 ∙ is;
  behind = t.2 ∙ ap (λ (n : ℕ). counted (count_solid (drop n file))) (sym t.1);
  lines = inl (t.0, bare, t.3 ∙ is);
}

pub answered_behind : (file : List ℕ) (accepts_cut : Bool) (line count size : ℕ) → take size file ≡ recovered file → IsChecked (recovered file) → line ≡ counted (length (cut (recovered file))) → count ≡ counted (count_solid (drop size file)) →
    (accepts_cut ≡ false) × Lacks file → Answers file accepts_cut (Err (Behind line count))
answered_behind file accepts_cut line count size is c last count_is lacks =
    (record { checked = c; lacks = λ kept. kept lacks.1; last = last; size = size; whole = is; count_is = count_is }, lacks.0)

pub checked_of : (text : List ℕ) → IsOfForm text → has_front (cut text) ≡ true → AreRight [] (cut text) → IsChecked text
checked_of text form fronted right = record { rest = form.0; names = form.1; fronted = fronted; right = right }

-- behind a crash
known : (seen : Option (List ℕ)) (bytes file : List ℕ) → IsAtMost bytes seen → seen ≡ Some file → bytes ≡ file
known None bytes file most is = absurd (cc is)
known (Some there) bytes file most is = let same : there ≡ file = cc is in sym most ∙ same

pub recovered_answers : (seen : Option (List ℕ)) (bytes file : List ℕ) (answer : Result TakenFile TakeFault) → IsAtMost bytes seen → Answers bytes false answer → seen ≡ Some file → Answers file false answer
recovered_answers seen bytes file answer most a is = subst (λ (l : List ℕ). Answers l false answer) (known seen bytes file most is) a

pub recovered_told : (seen : Option (List ℕ)) (bytes file : List ℕ) (answer : Result TakenFile TakeFault) → IsAtMost bytes seen → Answers bytes false answer → seen ≡ Some file → IsTaken file → TellsLines (taken file) answer
recovered_told seen bytes file answer most a is t = told_checked file false answer (recovered_answers seen bytes file answer most a is) t.checked (λ off. t.kept)

-- what is read of line 1
abbrev pub IsFound : List ℕ → Option ℕ → Type 0
IsFound text found = MatchOption found ((rest : List ℕ) → Names text rest → SpellsNone rest) (λ format. (rest : List ℕ) × Names text rest × Spells rest format)

pub found_none : (file text : List ℕ) (accepts_cut : Bool) (found : Option ℕ) → text ≡ recovered file → IsFound text found → found ≡ None → Answers file accepts_cut (Err (Line 1))
found_none file text accepts_cut None same is none = inl (refl, subst SaysNoFormat same is)
found_none file text accepts_cut (Some format) same is none = absurd (cc none)

pub found_some : (file text : List ℕ) (found : Option ℕ) (format : ℕ) → text ≡ recovered file → IsFound text found → found ≡ Some format → (rest : List ℕ) × Names (recovered file) rest × Spells rest format
found_some file text None format same is some = absurd (cc some)
found_some file text (Some n) format same is some =
    let one : n ≡ format = cc some in
    (is.0, subst (λ (l : List ℕ). Names l is.0) same is.1, subst (λ (k : ℕ). Spells is.0 k) one is.2)

pub tells_bare : (text : List ℕ) (format : ℕ) → (rest : List ℕ) × Names text rest × Spells rest format → format ≡ 1 → IsBare text
tells_bare text format t is = bare_of text t.0 t.1 (subst (λ (k : ℕ). Spells t.0 k) is t.2)

pub tells_form : (text : List ℕ) (format : ℕ) → (rest : List ℕ) × Names text rest × Spells rest format → format ≡ 2 → IsOfForm text
tells_form text format t is = form_of text t.0 t.1 (subst (λ (k : ℕ). Spells t.0 k) is t.2)

pub tells_other : (text : List ℕ) (format : ℕ) → (rest : List ℕ) × Names text rest × Spells rest format → format ≢ 1 → format ≢ 2 → TellsFormat text format × (2 < format) × (format < 2 ^ 64)
tells_other text format t one two = other_of text t.0 format t.1 t.2 one two

-- what is known of checked lines
abbrev pub IsAnswer : List ℕ → Checked → Result ℕ ℕ → Type 0
IsAnswer text checked taken = MatchResult taken (λ count. (count ≡ counted (length (cut text))) × AreTaken (cut text) checked) (IsFirstWrong (cut text))

pub checked_taken : (file text : List ℕ) (taken : Result ℕ ℕ) (count : ℕ) (checked : Checked) → text ≡ recovered file → IsOfForm (recovered file) → IsAnswer text checked taken → taken ≡ Ok count →
    IsChecked (recovered file) × (checked.plain.items ≡ plain (cut (recovered file))) × (count ≡ counted (length (cut (recovered file))))
checked_taken file text (Ok n) count checked same form is ok =
    let one : n ≡ count = cc ok in (
      checked_of (recovered file) form (ap (λ (l : List ℕ). has_front (cut l)) (sym same) ∙ is.1.fronted) (subst (λ (l : List ℕ). AreRight [] (cut l)) same is.1.right),
      is.1.plain ∙ ap (λ (l : List ℕ). plain (cut l)) same,
      sym one ∙ is.0 ∙ ap (λ (l : List ℕ). counted (length (cut l))) same,
    )
checked_taken file text (Err n) count checked same form is ok = absurd (cc ok)

pub checked_wrong : (file text : List ℕ) (accepts_cut : Bool) (taken : Result ℕ ℕ) (line : ℕ) (checked : Checked) → text ≡ recovered file → IsOfForm (recovered file) → IsAnswer text checked taken → taken ≡ Err line → Answers file accepts_cut (Err (Line line))
checked_wrong file text accepts_cut (Ok n) line checked same form is err = absurd (cc err)
checked_wrong file text accepts_cut (Err n) line checked same form is err =
    let one : n ≡ line = cc err in
    inr (form, subst (λ (k : ℕ). IsFirstWrong (cut (recovered file)) k) one (subst (λ (l : List ℕ). IsFirstWrong (cut l) n) same is))

pub slice_whole : (file : List ℕ) (size : ℕ) → take size file ≡ recovered file → whole (take size file) ≡ take size file
slice_whole file size is = ap whole is ∙ (recovered_lines file).ended ∙ sym is
