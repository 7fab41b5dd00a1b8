-- What the codec of lines gives, as lines of the bytes.
use Rattle.std.proofs.Common.{true≢false, get_or, ◌≡◌, ℕ, zero, suc, ◌+◌, ◌-◌, ◌<◌, ◌≤◌, ◌==◌, Bool, true, false, List, [], ◌∷◌, ◌++◌, length, take, drop, Option, Some, None, Ok, Err, Result, String, Global, refl, sym, ap, ◌∙◌, subst, inl, inr, arith, length-append, append-nil, append_assoc}
use Rattle.std.specs.Prelude.{IsTrue, ◌↔◌, ◌⊎◌, IsUtf8, string_bytes}
use Rattle.std.specs.List.{position_or_len}
use Rattle.std.proofs.lemmas.List.{length-take-le, get_or-take, get_or-append_right, append_cancel_right}
use lib.Seq.{drop-append-add}
use Rattle.std.proofs.lemmas.List.Sums.{fails_before_first, passes_at_first, split_at_first}
use Rattle.std.proofs.lemmas.Bool.{cases_lt}
use Rattle.std.proofs.lemmas.Bool.Decides.{nat_tests}
use Rattle.std.specs.IoError.{error_kind}
use Rattle.std.specs.declared.io.ErrorKind.TheVariants.{InvalidData, OutOfMemory}
use Rattle.tokio_util.specs.declared.codec.lines_codec.LinesCodec.{LinesCodec}
use Rattle.tokio_util.specs.declared.codec.lines_codec.LinesCodecError.{LinesCodecError}
use Rattle.tokio_util.specs.declared.codec.lines_codec.LinesCodecError.TheVariants.{MaxLineLengthExceeded, Io}
use Rattle.tokio_util.specs.Codec.Next.{Next, decoded, partial, at_end, Resumes, Decodes, DecodesAtEnd}
use Rattle.tokio_util.specs.Codec.Lines.{newline, newline_from, without_carriage_return, Scan, line, too_long, unfinished, read_line, skip_line, scan, at_line_start, discarding, gives_lines, Answers, AnswersLast, AnswersAtEnd, IsUnfinished, IsSettled}
use Rattle.tokio_util.specs.Codec.LinesLaws.{read_line_found, read_line_long, read_line_short, skip_line_found, skip_line_missing, newline_from-append_missing}
use Rattle.session_text.specs.declared.reader.NextLine.{NextLine as Heard}
use Rattle.session_text.specs.HearLines.{IsUnbroken, IsLine, IsRest, IsTooLong, Finds, IsLast}
use Rattle.session_text.specs.Told.{IsToldAs, told_last}

-- a codec that has seen nothing of a line
fresh : LinesCodec
fresh = at_line_start 4096

-- a codec over bytes finds what a fresh one would
abbrev pub GoesOn : LinesCodec → List ℕ → Type 0
GoesOn c xs = Resumes gives_lines (at_line_start 4096) xs c xs

-- where the first LF stands
at_front : (xs : List ℕ) → newline_from 0 xs ≡ position_or_len (λ b. b == newline) xs
unfolding newline_from
at_front xs = omega arith

not_lf : (b : ℕ) → (b == newline) ≡ false → b ≡ 10 → ⊥
not_lf b apart same = let is = ap (λ k. k == newline) same in true≢false (sym is ∙ apart)

is_lf : (b : ℕ) → (b == newline) ≡ true → b ≡ 10
is_lf b equal = grind (arith, nat_tests)

-- a line ends early enough, or none does and there are too many bytes, or there may be more
abbrev pub Found : List ℕ → Type 0
Found xs = (newline_from 0 xs < length xs) × (newline_from 0 xs ≤ 4096)

abbrev pub Long : List ℕ → Type 0
Long xs = (4096 < newline_from 0 xs) × (4096 < length xs)

abbrev pub Short : List ℕ → Type 0
Short xs = (length xs ≤ newline_from 0 xs) × (length xs ≤ 4096)

pub which : (xs : List ℕ) → Found xs ⊎ (Long xs ⊎ Short xs)
which xs = elim (cases_lt 4096 (newline_from 0 xs)) [
  | inl far ↦ elim (cases_lt 4096 (length xs)) [
    | inl long ↦ inr (inl (far, long))
    | inr short ↦ inr (inr (omega (arith, far, short), short))
  ]
  | inr near ↦ elim (cases_lt (newline_from 0 xs) (length xs)) [
    | inl found ↦ inl (found, near)
    | inr missing ↦ inr (inr (missing, omega (arith, missing, near)))
  ]
]

unbroken_front : (xs : List ℕ) (n : ℕ) → n ≤ length xs → n ≤ newline_from 0 xs → IsUnbroken (take n xs)
unbroken_front xs n within before k d h =
    let early : k < n = omega (arith, length-take-le n xs within, h) in
    subst (λ b. b ≡ 10 → ⊥) (sym (get_or-take n xs k d early)) (not_lf _ (fails_before_first (λ b. b == newline) xs k d (omega (arith, at_front xs, early, before))))

pub unbroken_all : (xs : List ℕ) → length xs ≤ newline_from 0 xs → IsUnbroken xs
unbroken_all xs missing k d h = not_lf _ (fails_before_first (λ b. b == newline) xs k d (omega (arith, at_front xs, h, missing)))

pub line_of : (xs : List ℕ) → Found xs → IsLine xs (take (newline_from 0 xs) xs) (drop (newline_from 0 xs + 1) xs)
line_of xs (found, near) =
    let same = at_front xs in
    let at : position_or_len (λ b. b == newline) xs < length xs = omega (arith, same, found) in
    let cut = split_at_first (λ b. b == newline) xs 0 at in
    let lf = is_lf _ (passes_at_first (λ b. b == newline) xs 0 at) in (
      subst (λ n. xs ≡ take n xs ++ 10 ∷ drop (n + 1) xs) (sym same) (cut ∙ ap (λ b. take (position_or_len (λ b. b == newline) xs) xs ++ b ∷ drop (position_or_len (λ b. b == newline) xs + 1) xs) lf),
      unbroken_front xs (newline_from 0 xs) (omega (arith, found)) (omega arith),
      omega (arith, length-take-le (newline_from 0 xs) xs (omega (arith, found)), near),
    )

pub too_long_of : (xs : List ℕ) → Long xs → IsTooLong xs
too_long_of xs (far, long) = (long, unbroken_front xs 4097 (omega (arith, long)) (omega (arith, far)))

pub rest_of : (xs : List ℕ) → Short xs → IsRest xs
rest_of xs (missing, short) = (unbroken_all xs missing, short)

found_scan : (xs : List ℕ) → Found xs → read_line 4096 0 xs ≡ line (without_carriage_return (take (newline_from 0 xs) xs)) (drop (newline_from 0 xs + 1) xs)
found_scan xs h = read_line_found 4096 0 xs h.0 h.1

long_scan : (xs : List ℕ) → Long xs → read_line 4096 0 xs ≡ too_long xs
long_scan xs h = read_line_long 4096 0 xs h.0 h.1

short_scan : (xs : List ℕ) → Short xs → read_line 4096 0 xs ≡ unfinished false xs
short_scan xs h = read_line_short 4096 0 xs h.0 h.1

-- what is unfinished has no LF and is short
pub unfinished_short : (xs : List ℕ) → IsUnfinished (read_line 4096 0 xs) → Short xs
unfinished_short xs h = elim (which xs) [
  | inl found ↦ absurd (subst IsUnfinished (found_scan xs found) h)
  | inr other ↦ elim other [
    | inl long ↦ absurd (subst IsUnfinished (long_scan xs long) h)
    | inr short ↦ short
  ]
]

ok_no_err : {A B : Type 0} (x : A) (e : B) → Ok x ≡ Err e → ⊥
ok_no_err x e same = cc

-- a line that was decoded
pub decoded_ok : (xs : List ℕ) (x : String Global) (t : LinesCodec) (ys : List ℕ) → gives_lines (at_line_start 4096) xs (decoded (Ok x) t ys)
    → ((raw : List ℕ) × IsLine xs raw ys × (string_bytes x ≡ without_carriage_return raw)) × (t ≡ at_line_start 4096)
decoded_ok xs x t ys h = elim (which xs) [
  | inl found ↦ elim (subst (λ (s : Scan). Answers 4096 s (Ok x) t ys) (found_scan xs found) h) [
    | inl a ↦ ((take (newline_from 0 xs) xs, subst (IsLine xs (take (newline_from 0 xs) xs)) (sym a.2) (line_of xs found), a.0), a.1)
    | inr b ↦ absurd b.0
  ]
  | inr other ↦ elim other [
    | inl long ↦ let a = subst (λ (s : Scan). Answers 4096 s (Ok x) t ys) (long_scan xs long) h in absurd (ok_no_err x MaxLineLengthExceeded a.0)
    | inr short ↦ absurd (subst (λ (s : Scan). Answers 4096 s (Ok x) t ys) (short_scan xs short) h)
  ]
]

-- a line that is no text, or memory was refused
abbrev pub Refuses : List ℕ → LinesCodecError → LinesCodec → List ℕ → Type 0
Refuses xs MaxLineLengthExceeded t ys = IsTooLong xs
Refuses xs (Io e) t ys =
    ((error_kind e ≡ InvalidData) × ((raw : List ℕ) × IsLine xs raw ys × (IsUtf8 (without_carriage_return raw) → ⊥)) × (t ≡ at_line_start 4096)) ⊎ (error_kind e ≡ OutOfMemory)

refuses_line : (xs : List ℕ) (e : LinesCodecError) (t : LinesCodec) (ys : List ℕ) (found : Found xs)
    → Answers 4096 (line (without_carriage_return (take (newline_from 0 xs) xs)) (drop (newline_from 0 xs + 1) xs)) (Err e) t ys → Refuses xs e t ys
refuses_line xs MaxLineLengthExceeded t ys found h = elim h [
  | inl a ↦ absurd a.0
  | inr b ↦ absurd b.0
]
refuses_line xs (Io e) t ys found h = elim h [
  | inl a ↦ inl (a.0.0, (take (newline_from 0 xs) xs, subst (IsLine xs (take (newline_from 0 xs) xs)) (sym a.2) (line_of xs found), a.0.1), a.1)
  | inr b ↦ inr b.0
]

err_is : (r : Result (String Global) LinesCodecError) (d e : LinesCodecError) → r ≡ Err d → r ≡ Err e → d ≡ e
err_is r d e is same = cc

pub decoded_err : (xs : List ℕ) (e : LinesCodecError) (t : LinesCodec) (ys : List ℕ) → gives_lines (at_line_start 4096) xs (decoded (Err e) t ys) → Refuses xs e t ys
decoded_err xs e t ys h = elim (which xs) [
  | inl found ↦ refuses_line xs e t ys found (subst (λ (s : Scan). Answers 4096 s (Err e) t ys) (found_scan xs found) h)
  | inr other ↦ elim other [
    | inl long ↦
        let a = subst (λ (s : Scan). Answers 4096 s (Err e) t ys) (long_scan xs long) h in
        subst (λ (d : LinesCodecError). Refuses xs d t ys) (sym (err_is (Err e) e MaxLineLengthExceeded refl a.0)) (too_long_of xs long)
    | inr short ↦ absurd (subst (λ (s : Scan). Answers 4096 s (Err e) t ys) (short_scan xs short) h)
  ]
]

-- what the end leaves
pub ended_so : (xs : List ℕ) (r : Result (Option (String Global)) LinesCodecError) (t : LinesCodec) (ys : List ℕ) → gives_lines (at_line_start 4096) xs (at_end r t ys)
    → IsRest xs × AnswersLast xs r ys × (t ≡ at_line_start 4096)
ended_so xs r t ys h = elim (which xs) [
  | inl found ↦ absurd (subst (λ (s : Scan). AnswersAtEnd 4096 s r t ys) (found_scan xs found) h)
  | inr other ↦ elim other [
    | inl long ↦ absurd (subst (λ (s : Scan). AnswersAtEnd 4096 s r t ys) (long_scan xs long) h)
    | inr short ↦ let a = subst (λ (s : Scan). AnswersAtEnd 4096 s r t ys) (short_scan xs short) h in (rest_of xs short, a.0, a.1)
  ]
]

-- Bytes that end no line.
abbrev letters : ℕ → List ℕ
letters zero = []
letters (suc n) = 65 ∷ letters n

letters_length : (n : ℕ) → length (letters n) ≡ n
letters_length zero = refl
letters_length (suc n) = ap suc (letters_length n)

letters_drop : (n k : ℕ) → drop k (letters n) ≡ letters (n - k)
letters_drop n zero = ap letters (let same : n ≡ n - 0 = omega arith in same)
letters_drop zero (suc k) = ap letters (let same : 0 ≡ 0 - suc k = omega arith in same)
letters_drop (suc n) (suc k) = letters_drop n k ∙ ap letters (let same : n - k ≡ suc n - suc k = omega arith in same)

letters_end : (n : ℕ) → position_or_len (λ b. b == newline) (letters n) ≡ n
letters_end zero = refl
letters_end (suc n) = let on = letters_end n in omega (arith, on)

letters_far : (n from : ℕ) → n ≤ newline_from from (letters n)
unfolding newline_from
letters_far n from = omega (arith, ap (position_or_len (λ b. b == newline)) (letters_drop n from) ∙ letters_end (n - from))

behind : (from : ℕ) (ys more : List ℕ) → length ys ≤ from → newline_from from (ys ++ more) ≡ length ys + newline_from (from - length ys) more
unfolding newline_from
behind from ys more past =
    let at : length ys + (from - length ys) ≡ from = omega (arith, past) in
    let cut : drop from (ys ++ more) ≡ drop (from - length ys) more = ap (λ k. drop k (ys ++ more)) (sym at) ∙ drop-append-add ys more (from - length ys) in
    omega (arith, at, ap (position_or_len (λ b. b == newline)) cut)

far_behind : (from n : ℕ) (ys : List ℕ) → length ys ≤ newline_from from ys → length ys + n ≤ newline_from from (ys ++ letters n)
far_behind from n ys missing = elim (cases_lt from (length ys)) [
  | inl within ↦ omega (arith, newline_from-append_missing from ys (letters n) (omega (arith, within)) missing, letters_far n 0)
  | inr past ↦ omega (arith, behind from ys (letters n) past, letters_far n (from - length ys))
]

-- a scan drops the rest of a line
abbrev drops : Scan → Bool
drops (line text rest) = false
drops (too_long rest) = false
drops (unfinished is_dropped kept) = is_dropped

read_drops : (max from : ℕ) (xs : List ℕ) → drops (read_line max from xs) ≡ false
read_drops max from xs = elim (cases_lt (newline_from from xs) (length xs)) [
  | inl found ↦ elim (cases_lt max (newline_from from xs)) [
    | inl far ↦ ap drops (read_line_long max from xs far (omega (arith, far, found)))
    | inr near ↦ ap drops (read_line_found max from xs found near)
  ]
  | inr missing ↦ elim (cases_lt max (length xs)) [
    | inl long ↦ ap drops (read_line_long max from xs (omega (arith, long, missing)) long)
    | inr short ↦ ap drops (read_line_short max from xs missing short)
  ]
]

abbrev left_of : Scan → List ℕ
left_of (line text rest) = rest
left_of (too_long rest) = rest
left_of (unfinished is_dropped kept) = kept

skipped_all : (max : ℕ) (ys : List ℕ) → skip_line max ys ≡ unfinished true ys → ys ≡ []
skipped_all max ys settled = elim (cases_lt (newline_from 0 ys) (length ys)) [
  | inl found ↦ absurd (true≢false (sym (ap drops (sym (skip_line_found max ys found) ∙ settled)) ∙ read_drops max 0 (drop (newline_from 0 ys + 1) ys)))
  | inr missing ↦ sym (ap left_of (sym (skip_line_missing max ys missing) ∙ settled))
]

one_end : newline_from 0 (10 ∷ []) ≡ 0
unfolding newline_from
one_end = refl

skip_one : (max : ℕ) → IsUnfinished (skip_line max (10 ∷ []))
skip_one max =
    let at = one_end in
    subst IsUnfinished (sym (skip_line_found max (10 ∷ []) (omega (arith, at)) ∙ ap (λ n. read_line max 0 (drop (n + 1) (10 ∷ []))) at ∙ read_line_short max 0 [] (omega arith) (omega arith))) tt

-- a short rest and an LF are a line
ends_line : (xs : List ℕ) → Short xs → Found (xs ++ 10 ∷ [])
ends_line xs (missing, short) =
    let at = newline_from-append_missing 0 xs (10 ∷ []) (omega arith) missing in
    (omega (arith, at, one_end, length-append xs (10 ∷ [])), omega (arith, at, one_end, short))

-- and with many bytes that end none they are too long
grows_long : (xs : List ℕ) (n : ℕ) → Short xs → 4096 < n → Long (xs ++ letters n)
grows_long xs n (missing, short) many =
    (omega (arith, far_behind 0 n xs missing, many), omega (arith, length-append xs (letters n), letters_length n, many))

settled_unfinished : (t : LinesCodec) (ys : List ℕ) → IsSettled t ys → IsUnfinished (scan t ys)
settled_unfinished t ys settled = subst IsUnfinished (sym settled) tt

short_still : (xs ys : List ℕ) (t : LinesCodec) → Resumes gives_lines (at_line_start 4096) xs t ys → IsSettled t ys → Short xs
short_still xs ys t on settled =
    unfinished_short xs (subst (λ zs. IsUnfinished (read_line 4096 0 zs)) (append-nil xs) (on [] partial (subst (λ zs. IsUnfinished (scan t zs)) (sym (append-nil ys)) (settled_unfinished t ys settled))))

-- a line that is read on reads the same bytes
reads_on : (next max : ℕ) (xs ys : List ℕ) → Short xs → Resumes gives_lines (at_line_start 4096) xs (record { next_index = next; max_length = max; is_discarding = false }) ys
    → read_line max next ys ≡ unfinished false ys → (length ys ≤ newline_from next ys) → ys ≡ xs
reads_on next max xs ys short on settled missing =
    let n = max + 4097 in
    let long : read_line max next (ys ++ letters n) ≡ too_long (ys ++ letters n) =
    read_line_long max next (ys ++ letters n) (omega (arith, far_behind next n ys missing)) (omega (arith, length-append ys (letters n), letters_length n)) in
    let told = on (letters n) (decoded (Err MaxLineLengthExceeded) (discarding max) (ys ++ letters n))
    (subst (λ (s : Scan). Answers max s (Err MaxLineLengthExceeded) (discarding max) (ys ++ letters n)) (sym long) (refl, refl, refl)) in
    let is = subst (λ (s : Scan). Answers 4096 s (Err MaxLineLengthExceeded) (discarding max) (ys ++ letters n)) (long_scan (xs ++ letters n) (grows_long xs n short (omega arith))) told in
    append_cancel_right ys xs (letters n) is.2

read_missing : (max from : ℕ) (xs : List ℕ) → read_line max from xs ≡ unfinished false xs → length xs ≤ newline_from from xs
read_missing max from xs is = elim (cases_lt (newline_from from xs) (length xs)) [
  | inl found ↦ elim (cases_lt max (newline_from from xs)) [
    | inl far ↦ absurd (subst IsUnfinished (sym is ∙ read_line_long max from xs far (omega (arith, far, found))) tt)
    | inr near ↦ absurd (subst IsUnfinished (sym is ∙ read_line_found max from xs found near) tt)
  ]
  | inr missing ↦ missing
]

kept_by : (next max : ℕ) (b : Bool) (xs ys : List ℕ) → Short xs → Resumes gives_lines (at_line_start 4096) xs (record { next_index = next; max_length = max; is_discarding = b }) ys
    → IsSettled (record { next_index = next; max_length = max; is_discarding = b }) ys → ys ≡ xs
kept_by next max false xs ys short on settled = reads_on next max xs ys short on settled (read_missing max next ys settled)
kept_by next max true xs ys short on settled =
    let none = skipped_all max ys settled in
    let told = on (10 ∷ []) partial (subst (λ zs. IsUnfinished (skip_line max (zs ++ 10 ∷ []))) (sym none) (skip_one max)) in
    absurd (subst IsUnfinished (found_scan (xs ++ 10 ∷ []) (ends_line xs short)) told)

-- where no line was found, all bytes are still there
pub kept_whole : (xs ys : List ℕ) (t : LinesCodec) → Resumes gives_lines (at_line_start 4096) xs t ys → IsSettled t ys → IsRest xs × (ys ≡ xs)
kept_whole xs ys t on settled =
    let short = short_still xs ys t on settled in
    (rest_of xs short, kept_by t.next_index t.max_length t.is_discarding xs ys short on settled)

-- A codec that goes on over some bytes is as good as a fresh one.
pub as_fresh : (c : LinesCodec) (xs : List ℕ) (next : Next LinesCodec (String Global) LinesCodecError) → GoesOn c xs → gives_lines c xs next → gives_lines (at_line_start 4096) xs next
as_fresh c xs next on h = subst (λ zs. gives_lines (at_line_start 4096) zs next) (append-nil xs) (on [] next (subst (λ zs. gives_lines c zs next) (sym (append-nil xs)) h))

pub grown : (c : LinesCodec) (xs more : List ℕ) → GoesOn c xs → GoesOn c (xs ++ more)
grown c xs more on later next h =
    subst (λ zs. gives_lines (at_line_start 4096) zs next) (sym (append_assoc xs more later)) (on (more ++ later) next (subst (λ zs. gives_lines c zs next) (append_assoc xs more later) h))

pub begins : (t : LinesCodec) (ys : List ℕ) → t ≡ at_line_start 4096 → GoesOn t ys
begins t ys is = subst (λ c. GoesOn c ys) (sym is) (λ more next h. h)

-- What `decode` answers, where the codec goes on over the bytes.
pub line_found : (c : LinesCodec) (xs : List ℕ) (x : String Global) (t : LinesCodec) (ys : List ℕ) → GoesOn c xs → Decodes gives_lines c xs (Ok (Some x)) t ys
    → (raw : List ℕ) × IsLine xs raw ys × (string_bytes x ≡ without_carriage_return raw)
line_found c xs x t ys on is = (decoded_ok xs x t ys (as_fresh c xs (decoded (Ok x) t ys) on is)).0

pub line_goes_on : (c : LinesCodec) (xs : List ℕ) (x : String Global) (t : LinesCodec) (ys : List ℕ) → GoesOn c xs → Decodes gives_lines c xs (Ok (Some x)) t ys → GoesOn t ys
line_goes_on c xs x t ys on is = begins t ys (decoded_ok xs x t ys (as_fresh c xs (decoded (Ok x) t ys) on is)).1

resumed : (c t : LinesCodec) (xs ys : List ℕ) → GoesOn c xs → Resumes gives_lines c xs t ys → Resumes gives_lines (at_line_start 4096) xs t ys
resumed c t xs ys on is more next h = on more next (is more next h)

pub none_found : (c : LinesCodec) (xs : List ℕ) (t : LinesCodec) (ys : List ℕ) → GoesOn c xs → Decodes gives_lines c xs (Ok None) t ys → IsSettled t ys
    → (false ≡ false) × IsRest xs × (ys ≡ xs)
none_found c xs t ys on is settled = let kept = kept_whole xs ys t (resumed c t xs ys on is.1) settled in (refl, kept.0, kept.1)

pub none_goes_on : (c : LinesCodec) (xs : List ℕ) (t : LinesCodec) (ys : List ℕ) → GoesOn c xs → Decodes gives_lines c xs (Ok None) t ys → IsSettled t ys → GoesOn t ys
none_goes_on c xs t ys on is settled =
    let whole = resumed c t xs ys on is.1 in
    subst (λ zs. Resumes gives_lines (at_line_start 4096) zs t ys) (sym (kept_whole xs ys t whole settled).1) whole

-- what is told of an error, where more bytes may come
told_refused : (ended : Bool) (xs : List ℕ) (e : LinesCodecError) (next : Heard) (t : LinesCodec) (ys : List ℕ) → Refuses xs e t ys → IsToldAs e next
    → Finds ended xs (Some next) ys × ((IsLast (Some next) → ⊥) → GoesOn t ys)
told_refused ended xs MaxLineLengthExceeded next t ys long told =
    subst (λ (n : Heard). Finds ended xs (Some n) ys × ((IsLast (Some n) → ⊥) → GoesOn t ys)) (sym told) (long, λ never. absurd (never tt))
told_refused ended xs (Io e) next t ys is told = elim told [
  | inl memory ↦ subst (λ (n : Heard). Finds ended xs (Some n) ys × ((IsLast (Some n) → ⊥) → GoesOn t ys)) (sym memory.1) (tt, λ never. absurd (never tt))
  | inr text ↦ elim is [
    | inl a ↦ subst (λ (n : Heard). Finds ended xs (Some n) ys × ((IsLast (Some n) → ⊥) → GoesOn t ys)) (sym text.1) (inl a.1, λ _. begins t ys a.2)
    | inr memory ↦ absurd (text.0 memory)
  ]
]

pub refused_found : (c : LinesCodec) (xs : List ℕ) (e : LinesCodecError) (next : Heard) (t : LinesCodec) (ys : List ℕ) → GoesOn c xs → Decodes gives_lines c xs (Err e) t ys → IsToldAs e next
    → Finds false xs (Some next) ys
refused_found c xs e next t ys on is told = (told_refused false xs e next t ys (decoded_err xs e t ys (as_fresh c xs (decoded (Err e) t ys) on is)) told).0

pub refused_goes_on : (c : LinesCodec) (xs : List ℕ) (e : LinesCodecError) (next : Heard) (t : LinesCodec) (ys : List ℕ) → GoesOn c xs → Decodes gives_lines c xs (Err e) t ys → IsToldAs e next
    → (IsLast (Some next) → ⊥) → GoesOn t ys
refused_goes_on c xs e next t ys on is told = (told_refused false xs e next t ys (decoded_err xs e t ys (as_fresh c xs (decoded (Err e) t ys) on is)) told).1

-- What `decode_eof` answers there.
-- by whether no line ends among the bytes: what stands behind the last line end, or a line
abbrev pub LastIs : Bool → List ℕ → String Global → List ℕ → Type 0
LastIs true xs x ys = IsRest xs × (0 < length (string_bytes x)) × (string_bytes x ≡ without_carriage_return xs) × (ys ≡ [])
LastIs false xs x ys = (raw : List ℕ) × IsLine xs raw ys × (string_bytes x ≡ without_carriage_return raw)

broken : (xs raw ys : List ℕ) → IsLine xs raw ys → IsUnbroken xs → ⊥
broken xs raw ys is whole =
    let at : get_or xs (length raw) 0 ≡ 10 = ap (λ zs. get_or zs (length raw) 0) is.0 ∙ get_or-append_right raw (10 ∷ ys) (length raw) (length raw) 0 refl (omega arith) ∙ ap (λ k. get_or (10 ∷ ys) k 0) (let none : length raw - length raw ≡ 0 = omega arith in none) in
    whole (length raw) 0 (omega (arith, ap length is.0, length-append raw (10 ∷ ys))) at

rest_text : (xs : List ℕ) (x : String Global) (ys : List ℕ) → IsRest xs × AnswersLast xs (Ok (Some x)) ys → LastIs true xs x ys
rest_text xs x ys (rest, (some, text, none)) = (rest, subst (λ zs. 0 < length zs) (sym text) some, text, none)

last_is : (is_rest : Bool) (c : LinesCodec) (xs : List ℕ) (x : String Global) (t : LinesCodec) (ys : List ℕ) → (IsTrue is_rest ↔ IsUnbroken xs) → GoesOn c xs
    → DecodesAtEnd gives_lines c xs (Ok (Some x)) t ys → LastIs is_rest xs x ys × (t ≡ at_line_start 4096)
last_is true c xs x t ys tells on (inl is) =
    let found = decoded_ok xs x t ys (as_fresh c xs (decoded (Ok x) t ys) on is) in
    absurd (broken xs found.0.0 ys found.0.1 (tells.0 refl))
last_is false c xs x t ys tells on (inl is) = decoded_ok xs x t ys (as_fresh c xs (decoded (Ok x) t ys) on is)
last_is true c xs x t ys tells on (inr is) =
    let end = ended_so xs (Ok (Some x)) t ys (as_fresh c xs (at_end (Ok (Some x)) t ys) on is) in
    (rest_text xs x ys (end.0, end.1), end.2)
last_is false c xs x t ys tells on (inr is) =
    let end = ended_so xs (Ok (Some x)) t ys (as_fresh c xs (at_end (Ok (Some x)) t ys) on is) in
    absurd (true≢false (sym (tells.1 end.0.0)))

last_told : (is_rest : Bool) (c : LinesCodec) (xs : List ℕ) (x : String Global) (t : LinesCodec) (ys : List ℕ) → LastIs is_rest xs x ys → Finds true xs (Some (told_last is_rest x)) ys
last_told true c xs x t ys is = (refl, is.0, is.1, is.2, is.3)
last_told false c xs x t ys is = is

pub last_found : (is_rest : Bool) (c : LinesCodec) (xs : List ℕ) (x : String Global) (t : LinesCodec) (ys : List ℕ) (next : Heard) → next ≡ told_last is_rest x → (IsTrue is_rest ↔ IsUnbroken xs) → GoesOn c xs
    → DecodesAtEnd gives_lines c xs (Ok (Some x)) t ys → Finds true xs (Some next) ys
last_found is_rest c xs x t ys next same tells on is =
    subst (λ (n : Heard). Finds true xs (Some n) ys) (sym same) (last_told is_rest c xs x t ys (last_is is_rest c xs x t ys tells on is).0)

pub last_goes_on : (is_rest : Bool) (c : LinesCodec) (xs : List ℕ) (x : String Global) (t : LinesCodec) (ys : List ℕ) → (IsTrue is_rest ↔ IsUnbroken xs) → GoesOn c xs
    → DecodesAtEnd gives_lines c xs (Ok (Some x)) t ys → GoesOn t ys
last_goes_on is_rest c xs x t ys tells on is = begins t ys (last_is is_rest c xs x t ys tells on is).1

pub end_found : (c : LinesCodec) (xs : List ℕ) (t : LinesCodec) (ys : List ℕ) → GoesOn c xs → DecodesAtEnd gives_lines c xs (Ok None) t ys
    → (true ≡ true) × IsRest xs × (without_carriage_return xs ≡ []) × (ys ≡ xs)
end_found c xs t ys on is =
    let end = ended_so xs (Ok None) t ys (as_fresh c xs (at_end (Ok None) t ys) on is) in
    (refl, end.0, end.1.0, end.1.1)

pub end_goes_on : (c : LinesCodec) (xs : List ℕ) (t : LinesCodec) (ys : List ℕ) → GoesOn c xs → DecodesAtEnd gives_lines c xs (Ok None) t ys → GoesOn t ys
end_goes_on c xs t ys on is = begins t ys (ended_so xs (Ok None) t ys (as_fresh c xs (at_end (Ok None) t ys) on is)).2

end_refused : (xs : List ℕ) (e : LinesCodecError) (next : Heard) (t : LinesCodec) (ys : List ℕ) → IsRest xs → AnswersLast xs (Err e) ys → t ≡ at_line_start 4096 → IsToldAs e next
    → Finds true xs (Some next) ys × ((IsLast (Some next) → ⊥) → GoesOn t ys)
end_refused xs MaxLineLengthExceeded next t ys rest is start told = elim is [
  | inl a ↦ absurd a.0
  | inr b ↦ absurd b.0
]
end_refused xs (Io e) next t ys rest is start told = elim told [
  | inl memory ↦ subst (λ (n : Heard). Finds true xs (Some n) ys × ((IsLast (Some n) → ⊥) → GoesOn t ys)) (sym memory.1) (tt, λ never. absurd (never tt))
  | inr text ↦ elim is [
    | inl a ↦ subst (λ (n : Heard). Finds true xs (Some n) ys × ((IsLast (Some n) → ⊥) → GoesOn t ys)) (sym text.1) (inr (refl, rest, a.0.1, a.1), λ _. begins t ys start)
    | inr b ↦ absurd (text.0 b.0)
  ]
]

last_refused : (c : LinesCodec) (xs : List ℕ) (e : LinesCodecError) (next : Heard) (t : LinesCodec) (ys : List ℕ) → GoesOn c xs → DecodesAtEnd gives_lines c xs (Err e) t ys → IsToldAs e next
    → Finds true xs (Some next) ys × ((IsLast (Some next) → ⊥) → GoesOn t ys)
last_refused c xs e next t ys on (inl is) told = told_refused true xs e next t ys (decoded_err xs e t ys (as_fresh c xs (decoded (Err e) t ys) on is)) told
last_refused c xs e next t ys on (inr is) told =
    let end = ended_so xs (Err e) t ys (as_fresh c xs (at_end (Err e) t ys) on is) in
    end_refused xs e next t ys end.0 end.1 end.2 told

pub last_refused_found : (c : LinesCodec) (xs : List ℕ) (e : LinesCodecError) (next : Heard) (t : LinesCodec) (ys : List ℕ) → GoesOn c xs → DecodesAtEnd gives_lines c xs (Err e) t ys → IsToldAs e next
    → Finds true xs (Some next) ys
last_refused_found c xs e next t ys on is told = (last_refused c xs e next t ys on is told).0

pub last_refused_goes_on : (c : LinesCodec) (xs : List ℕ) (e : LinesCodecError) (next : Heard) (t : LinesCodec) (ys : List ℕ) → GoesOn c xs → DecodesAtEnd gives_lines c xs (Err e) t ys → IsToldAs e next
    → (IsLast (Some next) → ⊥) → GoesOn t ys
last_refused_goes_on c xs e next t ys on is told = (last_refused c xs e next t ys on is told).1
