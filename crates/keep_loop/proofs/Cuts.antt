-- How a connection's bytes are cut, as they come.
use Rattle.std.proofs.Common.{◌≡◌, ℕ, ◌<◌, ◌≤◌, List, [], ◌∷◌, ◌++◌, refl, sym, ◌∙◌, ap, subst, append_assoc, length, arith}
use Rattle.std.specs.Prelude.{◌==◌, false}
use Rattle.std.proofs.lemmas.List.Elements.{All-nil, All-append}
use Rattle.keep_loop.specs.Texts.{NoLineFeed}
use Rattle.keep_loop.specs.Cuts.{IsCut, IsCutBy, IsFed, most_line}
use Rattle.keep_loop.specs.declared.served.LineEnd.{LineEnd}
use Rattle.keep_loop.specs.declared.served.LineEnd.TheVariants.{Feed, Input, TooLong}

pub fed_nothing : IsFed [] [] []
fed_nothing = (refl, All-nil (λ b. (b == 10) ≡ false), omega arith)

pub cut_of_fed : (ended : ℕ) (came : List ℕ) (lines : List (List ℕ × LineEnd)) (held : List ℕ) → IsFed came lines held → IsCut ended came lines
cut_of_fed ended came [] held f = tt
cut_of_fed ended came (l ∷ lines) held f =
    (f.0, subst (λ e. IsCutBy ended came l.0 e lines (λ rest. IsCut ended rest lines)) (sym f.1) (f.2, f.3, f.4, cut_of_fed ended f.3 lines held f.5))

-- a piece of a line comes
pub fed_more : (came : List ℕ) (lines : List (List ℕ × LineEnd)) (held more : List ℕ) → IsFed came lines held → NoLineFeed more →
    length (held ++ more) ≤ most_line → IsFed (came ++ more) lines (held ++ more)
fed_more came [] held more f clear small = (ap (λ (l : List ℕ). l ++ more) f.0, All-append (λ b. (b == 10) ≡ false) held more f.1 clear, small)
fed_more came (l ∷ lines) held more f clear small =
    (f.0, f.1, f.2, f.3 ++ more, ap (λ (l : List ℕ). l ++ more) f.4 ∙ append_assoc l.0 (10 ∷ f.3) more, fed_more f.3 lines held more f.5 clear small)

-- its end comes
pub fed_line : (came : List ℕ) (lines : List (List ℕ × LineEnd)) (held front : List ℕ) → IsFed came lines held → NoLineFeed front →
    length (held ++ front) ≤ most_line → IsFed (came ++ (front ++ 10 ∷ [])) (lines ++ (held ++ front, Feed) ∷ []) []
fed_line came [] held front f clear small = (
  All-append (λ b. (b == 10) ≡ false) held front f.1 clear,
  refl,
  small,
  [],
  ap (λ (l : List ℕ). l ++ (front ++ 10 ∷ [])) f.0 ∙ sym (append_assoc held front (10 ∷ [])),
  fed_nothing,
)
fed_line came (l ∷ lines) held front f clear small = (
  f.0,
  f.1,
  f.2,
  f.3 ++ (front ++ 10 ∷ []),
  ap (λ (l : List ℕ). l ++ (front ++ 10 ∷ [])) f.4 ∙ append_assoc l.0 (10 ∷ f.3) (front ++ 10 ∷ []),
  fed_line f.3 lines held front f.5 clear small,
)

-- it has too many bytes
pub cut_long : (ended : ℕ) (came : List ℕ) (lines : List (List ℕ × LineEnd)) (held front rest : List ℕ) → IsFed came lines held → NoLineFeed front →
    most_line < length (held ++ front) → IsCut ended (came ++ (front ++ rest)) (lines ++ (held ++ front, TooLong) ∷ [])
cut_long ended came [] held front rest f clear long = (
  All-append (λ b. (b == 10) ≡ false) held front f.1 clear,
  (
    long,
    rest,
    ap (λ (l : List ℕ). l ++ (front ++ rest)) f.0 ∙ sym (append_assoc held front rest),
    refl,
  ),
)
cut_long ended came (l ∷ lines) held front rest f clear long = (
  f.0,
  subst (λ e. IsCutBy ended (came ++ (front ++ rest)) l.0 e (lines ++ (held ++ front, TooLong) ∷ []) (λ r. IsCut ended r (lines ++ (held ++ front, TooLong) ∷ []))) (sym f.1) (
    f.2,
    f.3 ++ (front ++ rest),
    ap (λ (l : List ℕ). l ++ (front ++ rest)) f.4 ∙ append_assoc l.0 (10 ∷ f.3) (front ++ rest),
    cut_long ended f.3 lines held front rest f.5 clear long,
  ),
)

-- the input ends behind it
pub cut_last : (ended : ℕ) (came : List ℕ) (lines : List (List ℕ × LineEnd)) (held : List ℕ) → IsFed came lines held → 0 < ended →
    IsCut ended came (lines ++ (held, Input) ∷ [])
cut_last ended came [] held f is = (f.1, (f.2, f.0, is, refl))
cut_last ended came (l ∷ lines) held f is = (
  f.0,
  subst (λ e. IsCutBy ended came l.0 e (lines ++ (held, Input) ∷ []) (λ r. IsCut ended r (lines ++ (held, Input) ∷ []))) (sym f.1)
      (f.2, f.3, f.4, cut_last ended f.3 lines held f.5 is),
)

cut_more_by : (came more line : List ℕ) (end : LineEnd) (lines : List (List ℕ × LineEnd)) (one two : List ℕ → Type 0) → ((rest : List ℕ) → one rest → two (rest ++ more)) →
    IsCutBy 0 came line end lines one → IsCutBy 0 (came ++ more) line end lines two
cut_more_by came more line Feed lines one two on i = (i.0, i.1 ++ more, ap (λ (l : List ℕ). l ++ more) i.2 ∙ append_assoc line (10 ∷ i.1) more, on i.1 i.3)
cut_more_by came more line Input lines one two on i = absurd (omega (arith, i.2))
cut_more_by came more line TooLong lines one two on i = (i.0, i.1 ++ more, ap (λ (l : List ℕ). l ++ more) i.2 ∙ append_assoc line i.1 more, i.3)

-- more comes, and no end has come
pub cut_more : (came more : List ℕ) (lines : List (List ℕ × LineEnd)) → IsCut 0 came lines → IsCut 0 (came ++ more) lines
cut_more came more [] i = tt
cut_more came more (l ∷ lines) i =
    (i.0, cut_more_by came more l.0 l.1 lines (λ rest. IsCut 0 rest lines) (λ rest. IsCut 0 rest lines) (λ rest. cut_more rest more lines) i.1)

cut_later_by : (a b : ℕ) → a ≤ b → (came line : List ℕ) (end : LineEnd) (lines : List (List ℕ × LineEnd)) (one two : List ℕ → Type 0) → ((rest : List ℕ) → one rest → two rest) →
    IsCutBy a came line end lines one → IsCutBy b came line end lines two
cut_later_by a b le came line Feed lines one two on i = (i.0, i.1, i.2, on i.1 i.3)
cut_later_by a b le came line Input lines one two on i = (i.0, i.1, (let is = i.2 in omega (arith, is, le)), i.3)
cut_later_by a b le came line TooLong lines one two on i = i

-- an end has come since
pub cut_later : (a b : ℕ) → a ≤ b → (came : List ℕ) (lines : List (List ℕ × LineEnd)) → IsCut a came lines → IsCut b came lines
cut_later a b le came [] i = tt
cut_later a b le came (l ∷ lines) i =
    (i.0, cut_later_by a b le came l.0 l.1 lines (λ rest. IsCut a rest lines) (λ rest. IsCut b rest lines) (λ rest. cut_later a b le rest lines) i.1)
