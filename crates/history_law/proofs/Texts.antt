-- The lines of a text that was cut behind a line.
use Rattle.std.proofs.Common.{◌≡◌, ◌⊎◌, inl, inr, ⊎_elim, ℕ, ◌<◌, true, false, List, [], ◌∷◌, ◌++◌, length, refl, sym, ap, subst, ◌∙◌, append_assoc, arith, ◌==◌}
use Rattle.std.specs.Prelude.{Bool, cond, ◌||◌, All}
use Rattle.std.specs.List.{slice_split}
use Rattle.std.specs.Str.Lines.{lines, lines_of_parts, strip_carriage_return}
use Rattle.std.proofs.lemmas.List.Splits.{slice_split_at, length-slice_split}
use Rattle.std.proofs.lemmas.List.Elements.{All-append, All-from_recursion}
use Rattle.std.proofs.lemmas.Bool.{cases_eq}
use Rattle.std.proofs.lemmas.Bool.Decides.{nat_tests}
use Rattle.keep_loop.specs.Journal.{has_end, whole}

abbrev NoEnd : List ℕ → Type 0
NoEnd text = All (λ b. (b == 10) ≡ false) text

none_clear : NoEnd []
none_clear = All-from_recursion (λ b. (b == 10) ≡ false) [] tt

one_clear : (byte : ℕ) → (byte == 10) ≡ false → NoEnd (byte ∷ [])
one_clear byte inner = All-from_recursion (λ b. (b == 10) ≡ false) (byte ∷ []) (inner, tt)

lines_of_parts-ended : (part : List ℕ) (parts : List (List ℕ)) → 0 < length parts → lines_of_parts (part ∷ parts) ≡ strip_carriage_return part ∷ lines_of_parts parts
lines_of_parts-ended part [] some = absurd (omega arith)
lines_of_parts-ended part (next ∷ parts) some = refl

lines-at : (front back : List ℕ) → NoEnd front → lines (front ++ 10 ∷ back) ≡ strip_carriage_return front ∷ lines back
lines-at front back clear =
    let cut : slice_split (λ b. b == 10) (front ++ 10 ∷ back) ≡ front ∷ slice_split (λ b. b == 10) back
    = slice_split_at (λ b. b == 10) front 10 back clear refl in
    let some : 0 < length (slice_split (λ b. b == 10) back) = omega (arith, length-slice_split (λ b. b == 10) back) in
    ap lines_of_parts cut ∙ lines_of_parts-ended front (slice_split (λ b. b == 10) back) some

chosen : {A : Type 0} (b : Bool) (x y z : A) → cond b x y ≡ z → ((b ≡ true) × (x ≡ z)) ⊎ ((b ≡ false) × (y ≡ z))
chosen true x y z is = inl (refl, is)
chosen false x y z is = inr (refl, is)

parts : (byte : ℕ) (text : List ℕ) → whole (byte ∷ text) ≡ byte ∷ text → (has_end (byte ∷ text) ≡ true) × (whole text ≡ text)
parts byte text is = elim (chosen (has_end (byte ∷ text)) (byte ∷ whole text) [] (byte ∷ text) is) [
  | inl h ↦ (h.0, cc h.1)
  | inr h ↦ absurd (cc h.1)
]

-- a text of whole lines ends a line, or it is empty
abbrev Ends : List ℕ → List ℕ → Type 0
Ends held text = (has_end text ≡ true) ⊎ ((held ≡ []) × (text ≡ []))

ends : (text : List ℕ) → whole text ≡ text → Ends [] text
ends [] is = inr (refl, refl)
ends (byte ∷ text) is = inl (parts byte text is).0

cut_at : (held text more : List ℕ) → NoEnd held → Ends held text → whole text ≡ text → lines ((held ++ text) ++ more) ≡ lines (held ++ text) ++ lines more
cut_at held [] more clear end is = ⊎_elim (λ none. absurd (cc none)) (λ both. ap (λ (l : List ℕ). lines ((l ++ []) ++ more)) both.0 ∙ ap (λ (l : List ℕ). lines (l ++ []) ++ lines more) (sym both.0)) end
cut_at held (byte ∷ text) more clear end is =
    let p = parts byte text is in
    elim (cases_eq byte 10) [
      | inl ten ↦
          let later : lines (text ++ more) ≡ lines text ++ lines more = cut_at [] text more none_clear (ends text p.1) p.1 in
          let one : lines (held ++ 10 ∷ (text ++ more)) ≡ strip_carriage_return held ∷ lines (text ++ more) = lines-at held (text ++ more) clear in
          let two : lines (held ++ 10 ∷ text) ≡ strip_carriage_return held ∷ lines text = lines-at held text clear in
          let at_ten : lines ((held ++ 10 ∷ text) ++ more) ≡ lines (held ++ 10 ∷ text) ++ lines more =
          ap lines (append_assoc held (10 ∷ text) more) ∙ one ∙ ap (λ (l : List (List ℕ)). strip_carriage_return held ∷ l) later ∙ ap (λ (l : List (List ℕ)). l ++ lines more) (sym two) in
          subst (λ b. lines ((held ++ b ∷ text) ++ more) ≡ lines (held ++ b ∷ text) ++ lines more) (sym ten) at_ten
      | inr other ↦
          let inner : (byte == 10) ≡ false = grind (arith, nat_tests) in
          let some : has_end text ≡ true = grind (arith, nat_tests) in
          let held_clear : NoEnd (held ++ byte ∷ []) = All-append (λ b. (b == 10) ≡ false) held (byte ∷ []) clear (one_clear byte inner) in
          let later : lines (((held ++ byte ∷ []) ++ text) ++ more) ≡ lines ((held ++ byte ∷ []) ++ text) ++ lines more = cut_at (held ++ byte ∷ []) text more held_clear (inl some) p.1 in
          let same : (held ++ byte ∷ []) ++ text ≡ held ++ byte ∷ text = append_assoc held (byte ∷ []) text in
          subst (λ l. lines (l ++ more) ≡ lines l ++ lines more) same later
    ]

pub lines_cut : (text more : List ℕ) → whole text ≡ text → lines (text ++ more) ≡ lines text ++ lines more
lines_cut text more is = cut_at [] text more none_clear (ends text is) is
