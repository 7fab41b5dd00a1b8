-- How lines are cut from a text.
use Rattle.std.proofs.Common.{◌≡◌, ℕ, ◌<◌, false, List, [], ◌∷◌, ◌++◌, length, refl, sym, ap, ◌∙◌, append_assoc, arith, ◌==◌, if◌then◌else◌}
use Rattle.std.specs.List.{slice_split}
use Rattle.std.specs.Str.Lines.{lines, lines_of_parts, strip_carriage_return}
use Rattle.std.proofs.lemmas.List.Splits.{slice_split_at, slice_split_none, length-slice_split}
use Rattle.std.proofs.lemmas.List.Elements.{All-append}
use Rattle.std.proofs.lemmas.Grind.{common_steps}
use Rattle.value_core.specs.Runs.{Cuts, NoLineFeed}

-- a part that others follow is a line that has ended
pub lines_of_parts-ended : (part : List ℕ) (parts : List (List ℕ)) → 0 < length parts → lines_of_parts (part ∷ parts) ≡ strip_carriage_return part ∷ lines_of_parts parts
lines_of_parts-ended part [] some = absurd (omega arith)
lines_of_parts-ended part (next ∷ parts) some = refl

-- the first line ends at the first LF
pub lines-at : (front back : List ℕ) → NoLineFeed front → lines (front ++ 10 ∷ back) ≡ strip_carriage_return front ∷ lines back
lines-at front back clear =
    let cut : slice_split (λ b. b == 10) (front ++ 10 ∷ back) ≡ front ∷ slice_split (λ b. b == 10) back
    = slice_split_at (λ b. b == 10) front 10 back clear refl in
    let some : 0 < length (slice_split (λ b. b == 10) back) = omega (arith, length-slice_split (λ b. b == 10) back) in
    ap lines_of_parts cut ∙ lines_of_parts-ended front (slice_split (λ b. b == 10) back) some

-- with no LF it is the last
pub lines-last : (text : List ℕ) → NoLineFeed text → lines text ≡ (if length text == 0 then [] else text ∷ [])
lines-last text clear = ap lines_of_parts (slice_split_none (λ b. b == 10) text clear)

-- nothing is cut yet
pub Cuts-none : (held : List ℕ) → Cuts held [] held
Cuts-none held more = refl

-- one more piece with no LF
pub Cuts-held : (text : List ℕ) (whole : List (List ℕ)) (held piece : List ℕ) → Cuts text whole held → Cuts (text ++ piece) whole (held ++ piece)
Cuts-held text whole held piece cuts more =
    ap lines (append_assoc text piece more) ∙ cuts (piece ++ more) ∙ ap (λ bs. whole ++ lines bs) (sym (append_assoc held piece more))

-- one more line
pub Cuts-more : (text : List ℕ) (whole : List (List ℕ)) (held front : List ℕ) → Cuts text whole held → NoLineFeed held → NoLineFeed front
    → Cuts (text ++ (front ++ 10 ∷ [])) (whole ++ strip_carriage_return (held ++ front) ∷ []) []
Cuts-more text whole held front cuts held_clear front_clear more =
    let line = strip_carriage_return (held ++ front) in
    let clear : NoLineFeed (held ++ front) = All-append (λ b. (b == 10) ≡ false) held front held_clear front_clear in
    let one : lines ((held ++ front) ++ 10 ∷ more) ≡ line ∷ lines more = lines-at (held ++ front) more clear in
    let left : (text ++ (front ++ 10 ∷ [])) ++ more ≡ text ++ (front ++ 10 ∷ more) = simp append_assoc in
    let right : held ++ (front ++ 10 ∷ more) ≡ (held ++ front) ++ 10 ∷ more = sym (append_assoc held front (10 ∷ more)) in
    let joined : (whole ++ line ∷ []) ++ lines more ≡ whole ++ line ∷ lines more = simp append_assoc in
    ap lines left ∙ cuts (front ++ 10 ∷ more) ∙ ap (λ bs. whole ++ lines bs) right ∙ ap (λ ls. whole ++ ls) one ∙ sym joined

-- one text after another
pub Cuts-then : (first : List ℕ) (whole : List (List ℕ)) (held second : List ℕ) (others : List (List ℕ)) (holds : List ℕ)
    → Cuts first whole held → Cuts (held ++ second) others holds → Cuts (first ++ second) (whole ++ others) holds
Cuts-then first whole held second others holds one two more =
    ap lines (append_assoc first second more) ∙ one (second ++ more)
    ∙ ap (λ bs. whole ++ lines bs) (sym (append_assoc held second more)) ∙ ap (λ ls. whole ++ ls) (two more) ∙ sym (append_assoc whole others (lines (holds ++ more)))

-- the same, of a text that has some byte
pub last_line : (text : List ℕ) → NoLineFeed text → 0 < length text → lines text ≡ text ∷ []
last_line [] clear some = absurd (omega arith)
last_line (b ∷ text) clear some =
    let no : (length (b ∷ text) == 0) ≡ false = grind (arith, common_steps) in
    lines-last (b ∷ text) clear ∙ ap (λ t. if t then [] else (b ∷ text) ∷ []) no
