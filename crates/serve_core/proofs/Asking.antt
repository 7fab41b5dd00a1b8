-- Calls that are made one after another, and lines of value files.
use Rattle.std.proofs.Common.{◌≡◌, ◌<◌, ◌≤◌, ◌+◌, ℕ, List, [], ◌∷◌, ◌++◌, Bool, true, false, length, take, get_or, refl, sym, ap, ◌∙◌, subst, arith, codes}
use Rattle.std.proofs.lemmas.List.{take_more, take_all, append_assoc, append-nil, length-append}
use Rattle.serve_core.specs.Numbers.{value_name}
use Rattle.serve_core.specs.Deeds.{Deed, removes, puts, RemovesAll, removed, PutsAll, nothing, moved, stayed}
use Rattle.serve_core.specs.Told.{values_text}

-- one file more is removed
pub remove_more : {V : Type 0} (does : V → Deed → V → Type 0) (old values next : V) (xs : List ℕ) (i : ℕ) (gone : Bool) → i < length xs → RemovesAll does old (take i xs) values → does values (removes (get_or xs i 0) gone) next → RemovesAll does old (take (i + 1) xs) next
remove_more does old values next xs i gone within so made =
    subst (λ l. RemovesAll does old l next) (sym (take_more xs i 0 within)) (removed (take i xs) values next (get_or xs i 0) gone so made)

pub removed_all : {V : Type 0} (does : V → Deed → V → Type 0) (old values : V) (xs : List ℕ) (i : ℕ) → length xs ≤ i → RemovesAll does old (take i xs) values → RemovesAll does old xs values
removed_all does old values xs i past so = subst (λ l. RemovesAll does old l values) (take_all i xs past) so

-- one file more is moved
pub put_more : {V : Type 0} (does : V → Deed → V → Type 0) (left : ℕ) (old values next : V) (xs there stays : List ℕ) (i : ℕ) → i < length xs → PutsAll does left old (take i xs) there stays values → does values (puts (get_or xs i 0) left true) next
    → PutsAll does left old (take (i + 1) xs) (there ++ get_or xs i 0 ∷ []) stays next
put_more does left old values next xs there stays i within so made =
    subst (λ l. PutsAll does left old l (there ++ get_or xs i 0 ∷ []) stays next) (sym (take_more xs i 0 within)) (moved (take i xs) there stays values next (get_or xs i 0) so made)

-- one file more stays
pub stay_more : {V : Type 0} (does : V → Deed → V → Type 0) (left : ℕ) (old values next : V) (xs there stays : List ℕ) (i : ℕ) → i < length xs → PutsAll does left old (take i xs) there stays values → does values (puts (get_or xs i 0) left false) next
    → PutsAll does left old (take (i + 1) xs) there (stays ++ get_or xs i 0 ∷ []) next
stay_more does left old values next xs there stays i within so made =
    subst (λ l. PutsAll does left old l there (stays ++ get_or xs i 0 ∷ []) next) (sym (take_more xs i 0 within)) (stayed (take i xs) there stays values next (get_or xs i 0) so made)

pub put_all : {V : Type 0} (does : V → Deed → V → Type 0) (left : ℕ) (old values : V) (xs there stays : List ℕ) (i : ℕ) → length xs ≤ i → PutsAll does left old (take i xs) there stays values → PutsAll does left old xs there stays values
put_all does left old values xs there stays i past so = subst (λ l. PutsAll does left old l there stays values) (take_all i xs past) so

-- the text of one file more
text_more : (xs : List ℕ) (x : ℕ) → values_text (xs ++ x ∷ []) ≡ values_text xs ++ (codes " " ++ value_name x)
text_more [] x = append-nil (codes " " ++ value_name x)
text_more (y ∷ xs) x = ap (λ t. (codes " " ++ value_name y) ++ t) (text_more xs x) ∙ sym (append_assoc (codes " " ++ value_name y) (values_text xs) (codes " " ++ value_name x))

pub add_more : (front line new xs : List ℕ) (i : ℕ) → i < length xs → line ≡ front ++ values_text (take i xs) → new ≡ line ++ (codes " " ++ value_name (get_or xs i 0)) → new ≡ front ++ values_text (take (i + 1) xs)
add_more front line new xs i within so added =
    added ∙ ap (λ t. t ++ (codes " " ++ value_name (get_or xs i 0))) so ∙ append_assoc front (values_text (take i xs)) (codes " " ++ value_name (get_or xs i 0))
    ∙ ap (λ t. front ++ t) (sym (text_more (take i xs) (get_or xs i 0)) ∙ ap values_text (sym (take_more xs i 0 within)))

-- nothing is moved yet
pub first_puts : {V : Type 0} (does : V → Deed → V → Type 0) (left : ℕ) (old : V) (there stays : List ℕ) (m n : ℕ) → there ≡ [] → stays ≡ []
    → PutsAll does left old [] there stays old × (length there ≤ 0) × (length stays ≤ 0) × (m ≡ m) × (n ≡ n)
first_puts does left old there stays m n one two =
    (subst (λ l. PutsAll does left old [] l stays old) (sym one) (subst (λ l. PutsAll does left old [] [] l old) (sym two) nothing), subst (λ l. length l ≤ 0) (sym one) (omega arith), subst (λ l. length l ≤ 0) (sym two) (omega arith), refl, refl)

longer : (xs : List ℕ) (x i : ℕ) → length xs ≤ i → length (xs ++ x ∷ []) ≤ i + 1
longer xs x i few = let long : length (xs ++ x ∷ []) ≡ length xs + 1 = length-append xs (x ∷ []) in omega (arith, long, few)

-- one file more is moved, and room is left for what stays
pub puts_more : {V : Type 0} (does : V → Deed → V → Type 0) (left : ℕ) (old values next : V) (xs there stays more : List ℕ) (i : ℕ) (answer : Bool) (one first two second : ℕ) → i < length xs → PutsAll does left old (take i xs) there stays values
    → length there ≤ i → length stays ≤ i → does values (puts (get_or xs i 0) left answer) next → answer ≡ true → more ≡ there ++ get_or xs i 0 ∷ [] → one ≡ first → two ≡ second
    → PutsAll does left old (take (i + 1) xs) more stays next × (length more ≤ i + 1) × (length stays ≤ i + 1) × (one ≡ first) × (two ≡ second)
puts_more does left old values next xs there stays more i answer one first two second within so few many made went is same equal = (
  subst (λ l. PutsAll does left old (take (i + 1) xs) l stays next) (sym is) (put_more does left old values next xs there stays i within so (subst (λ b. does values (puts (get_or xs i 0) left b) next) went made)),
  subst (λ l. length l ≤ i + 1) (sym is) (longer there (get_or xs i 0) i few),
  omega (arith, many),
  same,
  equal,
)

-- one file more stays
pub stays_more : {V : Type 0} (does : V → Deed → V → Type 0) (left : ℕ) (old values next : V) (xs there stays more : List ℕ) (i : ℕ) (answer : Bool) (one first two second : ℕ) → i < length xs → PutsAll does left old (take i xs) there stays values
    → length there ≤ i → length stays ≤ i → does values (puts (get_or xs i 0) left answer) next → answer ≡ false → more ≡ stays ++ get_or xs i 0 ∷ [] → one ≡ first → two ≡ second
    → PutsAll does left old (take (i + 1) xs) there more next × (length there ≤ i + 1) × (length more ≤ i + 1) × (one ≡ first) × (two ≡ second)
stays_more does left old values next xs there stays more i answer one first two second within so few many made fails is same equal = (
  subst (λ l. PutsAll does left old (take (i + 1) xs) there l next) (sym is) (stay_more does left old values next xs there stays i within so (subst (λ b. does values (puts (get_or xs i 0) left b) next) fails made)),
  omega (arith, few),
  subst (λ l. length l ≤ i + 1) (sym is) (longer stays (get_or xs i 0) i many),
  same,
  equal,
)
