-- The first line of a text stands in its head.
use Rattle.std.proofs.Common.{◌≡◌, ◌<◌, ◌≤◌, ◌⊎◌, ◌↔◌, inl, inr, Bool, true, false, ℕ, zero, suc, List, [], ◌∷◌, ◌++◌, length, take, refl, sym, ap, subst, ◌∙◌, append_assoc, length-append, arith, ◌==◌}
use Rattle.std.specs.Prelude.{Option, None, Some, MatchOption, All, IsTrue}
use mathlib.Core.Bool.{not}
use Rattle.std.specs.Io.KnownBytes.{Consumes}
use Rattle.std.specs.Str.Lines.{lines}
use Rattle.std.proofs.lemmas.Bool.{cases_lt, cases_eq}
use Rattle.std.proofs.lemmas.List.{append-nil, take-append-le}
use Rattle.std.proofs.lemmas.List.Elements.{All-nil, All-cons, All-head, All-tail, All-take}
use Rattle.value_core.specs.Runs.{NoLineFeed}
use Rattle.value_core.proofs.Cutting.{lines-at}
use Rattle.value_core.proofs.Known.{Consumes-then}
use Rattle.std.proofs.lemmas.Grind.{common_steps}
use Rattle.decl_core.specs.ObjectForm.{ObjectForm}
use Rattle.word_core.specs.First.{IsFirstObject, IsObjectLine}
use Rattle.check_core.specs.Opening.{IsTold, IsReady, unnamed, faulty, lacking, refused}
use Rattle.check_core.specs.Named.{HasShortLine, NamesObject}

-- one read more
pub taken_more : (old mid new : Option (List ℕ)) (head piece grown : List ℕ) → Consumes old mid head → Consumes mid new piece → grown ≡ head ++ piece → Consumes old new grown
taken_more old mid new head piece grown one two is = subst (Consumes old new) (sym is) (Consumes-then old mid new head piece one two)

is_clear : ℕ → Type 0
is_clear b = (b == 10) ≡ false

-- a text has no LF, or a first one
pub record FirstFeed (bytes : List ℕ) : Type 0 where
  pub front : List ℕ
  pub back : List ℕ
  pub clear : NoLineFeed front
  pub split : bytes ≡ front ++ 10 ∷ back

-- where the LF stands, no more than what is before it has none
pub feed_behind : (n : ℕ) (front back : List ℕ) → NoLineFeed (take n (front ++ 10 ∷ back)) → n ≤ length front
feed_behind zero front back clear = omega arith
feed_behind (suc n) [] back clear = absurd (let h = All-head (λ b. (b == 10) ≡ false) 10 (take n back) clear in cc)
feed_behind (suc n) (b ∷ front) back clear =
    let less = feed_behind n front back (All-tail (λ c. (c == 10) ≡ false) b (take n (front ++ 10 ∷ back)) clear) in
    omega (arith, less)

-- the first line is short where its LF stands among the first bytes
pub short_at : (front back : List ℕ) → length front < 65536 → HasShortLine (front ++ 10 ∷ back)
short_at front back less clear = absurd (omega (arith, less, feed_behind 65536 front back clear))

pub at_short : (front back : List ℕ) → NoLineFeed front → HasShortLine (front ++ 10 ∷ back) → length front < 65536
at_short front back clear short = elim (cases_lt (length front) 65536) [
  | inl less ↦ less
  | inr more ↦
      let all : length (front ++ 10 ∷ back) ≤ 65536 = short (subst (All (λ b. (b == 10) ≡ false)) (sym (take-append-le 65536 front (10 ∷ back) (omega (arith, more)))) (All-take (λ b. (b == 10) ≡ false) 65536 front clear)) in
      absurd (omega (arith, more, all, length-append front (10 ∷ back)))
]

-- what ends a text without LF has none
pub clear_end : (head piece : List ℕ) → NoLineFeed (head ++ piece) → NoLineFeed piece
clear_end [] piece clear = clear
clear_end (b ∷ head) piece clear = clear_end head piece (All-tail (λ c. (c == 10) ≡ false) b (head ++ piece) clear)

-- where the first bytes of a text that is longer are tested, the test tells whether its first line is short
pub short_told : (clear : Bool) (text : List ℕ) → 65536 < length text → (IsTrue clear ↔ NoLineFeed (take 65536 text)) → IsTrue (not clear) ↔ HasShortLine text
short_told true text long tells = (λ no. absurd cc, λ short. absurd (omega (arith, long, short (tells.0 refl))))
short_told false text long tells = (λ no clear. absurd (let e = tells.1 clear in cc), λ short. refl)

-- where the test fails there is an LF
pub not_clear : (clear : Bool) (bytes : List ℕ) → (IsTrue clear ↔ NoLineFeed bytes) → clear ≡ false → NoLineFeed bytes → ⊥
not_clear clear bytes tells fails is = let e = tells.1 is in cc

-- a text has no LF, or a first one
pub first_feed : (bytes : List ℕ) → NoLineFeed bytes ⊎ FirstFeed bytes
first_feed [] = inl (All-nil (λ b. (b == 10) ≡ false))
first_feed (b ∷ bytes) = elim (cases_eq b 10) [
  | inl feed ↦ inr (record { front = []; back = bytes; clear = All-nil (λ c. (c == 10) ≡ false); split = ap (λ c. c ∷ bytes) feed })
  | inr other ↦
      let clear : (b == 10) ≡ false = grind (other, arith, common_steps) in
      elim (first_feed bytes) [
        | inl rest ↦ inl (All-cons (λ c. (c == 10) ≡ false) b bytes clear rest)
        | inr found ↦ inr (record { front = b ∷ found.front; back = found.back; clear = All-cons (λ c. (c == 10) ≡ false) b found.front clear found.clear; split = ap (λ r. b ∷ r) found.split })
      ]
]

-- two texts with one first line
pub first_alike : (first second : List ℕ) (line : List ℕ) (more others : List (List ℕ)) (name : List ℕ) → lines first ≡ line ∷ more → lines second ≡ line ∷ others
    → IsFirstObject first name → IsFirstObject second name
first_alike first second line more others name one two is =
    let same : is.0 ≡ line = let e = sym is.2 ∙ one in cc in
    (line, others, two, subst (λ l. IsObjectLine l name) same is.3)

-- The first line of a head with an LF is that of the text.
pub fed_alike : (front back rest name : List ℕ) → NoLineFeed front → NamesObject (front ++ 10 ∷ back) name ↔ NamesObject (front ++ 10 ∷ (back ++ rest)) name
fed_alike front back rest name clear =
    let one = lines-at front back clear in
    let two = lines-at front (back ++ rest) clear in (
      λ is. (short_at front (back ++ rest) (at_short front back clear is.0), (is.1.0, first_alike (front ++ 10 ∷ back) (front ++ 10 ∷ (back ++ rest)) _ _ _ is.1.0 one two is.1.1, is.1.2)),
      λ is. (short_at front back (at_short front (back ++ rest) clear is.0), (is.1.0, first_alike (front ++ 10 ∷ (back ++ rest)) (front ++ 10 ∷ back) _ _ _ is.1.0 two one is.1.1, is.1.2)),
    )

-- A first line without LF that is too long names nothing.
pub long_names_none : (head rest name : List ℕ) → NoLineFeed head → 65536 < length head → NamesObject (head ++ rest) name → ⊥
long_names_none head rest name clear long is =
    let front : NoLineFeed (take 65536 (head ++ rest)) = subst NoLineFeed (sym (take-append-le 65536 head rest (omega (arith, long)))) (All-take (λ b. (b == 10) ≡ false) 65536 head clear) in
    omega (arith, long, is.0 front, length-append head rest)

-- What the head of a text names is what the text names.
pub named_alike : (head rest name : List ℕ) → (NoLineFeed head → length head ≤ 65536 → rest ≡ []) → NamesObject head name ↔ NamesObject (head ++ rest) name
named_alike head rest name enough = elim (first_feed head) [
  | inl clear ↦ elim (cases_lt 65536 (length head)) [
    | inl long ↦ (
      λ is. absurd (long_names_none head [] name clear long (subst (λ t. NamesObject t name) (sym (append-nil head)) is)),
      λ is. absurd (long_names_none head rest name clear long is),
    )
    | inr short ↦
        let all : head ++ rest ≡ head = ap (λ r. head ++ r) (enough clear short) ∙ append-nil head in
        (λ is. subst (λ t. NamesObject t name) (sym all) is, λ is. subst (λ t. NamesObject t name) all is)
  ]
  | inr found ↦
      let split : head ++ rest ≡ found.front ++ 10 ∷ (found.back ++ rest) = ap (λ h. h ++ rest) found.split ∙ append_assoc found.front (10 ∷ found.back) rest in
      let alike = fed_alike found.front found.back rest name found.clear in (
        λ is. subst (λ t. NamesObject t name) (sym split) (alike.0 (subst (λ t. NamesObject t name) found.split is)),
        λ is. subst (λ t. NamesObject t name) (sym found.split) (alike.1 (subst (λ t. NamesObject t name) split is)),
      )
]

-- So is what it is told, and what it runs on.
pub told_alike : (source head rest line : List ℕ) → (NoLineFeed head → length head ≤ 65536 → rest ≡ []) → IsTold source head line → IsTold source (head ++ rest) line
told_alike source head rest line enough (unnamed none) = unnamed (λ name is. none name ((named_alike head rest name enough).1 is))
told_alike source head rest line enough (faulty named why) = faulty ((named_alike head rest _ enough).0 named) why
told_alike source head rest line enough (lacking named without) = lacking ((named_alike head rest _ enough).0 named) without
told_alike source head rest line enough (refused named found why) = refused ((named_alike head rest _ enough).0 named) found why

pub ready_alike : (source head rest : List ℕ) (o : ObjectForm) → (NoLineFeed head → length head ≤ 65536 → rest ≡ []) → IsReady source head o → IsReady source (head ++ rest) o
ready_alike source head rest o enough ready = record {
  name = ready.name;
  named = (named_alike head rest ready.name enough).0 ready.named;
  found = ready.found;
  exclusive = ready.exclusive;
}

-- where no name was found, none is there
pub none_named : (head : List ℕ) (found : Option (List ℕ)) → found ≡ None
    → MatchOption found ((name : List ℕ) → NamesObject head name → ⊥) (λ name. NamesObject head name) → (name : List ℕ) → NamesObject head name → ⊥
none_named head None is told = told
none_named head (Some found) is told = absurd cc
