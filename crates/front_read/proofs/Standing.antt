-- Rows at the front of a text.
use Rattle.std.proofs.Common.{◌≡◌, ℕ, List, [], ◌∷◌, ◌++◌, sym, ap, ◌∙◌, subst, append_assoc}
use Rattle.std.specs.Prelude.{Option, Some, None, Result, Ok, Err, IfOk}
use Rattle.std.specs.Borrow.{Bor}
use Rattle.value_core.specs.Runs.{NoLineFeed}
use Rattle.std.specs.Global.{Vec}
use Rattle.word_core.specs.declared.word.Word as declared
use Rattle.word_core.specs.View.{AreWordsOf, words_of}
use Rattle.word_core.specs.Words.{Word, AreWords, words_text, line_of}
use Rattle.word_core.proofs.Cutting.{words_unique}
use Rattle.word_core.proofs.Written.{written_words}
use Rattle.word_core.proofs.Plain.{EachSafe, each_word}
use Rattle.front_read.specs.Rows.{Finds, NoRow, Gives, GivesThis, Takes, TakesThis}
use Rattle.front_read.proofs.Calling.{some_same, not_some}
use Rattle.front_read.proofs.Clear.{no_feed}

-- the first line of a text
abbrev pub IsFirstLine : List ℕ → List ℕ → Type 0
IsFirstLine text first = (line rest : List ℕ) → NoLineFeed line → text ≡ line ++ 10 ∷ rest → first ≡ line

-- rows of this kind stand on one line
abbrev pub AreClear : {X : Type 0} → (X → Type 0) → (X → List Word) → Type 0
AreClear {X} Is w = (x : X) → Is x → EachSafe (w x)

-- the first line of a text that begins with a line has its words
pub line_words : (text first rest : List ℕ) (ws : List Word) → IsFirstLine text first → EachSafe ws → text ≡ line_of ws ++ rest → AreWords first ws
line_words text first rest ws is safe stands =
    let line : first ≡ words_text ws = is (words_text ws) rest (no_feed ws safe) (stands ∙ append_assoc (words_text ws) (10 ∷ []) rest) in
    subst (λ l. AreWords l ws) (sym line) (written_words ws (each_word ws safe))

pub same_words : (text first rest : List ℕ) (ws vs : List Word) → IsFirstLine text first → AreWords first ws → EachSafe vs → text ≡ line_of vs ++ rest → ws ≡ vs
same_words text first rest ws vs is are safe stands = words_unique first ws vs are (line_words text first rest vs is safe stands)

-- where the first line has no words there is no row
pub no_words : {X : Type 0} (Is : X → Type 0) (w : X → List Word) (text first : List ℕ) → AreClear Is w → IsFirstLine text first → ((all : List Word) → AreWords first all → ⊥) → NoRow Is w text
no_words Is w text first clear is none x rest row = none (w x) (line_words text first rest (w x) is (clear x row.is) row.stands)

-- where its words tell nothing there is none
pub not_told : {X Y : Type 0} (Is : X → Type 0) (w : X → List Word) (view : Y → X) (text first : List ℕ) (ws : List Word) → AreClear Is w → IsFirstLine text first → AreWords first ws → Finds Is w view ws None → NoRow Is w text
not_told Is w view text first ws clear is are finds x rest row =
    not_some x (finds.0 x row.is (same_words text first rest ws (w x) is are (clear x row.is) row.stands))

there_is : {X : Type 0} (w : X → List Word) (x y : X) (text rest : List ℕ) → y ≡ x → text ≡ line_of (w x) ++ rest → text ≡ line_of (w y) ++ rest
there_is w x y text rest same stands = stands ∙ ap (λ z. line_of (w z) ++ rest) (sym same)

-- where they tell something the row is of this, or of nothing
pub takes_told : {X Y : Type 0} (Is : X → Type 0) (w : X → List Word) (view : Y → X) (y : Y) (text first : List ℕ) (ws : List Word) (old : List X) (found : Option (Bor (List ℕ))) (new : List X) → AreClear Is w → IsFirstLine text first → AreWords first ws
    → Finds Is w view ws (Some y) → TakesThis w (view y) text old found new → Takes Is w text old found new
takes_told Is w view y text first ws old None new clear is are finds takes =
    λ x rest row. takes rest (there_is w x (view y) text rest (some_same (finds.0 x row.is (same_words text first rest ws (w x) is are (clear x row.is) row.stands))) row.stands)
takes_told Is w view y text first ws old (Some rest) new clear is are finds takes = (view y, record { is = finds.1; stands = takes.0 }, takes.1)

pub takes_ok : {X Y E : Type 0} (Is : X → Type 0) (w : X → List Word) (view : Y → X) (y : Y) (text first : List ℕ) (ws : List Word) (old : List X) (found : Result (Option (Bor (List ℕ))) E) (new : List X) → AreClear Is w → IsFirstLine text first → AreWords first ws
    → Finds Is w view ws (Some y) → IfOk found (λ f. TakesThis w (view y) text old f new) → IfOk found (λ f. Takes Is w text old f new)
takes_ok Is w view y text first ws old (Ok found) new clear is are finds takes = takes_told Is w view y text first ws old found new clear is are finds takes
takes_ok Is w view y text first ws old (Err e) new clear is are finds takes = tt

pub gives_told : {X : Type 0} (Is : X → Type 0) (w : X → List Word) (y : X) (text first : List ℕ) (ws : List Word) (found : Option (X × Bor (List ℕ))) → AreClear Is w → IsFirstLine text first → AreWords first ws → Finds Is w (λ x. x) ws (Some y)
    → GivesThis w y text found → Gives Is w text found
gives_told Is w y text first ws None clear is are finds gives =
    λ x rest row. gives rest (there_is w x y text rest (some_same (finds.0 x row.is (same_words text first rest ws (w x) is are (clear x row.is) row.stands))) row.stands)
gives_told Is w y text first ws (Some r) clear is are finds gives =
    record { is = subst Is (sym gives.0) finds.1; stands = there_is w y r.0 text r.1.now gives.0 gives.1 }

pub gives_ok : {X E : Type 0} (Is : X → Type 0) (w : X → List Word) (y : X) (text first : List ℕ) (ws : List Word) (found : Result (Option (X × Bor (List ℕ))) E) → AreClear Is w → IsFirstLine text first → AreWords first ws → Finds Is w (λ x. x) ws (Some y)
    → IfOk found (GivesThis w y text) → IfOk found (Gives Is w text)
gives_ok Is w y text first ws (Ok found) clear is are finds gives = gives_told Is w y text first ws found clear is are finds gives
gives_ok Is w y text first ws (Err e) clear is are finds gives = tt

-- a written line does not stand there
pub not_there : (text line out was : List ℕ) (ws : List Word) → ((rest : List ℕ) → text ≡ line ++ rest → ⊥) → line ≡ out → out ≡ was ++ line_of ws → was ≡ [] → (rest : List ℕ) → text ≡ line_of ws ++ rest → ⊥
not_there text line out was ws none whole added empty rest stands =
    none rest (stands ∙ ap (λ l. l ++ rest) (sym (whole ∙ added ∙ ap (λ l. l ++ line_of ws) empty)))

-- the words of a line, as they were read
pub have_words : (first : List ℕ) (found : Option (Vec declared.Word)) (v : Vec declared.Word) (slice : List declared.Word) → AreWordsOf first found → found ≡ Some v → slice ≡ v.items → AreWords first (words_of slice)
have_words first None v slice are is same = absurd (not_some v is)
have_words first (Some u) v slice are is same = subst (λ ws. AreWords first (words_of ws)) (ap (λ (x : Vec declared.Word). x.items) (some_same is) ∙ sym same) are

pub have_none : (first : List ℕ) (found : Option (Vec declared.Word)) → AreWordsOf first found → found ≡ None → (all : List Word) → AreWords first all → ⊥
have_none first None none is all are = none all are
have_none first (Some u) has is all are = absurd (not_some u (sym is))
