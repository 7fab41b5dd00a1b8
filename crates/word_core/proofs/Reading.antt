-- What is read of a line from its front.
use Rattle.std.proofs.Common.{◌≡◌, ℕ, List, [], ◌∷◌, ◌++◌, refl, sym, ap, ◌∙◌, subst}
use Rattle.std.specs.Prelude.{Option, Some, None, option_map, Result, Ok, Err, IfOk, IfSome}
use Rattle.std.specs.Borrow.{Bor}
use Rattle.std.proofs.lemmas.List.{append-nil}
use Rattle.value_core.specs.declared.datum.Datum.{Datum}
use Rattle.value_core.specs.Spaces.{drop_spaces}
use Rattle.word_core.specs.Words.{Word, bare, IsFirst, AreWords}
use Rattle.word_core.specs.Data.{datum_of, data_of, at_end, only_bare}
use Rattle.word_core.proofs.Cutting.{first_once}
use Rattle.word_core.proofs.Spaces.{some_text}
use Rattle.word_core.proofs.Lines.{ReadTo, read_none, read_one, read_all, data_of-push, data_of-none}
use Rattle.word_core.specs.Reads.{HasWords, Reads, first_datum, Adds}

-- a line of spaces has no words
pub blank_words : (line : List ℕ) (words : List Word) → drop_spaces line ≡ [] → AreWords line words → words ≡ []
blank_words line [] none are = refl
blank_words line (w ∷ more) none are = absurd (some_text w are.0 are.1.is (sym are.1.stands ∙ none))

behind_words : {A X : Type 0} (f g : List Word → Option A) (view : X → A) (line : List ℕ) (word : Word) (rest : List ℕ) (found : Option X) → ((words : List Word) → f (word ∷ words) ≡ g words) → IsFirst line word rest
    → ((words : List Word) → AreWords rest words → option_map view found ≡ g words) → (words : List Word) → AreWords line words → option_map view found ≡ f words
behind_words f g view line word rest found same first said [] are = absurd (some_text word rest first.is (sym first.stands ∙ are))
behind_words f g view line word rest found same first said (w ∷ more) are =
    let once = first_once line w word are.0 rest are.1 first in
    said more (subst (λ r. AreWords r more) once.1 are.2) ∙ sym (same more) ∙ ap (λ x. f (x ∷ more)) (sym once.0)

has_more : {X : Type 0} (line : List ℕ) (word : Word) (rest : List ℕ) (found : Option X) → IsFirst line word rest → IfSome found (λ x. HasWords rest) → IfSome found (λ x. HasWords line)
has_more line word rest None first has = tt
has_more line word rest (Some x) first has = (word ∷ has.0, (rest, first, has.1))

-- what is read behind the first word is read of the line
pub behind : {A X : Type 0} (f g : List Word → Option A) (view : X → A) (line : List ℕ) (word : Word) (rest : List ℕ) (found : Option X) → ((words : List Word) → f (word ∷ words) ≡ g words) → IsFirst line word rest
    → Reads g view rest found → Reads f view line found
behind f g view line word rest found same first reads = (behind_words f g view line word rest found same first reads.0, has_more line word rest found first reads.1)

pub behind_ok : {A X E : Type 0} (f g : List Word → Option A) (view : X → A) (line : List ℕ) (word : Word) (rest : List ℕ) (found : Result (Option X) E) → ((words : List Word) → f (word ∷ words) ≡ g words) → IsFirst line word rest
    → IfOk found (Reads g view rest) → IfOk found (Reads f view line)
behind_ok f g view line word rest (Ok found) same first reads = behind f g view line word rest found same first reads
behind_ok f g view line word rest (Err e) same first reads = tt

last_one : (bytes : List ℕ) (rest : List ℕ) (words : List Word) → (drop_spaces rest ≡ [] → ⊥) → AreWords rest words → None ≡ at_end words bytes
last_one bytes rest [] some are = absurd (some are)
last_one bytes rest (w ∷ more) some are = refl

-- a bare word with others behind it is not the only one, and one with none is
pub not_only : (line bytes rest : List ℕ) → IsFirst line (bare bytes) rest → (drop_spaces rest ≡ [] → ⊥) → Reads only_bare (λ (b : Bor (List ℕ)). b.now) line None
not_only line bytes rest first some = behind only_bare (λ words. at_end words bytes) (λ (b : Bor (List ℕ)). b.now) line (bare bytes) rest None (λ words. refl) first ((λ words are. last_one bytes rest words some are), tt)

pub is_only : (line rest : List ℕ) (word : Bor (List ℕ)) → IsFirst line (bare word.now) rest → drop_spaces rest ≡ [] → Reads only_bare (λ (b : Bor (List ℕ)). b.now) line (Some word)
is_only line rest word first none =
    behind only_bare (λ words. at_end words word.now) (λ (b : Bor (List ℕ)). b.now) line (bare word.now) rest (Some word) (λ words. refl) first
    ((λ words are. ap (λ ws. at_end ws word.now) (sym (blank_words rest words none are))), ([], none))

-- a word that is no datum
pub no_datum : (line : List ℕ) (word : Word) (rest : List ℕ) → IsFirst line word rest → datum_of word ≡ None → (words : List Word) → AreWords line words → first_datum words ≡ None
no_datum line word rest first none [] are = refl
no_datum line word rest first none (w ∷ more) are = ap datum_of (first_once line w word are.0 rest are.1 first).0 ∙ none

-- the data so far, and what is left of the line
pub record HasRead (line rest : List ℕ) (all : List Datum) : Type 0 where
  pub words : List Word
  pub to : ReadTo line rest words
  pub data' : data_of words ≡ Some all

pub has_read_none : (line : List ℕ) → HasRead line line []
has_read_none line = record { words = []; to = read_none line; data' = refl }

pub has_read_more : (line rest : List ℕ) (behind : Bor (List ℕ)) (old new : List Datum) → HasRead line rest old → Adds rest old (Some behind) new → HasRead line behind.now new
has_read_more line rest behind old new so adds = record {
  words = so.words ++ adds.0 ∷ [];
  to = read_one line rest behind.now so.words adds.0 so.to adds.2;
  data' = data_of-push so.words adds.0 old adds.1 so.data' adds.3 ∙ ap Some (sym adds.4);
}

no_data : (words more : List Word) → first_datum more ≡ None → (more ≡ [] → ⊥) → data_of (words ++ more) ≡ None
no_data words [] none some = absurd (some refl)
no_data words (w ∷ more) none some = data_of-none words more w none

-- all was read
pub all_read : {V : Type 0} (view : V → List Datum) (line rest : List ℕ) (all : V) → HasRead line rest (view all) → drop_spaces rest ≡ [] → Reads data_of view line (Some all)
all_read view line rest all so none = (
  (λ words are. let left = so.to.only words are in
      sym so.data' ∙ ap (λ ws. data_of ws) (sym (left.1 ∙ ap (λ more. so.words ++ more) (blank_words rest left.0 none left.2) ∙ append-nil so.words))),
  (so.words, read_all line rest so.words so.to none),
)

-- a word is no datum
pub bad_data : {V : Type 0} (view : V → List Datum) (line rest : List ℕ) (old new : List Datum) → HasRead line rest old → (drop_spaces rest ≡ [] → ⊥) → Adds rest old None new → Reads data_of view line None
bad_data view line rest old new so some none = (
  (λ words are. let left = so.to.only words are in
      sym (ap data_of left.1 ∙ no_data so.words left.0 (none left.0 left.2) (λ empty. some (subst (λ ws. AreWords rest ws) empty left.2)))),
  tt,
)
