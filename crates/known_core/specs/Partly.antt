-- What a body means over what is known of its parts: it ends as it does on whole contents, or it comes to an
-- element that is not known.
use Rattle.std.specs.Prelude.{ℕ, List, Bool, not, if◌then◌else◌, slice_set, Some, Result, Ok, Err}
use Rattle.value_core.specs.declared.datum.Datum.{Datum}
use Rattle.value_core.specs.declared.datum.Datum.TheVariants as datum
use Rattle.value_core.specs.declared.refusal.Refusal.{Refusal}
use Rattle.value_core.specs.Contents.{Contents}
use Rattle.value_core.specs.Words.{word_of}
use Rattle.value_core.specs.TextOrder.{text_eq}
use Rattle.value_core.specs.Meaning.{element_at, with_element, oldest_of, without_oldest, with_newest, has_key}
use Rattle.value_core.specs.Meaning.{under_key, with_row, without_key, count_of, sum_of, difference_of}
use Rattle.decl_core.specs.Form.{From, argument, element, oldest, under, Integers, number, integer_from, count, add}
use Rattle.decl_core.specs.Form.{subtract, Texts, literal, text_from, Form, an_integer, a_text, Condition, compare}
use Rattle.decl_core.specs.Form.{same_texts, other_texts, has, is_not, Statement, block, set_element, set_result}
use Rattle.decl_core.specs.Form.{append, take, store, erase, choose, refuse, Statements, nothing, first_and, Body}
use Rattle.decl_core.specs.Meaning.{Seen, Changed, part_at, argument_at, integer_in, text_in, compares, seen_with}
use Rattle.decl_core.specs.Meaning.{reply_before}
use Rattle.known_core.specs.Known.{Known}

-- why a body goes no further
pub data Halt : Type 0 where
  -- it is refused by this word
  word : List ℕ → Halt
  -- it reads or sets element i of part p, which is not known
  needs : (p i : ℕ) → Halt

abbrev pub Partly : Type 0 → Type 0
Partly A = Result A Halt

-- the first halt ends all
infixl 10 ◌>>>◌
abbrev pub ◌>>>◌ : {A B : Type 0} → Partly A → (A → Partly B) → Partly B
(Ok x) >>> f = f x
(Err h) >>> f = Err h

-- an operation on a value is refused by its word
abbrev pub worded : {A : Type 0} → Result A Refusal → Partly A
worded (Ok x) = Ok x
worded (Err r) = Err (word (word_of r))

-- this, where element i of part p is known
abbrev pub if_known : {A : Type 0} → Known → ℕ → ℕ → A → Partly A
if_known known p i x = if known p i then Ok x else Err (needs p i)

-- expressions are evaluated from left to right; an index is tested before its element is read
abbrev mutual
  pub datum_known : Known → Seen → From → Partly Datum
  datum_known known seen (argument k) = Ok (argument_at seen.arguments k)
  datum_known known seen (element p i) =
      integer_known known seen i >>> λ n. worded (element_at (part_at seen.parts p) n) >>> λ d. if_known known p n d
  datum_known known seen (oldest p) = worded (oldest_of (part_at seen.parts p))
  datum_known known seen (under p k) = text_known known seen k >>> λ key. worded (under_key (part_at seen.parts p) key)

  pub integer_known : Known → Seen → Integers → Partly ℕ
  integer_known known seen (number n) = Ok n
  integer_known known seen (integer_from s) = datum_known known seen s >>> λ d. Ok (integer_in d)
  integer_known known seen (count p) = Ok (count_of (part_at seen.parts p))
  integer_known known seen (add a b) =
      integer_known known seen a >>> λ x. integer_known known seen b >>> λ y. worded (sum_of x y)
  integer_known known seen (subtract a b) =
      integer_known known seen a >>> λ x. integer_known known seen b >>> λ y. worded (difference_of x y)

  pub text_known : Known → Seen → Texts → Partly (List ℕ)
  text_known known seen (literal t) = Ok t
  text_known known seen (text_from s) = datum_known known seen s >>> λ d. Ok (text_in d)

abbrev pub value_known : Known → Seen → Form → Partly Datum
value_known known seen (an_integer e) = integer_known known seen e >>> λ n. Ok (datum.Integer n)
value_known known seen (a_text e) = text_known known seen e >>> λ t. Ok (datum.Text t)

abbrev pub holds_known : Known → Seen → Condition → Partly Bool
holds_known known seen (compare r a b) =
    integer_known known seen a >>> λ x. integer_known known seen b >>> λ y. Ok (compares r x y)
holds_known known seen (same_texts a b) =
    text_known known seen a >>> λ x. text_known known seen b >>> λ y. Ok (text_eq x y)
holds_known known seen (other_texts a b) =
    text_known known seen a >>> λ x. text_known known seen b >>> λ y. Ok (not (text_eq x y))
holds_known known seen (has p k) = text_known known seen k >>> λ key. Ok (has_key (part_at seen.parts p) key)
holds_known known seen (is_not c) = holds_known known seen c >>> λ b. Ok (not b)

-- other contents of a part, unless they are refused
abbrev pub with_contents : Changed → ℕ → Result Contents Refusal → Partly Changed
with_contents c p new = worded new >>> λ x. Ok (record { parts = slice_set c.parts p x; reply = c.reply })

abbrev pub chosen_known : Bool → Partly Changed → Partly Changed → Partly Changed
chosen_known b s t = if b then s else t

-- statements are done in order; an element is set where it is known
abbrev mutual
  pub after_known : Known → List Datum → Statement → Changed → Partly Changed
  after_known known args (block all) c = all_known known args all c
  after_known known args (set_element p i e) c =
      integer_known known (seen_with args c) i >>> λ n. value_known known (seen_with args c) e >>> λ d.
      with_contents c p (with_element (part_at c.parts p) n d) >>> λ x. if_known known p n x
  after_known known args (set_result e) c =
      value_known known (seen_with args c) e >>> λ d. Ok (record { parts = c.parts; reply = Some d })
  after_known known args (append p e) c =
      value_known known (seen_with args c) e >>> λ d. with_contents c p (with_newest (part_at c.parts p) d)
  after_known known args (take p) c = with_contents c p (without_oldest (part_at c.parts p))
  after_known known args (store p k e) c =
      text_known known (seen_with args c) k >>> λ key. value_known known (seen_with args c) e >>> λ d.
      with_contents c p (with_row (part_at c.parts p) key d)
  after_known known args (erase p k) c =
      text_known known (seen_with args c) k >>> λ key. with_contents c p (without_key (part_at c.parts p) key)
  after_known known args (choose q s t) c =
      holds_known known (seen_with args c) q >>> λ b.
      chosen_known b (after_known known args s c) (after_known known args t c)
  after_known known args (refuse w) c = Err (word w)

  pub all_known : Known → List Datum → Statements → Changed → Partly Changed
  all_known known args nothing c = Ok c
  all_known known args (first_and s rest) c = after_known known args s c >>> λ d. all_known known args rest d

-- The meaning of a whole body over what is known of these contents: what it replies and leaves, or
-- why it goes no further.
abbrev pub partly_done : Known → Body → List Datum → List Contents → Partly Changed
partly_done known body args parts =
    all_known known args body.statements (record { parts = parts; reply = reply_before body.result })
