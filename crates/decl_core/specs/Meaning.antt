-- What the body of an operation means. It speaks of contents alone: parts and parameters by their numbers.
use Rattle.std.specs.Prelude.{ℕ, List, slice_index_or, slice_set, Bool, true, false, not, nat_lt, nat_le, ◌==◌, Option}
use Rattle.std.specs.Prelude.{Some, None, Result, Ok, Err, []}
use Rattle.value_core.specs.declared.datum.Datum.{Datum}
use Rattle.value_core.specs.declared.datum.Datum.TheVariants as datum
use Rattle.value_core.specs.declared.refusal.Refusal.{Refusal}
use Rattle.value_core.specs.declared.kind.Elem.{Elem}
use Rattle.value_core.specs.declared.kind.Elem.TheVariants as elem
use Rattle.value_core.specs.Contents.{Contents, array}
use Rattle.value_core.specs.Datum.{zero_of}
use Rattle.value_core.specs.Words.{word_of}
use Rattle.value_core.specs.TextOrder.{text_eq}
use Rattle.value_core.specs.Meaning.{element_at, with_element, oldest_of, without_oldest, with_newest, has_key}
use Rattle.value_core.specs.Meaning.{under_key, with_row, without_key, count_of, sum_of, difference_of}
use Rattle.decl_core.specs.declared.stmt.Relation.{Relation}
use Rattle.decl_core.specs.declared.stmt.Relation.TheVariants as relations
use Rattle.decl_core.specs.Form.{From, argument, element, oldest, under, Integers, number, integer_from, count, add}
use Rattle.decl_core.specs.Form.{subtract, Texts, literal, text_from, Form, an_integer, a_text, Condition, compare}
use Rattle.decl_core.specs.Form.{same_texts, other_texts, has, is_not, Statement, block, set_element, set_result}
use Rattle.decl_core.specs.Form.{append, take, store, erase, choose, refuse, Statements, nothing, first_and, Body}

-- an answer, or the word of a refusal
abbrev pub Answer : Type 0 → Type 0
Answer A = Result A (List ℕ)

-- the first refusal ends all
infixl 10 ◌>>=◌
abbrev pub ◌>>=◌ : {A B : Type 0} → Answer A → (A → Answer B) → Answer B
(Ok x) >>= f = f x
(Err w) >>= f = Err w

-- an operation on a value is refused by its word
abbrev pub by_word : {A : Type 0} → Result A Refusal → Answer A
by_word (Ok x) = Ok x
by_word (Err r) = Err (word_of r)

-- what an expression sees: the arguments of the call, and the contents of the parts at that time
pub record Seen : Type 0 where
  pub arguments : List Datum
  pub parts : List Contents

abbrev pub part_at : List Contents → ℕ → Contents
part_at parts p = slice_index_or parts p (array elem.Integer [])

abbrev pub argument_at : List Datum → ℕ → Datum
argument_at arguments k = slice_index_or arguments k (datum.Integer 0)

-- a datum where an integer is due, and where a text is due
abbrev pub integer_in : Datum → ℕ
integer_in (datum.Integer n) = n
integer_in (datum.Text t) = 0

abbrev pub text_in : Datum → List ℕ
text_in (datum.Integer n) = []
text_in (datum.Text t) = t

-- expressions are evaluated from left to right
abbrev mutual
  pub datum_from : Seen → From → Answer Datum
  datum_from seen (argument k) = Ok (argument_at seen.arguments k)
  datum_from seen (element p i) = integer_value seen i >>= λ n. by_word (element_at (part_at seen.parts p) n)
  datum_from seen (oldest p) = by_word (oldest_of (part_at seen.parts p))
  datum_from seen (under p k) = text_value seen k >>= λ key. by_word (under_key (part_at seen.parts p) key)

  -- sums and differences are whole numbers from 0 to 4294967295
  pub integer_value : Seen → Integers → Answer ℕ
  integer_value seen (number n) = Ok n
  integer_value seen (integer_from s) = datum_from seen s >>= λ d. Ok (integer_in d)
  integer_value seen (count p) = Ok (count_of (part_at seen.parts p))
  integer_value seen (add a b) = integer_value seen a >>= λ x. integer_value seen b >>= λ y. by_word (sum_of x y)
  integer_value seen (subtract a b) =
      integer_value seen a >>= λ x. integer_value seen b >>= λ y. by_word (difference_of x y)

  pub text_value : Seen → Texts → Answer (List ℕ)
  text_value seen (literal t) = Ok t
  text_value seen (text_from s) = datum_from seen s >>= λ d. Ok (text_in d)

abbrev pub datum_value : Seen → Form → Answer Datum
datum_value seen (an_integer e) = integer_value seen e >>= λ n. Ok (datum.Integer n)
datum_value seen (a_text e) = text_value seen e >>= λ t. Ok (datum.Text t)

-- whether a relation holds of two integers
abbrev pub compares : Relation → ℕ → ℕ → Bool
compares relations.Equal x y = x == y
compares relations.Differ x y = not (x == y)
compares relations.Less x y = nat_lt x y
compares relations.LessEqual x y = nat_le x y
compares relations.Greater x y = nat_lt y x
compares relations.GreaterEqual x y = nat_le y x

-- whether a condition holds
abbrev pub holds : Seen → Condition → Answer Bool
holds seen (compare r a b) = integer_value seen a >>= λ x. integer_value seen b >>= λ y. Ok (compares r x y)
holds seen (same_texts a b) = text_value seen a >>= λ x. text_value seen b >>= λ y. Ok (text_eq x y)
holds seen (other_texts a b) = text_value seen a >>= λ x. text_value seen b >>= λ y. Ok (not (text_eq x y))
holds seen (has p k) = text_value seen k >>= λ key. Ok (has_key (part_at seen.parts p) key)
holds seen (is_not c) = holds seen c >>= λ b. Ok (not b)

-- what statements change: the contents of the parts, and what a function is to reply
pub record Changed : Type 0 where
  pub parts : List Contents
  pub reply : Option Datum

abbrev pub seen_with : List Datum → Changed → Seen
seen_with arguments c = record { arguments = arguments; parts = c.parts }

-- other contents of a part, unless they are refused
abbrev pub with_part : Changed → ℕ → Result Contents Refusal → Answer Changed
with_part c p new = by_word new >>= λ x. Ok (record { parts = slice_set c.parts p x; reply = c.reply })

abbrev pub chosen : Bool → Answer Changed → Answer Changed → Answer Changed
chosen true s t = s
chosen false s t = t

-- statements are done in order, and each sees the changes of those before it
abbrev mutual
  pub after : List Datum → Statement → Changed → Answer Changed
  after args (block all) c = after_all args all c
  after args (set_element p i e) c =
      integer_value (seen_with args c) i >>= λ n. datum_value (seen_with args c) e >>= λ d.
      with_part c p (with_element (part_at c.parts p) n d)
  after args (set_result e) c =
      datum_value (seen_with args c) e >>= λ d. Ok (record { parts = c.parts; reply = Some d })
  after args (append p e) c =
      datum_value (seen_with args c) e >>= λ d. with_part c p (with_newest (part_at c.parts p) d)
  after args (take p) c = with_part c p (without_oldest (part_at c.parts p))
  after args (store p k e) c =
      text_value (seen_with args c) k >>= λ key. datum_value (seen_with args c) e >>= λ d.
      with_part c p (with_row (part_at c.parts p) key d)
  after args (erase p k) c =
      text_value (seen_with args c) k >>= λ key. with_part c p (without_key (part_at c.parts p) key)
  after args (choose q s t) c = holds (seen_with args c) q >>= λ b. chosen b (after args s c) (after args t c)
  after args (refuse word) c = Err word

  pub after_all : List Datum → Statements → Changed → Answer Changed
  after_all args nothing c = Ok c
  after_all args (first_and s rest) c = after args s c >>= λ d. after_all args rest d

-- what a call replies: a function's value, or nothing of a procedure; or the word of its refusal
pub data Reply : Type 0 where
  done : Option Datum → Reply
  refused : List ℕ → Reply

-- a function that sets no result replies 0 or the empty text
abbrev pub reply_before : Option Elem → Option Datum
reply_before None = None
reply_before (Some e) = Some (zero_of e)

-- a refused body leaves the contents as they were before it
abbrev pub ending : List Contents → Answer Changed → Reply × List Contents
ending before (Ok c) = (done c.reply, c.parts)
ending before (Err word) = (refused word, before)

-- The meaning of a whole body: with these arguments, on these contents, it gives this reply and these contents.
abbrev pub apply_body : Body → List Datum → List Contents → Reply × List Contents
apply_body body args parts =
    ending parts (after_all args body.statements (record { parts = parts; reply = reply_before body.result }))
