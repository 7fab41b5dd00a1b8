-- A body is refused by a word, and so the reply of each entry is one that a line can tell.
use Rattle.std.proofs.Common.{◌≡◌, ℕ, ◌≤◌, Bool, true, false, ◌&&◌, nat_le, List, [], ◌∷◌, All, Some, None, Ok, Err, refl, subst, arith}
use Rattle.std.proofs.lemmas.Bool.Decides.{nat_tests}
use Rattle.std.specs.Prelude.{Result, codes}
use Rattle.std.proofs.lemmas.List.Elements.{All-nil, All-cons}
use Rattle.value_core.specs.declared.datum.Datum.{Datum}
use Rattle.value_core.specs.declared.refusal.Refusal.{Refusal}
use Rattle.value_core.specs.declared.refusal.Refusal.TheVariants.{Index, Full, Empty, Missing, Range}
use Rattle.value_core.specs.Contents.{Contents}
use Rattle.value_core.specs.Meaning.{element_at, with_element, oldest_of, without_oldest, with_newest, under_key, with_row, without_key, sum_of, difference_of}
use Rattle.value_core.specs.Words.{word_of}
use Rattle.decl_core.specs.RefusalWord.{IsLower, IsRefusalWord}
use Rattle.decl_core.specs.Form.{From, argument, element, oldest, under, Integers, number, integer_from, count, add, subtract, Texts, literal, text_from, Form, an_integer, a_text, Condition, compare, same_texts, other_texts, has, is_not, Statement, block, set_element, set_result, append, take, store, erase, choose, refuse, Statements, nothing, first_and, Body}
use Rattle.decl_core.specs.Bodies.{body_of}
use Rattle.decl_core.specs.Typed.{Types, StatementTyped, StatementsTyped}
use Rattle.decl_core.specs.Meaning.{Answer, ◌>>=◌, by_word, Seen, part_at, datum_from, integer_value, text_value, datum_value, holds, Changed, seen_with, with_part, chosen, after, after_all, ending, refused, reply_before}
use Rattle.apply_core.specs.declared.reply.Reply.{Reply}
use Rattle.apply_core.specs.declared.reply.Reply.TheVariants.{Done, Refused, Failed}
use Rattle.apply_core.specs.History.{IsReplyOn, left_by, IsLegal}
use Rattle.word_core.specs.TraceLaws.{IsReply}
use Rattle.page_core.specs.Lists.{Every}
use Rattle.page_core.specs.ObjectCalls.{Noted}
use Rattle.board_core.specs.Chain.{history_of}
use Rattle.desk_core.specs.Held.{TellsDatum}

-- what is refused is refused by a word
abbrev ByWord : {A : Type 0} → Answer A → Type 0
ByWord (Ok x) = Unit {0}
ByWord (Err w) = IsRefusalWord w

then_word : {A B : Type 0} (a : Answer A) (f : A → Answer B) → ByWord a → ((x : A) → ByWord (f x)) → ByWord (a >>= f)
then_word (Ok x) f h k = k x
then_word (Err w) f h k = h

all_lower : List ℕ → Bool
all_lower [] = true
all_lower (b ∷ bytes) = nat_le 97 b && nat_le b 122 && all_lower bytes

three : (a b c : Bool) → (a && b && c) ≡ true → (a ≡ true) × (b ≡ true) × (c ≡ true)
three true true true h = (refl, refl, refl)
three true true false h = absurd cc
three true false c h = absurd cc
three false b c h = absurd cc

lower_by : (bytes : List ℕ) → all_lower bytes ≡ true → All IsLower bytes
unfolding all_lower
lower_by [] h = All-nil IsLower
lower_by (b ∷ bytes) h =
    let p = three (nat_le 97 b) (nat_le b 122) (all_lower bytes) h in
    let low : 97 ≤ b = grind (arith, nat_tests, p.0) in
    let high : b ≤ 122 = grind (arith, nat_tests, p.1) in
    All-cons IsLower b bytes (low, high) (lower_by bytes p.2)

fault_word : (r : Refusal) → IsRefusalWord (word_of r)
unfolding all_lower
fault_word Index = record { some = omega arith; few = omega arith; lower = lower_by (codes "index") refl }
fault_word Full = record { some = omega arith; few = omega arith; lower = lower_by (codes "full") refl }
fault_word Empty = record { some = omega arith; few = omega arith; lower = lower_by (codes "empty") refl }
fault_word Missing = record { some = omega arith; few = omega arith; lower = lower_by (codes "missing") refl }
fault_word Range = record { some = omega arith; few = omega arith; lower = lower_by (codes "range") refl }

told_word : {A : Type 0} (a : Result A Refusal) → ByWord (by_word a)
told_word (Ok x) = tt
told_word (Err r) = fault_word r

module _ (seen : Seen) where
  mutual
    from_word : (s : From) → ByWord (datum_from seen s)
    from_word (argument k) = tt
    from_word (element p i) = then_word _ _ (integers_word i) (λ n. told_word (element_at (part_at seen.parts p) n))
    from_word (oldest p) = told_word (oldest_of (part_at seen.parts p))
    from_word (under p k) = then_word _ _ (texts_word k) (λ key. told_word (under_key (part_at seen.parts p) key))

    integers_word : (e : Integers) → ByWord (integer_value seen e)
    integers_word (number n) = tt
    integers_word (integer_from s) = then_word _ _ (from_word s) (λ d. tt)
    integers_word (count p) = tt
    integers_word (add a b) = then_word _ _ (integers_word a) (λ x. then_word _ _ (integers_word b) (λ y. told_word (sum_of x y)))
    integers_word (subtract a b) = then_word _ _ (integers_word a) (λ x. then_word _ _ (integers_word b) (λ y. told_word (difference_of x y)))

    texts_word : (e : Texts) → ByWord (text_value seen e)
    texts_word (literal t) = tt
    texts_word (text_from s) = then_word _ _ (from_word s) (λ d. tt)

  form_word : (x : Form) → ByWord (datum_value seen x)
  form_word (an_integer e) = then_word _ _ (integers_word e) (λ n. tt)
  form_word (a_text e) = then_word _ _ (texts_word e) (λ t. tt)

  condition_word : (c : Condition) → ByWord (holds seen c)
  condition_word (compare r a b) = then_word _ _ (integers_word a) (λ x. then_word _ _ (integers_word b) (λ y. tt))
  condition_word (same_texts a b) = then_word _ _ (texts_word a) (λ x. then_word _ _ (texts_word b) (λ y. tt))
  condition_word (other_texts a b) = then_word _ _ (texts_word a) (λ x. then_word _ _ (texts_word b) (λ y. tt))
  condition_word (has p k) = then_word _ _ (texts_word k) (λ key. tt)
  condition_word (is_not c) = then_word _ _ (condition_word c) (λ b. tt)

put_word : (c : Changed) (p : ℕ) (new : Result Contents Refusal) → ByWord (with_part c p new)
put_word c p new = then_word _ _ (told_word new) (λ x. tt)

chosen_word : (b : Bool) (s t : Answer Changed) → ByWord s → ByWord t → ByWord (chosen b s t)
chosen_word true s t h k = h
chosen_word false s t h k = k

module _ (types : Types) (args : List Datum) where
  mutual
    statement_word : (s : Statement) (c : Changed) → StatementTyped types s → ByWord (after args s c)
    statement_word (block all) c typed = all_word all c typed
    statement_word (set_element p i x) c typed = then_word _ _ (integers_word (seen_with args c) i) (λ n. then_word _ _ (form_word (seen_with args c) x) (λ d. put_word c p (with_element (part_at c.parts p) n d)))
    statement_word (set_result x) c typed = then_word _ _ (form_word (seen_with args c) x) (λ d. tt)
    statement_word (append p x) c typed = then_word _ _ (form_word (seen_with args c) x) (λ d. put_word c p (with_newest (part_at c.parts p) d))
    statement_word (take p) c typed = put_word c p (without_oldest (part_at c.parts p))
    statement_word (store p k x) c typed = then_word _ _ (texts_word (seen_with args c) k) (λ key. then_word _ _ (form_word (seen_with args c) x) (λ d. put_word c p (with_row (part_at c.parts p) key d)))
    statement_word (erase p k) c typed = then_word _ _ (texts_word (seen_with args c) k) (λ key. put_word c p (without_key (part_at c.parts p) key))
    statement_word (choose q s t) c typed =
        then_word _ _ (condition_word (seen_with args c) q)
        (λ b. chosen_word b (after args s c) (after args t c) (statement_word s c typed.1) (statement_word t c typed.2))
    statement_word (refuse word) c typed = typed

    all_word : (all : Statements) (c : Changed) → StatementsTyped types all → ByWord (after_all args all c)
    all_word nothing c typed = tt
    all_word (first_and s rest) c typed = then_word _ _ (statement_word s c typed.0) (λ d. all_word rest d typed.1)

-- a body that ended so was refused by a word
ended_word : (before : List Contents) (a : Answer Changed) (word : List ℕ) → ByWord a → (ending before a).0 ≡ refused word → IsRefusalWord word
ended_word before (Ok c) word by is = absurd cc
ended_word before (Err w) word by is =
    let same : w ≡ word = cc in
    subst IsRefusalWord same by

-- the word of a reply by which a body is refused
pub refused_told : (types : Types) (word : List ℕ) (body : Body) (args : List Datum) (parts : List Contents) → StatementsTyped types body.statements → IsReplyOn (Refused word) body args parts → IsRefusalWord word
refused_told types word body args parts typed is =
    let before : Changed = record { parts = parts; reply = reply_before body.result } in
    ended_word parts (after_all args body.statements before) word (all_word types args body.statements before typed) is

reply_told : (types : Types) (reply : Reply) (body : Body) (args : List Datum) (parts : List Contents) → StatementsTyped types body.statements → IsReplyOn reply body args parts → TellsDatum reply → IsReply reply
reply_told types (Done None) body args parts typed is datum = tt
reply_told types (Done (Some d)) body args parts typed is datum = datum
reply_told types (Refused word) body args parts typed is datum = refused_told types word body args parts typed is
reply_told types (Failed failure) body args parts typed is datum = tt

-- each reply of a legal history is one that a line can tell, where the data are data
pub replies_told : (entries : List Noted) (parts : List Contents) → IsLegal (history_of entries) parts → Every (λ e. TellsDatum e.reply) entries → Every (λ e. IsReply e.reply) entries
replies_told [] parts legal known = tt
replies_told (e ∷ es) parts legal known =
    let body = body_of e.operation in
    let types : Types = record { kinds = e.operation.kinds.items; params = body.params; result = e.operation.result } in
    (reply_told types e.reply body e.arguments parts e.operation.typed legal.0 known.0, replies_told es (left_by e.reply body e.arguments parts) legal.1 known.1)
