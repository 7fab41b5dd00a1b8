-- What a body replies is of the sort that it declares.
use Rattle.std.proofs.Common.{◌≡◌, sym, subst, refl, ℕ, List}
use Rattle.std.specs.Prelude.{Bool, true, false, Option, Some, None, Result, Ok, Err}
use Rattle.value_core.specs.declared.datum.Datum.{Datum}
use Rattle.value_core.specs.declared.datum.Datum.TheVariants as datum
use Rattle.value_core.specs.declared.kind.Elem.{Elem}
use Rattle.value_core.specs.declared.kind.Elem.TheVariants as elem
use Rattle.value_core.specs.declared.refusal.Refusal.{Refusal}
use Rattle.value_core.specs.Contents.{Contents}
use Rattle.value_core.specs.Datum.{elem_of, zero_of}
use Rattle.value_core.specs.Meaning.{with_element, without_oldest, with_newest, with_row, without_key}
use Rattle.decl_core.specs.declared.object.Object.{Object}
use Rattle.decl_core.specs.Form.{Form, an_integer, a_text, Statement, block, set_element, set_result, append, take, store, erase, choose, refuse, Statements, nothing, first_and, Body}
use Rattle.decl_core.specs.Meaning.{Answer, ◌>>=◌, by_word, Seen, part_at, integer_value, text_value, datum_value, holds, Changed, seen_with, with_part, chosen, after, after_all, ending, done, reply_before}
use Rattle.decl_core.specs.ObjectMap.{object_of}
use Rattle.decl_core.specs.Sorts.{sort_of_form}
use Rattle.decl_core.specs.Typed.{Types, StatementTyped, StatementsTyped}
use Rattle.apply_core.specs.declared.reply.Reply.{Reply}
use Rattle.apply_core.specs.declared.reply.Reply.TheVariants.{Done, Refused, Failed}
use Rattle.apply_core.specs.declared.reply.Failure.{Failure}
use Rattle.apply_core.specs.History.{IsReplyOn}
use Rattle.word_core.specs.Events.{body_at}
use Rattle.recover_core.specs.Laws.{Replies}
use Rattle.live_core.specs.Calls.{RepliesDatum}
use Rattle.history_law.proofs.Replying.{typed_at}

-- a datum of this sort, or none
abbrev IsSorted : Option Elem → Option Datum → Type 0
IsSorted None None = Unit {0}
IsSorted None (Some d) = ⊥
IsSorted (Some e) None = ⊥
IsSorted (Some e) (Some d) = elem_of d ≡ e

-- an answer leaves such a reply, where it is no refusal
abbrev Leaves : Option Elem → Answer Changed → Type 0
Leaves sort (Ok c) = IsSorted sort c.reply
Leaves sort (Err word) = Unit {0}

then_leaves : {A : Type 0} (sort : Option Elem) (a : Answer A) (f : A → Answer Changed) → ((x : A) → Leaves sort (f x)) → Leaves sort (a >>= f)
then_leaves sort (Ok x) f each = each x
then_leaves sort (Err word) f each = tt

go_leaves : (sort : Option Elem) (a : Answer Changed) (f : Changed → Answer Changed) → Leaves sort a → ((d : Changed) → IsSorted sort d.reply → Leaves sort (f d)) → Leaves sort (a >>= f)
go_leaves sort (Ok d) f left each = each d left
go_leaves sort (Err word) f left each = tt

put_leaves : (sort : Option Elem) (c : Changed) (p : ℕ) (new : Result Contents Refusal) → IsSorted sort c.reply → Leaves sort (with_part c p new)
put_leaves sort c p new is = then_leaves sort (by_word new) _ (λ x. is)

chosen_leaves : (sort : Option Elem) (b : Bool) (s t : Answer Changed) → Leaves sort s → Leaves sort t → Leaves sort (chosen b s t)
chosen_leaves sort true s t h k = h
chosen_leaves sort false s t h k = k

-- the value of a form is of its sort
form_leaves : (x : Form) (seen : Seen) (parts : List Contents) (sort : Option Elem) → sort ≡ Some (sort_of_form x) →
    Leaves sort (datum_value seen x >>= λ d. Ok (record { parts = parts; reply = Some d }))
form_leaves (an_integer e) seen parts sort is = by (integer_value seen e)
  where
    by : (a : Answer ℕ) → Leaves sort ((a >>= λ n. Ok (datum.Integer n)) >>= λ d. Ok (record { parts = parts; reply = Some d }))
    by (Ok n) = subst (λ (s : Option Elem). IsSorted s (Some (datum.Integer n))) (sym is) refl
    by (Err word) = tt
form_leaves (a_text e) seen parts sort is = by (text_value seen e)
  where
    by : (a : Answer (List ℕ)) → Leaves sort ((a >>= λ t. Ok (datum.Text t)) >>= λ d. Ok (record { parts = parts; reply = Some d }))
    by (Ok t) = subst (λ (s : Option Elem). IsSorted s (Some (datum.Text t))) (sym is) refl
    by (Err word) = tt

module _ (types : Types) (args : List Datum) where
  mutual
    statement_leaves : (s : Statement) (c : Changed) → StatementTyped types s → IsSorted types.result c.reply → Leaves types.result (after args s c)
    statement_leaves (block all) c typed is = all_leave all c typed is
    statement_leaves (set_element p i x) c typed is =
        then_leaves types.result (integer_value (seen_with args c) i) _ (λ n. then_leaves types.result (datum_value (seen_with args c) x) _ (λ d. put_leaves types.result c p (with_element (part_at c.parts p) n d) is))
    statement_leaves (set_result x) c typed is = form_leaves x (seen_with args c) c.parts types.result typed.0
    statement_leaves (append p x) c typed is = then_leaves types.result (datum_value (seen_with args c) x) _ (λ d. put_leaves types.result c p (with_newest (part_at c.parts p) d) is)
    statement_leaves (take p) c typed is = put_leaves types.result c p (without_oldest (part_at c.parts p)) is
    statement_leaves (store p k x) c typed is =
        then_leaves types.result (text_value (seen_with args c) k) _ (λ key. then_leaves types.result (datum_value (seen_with args c) x) _ (λ d. put_leaves types.result c p (with_row (part_at c.parts p) key d) is))
    statement_leaves (erase p k) c typed is = then_leaves types.result (text_value (seen_with args c) k) _ (λ key. put_leaves types.result c p (without_key (part_at c.parts p) key) is)
    statement_leaves (choose q s t) c typed is =
        then_leaves types.result (holds (seen_with args c) q) _
        (λ b. chosen_leaves types.result b (after args s c) (after args t c) (statement_leaves s c typed.1 is) (statement_leaves t c typed.2 is))
    statement_leaves (refuse word) c typed is = tt

    all_leave : (all : Statements) (c : Changed) → StatementsTyped types all → IsSorted types.result c.reply → Leaves types.result (after_all args all c)
    all_leave nothing c typed is = is
    all_leave (first_and s rest) c typed is =
        go_leaves types.result (after args s c) (λ d. after_all args rest d) (statement_leaves s c typed.0 is) (λ d left. all_leave rest d typed.1 left)

zero_sorted : (e : Elem) → elem_of (zero_of e) ≡ e
zero_sorted elem.Integer = refl
zero_sorted elem.Text = refl

before_sorted : (sort : Option Elem) → IsSorted sort (reply_before sort)
before_sorted None = tt
before_sorted (Some e) = zero_sorted e

-- what a body replied that was done
ended_sorted : (sort : Option Elem) (before : List Contents) (a : Answer Changed) (reply : Option Datum) → Leaves sort a → (ending before a).0 ≡ done reply → IsSorted sort reply
ended_sorted sort before (Ok c) reply left is =
    let same : c.reply ≡ reply = cc in
    subst (IsSorted sort) same left
ended_sorted sort before (Err word) reply left is = absurd cc

replies_by : (sort : Option Elem) (reply : Option Datum) → IsSorted sort reply → RepliesDatum (Done reply) → Replies sort (Done reply)
replies_by None None is told = tt
replies_by None (Some d) is told = absurd is
replies_by (Some e) None is told = absurd is
replies_by (Some e) (Some d) is told = (told, is)

refused_any : (sort : Option Elem) (word : List ℕ) → Replies sort (Refused word)
refused_any None word = tt
refused_any (Some e) word = tt

failed_any : (sort : Option Elem) (failure : Failure) → Replies sort (Failed failure)
failed_any None failure = tt
failed_any (Some e) failure = tt

-- the reply of the sequential object is one of its operation
pub replies_sorted : (object : Object) (op : ℕ) (args : List Datum) (parts : List Contents) (reply : Reply) → IsReplyOn reply (body_at (object_of object) op) args parts → RepliesDatum reply →
    Replies (body_at (object_of object) op).result reply
replies_sorted object op args parts (Done reply) is told =
    let body : Body = body_at (object_of object) op in
    let typed = typed_at object.operations.items op in
    let before : Changed = record { parts = parts; reply = reply_before body.result } in
    let first : IsSorted typed.0.result (reply_before body.result) = subst (λ (s : Option Elem). IsSorted typed.0.result (reply_before s)) typed.2 (before_sorted typed.0.result) in
    let sorted : IsSorted typed.0.result reply =
    ended_sorted typed.0.result parts (after_all args body.statements before) reply (all_leave typed.0 args body.statements before typed.1 first) is in
    replies_by body.result reply (subst (λ (s : Option Elem). IsSorted s reply) typed.2 sorted) told
replies_sorted object op args parts (Refused word) is told = refused_any (body_at (object_of object) op).result word
replies_sorted object op args parts (Failed failure) is told = failed_any (body_at (object_of object) op).result failure
