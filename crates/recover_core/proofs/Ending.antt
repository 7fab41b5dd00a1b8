-- What is held by what happened is told by lines.
use Rattle.std.proofs.Common.{◌≡◌, ℕ, zero, suc, ◌+◌, List, [], ◌∷◌, ◌++◌, inl, inr, map, take, drop, Some, None, refl, sym, ap, ◌∙◌, subst, arith}
use Rattle.std.specs.Prelude.{Option}
use Rattle.value_core.specs.declared.datum.Datum.{Datum}
use Rattle.value_core.specs.declared.kind.Elem.{Elem}
use Rattle.value_core.specs.Datum.{IsDatum, elem_of}
use Rattle.decl_core.specs.ObjectForm.{ObjectForm}
use Rattle.apply_core.specs.declared.reply.Reply.{Reply}
use Rattle.apply_core.specs.declared.reply.Reply.TheVariants.{Done, Refused, Failed}
use Rattle.word_core.specs.Events.{Called, began, ended, body_at}
use Rattle.live_core.specs.Front.{Every, IsOperation}
use Rattle.decl_core.specs.HoldForm.{HoldForm, reply_sorts}
use Rattle.guest_core.specs.Held.{HeldCall, GivesBy, GivesOne, Fits, at_first, at_begin, at_end, begun, begun_by, ended_so, held_data, hold_ended, hold_of_op, reply_data}
use Rattle.front_read.specs.HeldLines.{IsHeldLine}
use Rattle.recover_core.specs.HeldSo.{IsHeldBy}
use Rattle.recover_core.specs.Laws.{HeldAreLines, IsEnding, LinesTellOne, Replies}
use Rattle.recover_core.proofs.Named.{rule_at}
use Rattle.recover_core.proofs.Texts.{rows_once}

every_both : {X : Type 0} (P : X → Type 0) (xs ys : List X) → Every P xs → Every P ys → Every P (xs ++ ys)
every_both P [] ys p q = q
every_both P (x ∷ xs) ys p q = (p.0, every_both P xs ys p.1 q)

every_but : {X : Type 0} (P : X → Type 0) (xs : List X) (k : ℕ) → Every P xs → Every P (take k xs ++ drop (k + 1) xs)
every_but P [] zero p = tt
every_but P [] (suc k) p = let e : suc k + 1 ≡ suc (k + 1) = omega arith in subst (λ n. Every P (take (suc k) [] ++ drop n [])) (sym e) tt
every_but P (x ∷ xs) zero p = p.1
every_but P (x ∷ xs) (suc k) p = let e : suc k + 1 ≡ suc (k + 1) = omega arith in subst (λ n. Every P (take (suc k) (x ∷ xs) ++ drop n (x ∷ xs))) (sym e) (p.0, every_but P xs k p.1)

-- what is left was held
left_one : (P : HeldCall → Type 0) (fits : HeldCall → Type 0) (session : ℕ) (held left : List HeldCall) → GivesOne fits session held left → Every P held → Every P left
left_one P fits session held left (inl x) each = subst (Every P) (sym x.2) (every_but P held x.0 each)
left_one P fits session held left (inr none) each = subst (Every P) (sym none.1) each

left_by : (P : HeldCall → Type 0) (found : Option ℕ) (c : Called) (held left : List HeldCall) → GivesBy found c held left → Every P held → Every P left
left_by P None c held left is each = subst (Every P) (sym is) each
left_by P (Some r) c held left gives each = left_one P (Fits r c.arguments) c.session held left gives each

-- what it is held with
sorts_both : (xs ys : List Datum) → map elem_of (xs ++ ys) ≡ map elem_of xs ++ map elem_of ys
sorts_both [] ys = refl
sorts_both (x ∷ xs) ys = ap (λ s. elem_of x ∷ s) (sorts_both xs ys)

reply_fits : (result : Option Elem) (value : Option Datum) → Replies result (Done value) → (map elem_of (reply_data (Done value)) ≡ reply_sorts result) × Every IsDatum (reply_data (Done value))
reply_fits None None is = (refl, tt)
reply_fits None (Some d) is = absurd is
reply_fits (Some e) None is = absurd is
reply_fits (Some e) (Some d) is = (ap (λ x. x ∷ []) is.1, (is.0, tt))

begun_line : (o : ObjectForm) (holds : List HoldForm) (c : Called) (value : Option Datum) (r : ℕ) → hold_of_op holds c.operation ≡ Some r → IsEnding o c (Done value)
    → IsHeldLine o holds (record { number = c.number; session = c.session; rule = r; values = held_data c (Done value) })
begun_line o holds c value r found is =
    let at = rule_at holds c.operation r found in
    let e : c.operation ≡ at.0.op = sym at.2 in
    let reply = reply_fits (body_at o c.operation).result value is.replies in
    let fit : IsHeldBy o c.operation (held_data c (Done value)) =
    sorts_both c.arguments (reply_data (Done value)) ∙ ap (λ s. s ++ map elem_of (reply_data (Done value))) is.fit ∙ ap (λ s. (body_at o c.operation).params ++ s) reply.0 in
    record {
      rule = at.0;
      there = at.1;
      first = subst (λ k. hold_of_op holds k ≡ Some r) e found;
      number = is.number;
      session = is.session;
      operation = subst (IsOperation o) e is.operation;
      fit = subst (λ k. IsHeldBy o k (held_data c (Done value))) e fit;
      each = every_both IsDatum c.arguments (reply_data (Done value)) is.each reply.1;
    }

begun_lines : (o : ObjectForm) (holds : List HoldForm) (c : Called) (reply : Reply) (found : Option ℕ) → hold_of_op holds c.operation ≡ found → IsEnding o c reply → Every (IsHeldLine o holds) (begun_by found c reply)
begun_lines o holds c reply None found is = tt
begun_lines o holds c (Done value) (Some r) found is = (begun_line o holds c value r found is, tt)
begun_lines o holds c (Refused word) (Some r) found is = tt
begun_lines o holds c (Failed failure) (Some r) found is = tt

pub held_are_lines : HeldAreLines
held_are_lines ends o holds [] held endings at_first = tt
held_are_lines ends o holds (began c ∷ past) held endings (at_begin are) = held_are_lines ends o holds past held endings are
held_are_lines ends o holds (ended c reply ∷ past) held endings (at_end was left are gives) =
    every_both (IsHeldLine o holds) left (begun holds c reply) (left_by (IsHeldLine o holds) (ended_so ends reply (hold_ended holds c.operation)) c was left gives (held_are_lines ends o holds past was endings.1 are)) (begun_lines o holds c reply (hold_of_op holds c.operation) refl endings.0)

pub lines_tell_one : LinesTellOne
lines_tell_one o holds held other rest more named p q e f same = rows_once o holds held other rest more named p q e f same
