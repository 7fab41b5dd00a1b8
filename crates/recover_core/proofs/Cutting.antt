-- Lines of a text, one after another.
use Rattle.std.proofs.Common.{◌≡◌, ℕ, ◌∷◌, [], ◌++◌, List, length, take, refl, sym, ap, ◌∙◌, append_assoc}
use Rattle.std.proofs.lemmas.List.{append-nil}
use Rattle.word_core.specs.Events.{Called}
use Rattle.live_core.specs.declared.front.CarriedCall.{CarriedCall}
use Rattle.audit_core.specs.declared.carried.WaitedCall.{WaitedCall}
use Rattle.audit_core.specs.Carried.{carried_calls}
use Rattle.recover_core.specs.Lines.{IsLine, AreLines, joined}
use Rattle.recover_core.specs.Carried.{calls_of}

-- a line more
pub joined_more : (lines : List (List ℕ)) (line rest : List ℕ) → joined lines ++ (line ++ 10 ∷ rest) ≡ joined (lines ++ line ∷ []) ++ rest
joined_more [] line rest =
    sym (append_assoc line (10 ∷ []) rest) ∙ ap (λ t. t ++ rest) (sym (append-nil (line ++ 10 ∷ [])))
joined_more (l ∷ lines) line rest =
    append_assoc (l ++ 10 ∷ []) (joined lines) (line ++ 10 ∷ rest) ∙ ap (λ t. (l ++ 10 ∷ []) ++ t) (joined_more lines line rest)
    ∙ sym (append_assoc (l ++ 10 ∷ []) (joined (lines ++ line ∷ [])) rest)

pub lines_more : (lines : List (List ℕ)) (line : List ℕ) → AreLines lines → IsLine line → AreLines (lines ++ line ∷ [])
lines_more [] line are is = (is, tt)
lines_more (l ∷ lines) line are is = (are.0, lines_more lines line are.1 is)

pub take_front : {X : Type 0} (xs ys : List X) → take (length xs) (xs ++ ys) ≡ xs
take_front [] ys = refl
take_front (x ∷ xs) ys = ap (λ l. x ∷ l) (take_front xs ys)

abbrev call_of : WaitedCall → Called
call_of c = record { number = c.number; session = c.session; operation = c.operation; arguments = c.arguments }

carried_push : (all : List WaitedCall) (c : WaitedCall) (more : List Called) → carried_calls (all ++ c ∷ []) ++ more ≡ carried_calls all ++ call_of c ∷ more
carried_push [] c more = refl
carried_push (x ∷ all) c more = ap (λ l. call_of x ∷ l) (carried_push all c more)

-- a waiting call more
pub carried_more : (all : List WaitedCall) (c : WaitedCall) (call : CarriedCall) (more : List CarriedCall) (whole : List Called) → (c.number ≡ call.number) × (c.session ≡ call.session) × (c.operation ≡ call.operation) × (c.arguments ≡ call.arguments) →
    carried_calls all ++ calls_of (call ∷ more) ≡ whole → carried_calls (all ++ c ∷ []) ++ calls_of more ≡ whole
carried_more all c call more whole same is =
    let one : ◌≡◌ {A = Called} (call_of c) (record { number = call.number; session = call.session; operation = call.operation; arguments = call.arguments }) =
    λ i. record { number = same.0 i; session = same.1 i; operation = same.2 i; arguments = same.3 i } in
    carried_push all c (calls_of more) ∙ ap (λ x. carried_calls all ++ x ∷ calls_of more) one ∙ is
