-- What the trace of a desk tells.
use Rattle.std.proofs.Common.{◌≡◌, ℕ, ◌≤◌, zero, suc, List, [], ◌∷◌, ◌++◌, length, refl, sym, ap, ◌∙◌, subst, arith, append_assoc, map}
use Rattle.std.specs.Prelude.{All, Option, Some, None, slice_get, slice_index_or, unwrap_or}
use Rattle.std.specs.List.{fold}
use Rattle.std.proofs.lemmas.List.{append-nil, length-map}
use Rattle.std.proofs.lemmas.Option.{slice_get_within}
use Rattle.path_tree.specs.Trace.{IsTrace}
use Rattle.path_tree.specs.Known.{place_of}
use Rattle.path_tree.specs.Satisfies.{SatisfiesAll}
use Rattle.value_core.specs.Datum.{IsDatum}
use Rattle.decl_core.specs.Bodies.{body_of}
use Rattle.decl_core.specs.ObjectForm.{ObjectForm, OperationForm}
use Rattle.decl_core.specs.ObjectMap.{object_of, operation_of}
use Rattle.apply_core.specs.declared.reply.Reply.{Reply}
use Rattle.apply_core.specs.History as history
use Rattle.word_core.specs.Events.{Happened, began, ended, event_of, trace_of, form_body, no_body, body_at, end_of, history_of}
use Rattle.word_core.specs.Text.{call_ended, trace_text, told_of, operation_name}
use Rattle.word_core.specs.TraceLaws.{IsReply}
use Rattle.word_core.proofs.Growing.{body_is_same}
use Rattle.board_core.specs.declared.event.TraceEvent.{TraceEvent}
use Rattle.board_core.specs.declared.event.TraceEvent.TheVariants.{Start, End}
use Rattle.page_core.specs.Lists.{Every}
use Rattle.page_core.specs.ObjectCalls.{AcceptedCall, Noted}
use Rattle.board_core.specs.Board.{Board, call_at, path_event, path_trace, operation_place}
use Rattle.board_core.specs.Sound.{IsNumbered, IsMadeOf, IsNoted, event_number, ends_of}
use Rattle.board_core.specs.Chain as chain
use Rattle.desk_core.specs.Told.{called_of, line_told, lines_told}
use Rattle.audit_core.specs.Laws.{IsCallFor, AreCallsFor}
use Rattle.audit_core.specs.Operations.{operation_names}
use Rattle.audit_core.specs.Verdicts.{IsLegalTrace}
use Rattle.audit_core.proofs.Written.{text_is_legal}
use Rattle.history_law.specs.Laws.{DeskTextIsLegal}
use Rattle.history_law.proofs.Running.{OfCalls, runs}
use Rattle.history_law.proofs.Naming.{name_there, found_there}
use Rattle.history_law.proofs.Refusing.{replies_told}

-- an event, as what happened
abbrev happened_at : List AcceptedCall → TraceEvent → Happened
happened_at calls (Start n) = began (called_of n (call_at calls n))
happened_at calls (End n reply) = ended (called_of n (call_at calls n)) reply

abbrev past_from : List AcceptedCall → List Happened → List TraceEvent → List Happened
past_from calls past trace = fold (λ past e. happened_at calls e ∷ past) past trace

number_kept : (n : ℕ) (call : Option AcceptedCall) → (called_of n call).number ≡ n
number_kept n None = refl
number_kept n (Some call) = refl

place_kept : (n : ℕ) (call : Option AcceptedCall) → (called_of n call).operation ≡ operation_place call
place_kept n None = refl
place_kept n (Some call) = refl

seen : (calls : List AcceptedCall) (e : TraceEvent) → event_of (happened_at calls e) ≡ path_event calls e
seen calls (Start n) = seen_start n (call_at calls n)
  where
    seen_start : (n : ℕ) (call : Option AcceptedCall) → event_of (began (called_of n call)) ≡ event_of (began (record { number = n; session = 0; operation = operation_place call; arguments = [] }))
    seen_start n None = refl
    seen_start n (Some call) = refl
seen calls (End n reply) = seen_end n (call_at calls n) reply
  where
    seen_end : (n : ℕ) (call : Option AcceptedCall) (reply : Reply) → event_of (ended (called_of n call) reply) ≡ event_of (ended (record { number = n; session = 0; operation = operation_place call; arguments = [] }) reply)
    seen_end n None reply = refl
    seen_end n (Some call) reply = refl

-- what paths see of it
trace_is : (calls : List AcceptedCall) (past : List Happened) (trace : List TraceEvent) → trace_of (past_from calls past trace) ≡ fold (λ past e. path_event calls e ∷ past) (trace_of past) trace
trace_is calls past [] = refl
trace_is calls past (e ∷ trace) = trace_is calls (happened_at calls e ∷ past) trace ∙ ap (λ x. fold (λ past e. path_event calls e ∷ past) (x ∷ trace_of past) trace) (seen calls e)

told_more : (calls : List AcceptedCall) (past : List Happened) (e : TraceEvent) → told_of (happened_at calls e ∷ past) ≡ told_of past ++ line_told calls e ∷ []
told_more calls past (Start n) = refl
told_more calls past (End n reply) = ap (λ m. told_of past ++ call_ended m reply ∷ []) (number_kept n (call_at calls n))

-- what its lines tell
told_is : (calls : List AcceptedCall) (past : List Happened) (trace : List TraceEvent) → told_of (past_from calls past trace) ≡ told_of past ++ map (line_told calls) trace
told_is calls past [] = sym (append-nil (told_of past))
told_is calls past (e ∷ trace) =
    told_is calls (happened_at calls e ∷ past) trace ∙ ap (λ xs. xs ++ map (line_told calls) trace) (told_more calls past e)
    ∙ append_assoc (told_of past) (line_told calls e ∷ []) (map (line_told calls) trace)

abbrev end_at : ObjectForm → List AcceptedCall → ℕ × Reply → history.End
end_at o calls x = end_of o (called_of x.0 (call_at calls x.0)) x.1

-- its history
history_is : (o : ObjectForm) (calls : List AcceptedCall) (past : List Happened) (trace : List TraceEvent) → history_of o (past_from calls past trace) ≡ history_of o past ++ map (end_at o calls) (ends_of trace)
history_is o calls past [] = sym (append-nil (history_of o past))
history_is o calls past (Start n ∷ trace) = history_is o calls (happened_at calls (Start n) ∷ past) trace
history_is o calls past (End n reply ∷ trace) =
    history_is o calls (happened_at calls (End n reply) ∷ past) trace
    ∙ append_assoc (history_of o past) (end_at o calls (n, reply) ∷ []) (map (end_at o calls) (ends_of trace))

every_at : (P : AcceptedCall → Type 0) (calls : List AcceptedCall) (n : ℕ) (call : AcceptedCall) → Every P calls → call_at calls n ≡ Some call → P call
every_at P calls zero call every is = absurd cc
every_at P calls (suc k) call every is = at_place calls k call every is
  where
    at_place : (calls : List AcceptedCall) (k : ℕ) (call : AcceptedCall) → Every P calls → slice_get calls k ≡ Some call → P call
    at_place [] k call every is = absurd cc
    at_place (c ∷ calls) zero call every is = subst P (ap (λ o. unwrap_or o c) is) every.0
    at_place (c ∷ calls) (suc k) call every is = at_place calls k call every.1 is

-- the body of an operation at a place
body_there : (operations : List OperationForm) (k : ℕ) (f : OperationForm) → slice_get operations k ≡ Some f → slice_index_or (map form_body operations) k no_body ≡ form_body f
body_there [] k f is = absurd cc
body_there (x ∷ operations) zero f is = ap (λ o. form_body (unwrap_or o x)) is
body_there (x ∷ operations) (suc k) f is = body_there operations k f is

module _ (b : Board) (made : Every (IsMadeOf b.object) b.calls) where
  body_made : (n : ℕ) (call : AcceptedCall) → call_at b.calls n ≡ Some call → body_at (object_of b.object) call.op ≡ body_of call.operation
  body_made n call is = body_there (object_of b.object).operations call.op (operation_of call.operation) (every_at (IsMadeOf b.object) b.calls n call made is).operation ∙ body_is_same call.operation

  entry_end : (e : Noted) → IsNoted b.calls e → end_at (object_of b.object) b.calls (e.number, e.reply) ≡ chain.end_of e
  entry_end e noted =
      let o = object_of b.object in
      ap (λ c. end_of o (called_of e.number c) e.reply) noted.there
      ∙ (λ i. record { body = (body_made e.number noted.call noted.there ∙ ap body_of (sym noted.operation)) i; arguments = (sym noted.arguments) i; reply = e.reply })

  entries_are : (entries : List Noted) → Every (IsNoted b.calls) entries → map (end_at (object_of b.object) b.calls) (map (λ (e : Noted). (e.number, e.reply)) entries) ≡ chain.history_of entries
  entries_are [] noted = refl
  entries_are (e ∷ entries) noted = ap (λ x. x ∷ map (end_at (object_of b.object) b.calls) (map (λ (e : Noted). (e.number, e.reply)) entries)) (entry_end e noted.0) ∙ ap (λ xs. chain.end_of e ∷ xs) (entries_are entries noted.1)

  call_within : (n : ℕ) (call : AcceptedCall) → length b.calls ≤ 65536 → call_at b.calls n ≡ Some call → (1 ≤ n) × (n ≤ 65536)
  call_within zero call few is = absurd cc
  call_within (suc k) call few is = (omega arith, omega (arith, few, slice_get_within b.calls k call is))

  call_for : (n : ℕ) (call : AcceptedCall) → length b.calls ≤ 65536 → Every (λ c. All IsDatum c.arguments) b.calls → call_at b.calls n ≡ Some call → IsCallFor (object_of b.object) (called_of n (Some call))
  call_for n call few known is =
      let o = object_of b.object in
      let of = every_at (IsMadeOf b.object) b.calls n call made is in
      let named : operation_name o call.op ≡ call.operation.name = name_there o.operations call.op (operation_of call.operation) of.operation in
      record {
        number = call_within n call few is;
        session = of.session;
        there = slice_get_within o.operations call.op (operation_of call.operation) of.operation;
        first = subst (λ name. place_of (operation_names o.operations) name ≡ Some call.op) (sym named) (found_there b.object.operations.items call.op (operation_of call.operation) call.operation.name of.operation refl of.first);
        fit = of.fits ∙ ap (λ x. x.params) (sym (body_made n call is));
        known = every_at (λ c. All IsDatum c.arguments) b.calls n call known is;
      }

-- each start is of a call within the limits
EachStarts : ObjectForm → List Happened → Type 0
EachStarts o [] = Unit {0}
EachStarts o (began c ∷ past) = IsCallFor o c × EachStarts o past
EachStarts o (ended c reply ∷ past) = IsReply reply × EachStarts o past

of_calls : (calls : List AcceptedCall) (past : List Happened) (trace : List TraceEvent) → OfCalls calls past → OfCalls calls (past_from calls past trace)
of_calls calls past [] of = of
of_calls calls past (Start n ∷ trace) of = of_calls calls (happened_at calls (Start n) ∷ past) trace (ap (λ m. called_of m (call_at calls m)) (sym (number_kept n (call_at calls n))), of)
of_calls calls past (End n reply ∷ trace) of = of_calls calls (happened_at calls (End n reply) ∷ past) trace (ap (λ m. called_of m (call_at calls m)) (sym (number_kept n (call_at calls n))), of)

each_starts : (b : Board) (past : List Happened) (trace : List TraceEvent) → Every (IsMadeOf b.object) b.calls → length b.calls ≤ 65536 → Every (λ c. All IsDatum c.arguments) b.calls
    → Every (λ e. IsNumbered b.calls (event_number e)) trace → Every (λ (x : ℕ × Reply). IsReply x.1) (ends_of trace) → EachStarts (object_of b.object) past → EachStarts (object_of b.object) (past_from b.calls past trace)
unfolding EachStarts
each_starts b past [] made few taken numbered replies starts = starts
each_starts b past (Start n ∷ trace) made few taken numbered replies starts =
    each_starts b (happened_at b.calls (Start n) ∷ past) trace made few taken numbered.1 replies
    (subst (λ c. IsCallFor (object_of b.object) (called_of n c)) (sym numbered.0.1) (call_for b made n numbered.0.0 few taken numbered.0.1), starts)
each_starts b past (End n reply ∷ trace) made few taken numbered replies starts =
    each_starts b (happened_at b.calls (End n reply) ∷ past) trace made few taken numbered.1 replies.1 (replies.0, starts)

are_calls : (o : ObjectForm) (calls : List AcceptedCall) (past : List Happened) → OfCalls calls past → IsTrace (trace_of past) → EachStarts o past → AreCallsFor o past
unfolding EachStarts
are_calls o calls [] of trace starts = tt
are_calls o calls (began c ∷ past) of trace starts = (starts.0, trace.0, are_calls o calls past of.1 trace.1 starts.1)
are_calls o calls (ended c reply ∷ past) of trace starts = (starts.0, runs calls past c of.1 trace.1 of.0 trace.0, are_calls o calls past of.1 trace.1 starts.1)

replies_of : (entries : List Noted) → Every (λ e. IsReply e.reply) entries → Every (λ (x : ℕ × Reply). IsReply x.1) (map (λ (e : Noted). (e.number, e.reply)) entries)
replies_of [] every = tt
replies_of (e ∷ entries) every = (every.0, replies_of entries every.1)

pub desk_text_is_legal : DeskTextIsLegal
unfolding EachStarts
desk_text_is_legal b opening sound known front legal =
    let o = object_of b.object in
    let counted = sound.counted in
    let past = past_from b.calls [] b.trace in
    let seen_so : trace_of past ≡ path_trace b.calls b.trace = trace_is b.calls [] b.trace in
    let told_so : told_of past ≡ lines_told b = told_is b.calls [] b.trace in
    let ends : history_of o past ≡ chain.history_of b.history = history_is o b.calls [] b.trace ∙ ap (map (end_at o b.calls)) sound.told.ends ∙ entries_are b counted.made b.history sound.told.noted in
    let each = each_starts b [] b.trace counted.made counted.few known.arguments counted.numbered (subst (Every (λ (x : ℕ × Reply). IsReply x.1)) (sym sound.told.ends) (replies_of b.history (replies_told b.history opening legal known.replies))) tt in
    let are = are_calls o b.calls past (of_calls b.calls [] b.trace tt) (subst IsTrace (sym seen_so) counted.trace) each in
    let is = text_is_legal o opening past known.names front are (subst (SatisfiesAll o.paths) (sym seen_so) counted.satisfied) (subst (λ h. history.IsLegal h opening) (sym ends) legal) in
    let many : length (history_of o past) ≡ length b.history = ap length ends ∙ length-map b.history chain.end_of in
    subst (λ n. IsLegalTrace o (trace_text o opening (lines_told b)) n) many (subst (λ t. IsLegalTrace o (trace_text o opening t) (length (history_of o past))) told_so is)
