-- For what an audit stands after a line.
use Rattle.std.proofs.Common.{◌≡◌, ◌≢◌, ℕ, ◌+◌, ◌<◌, inl, inr, Bool, true, false, List, [], ◌∷◌, ◌++◌, length, refl, sym, ap, ◌∙◌, subst, arith, zero, suc, take, get_or, length-append, length-take}
use Rattle.std.specs.Prelude.{map, Option, Some, None, slice_get, slice_index_or, bytes_eq, if◌then◌else◌}
use Rattle.std.specs.Str.{str_to_ascii_lowercase}
use Rattle.std.proofs.lemmas.List.{length-map, map-append, take_more, take_all}
use Rattle.std.proofs.lemmas.Option.{slice_get_within, get_or_from_slice_get}
use Rattle.path_tree.specs.Path.{Path}
use Rattle.path_tree.specs.Trace.{Event, Start, End, IsFresh}
use Rattle.path_tree.specs.Satisfies.{SatisfiesAll}
use Rattle.path_tree.specs.Known.{place_of, next}
use Rattle.path_count.specs.State.{State}
use Rattle.value_core.specs.declared.datum.Datum.{Datum}
use Rattle.value_core.specs.declared.kind.Kind.{Kind}
use Rattle.value_core.specs.Contents.{Contents, kind_of}
use Rattle.value_bytes.specs.Spelling.{SpellsInSome}
use Rattle.decl_core.specs.ObjectForm.{ObjectForm}
use Rattle.apply_core.specs.declared.reply.Reply.{Reply}
use Rattle.apply_core.specs.History.{End as Ended, IsReplyOn, left_by, leads_to, IsLegal}
use Rattle.word_core.specs.Events.{Called, Happened, began, ended, call_of, trace_of, history_of, IsRunning, body_at}
use Rattle.audit_core.specs.declared.state.Audit.{Audit}
use Rattle.audit_core.specs.declared.calls.ActiveCall.{ActiveCall}
use Rattle.audit_core.specs.Operations.{operation_names}
use Rattle.audit_core.specs.Replies.{CanDo}
use Rattle.audit_core.specs.Tells.{IsStart, Heard, nothing_heard, IsOpened}
use Rattle.audit_core.specs.Counting.{AreCounters}
use Rattle.audit_core.specs.Calls.{called, AreSlots}
use Rattle.audit_core.specs.Verdicts.{contents_of}
use Rattle.audit_core.specs.Stands.{Stands, IsFit, AreFit}
use Rattle.audit_core.specs.declared.calls.CallSlot.TheVariants.{Fresh, Runs, Ended as Over}
use Rattle.audit_core.proofs.Slots.{running_among, slot_runs, slots_begun, slots_ended}

-- the contents after one end more
pub leads_to-push : (history : List Ended) (e : Ended) (parts : List Contents) → leads_to (history ++ e ∷ []) parts ≡ left_by e.reply e.body e.arguments (leads_to history parts)
leads_to-push [] e parts = refl
leads_to-push (h ∷ history) e parts = leads_to-push history e (left_by h.reply h.body h.arguments parts)

pub legal-push : (history : List Ended) (e : Ended) (parts : List Contents) → IsLegal history parts → IsReplyOn e.reply e.body e.arguments (leads_to history parts) → IsLegal (history ++ e ∷ []) parts
legal-push [] e parts legal is = (is, tt)
legal-push (h ∷ history) e parts legal is = (legal.0, legal-push history e (left_by h.reply h.body h.arguments parts) legal.1 is)

-- what each path's counters say, said of all paths
pub all_satisfied : (cs : List State) (n : ℕ) (paths : List Path) (t : List Event) → AreCounters cs n paths t → SatisfiesAll paths t
all_satisfied cs n [] t are = tt
all_satisfied [] n (p ∷ paths) t are = absurd (omega (arith, are.many))
all_satisfied (c ∷ cs) n (p ∷ paths) t are =
    ((are.each zero c p refl refl).satisfied.0, all_satisfied cs n paths t (record { many = omega (arith, are.many); each = λ k d q at by. are.each (suc k) d q at by }))

fit_running : (o : ObjectForm) (past : List Happened) (call : Called) → AreFit o past → IsRunning call past → IsFit o call
fit_running o [] call fit runs = absurd runs
fit_running o (began c ∷ past) call fit (inl same) = subst (IsFit o) same fit.0
fit_running o (began c ∷ past) call fit (inr runs) = fit_running o past call fit.1 runs
fit_running o (ended c reply ∷ past) call fit runs = fit_running o past call fit runs.1

pub running_fit : (o : ObjectForm) (audit : Audit) (heard : Heard) (call : Called) → Stands o audit heard → IsRunning call heard.past → IsFit o call
running_fit o audit heard call stands runs = fit_running o heard.past call stands.fit runs

-- a place that was found is a place
step_within : (found : Option ℕ) (place : ℕ) (n : ℕ) → next found ≡ Some place → ((k : ℕ) → found ≡ Some k → k < n) → place < suc n
step_within None place n is later = cc
step_within (Some k) place n is later = let e : suc k ≡ place = cc in omega (arith, later k refl)

place_step : (b : Bool) (found : Option ℕ) (place n : ℕ) → (if b then Some 0 else next found) ≡ Some place → ((k : ℕ) → found ≡ Some k → k < n) → place < suc n
place_step true found place n is later = let e : 0 ≡ place = cc in omega arith
place_step false found place n is later = step_within found place n is later

-- as many values as parts that were told
pub as_many : (o : ObjectForm) (audit : Audit) (heard : Heard) → Stands o audit heard → length audit.parts.items ≡ length heard.opening
as_many o audit heard stands =
    let e = ap length stands.kinds in
    omega (arith, length-map audit.parts.items kind_of, length-map (take (length heard.opening) o.parts) (λ p. p.1), length-take (length heard.opening) o.parts, e, stands.few)

-- before the last part nothing has happened
opening_is : (o : ObjectForm) (heard : Heard) → heard.past ≡ [] → contents_of o heard ≡ heard.opening
opening_is o heard none = ap (λ p. leads_to (history_of o p) heard.opening) none

pub named_stands : (o : ObjectForm) (audit : Audit) (heard : Heard) → Stands o audit heard → Stands o (record audit { named = true }) (record heard { named = true })
named_stands o audit heard s = record {
  named = refl;
  unnamed = λ h. absurd (let e : true ≡ false = h in cc);
  early = s.early;
  few = s.few;
  kinds = s.kinds;
  contents = s.contents;
  sound = record { satisfied = s.sound.satisfied; legal = s.sound.legal };
  trace = s.trace;
  fit = s.fit;
  counters = s.counters;
  slots = s.slots;
  counted = s.counted;
}

pub part_stands : (o : ObjectForm) (audit new : Audit) (heard : Heard) (name : List ℕ) (kind : Kind) (value : Contents) (bytes : List ℕ) → Stands o audit heard → audit.named ≡ true
    → slice_get o.parts (length heard.opening) ≡ Some (name, kind) → SpellsInSome bytes kind value
    → new.parts.items ≡ audit.parts.items ++ value ∷ [] → new.named ≡ audit.named → new.counters ≡ audit.counters → new.calls ≡ audit.calls → new.entries ≡ audit.entries
    → Stands o new (record heard { opening = heard.opening ++ value ∷ [] })
part_stands o audit new heard name kind value bytes s yes' there spells parts named counters calls entries =
    let within : length heard.opening < length o.parts = slice_get_within o.parts (length heard.opening) (name, kind) there in
    let none = s.early within in
    let size : length (heard.opening ++ value ∷ []) ≡ length heard.opening + 1 = length-append heard.opening (value ∷ []) in
    record {
      named = named ∙ s.named;
      unnamed = λ h. absurd (let e : true ≡ false = sym yes' ∙ s.named ∙ h in cc);
      early = λ h. none;
      few = omega (arith, size);
      kinds = ap (map kind_of) parts ∙ map-append kind_of audit.parts.items (value ∷ []) ∙ ap (λ ks. ks ++ kind_of value ∷ []) s.kinds
          ∙ ap (λ k. map (λ p. p.1) (take (length heard.opening) o.parts) ++ k ∷ []) (spells.1.kind ∙ ap (λ p. p.1) (sym (get_or_from_slice_get o.parts (length heard.opening) (name, kind) (name, kind) there)))
          ∙ sym (map-append (λ p. p.1) (take (length heard.opening) o.parts) (get_or o.parts (length heard.opening) (name, kind) ∷ []))
          ∙ ap (map (λ p. p.1)) (sym (take_more o.parts (length heard.opening) (name, kind) within)) ∙ ap (λ n. map (λ p. p.1) (take n o.parts)) (sym size);
      contents = parts ∙ ap (λ ps. ps ++ value ∷ []) (s.contents ∙ opening_is o heard none) ∙ sym (opening_is o (record heard { opening = heard.opening ++ value ∷ [] }) none);
      sound = record { satisfied = s.sound.satisfied; legal = subst (λ p. IsLegal (history_of o p) (heard.opening ++ value ∷ [])) (sym none) tt };
      trace = s.trace;
      fit = s.fit;
      counters = subst (λ v. AreCounters v.items (length o.operations) o.paths (trace_of heard.past)) (sym counters) s.counters;
      slots = rw calls s.slots;
      counted = entries ∙ s.counted;
    }

pub start_stands : (o : ObjectForm) (audit new : Audit) (heard : Heard) (number : ℕ) (r : ActiveCall) → Stands o audit heard → IsOpened o heard → IsFit o (called number r) → IsFresh number (trace_of heard.past)
    → slice_index_or new.calls.items number Fresh ≡ Runs r → ((n : ℕ) → n ≢ number → slice_index_or new.calls.items n Fresh ≡ slice_index_or audit.calls.items n Fresh)
    → AreCounters new.counters.items (length o.operations) o.paths (Start (call_of (called number r)) ∷ trace_of heard.past)
    → new.parts ≡ audit.parts → new.named ≡ audit.named → new.entries ≡ audit.entries → Stands o new (record heard { past = began (called number r) ∷ heard.past })
start_stands o audit new heard number r s opened fit fresh here others counters parts named entries = record {
  named = named ∙ s.named;
  unnamed = λ h. absurd (let e : true ≡ false = sym opened.named ∙ h in cc);
  early = λ h. absurd (omega (arith, h, opened.whole));
  few = s.few;
  kinds = ap (λ v. map kind_of v.items) parts ∙ s.kinds;
  contents = ap (λ v. v.items) parts ∙ s.contents;
  sound = record { satisfied = all_satisfied new.counters.items (length o.operations) o.paths (Start (call_of (called number r)) ∷ trace_of heard.past) counters; legal = s.sound.legal };
  trace = (fresh, s.trace);
  fit = (fit, s.fit);
  counters = counters;
  slots = slots_begun audit.calls.items new.calls.items heard.past number r s.slots fresh here others;
  counted = entries ∙ s.counted;
}

pub end_stands : (o : ObjectForm) (audit new : Audit) (heard : Heard) (number : ℕ) (r : ActiveCall) (reply : Reply) → Stands o audit heard → IsOpened o heard
    → slice_index_or audit.calls.items number Fresh ≡ Runs r → slice_index_or new.calls.items number Fresh ≡ Over → ((n : ℕ) → n ≢ number → slice_index_or new.calls.items n Fresh ≡ slice_index_or audit.calls.items n Fresh)
    → AreCounters new.counters.items (length o.operations) o.paths (End (call_of (called number r)) ∷ trace_of heard.past)
    → IsReplyOn reply (body_at o r.operation) r.arguments.items audit.parts.items → new.parts.items ≡ left_by reply (body_at o r.operation) r.arguments.items audit.parts.items → map kind_of new.parts.items ≡ map kind_of audit.parts.items
    → new.named ≡ audit.named → new.entries ≡ audit.entries + 1 → Stands o new (record heard { past = ended (called number r) reply ∷ heard.past })
end_stands o audit new heard number r reply s opened was here others counters is parts kinds named entries =
    let e : Ended = record { body = body_at o r.operation; arguments = r.arguments.items; reply = reply } in
    let runs : IsRunning (called number r) heard.past = slot_runs audit.calls.items heard.past number r s.slots was in
    record {
      named = named ∙ s.named;
      unnamed = λ h. absurd (let f : true ≡ false = sym opened.named ∙ h in cc);
      early = λ h. absurd (omega (arith, h, opened.whole));
      few = s.few;
      kinds = kinds ∙ s.kinds;
      contents = parts ∙ ap (left_by reply (body_at o r.operation) r.arguments.items) s.contents ∙ sym (leads_to-push (history_of o heard.past) e heard.opening);
      sound = record {
        satisfied = all_satisfied new.counters.items (length o.operations) o.paths (End (call_of (called number r)) ∷ trace_of heard.past) counters;
        legal = legal-push (history_of o heard.past) e heard.opening s.sound.legal (subst (IsReplyOn reply (body_at o r.operation) r.arguments.items) s.contents is);
      };
      trace = (running_among heard.past (called number r) runs, s.trace);
      fit = s.fit;
      counters = counters;
      slots = slots_ended audit.calls.items new.calls.items heard.past number r reply s.slots was here others;
      counted = entries ∙ ap (λ n. n + 1) s.counted ∙ sym (length-append (history_of o heard.past) (e ∷ []));
    }

pub new_stands : (o : ObjectForm) (audit : Audit) (n : ℕ) → audit.named ≡ false → audit.parts.items ≡ [] → audit.calls.items ≡ [] → audit.entries ≡ 0 → AreCounters audit.counters.items n o.paths [] → n ≡ length o.operations → Stands o audit nothing_heard
new_stands o audit n named parts calls entries counters size = record {
  named = named;
  unnamed = λ h. refl;
  early = λ h. refl;
  few = omega arith;
  kinds = ap (map kind_of) parts;
  contents = parts;
  sound = record { satisfied = all_satisfied audit.counters.items n o.paths [] counters; legal = tt };
  trace = tt;
  fit = tt;
  counters = subst (λ m. AreCounters audit.counters.items m o.paths []) size counters;
  slots = subst (λ xs. AreSlots xs []) (sym calls) (λ k. tt);
  counted = entries;
}

place_within : (names : List (List ℕ)) (name : List ℕ) (place : ℕ) → place_of names name ≡ Some place → place < length names
place_within [] name place is = cc
place_within (x ∷ names) name place is = place_step (bytes_eq x name) (place_of names name) place (length names) is (λ k found. place_within names name k found)

pub start_fit : (o : ObjectForm) (heard : Heard) (number session : ℕ) (name : List ℕ) (arguments : List Datum) (place : ℕ) → IsStart o heard number session name arguments place
    → IsFit o (record { number = number; session = session; operation = place; arguments = arguments })
start_fit o heard number session name arguments place is = record {
  number = is.number_is;
  known = omega (arith, place_within (operation_names o.operations) (str_to_ascii_lowercase name) place is.known, length-map o.operations (λ f. f.name));
  fit = is.fit;
}

pub can_do : (o : ObjectForm) (audit : Audit) (heard : Heard) (number : ℕ) (r : ActiveCall) → Stands o audit heard → IsOpened o heard → IsRunning (called number r) heard.past → CanDo o r audit.parts.items
can_do o audit heard number r s opened runs =
    let fit = running_fit o audit heard (called number r) s runs in
    record {
      there = fit.known;
      fit = fit.fit;
      kinds = s.kinds ∙ ap (map (λ p. p.1)) (take_all (length heard.opening) o.parts opened.whole);
    }
