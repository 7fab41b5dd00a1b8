-- For what an epoch that is played again stands after a line.
use Rattle.std.proofs.Common.{suc, Bool, true, false, ◌≡◌, ◌≢◌, ℕ, ◌<◌, ◌≤◌, List, [], ◌∷◌, ◌++◌, length, refl, sym, ap, ◌∙◌, subst, arith, map}
use Rattle.std.specs.Prelude.{is_some, bytes_eq, Option, Some, None, MatchOption, ◌==◌, ◌&&◌, if◌then◌else◌}
use Rattle.std.specs.Str.{str_to_ascii_lowercase}
use Rattle.path_tree.specs.Known.{place_of, next}
use Rattle.path_tree.specs.Trace.{Call, Start, End, IsFresh, without, running_calls}
use Rattle.path_tree.specs.Satisfies.{SatisfiesAll}
use Rattle.path_count.specs.Stands.{started_calls}
use Rattle.path_count.proofs.Running.{same_test}
use Rattle.value_core.specs.Contents.{kind_of}
use Rattle.decl_core.specs.declared.object.Part.{Part}
use Rattle.decl_core.specs.ObjectMap.{parts_of}
use Rattle.decl_core.specs.ObjectForm.{ObjectForm}
use Rattle.apply_core.specs.declared.reply.Reply.{Reply}
use Rattle.apply_core.specs.History.{IsReplyOn, left_by}
use Rattle.apply_core.proofs.Histories.{legal_by_one, leads_by_one}
use Rattle.word_core.specs.Events.{Called, call_of, end_of, history_of, body_at}
use Rattle.path_count.specs.declared.past.PastEvent.TheVariants as past
use Rattle.path_count.specs.Past.{events_of, AreBefore}
use Rattle.live_core.proofs.Opening.{fresh_before}
use Rattle.audit_core.specs.Counting.{AllMayStart}
use Rattle.audit_core.specs.Replies.{CanDo}
use Rattle.audit_core.specs.Tells.{IsCallNumber}
use Rattle.audit_core.specs.declared.epoch_replay.Known.{Known}
use Rattle.audit_core.specs.declared.epoch_replay.Replay.{Replay}
use Rattle.audit_core.specs.EpochSaid.{Asked}
use Rattle.audit_core.specs.Steps.{Step, ran, cancelled, named, Begun, Heard, nothing_heard, IsUnused, happened_of, trace_by}
use Rattle.audit_core.specs.Numbers.{AreNumbers}
use Rattle.audit_core.specs.Counts.{Counted}
use Rattle.audit_core.specs.Carried.{carried_calls}
use Rattle.value_core.specs.Datum.{elem_of}
use Rattle.audit_core.specs.Operations.{operation_names}
use Rattle.std.proofs.lemmas.List.{length-map}
use Rattle.std.proofs.lemmas.Bool.{false≢true}
use Rattle.path_tree.specs.Identifier.{IsIdentifier}
use Rattle.audit_core.specs.EpochSaid.{Says, a_name}
use Rattle.audit_core.specs.EpochTells.{Tells, IsCall, IsSession, name_told}
use Rattle.audit_core.specs.Sound.{IsSound, with_running}
use Rattle.audit_core.specs.EpochStands.{Stands, IsPending, known_call}
use Rattle.audit_core.proofs.Paths.{all_may}

without_first : (c : Called) (calls : List Call) → without (call_of c) (call_of c ∷ calls) ≡ calls
without_first c calls =
    ap (λ b. if b && (c.operation == c.operation) then calls else call_of c ∷ without (call_of c) calls) (same_test c.number)
    ∙ ap (λ b. if b then calls else call_of c ∷ without (call_of c) calls) (same_test c.operation)

-- no line told of a number of this epoch, and no call of the past has it: it is fresh
pub unused_fresh : (e : Begun) (steps : List Step) (n : ℕ) → n ≤ 65536 → AreBefore (events_of e.past) → IsUnused n steps → IsFresh n (trace_by e steps)
unused_fresh e [] n few before unused = fresh_before n (events_of e.past) few before
unused_fresh e (ran c reply ∷ steps) n few before unused = (unused.0, unused_fresh e steps n few before unused.1)
unused_fresh e (cancelled c ∷ steps) n few before unused = unused_fresh e steps n few before unused.1
unused_fresh e (named session client ∷ steps) n few before unused = unused_fresh e steps n few before unused

sound_by : (o : ObjectForm) (e : Begun) (r : Replay) (heard : Heard) (now : Option Known) (running : Option Called) → Stands o e r heard → heard.running ≡ running →
    MatchOption now (running ≡ None) (λ k. IsPending o e heard (known_call k)) → SatisfiesAll o.paths (with_running running (trace_by e heard.steps))
sound_by o e r heard now None s is pending = s.counted.together.satisfied
sound_by o e r heard None (Some c) s is pending = cc
sound_by o e r heard (Some k) (Some c) s is pending =
    let same : ◌≡◌ {A = Option Called} (Some c) (Some (known_call k)) = sym is ∙ pending.runs in
    let e' : c ≡ known_call k = cc in
    subst (λ (x : Called). SatisfiesAll o.paths (Start (call_of x) ∷ trace_by e heard.steps)) (sym e')
    (all_may o.paths (known_call k).operation (trace_by e heard.steps) pending.may (known_call k).number)

pub stands_sound : (o : ObjectForm) (e : Begun) (r : Replay) (heard : Heard) → Stands o e r heard → IsSound o e heard
stands_sound o e r heard s = record {
  satisfied = sound_by o e r heard r.running heard.running s refl
      (subst (λ x. MatchOption r.running (x ≡ None) (λ k. IsPending o e heard (known_call k))) refl s.running);
  legal = s.legal;
}

pub can_do : (o : ObjectForm) (e : Begun) (r : Replay) (heard : Heard) (k : Known) → Stands o e r heard → IsPending o e heard (known_call k) → CanDo o k.call r.parts.items
can_do o e r heard k s p = record { there = p.known; fit = p.fit; kinds = s.kinds }

module _ (o : ObjectForm) (e : Begun) (old new : Replay) (heard : Heard) (c : Called) (reply : Reply) where
  abbrev ran_heard : Heard
  ran_heard = record { steps = ran c reply ∷ heard.steps; running = None }

  -- the call that ran has ended
  pub ran_stands : Stands o e old heard → IsPending o e heard c →
      Counted new.counts.all new.counts.each.items (length o.operations) o.paths (End (call_of c) ∷ Start (call_of c) ∷ trace_by e heard.steps) →
      IsReplyOn reply (body_at o c.operation) c.arguments old.parts.items → new.parts.items ≡ left_by reply (body_at o c.operation) c.arguments old.parts.items →
      map kind_of new.parts.items ≡ map kind_of old.parts.items →
      AreNumbers new.numbers.used.items new.numbers.greatest (ran c reply ∷ heard.steps) →
      new.long.items ≡ old.long.items ++ past.Start c.operation ∷ past.End c.operation ∷ [] →
      new.carried ≡ old.carried → new.running ≡ None → Stands o e new ran_heard
  ran_stands s p counted is parts kinds numbers long carried running =
      let end = end_of o c reply in
      let now = subst (IsReplyOn reply end.body c.arguments) s.contents is in
      record {
        counted = counted;
        quiet = without_first c (running_calls (trace_by e heard.steps)) ∙ s.quiet;
        before = s.before;
        legal = (legal_by_one (history_of o (happened_of heard.steps)) end e.opening).1 (s.legal, now);
        contents = parts ∙ ap (left_by reply end.body c.arguments) s.contents ∙ sym (leads_by_one (history_of o (happened_of heard.steps)) end e.opening);
        kinds = kinds ∙ s.kinds;
        numbers = numbers;
        carried = s.carried ∙ ap (λ v. carried_calls v.items) (sym carried);
        running = subst (λ x. MatchOption x (◌≡◌ {A = Option Called} None None) (λ k. IsPending o e ran_heard (known_call k))) (sym running) refl;
        long = long ∙ ap (λ xs. xs ++ past.Start c.operation ∷ past.End c.operation ∷ []) s.long;
      }

-- nothing runs
pub rests_is : (o : ObjectForm) (e : Begun) (r : Replay) (heard : Heard) → Stands o e r heard → r.running ≡ None → heard.running ≡ None
rests_is o e r heard s none = subst (λ x. MatchOption x (heard.running ≡ None) (λ k. IsPending o e heard (known_call k))) none s.running

pub runs_is : (o : ObjectForm) (e : Begun) (r : Replay) (heard : Heard) (k : Known) → Stands o e r heard → r.running ≡ Some k → IsPending o e heard (known_call k)
runs_is o e r heard k s some = subst (λ x. MatchOption x (heard.running ≡ None) (λ k. IsPending o e heard (known_call k))) some s.running

-- a call that waited was cancelled
pub cancelled_stands : (o : ObjectForm) (e : Begun) (old new : Replay) (heard : Heard) (c : Called) → Stands o e old heard → heard.running ≡ None → old.running ≡ None →
    AreNumbers new.numbers.used.items new.numbers.greatest (cancelled c ∷ heard.steps) →
    new.counts ≡ old.counts → new.parts ≡ old.parts → new.carried ≡ old.carried → new.running ≡ old.running → new.long ≡ old.long →
    Stands o e new (record heard { steps = cancelled c ∷ heard.steps })
cancelled_stands o e old new heard c s rests none numbers counts parts carried running long = record {
  counted = subst (λ x. Counted x.all x.each.items (length o.operations) o.paths (trace_by e heard.steps)) (sym counts) s.counted;
  quiet = s.quiet;
  before = s.before;
  legal = s.legal;
  contents = ap (λ v. v.items) parts ∙ s.contents;
  kinds = ap (λ v. map kind_of v.items) parts ∙ s.kinds;
  numbers = numbers;
  carried = s.carried ∙ ap (λ v. carried_calls v.items) (sym carried);
  running = subst (λ x. MatchOption x (heard.running ≡ None) (λ k. IsPending o e (record heard { steps = cancelled c ∷ heard.steps }) (known_call k))) (sym (running ∙ none)) rests;
  long = ap (λ v. v.items) long ∙ s.long;
}

named_marks : (used : _) (greatest session : ℕ) (client : List ℕ) (steps : List Step) → AreNumbers used greatest steps → AreNumbers used greatest (named session client ∷ steps)
named_marks used greatest session client steps are = record { marked = are.marked; most = are.most }

-- a session got a name
pub named_stands : (o : ObjectForm) (e : Begun) (r : Replay) (heard : Heard) (session : ℕ) (client : List ℕ) → Stands o e r heard → heard.running ≡ None → r.running ≡ None →
    Stands o e r (record heard { steps = named session client ∷ heard.steps })
named_stands o e r heard session client s rests none = record {
  counted = s.counted;
  quiet = s.quiet;
  before = s.before;
  legal = s.legal;
  contents = s.contents;
  kinds = s.kinds;
  numbers = named_marks r.numbers.used.items r.numbers.greatest session client heard.steps s.numbers;
  carried = s.carried;
  running = subst (λ x. MatchOption x (heard.running ≡ None) (λ k. IsPending o e (record heard { steps = named session client ∷ heard.steps }) (known_call k))) (sym none) rests;
  long = s.long;
}

-- a call has started
pub started_stands : (o : ObjectForm) (e : Begun) (old new : Replay) (heard : Heard) (k : Known) → Stands o e old heard → new.running ≡ Some k →
    new.counts ≡ old.counts → new.parts ≡ old.parts → new.carried ≡ old.carried → new.numbers ≡ old.numbers → new.long ≡ old.long →
    IsPending o e (record heard { running = Some (known_call k) }) (known_call k) →
    Stands o e new (record heard { running = Some (known_call k) })
started_stands o e old new heard k s running counts parts carried numbers long pending = record {
  counted = subst (λ x. Counted x.all x.each.items (length o.operations) o.paths (trace_by e heard.steps)) (sym counts) s.counted;
  quiet = s.quiet;
  before = s.before;
  legal = s.legal;
  contents = ap (λ v. v.items) parts ∙ s.contents;
  kinds = ap (λ v. map kind_of v.items) parts ∙ s.kinds;
  numbers = subst (λ x. AreNumbers x.used.items x.greatest heard.steps) (sym numbers) s.numbers;
  carried = s.carried ∙ ap (λ v. carried_calls v.items) (sym carried);
  running = subst (λ x. MatchOption x (◌≡◌ {A = Option Called} (Some (known_call k)) None) (λ j. IsPending o e (record heard { running = Some (known_call k) }) (known_call j))) (sym running) pending;
  long = ap (λ v. v.items) long ∙ s.long;
}

-- before the first line
pub new_stands : (o : ObjectForm) (e : Begun) (r : Replay) → Counted r.counts.all r.counts.each.items (length o.operations) o.paths (events_of e.past) → running_calls (events_of e.past) ≡ [] → AreBefore (events_of e.past) →
    r.parts.items ≡ e.opening → map kind_of e.opening ≡ map (λ p. p.1) o.parts → AreNumbers r.numbers.used.items r.numbers.greatest [] → e.carried ≡ carried_calls r.carried.items → r.running ≡ None → r.long.items ≡ e.past → Stands o e r nothing_heard
new_stands o e r counted quiet before parts kinds numbers carried running long = record {
  counted = counted;
  quiet = quiet;
  before = before;
  legal = tt;
  contents = parts;
  kinds = ap (map kind_of) parts ∙ kinds;
  numbers = numbers;
  carried = carried;
  running = subst (λ x. MatchOption x (◌≡◌ {A = Option Called} None None) (λ k. IsPending o e nothing_heard (known_call k))) (sym running) refl;
  long = long;
}

some_none : {X : Type 0} {x : X} → ◌≡◌ {A = Option X} None (Some x) → ⊥
some_none is = cc

pub some_same : {X : Type 0} {x y : X} → ◌≡◌ {A = Option X} (Some x) (Some y) → x ≡ y
some_same is = cc

stranger_by : (o : ObjectForm) (e : Begun) (heard : Heard) (number : ℕ) (now : Option Known) → MatchOption now (heard.running ≡ None) (λ k. IsPending o e heard (known_call k)) → ((k : Known) → now ≡ Some k → k.number ≢ number) →
    (call : Called) → call.number ≡ number → heard.running ≡ Some call → ⊥
stranger_by o e heard number None is none call same runs = some_none (sym is ∙ runs)
stranger_by o e heard number (Some k) p none call same runs = none k refl (ap (λ (c : Called). c.number) (some_same (sym p.runs ∙ runs)) ∙ same)

-- no call of this number runs
pub stranger : (o : ObjectForm) (e : Begun) (r : Replay) (heard : Heard) (number : ℕ) → Stands o e r heard → ((k : Known) → r.running ≡ Some k → k.number ≢ number) → (call : Called) → call.number ≡ number → heard.running ≡ Some call → ⊥
stranger o e r heard number s none = stranger_by o e heard number r.running s.running none

rests_by : (o : ObjectForm) (e : Begun) (heard : Heard) (now : Option Known) → MatchOption now (heard.running ≡ None) (λ k. IsPending o e heard (known_call k)) → heard.running ≡ None → now ≡ None
rests_by o e heard None is none = refl
rests_by o e heard (Some k) p none = absurd (some_none (sym none ∙ p.runs))

-- where nothing runs nothing is kept as running
pub rests_so : (o : ObjectForm) (e : Begun) (r : Replay) (heard : Heard) → Stands o e r heard → heard.running ≡ None → r.running ≡ None
rests_so o e r heard s none = rests_by o e heard r.running s.running none

-- a place that was found is a place
step_within : (found : Option ℕ) (place : ℕ) (n : ℕ) → next found ≡ Some place → ((k : ℕ) → found ≡ Some k → k < n) → place < suc n
step_within None place n is later = cc
step_within (Some k) place n is later = let f : suc k ≡ place = cc in omega (arith, later k refl)

place_step : (b : Bool) (found : Option ℕ) (place n : ℕ) → (if b then Some 0 else next found) ≡ Some place → ((k : ℕ) → found ≡ Some k → k < n) → place < suc n
place_step true found place n is later = let f : 0 ≡ place = cc in omega arith
place_step false found place n is later = step_within found place n is later

place_within : (names : List (List ℕ)) (name : List ℕ) (place : ℕ) → place_of names name ≡ Some place → place < length names
place_within [] name place is = cc
place_within (x ∷ names) name place is = place_step (bytes_eq x name) (place_of names name) place (length names) is (λ k found. place_within names name k found)

pub call_known : (o : ObjectForm) (e : Begun) (heard : Heard) (asked : Asked) (c : Called) → IsCall o e heard asked c → c.operation < length o.operations
call_known o e heard asked c is =
    omega (arith, place_within (operation_names o.operations) (str_to_ascii_lowercase asked.name) c.operation is.known, length-map o.operations (λ f. f.name))

-- a call that a line tells of and that every path admits
pub pending_so : (o : ObjectForm) (e : Begun) (heard : Heard) (asked : Asked) (c : Called) → IsCall o e heard asked c → AllMayStart o.paths c.operation (trace_by e heard.steps) → started_calls (trace_by e heard.steps) < 65536 →
    IsPending o e (record heard { running = Some c }) c
pending_so o e heard asked c is may few = record {
  runs = refl;
  number = subst IsCallNumber (sym is.number) is.number_is;
  unused = subst (λ n. IsUnused n heard.steps) (sym is.number) is.fresh;
  known = call_known o e heard asked c is;
  fit = subst (λ xs. map elem_of xs ≡ (body_at o c.operation).params) (sym is.arguments) is.fit;
  may = may;
  few = few;
}

pub none_by : {X : Type 0} (now : Option X) (b : Bool) → b ≡ is_some now → b ≡ false → now ≡ None
none_by None b is isnt = refl
none_by (Some x) b is isnt = absurd (false≢true (sym isnt ∙ is))

-- a session got a name that was read in any case
pub name_so : (o : ObjectForm) (e : Begun) (heard : Heard) (line : List ℕ) (session : ℕ) (client name : List ℕ) → Says line (a_name session client) → heard.running ≡ None → IsSession session → IsIdentifier client → name ≡ str_to_ascii_lowercase client →
    Tells o e heard line (record heard { steps = named session name ∷ heard.steps })
name_so o e heard line session client name says rests is spelled same =
    subst (λ x. Tells o e heard line (record heard { steps = named session x ∷ heard.steps })) (sym same) (name_told says rests is spelled)

pub kinds_same : (parts : List Part) → map (λ p. p.1) (parts_of parts) ≡ map (λ (p : Part). p.kind) parts
kinds_same [] = refl
kinds_same (p ∷ parts) = ap (λ kinds. p.kind ∷ kinds) (kinds_same parts)
