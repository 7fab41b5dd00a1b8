-- A legal trace has no fault, and a faulty line tells one thing.
use Rattle.std.proofs.Common.{◌≡◌, ℕ, ◌⊎◌, inl, inr, true, false, List, [], ◌∷◌, ◌++◌, length, refl, sym, ap, ◌∙◌, subst, arith, zero, suc}
use Rattle.std.specs.Prelude.{Some, Ok, slice_get, Result}
use Rattle.std.specs.Str.Lines.{lines}
use Rattle.path_tree.specs.Path.{Path}
use Rattle.path_tree.specs.Trace.{Event, IsTrace}
use Rattle.path_tree.specs.Satisfies.{Satisfies, SatisfiesAll}
use Rattle.value_core.specs.Contents.{Contents}
use Rattle.std.specs.Str.{str_to_ascii_lowercase}
use Rattle.path_tree.specs.Known.{place_of}
use Rattle.value_bytes.specs.Spelling.{SpellsInSome}
use Rattle.value_bytes.proofs.Unique.{unique_in}
use Rattle.audit_core.specs.Operations.{operation_names}
use Rattle.std.proofs.lemmas.Option.{slice_get_within}
use Rattle.audit_core.specs.declared.verdict.AuditVerdict.{AuditVerdict}
use Rattle.audit_core.specs.declared.verdict.AuditVerdict.TheVariants as verdicts
use Rattle.audit_core.specs.Verdicts.{IsVerdict}
use Rattle.decl_core.specs.ObjectForm.{ObjectForm}
use Rattle.apply_core.specs.declared.reply.Reply.{Reply}
use Rattle.apply_core.specs.History.{End as Ended, IsReplyOn, left_by, leads_to, IsLegal}
use Rattle.word_core.specs.Events.{Called, Happened, began, ended, trace_of, history_of, body_at}
use Rattle.audit_core.specs.declared.verdict.AuditFault.{AuditFault}
use Rattle.audit_core.specs.declared.verdict.AuditFault.TheVariants as faults
use Rattle.audit_core.specs.Said.{an_object, a_part, a_start, an_end}
use Rattle.audit_core.specs.Tells.{Heard, nothing_heard, IsOpened, IsPart, Tells, Tell, object_told, part_told, start_told, end_told}
use Rattle.audit_core.specs.Verdicts.{IsSound, IsFault, IsFirstFault, IsLegalTrace, IsStranger, IsBreach, IsWrong}
use Rattle.audit_core.proofs.Saying.{says_once}
use Rattle.audit_core.proofs.Slots.{running_once, running_among}
use Rattle.audit_core.proofs.Forms.{place_once}
use Rattle.audit_core.proofs.Renumbering.{may_by_one}

same_bytes : (a b : List ℕ) {E : Type 0} (r : Result (List ℕ) E) → r ≡ Ok a → r ≡ Ok b → a ≡ b
same_bytes a b {E} r p q = let e : ◌≡◌ {A = Result (List ℕ) E} (Ok a) (Ok b) = sym p ∙ q in cc

part_once : (o : ObjectForm) (heard : Heard) (name hex : List ℕ) (a b : Contents) → IsPart o heard name hex a → IsPart o heard name hex b → a ≡ b
part_once o heard name hex a b p q =
    let bytes : p.bytes ≡ q.bytes = same_bytes p.bytes q.bytes _ p.is.read q.is.read in
    let other : SpellsInSome p.bytes q.kind b = subst (λ x. SpellsInSome x q.kind b) (sym bytes) q.spells in
    (unique_in p.spells.0 other.0 p.bytes p.kind q.kind a b p.spells.1 other.1).1

-- a line tells one thing
pub tells_once : (o : ObjectForm) (heard : Heard) (line : List ℕ) (a b : Heard) → IsTrace (trace_of heard.past) → Tells o heard line a → Tells o heard line b → a ≡ b
tells_once o heard line a b trace (object_told {name = n} p is) (object_told {name = m} q its) = refl
tells_once o heard line a b trace (object_told {name = n} p is) (part_told {name = m} {hex = h} q its) = let e = says_once line (an_object n) (a_part m h) p q in cc
tells_once o heard line a b trace (object_told {name = n} p is) (start_told {number = k} {session = s} {name = m} {arguments = xs} q its) = let e = says_once line (an_object n) (a_start k s m xs) p q in cc
tells_once o heard line a b trace (object_told {name = n} p is) (end_told {number = k} {reply = r} q opened its same runs) = let e = says_once line (an_object n) (an_end k r) p q in cc
tells_once o heard line a b trace (part_told {name = n} {hex = g} {value = v} p is) (object_told {name = m} q its) = let e = says_once line (a_part n g) (an_object m) p q in cc
tells_once o heard line a b trace (part_told {name = n} {hex = g} {value = v} p is) (part_told {name = m} {hex = h} {value = w} q its) =
    let e = says_once line (a_part n g) (a_part m h) p q in
    let one : n ≡ m = cc in let two : g ≡ h = cc in
    let other : IsPart o heard n g w = subst (λ x. IsPart o heard x g w) (sym one) (subst (λ y. IsPart o heard m y w) (sym two) its) in
    ap (λ x. record heard { opening = heard.opening ++ x ∷ [] }) (part_once o heard n g v w is other)
tells_once o heard line a b trace (part_told {name = n} {hex = g} {value = v} p is) (start_told {number = k} {session = s} {name = m} {arguments = xs} q its) = let e = says_once line (a_part n g) (a_start k s m xs) p q in cc
tells_once o heard line a b trace (part_told {name = n} {hex = g} {value = v} p is) (end_told {number = k} {reply = r} q opened its same runs) = let e = says_once line (a_part n g) (an_end k r) p q in cc
tells_once o heard line a b trace (start_told {number = j} {session = z} {place = u} {name = l} {arguments = ys} p is) (object_told {name = m} q its) = let e = says_once line (a_start j z l ys) (an_object m) p q in cc
tells_once o heard line a b trace (start_told {number = j} {session = z} {place = u} {name = l} {arguments = ys} p is) (part_told {name = m} {hex = h} q its) = let e = says_once line (a_start j z l ys) (a_part m h) p q in cc
tells_once o heard line a b trace (start_told {number = j} {session = z} {place = u} {name = l} {arguments = ys} p is) (start_told {number = k} {session = s} {place = v} {name = m} {arguments = xs} q its) =
    let e = says_once line (a_start j z l ys) (a_start k s m xs) p q in
    let one : j ≡ k = cc in let two : z ≡ s = cc in let three : l ≡ m = cc in let four : ys ≡ xs = cc in
    let five : u ≡ v = place_once (place_of (operation_names o.operations) (str_to_ascii_lowercase l)) u v is.known (subst (λ x. place_of (operation_names o.operations) (str_to_ascii_lowercase x) ≡ Some v) (sym three) its.known) in
    λ i. record heard { past = began (record { number = one i; session = two i; operation = five i; arguments = four i }) ∷ heard.past }
tells_once o heard line a b trace (start_told {number = j} {session = z} {place = u} {name = l} {arguments = ys} p is) (end_told {number = k} {reply = r} q opened its same runs) = let e = says_once line (a_start j z l ys) (an_end k r) p q in cc
tells_once o heard line a b trace (end_told {number = j} {reply = x} p opened' is same' runs') (object_told {name = m} q its) = let e = says_once line (an_end j x) (an_object m) p q in cc
tells_once o heard line a b trace (end_told {number = j} {reply = x} p opened' is same' runs') (part_told {name = m} {hex = h} q its) = let e = says_once line (an_end j x) (a_part m h) p q in cc
tells_once o heard line a b trace (end_told {number = j} {reply = x} p opened' is same' runs') (start_told {number = k} {session = s} {name = m} {arguments = xs} q its) = let e = says_once line (an_end j x) (a_start k s m xs) p q in cc
tells_once o heard line a b trace (end_told {number = j} {reply = x} {call = f} p opened' is same' runs') (end_told {number = k} {reply = r} {call = g} q opened its same runs) =
    let e = says_once line (an_end j x) (an_end k r) p q in
    let one : j ≡ k = cc in let two : x ≡ r = cc in
    let call : f ≡ g = running_once heard.past f g trace runs' runs (same' ∙ one ∙ sym same) in
    λ i. record heard { past = ended (call i) (two i) ∷ heard.past }

-- what a line adds keeps a trace
tells_trace : (o : ObjectForm) (heard : Heard) (line : List ℕ) (after : Heard) → IsTrace (trace_of heard.past) → Tells o heard line after → IsTrace (trace_of after.past)
tells_trace o heard line after trace (object_told says is) = trace
tells_trace o heard line after trace (part_told says is) = trace
tells_trace o heard line after trace (start_told says is) = (is.fresh, trace)
tells_trace o heard line after trace (end_told {call = c} says opened is same runs) = (running_among heard.past c runs, trace)

pub tell_trace : (o : ObjectForm) (heard : Heard) (ls : List (List ℕ)) (after : Heard) → IsTrace (trace_of heard.past) → Tell o heard ls after → IsTrace (trace_of after.past)
tell_trace o heard [] after trace told = subst (λ h. IsTrace (trace_of h.past)) (sym told) trace
tell_trace o heard (line ∷ ls) after trace told = tell_trace o told.0 ls after (tells_trace o heard line told.0 trace told.1) told.2

-- the first lines tell the same, however the trace goes on
pub tell_front : (o : ObjectForm) (heard : Heard) (before : List (List ℕ)) (line : List ℕ) (after : List (List ℕ)) (mid last : Heard) → IsTrace (trace_of heard.past) → Tell o heard before mid → Tell o heard (before ++ line ∷ after) last
    → (next : Heard) × Tells o mid line next × Tell o next after last
tell_front o heard [] line after mid last trace told whole = (whole.0, subst (λ h. Tells o h line whole.0) (sym told) whole.1, whole.2)
tell_front o heard (l ∷ before) line after mid last trace told whole =
    let same : told.0 ≡ whole.0 = tells_once o heard l told.0 whole.0 trace told.1 whole.1 in
    tell_front o told.0 before line after mid last (tells_trace o heard l told.0 trace told.1) told.2 (subst (λ h. Tell o h (before ++ line ∷ after) last) (sym same) whole.2)

-- the front of what satisfies every path does so
front_satisfied : (paths : List Path) (e : Event) (t : List Event) → SatisfiesAll paths (e ∷ t) → SatisfiesAll paths t
front_satisfied [] e t h = tt
front_satisfied (p ∷ paths) e t h = (h.0.1, front_satisfied paths e t h.1)

tells_satisfied : (o : ObjectForm) (heard : Heard) (line : List ℕ) (after : Heard) → Tells o heard line after → SatisfiesAll o.paths (trace_of after.past) → SatisfiesAll o.paths (trace_of heard.past)
tells_satisfied o heard line after (object_told says is) h = h
tells_satisfied o heard line after (part_told says is) h = h
tells_satisfied o heard line after (start_told {number = n} {place = p} says is) h = front_satisfied o.paths _ (trace_of heard.past) h
tells_satisfied o heard line after (end_told says opened is same runs) h = front_satisfied o.paths _ (trace_of heard.past) h

tell_satisfied : (o : ObjectForm) (heard : Heard) (ls : List (List ℕ)) (after : Heard) → Tell o heard ls after → SatisfiesAll o.paths (trace_of after.past) → SatisfiesAll o.paths (trace_of heard.past)
tell_satisfied o heard [] after told h = subst (λ x. SatisfiesAll o.paths (trace_of x.past)) told h
tell_satisfied o heard (line ∷ ls) after told h = tells_satisfied o heard line told.0 told.1 (tell_satisfied o told.0 ls after told.2 h)

path_at : (paths : List Path) (t : List Event) (k : ℕ) (p : Path) → SatisfiesAll paths t → slice_get paths k ≡ Some p → Satisfies p t
path_at [] t k p h at = cc
path_at (q ∷ paths) t zero p h at = let e : q ≡ p = cc in subst (λ x. Satisfies x t) e h.0
path_at (q ∷ paths) t (suc k) p h at = path_at paths t k p h.1 at

pub tell_once : (o : ObjectForm) (heard : Heard) (ls : List (List ℕ)) (a b : Heard) → IsTrace (trace_of heard.past) → Tell o heard ls a → Tell o heard ls b → a ≡ b
tell_once o heard [] a b trace p q = p ∙ sym q
tell_once o heard (line ∷ ls) a b trace p q =
    let same : p.0 ≡ q.0 = tells_once o heard line p.0 q.0 trace p.1 q.1 in
    tell_once o p.0 ls a b (tells_trace o heard line p.0 trace p.1) p.2 (subst (λ h. Tell o h ls b) (sym same) q.2)

legal_split : (history : List Ended) (e : Ended) (parts : List Contents) → IsLegal (history ++ e ∷ []) parts → IsLegal history parts × IsReplyOn e.reply e.body e.arguments (leads_to history parts)
legal_split [] e parts h = (tt, h.0)
legal_split (x ∷ history) e parts h = let later = legal_split history e (left_by x.reply x.body x.arguments parts) h.1 in ((h.0, later.0), later.1)

-- behind the last part the opening contents stay, and the front of a legal history is legal
pub opened_step : (o : ObjectForm) (heard : Heard) (line : List ℕ) (after : Heard) → IsOpened o heard → Tells o heard line after
    → IsOpened o after × (IsLegal (history_of o after.past) after.opening → IsLegal (history_of o heard.past) heard.opening)
opened_step o heard line after opened (object_told says is) = absurd (let e : true ≡ false = sym opened.named ∙ is.first in cc)
opened_step o heard line after opened (part_told {name = n} says is) = absurd (omega (arith, opened.whole, slice_get_within o.parts (length heard.opening) (n, is.kind) is.next))
opened_step o heard line after opened (start_told says is) = (record { named = opened.named; whole = opened.whole }, λ h. h)
opened_step o heard line after opened (end_told {reply = r} {call = c} says opened' is same runs) =
    (record { named = opened.named; whole = opened.whole }, λ h. (legal_split (history_of o heard.past) (record { body = body_at o c.operation; arguments = c.arguments; reply = r }) heard.opening h).0)

tell_legal : (o : ObjectForm) (heard : Heard) (ls : List (List ℕ)) (after : Heard) → IsOpened o heard → Tell o heard ls after → IsLegal (history_of o after.past) after.opening → IsLegal (history_of o heard.past) heard.opening
tell_legal o heard [] after opened told h = subst (λ x. IsLegal (history_of o x.past) x.opening) told h
tell_legal o heard (line ∷ ls) after opened told h =
    let one = opened_step o heard line told.0 opened told.1 in one.1 (tell_legal o told.0 ls after one.0 told.2 h)

longer : (e : Happened) (past : List Happened) → past ≡ e ∷ past → ⊥
longer e past same = omega (arith, ap length same)

-- an end was told behind the last part
pub end_opened : (o : ObjectForm) (heard : Heard) (line : List ℕ) (after : Heard) (c : Called) (r : Reply) → Tells o heard line after → after.past ≡ ended c r ∷ heard.past → IsOpened o heard
end_opened o heard line after c r (object_told says is) same = absurd (longer (ended c r) heard.past same)
end_opened o heard line after c r (part_told says is) same = absurd (longer (ended c r) heard.past same)
end_opened o heard line after c r (start_told says is) same = is.opened
end_opened o heard line after c r (end_told says opened is same' runs) same = opened

pub stranger_told : (o : ObjectForm) (heard : Heard) (line : List ℕ) (after : Heard) → IsStranger o heard line → Tells o heard line after → ⊥
stranger_told o heard line after s (object_told {name = m} q its) = let e = says_once line (an_end s.number s.reply) (an_object m) s.says q in cc
stranger_told o heard line after s (part_told {name = m} {hex = h} q its) = let e = says_once line (an_end s.number s.reply) (a_part m h) s.says q in cc
stranger_told o heard line after s (start_told {number = k} {session = z} {name = m} {arguments = xs} q its) = let e = says_once line (an_end s.number s.reply) (a_start k z m xs) s.says q in cc
stranger_told o heard line after s (end_told {number = k} {reply = r} {call = c} q opened its same runs) =
    let e = says_once line (an_end s.number s.reply) (an_end k r) s.says q in
    let one : s.number ≡ k = cc in s.none c (same ∙ sym one) runs

breach_told : (o : ObjectForm) (heard : Heard) (line : List ℕ) (number : ℕ) (next : Heard) → IsTrace (trace_of heard.past) → IsBreach o heard line number → Tells o heard line next → SatisfiesAll o.paths (trace_of next.past) → ⊥
breach_told o heard line number next trace b told sat =
    let after : Heard = record heard { past = began b.call ∷ heard.past } in
    let same : next ≡ after = tells_once o heard line next after trace told b.told in
    let here : SatisfiesAll o.paths (trace_of after.past) = subst (λ h. SatisfiesAll o.paths (trace_of h.past)) same sat in
    b.first.refuses (may_by_one b.first.path (record { number = b.call.number; operation = b.call.operation }) (trace_of heard.past) (path_at o.paths (trace_of after.past) b.place b.first.path here b.first.there))

wrong_told : (o : ObjectForm) (heard : Heard) (line : List ℕ) (next last : Heard) (later : List (List ℕ)) → IsTrace (trace_of heard.past) → IsWrong o heard line → Tells o heard line next → Tell o next later last → IsLegal (history_of o last.past) last.opening → ⊥
wrong_told o heard line next last later trace w told rest legal =
    let after : Heard = record heard { past = ended w.call w.reply ∷ heard.past } in
    let same : next ≡ after = tells_once o heard line next after trace told w.told in
    let opened = end_opened o heard line after w.call w.reply w.told refl in
    let behind = opened_step o heard line next opened told in
    let here : IsLegal (history_of o after.past) after.opening = subst (λ h. IsLegal (history_of o h.past) h.opening) same (tell_legal o next later last behind.0 rest legal) in
    w.wrong (legal_split (history_of o heard.past) (record { body = body_at o w.call.operation; arguments = w.call.arguments; reply = w.reply }) heard.opening here).1

pub fault_excluded : (o : ObjectForm) (heard : Heard) (line : List ℕ) (next last : Heard) (later : List (List ℕ)) (fault : AuditFault) → IsTrace (trace_of heard.past) → IsFault o heard line fault → Tells o heard line next → Tell o next later last → IsSound o last → ⊥
fault_excluded o heard line next last later faults.Bad trace f told rest sound = f.untold next told
fault_excluded o heard line next last later (faults.Breaks number) trace f told rest sound = breach_told o heard line number next trace f told (tell_satisfied o next later last rest sound.satisfied)
fault_excluded o heard line next last later faults.Wrong trace f told rest sound = wrong_told o heard line next last later trace f told rest sound.legal
fault_excluded o heard line next last later faults.Stranger trace f told rest sound = stranger_told o heard line next f told

pub legal_no_fault : (o : ObjectForm) (bytes : List ℕ) (entries number : ℕ) (fault : AuditFault) → IsLegalTrace o bytes entries → IsFirstFault o bytes number fault → ⊥
legal_no_fault o bytes entries number fault l f =
    let whole : Tell o nothing_heard (f.before ++ f.line ∷ f.after) l.heard = subst (λ ls. Tell o nothing_heard ls l.heard) f.cut l.told in
    let front = tell_front o nothing_heard f.before f.line f.after f.heard l.heard tt f.told whole in
    fault_excluded o f.heard f.line front.0 l.heard f.after fault (tell_trace o nothing_heard f.before f.heard tt f.told) f.faulty front.1 front.2 l.sound

-- A legal trace is answered so, unless memory is refused.
pub exactly : (o : ObjectForm) (bytes : List ℕ) (v : AuditVerdict) (entries : ℕ) → IsVerdict o bytes v → IsLegalTrace o bytes entries → (v ≡ verdicts.Legal entries) ⊎ (v ≡ verdicts.Memory)
exactly o bytes (verdicts.Legal n) entries is l =
    let same : l.heard ≡ is.heard = tell_once o nothing_heard (lines bytes) l.heard is.heard tt l.told is.told in
    inl (ap verdicts.Legal (is.counted ∙ ap (λ h. length (history_of o h.past)) (sym same) ∙ sym l.counted))
exactly o bytes (verdicts.BadLine n) entries (inl f) l = absurd (legal_no_fault o bytes entries n faults.Bad l f)
exactly o bytes (verdicts.BadLine n) entries (inr early) l =
    let same : l.heard ≡ early.heard = tell_once o nothing_heard (lines bytes) l.heard early.heard tt l.told early.told in absurd (early.unopened (subst (IsOpened o) same l.opened))
exactly o bytes (verdicts.BreaksPath n p) entries f l = absurd (legal_no_fault o bytes entries n (faults.Breaks p) l f)
exactly o bytes (verdicts.WrongReply n) entries f l = absurd (legal_no_fault o bytes entries n faults.Wrong l f)
exactly o bytes (verdicts.NotRunning n) entries f l = absurd (legal_no_fault o bytes entries n faults.Stranger l f)
exactly o bytes verdicts.Memory entries is l = inr refl
