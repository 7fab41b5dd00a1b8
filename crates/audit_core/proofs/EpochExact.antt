-- A faulty line tells one thing, and no line of what is sound is faulty.
use Rattle.std.proofs.Common.{◌≡◌, ℕ, zero, suc, List, [], ◌∷◌, ◌++◌, take, sym, ap, ◌∙◌, subst}
use Rattle.std.specs.Prelude.{Option, Some, None, slice_get}
use Rattle.std.specs.Str.{str_to_ascii_lowercase}
use Rattle.path_tree.specs.Path.{Path}
use Rattle.path_tree.specs.Known.{place_of}
use Rattle.path_tree.specs.Trace.{Event, Start}
use Rattle.path_tree.specs.Satisfies.{Satisfies, SatisfiesAll}
use Rattle.decl_core.specs.ObjectForm.{ObjectForm}
use Rattle.apply_core.proofs.Histories.{legal_by_one}
use Rattle.word_core.specs.Events.{Called, call_of, end_of, history_of}
use Rattle.audit_core.specs.Operations.{operation_names}
use Rattle.audit_core.specs.declared.verdict.AuditFault.{AuditFault}
use Rattle.audit_core.specs.declared.verdict.AuditFault.TheVariants as faults
use Rattle.audit_core.proofs.Renumbering.{may_by_one}
use Rattle.audit_core.specs.EpochSaid.{Asked, a_start, an_end, a_cancel, a_name}
use Rattle.audit_core.specs.Steps.{Begun, Heard, nothing_heard, ran, cancelled, named, happened_of, trace_by}
use Rattle.audit_core.specs.EpochTells.{Tells, Tell, IsCall, start_told, end_told, cancel_told, name_told}
use Rattle.audit_core.specs.Sound.{IsSound, IsFault, IsFirstFault, IsStranger, IsBreach, IsWrong}
use Rattle.audit_core.proofs.EpochSaying.{says_once}
use Rattle.audit_core.proofs.Cutting.{all_back, cut}

some_same : {X : Type 0} {x y : X} → ◌≡◌ {A = Option X} (Some x) (Some y) → x ≡ y
some_same is = cc

-- a line tells of one call
call_once : (o : ObjectForm) (e : Begun) (heard : Heard) (a b : Asked) (c d : Called) → a ≡ b → IsCall o e heard a c → IsCall o e heard b d → c ≡ d
call_once o e heard a b c d same p q =
    let number : c.number ≡ d.number = p.number ∙ ap (λ (x : Asked). x.number) same ∙ sym q.number in
    let session : c.session ≡ d.session = p.session ∙ ap (λ (x : Asked). x.session) same ∙ sym q.session in
    let arguments : c.arguments ≡ d.arguments = p.arguments ∙ ap (λ (x : Asked). x.arguments) same ∙ sym q.arguments in
    let operation : c.operation ≡ d.operation =
    some_same (sym p.known ∙ ap (λ (x : Asked). place_of (operation_names o.operations) (str_to_ascii_lowercase x.name)) same ∙ q.known) in
    λ i. record { number = number i; session = session i; operation = operation i; arguments = arguments i }

-- a line tells one thing
pub tells_once : (o : ObjectForm) (e : Begun) (heard : Heard) (line : List ℕ) (a b : Heard) → Tells o e heard line a → Tells o e heard line b → a ≡ b
tells_once o e heard line a b (start_told {asked = x} {call = c} p is few) (start_told {asked = y} {call = d} q its less) =
    let s = says_once line (a_start x) (a_start y) p q in
    let one : x ≡ y = cc in ap (λ (z : Called). record heard { running = Some z }) (call_once o e heard x y c d one is its)
tells_once o e heard line a b (start_told {asked = x} p is few) (end_told {number = n} {reply = r} q runs same) = let s = says_once line (a_start x) (an_end n r) p q in cc
tells_once o e heard line a b (start_told {asked = x} p is few) (cancel_told {asked = y} q its) = let s = says_once line (a_start x) (a_cancel y) p q in cc
tells_once o e heard line a b (start_told {asked = x} p is few) (name_told {session = n} {client = m} q rests its other) = let s = says_once line (a_start x) (a_name n m) p q in cc
tells_once o e heard line a b (end_told {number = n} {reply = r} p runs same) (start_told {asked = y} q its less) = let s = says_once line (an_end n r) (a_start y) p q in cc
tells_once o e heard line a b (end_told {number = n} {reply = r} {call = c} p runs same) (end_told {number = m} {reply = t} {call = d} q runs' same') =
    let s = says_once line (an_end n r) (an_end m t) p q in
    let reply : r ≡ t = cc in
    let call : c ≡ d = some_same (sym runs ∙ runs') in
    λ i. record { steps = ran (call i) (reply i) ∷ heard.steps; running = None }
tells_once o e heard line a b (end_told {number = n} {reply = r} p runs same) (cancel_told {asked = y} q its) = let s = says_once line (an_end n r) (a_cancel y) p q in cc
tells_once o e heard line a b (end_told {number = n} {reply = r} p runs same) (name_told {session = k} {client = m} q rests its other) = let s = says_once line (an_end n r) (a_name k m) p q in cc
tells_once o e heard line a b (cancel_told {asked = x} p is) (start_told {asked = y} q its less) = let s = says_once line (a_cancel x) (a_start y) p q in cc
tells_once o e heard line a b (cancel_told {asked = x} p is) (end_told {number = n} {reply = r} q runs same) = let s = says_once line (a_cancel x) (an_end n r) p q in cc
tells_once o e heard line a b (cancel_told {asked = x} {call = c} p is) (cancel_told {asked = y} {call = d} q its) =
    let s = says_once line (a_cancel x) (a_cancel y) p q in
    let one : x ≡ y = cc in ap (λ (z : Called). record heard { steps = cancelled z ∷ heard.steps }) (call_once o e heard x y c d one is its)
tells_once o e heard line a b (cancel_told {asked = x} p is) (name_told {session = k} {client = m} q rests its other) = let s = says_once line (a_cancel x) (a_name k m) p q in cc
tells_once o e heard line a b (name_told {session = k} {client = m} p rests is spelled) (start_told {asked = y} q its less) = let s = says_once line (a_name k m) (a_start y) p q in cc
tells_once o e heard line a b (name_told {session = k} {client = m} p rests is spelled) (end_told {number = n} {reply = r} q runs same) = let s = says_once line (a_name k m) (an_end n r) p q in cc
tells_once o e heard line a b (name_told {session = k} {client = m} p rests is spelled) (cancel_told {asked = y} q its) = let s = says_once line (a_name k m) (a_cancel y) p q in cc
tells_once o e heard line a b (name_told {session = k} {client = m} p rests is spelled) (name_told {session = j} {client = l} q rests' its other) =
    let s = says_once line (a_name k m) (a_name j l) p q in
    let one : k ≡ j = cc in let two : m ≡ l = cc in
    λ i. record heard { steps = named (one i) (str_to_ascii_lowercase (two i)) ∷ heard.steps }

-- the first lines tell the same, however it goes on
tell_front : (o : ObjectForm) (e : Begun) (heard : Heard) (before : List (List ℕ)) (line : List ℕ) (after : List (List ℕ)) (mid last : Heard) → Tell o e heard before mid → Tell o e heard (before ++ line ∷ after) last
    → (next : Heard) × Tells o e mid line next × Tell o e next after last
tell_front o e heard [] line after mid last told whole = (whole.0, subst (λ h. Tells o e h line whole.0) (sym told) whole.1, whole.2)
tell_front o e heard (l ∷ before) line after mid last told whole =
    let same : told.0 ≡ whole.0 = tells_once o e heard l told.0 whole.0 told.1 whole.1 in
    tell_front o e told.0 before line after mid last told.2 (subst (λ h. Tell o e h (before ++ line ∷ after) last) (sym same) whole.2)

path_at : (paths : List Path) (t : List Event) (k : ℕ) (p : Path) → SatisfiesAll paths t → slice_get paths k ≡ Some p → Satisfies p t
path_at [] t k p h at = cc
path_at (q ∷ paths) t zero p h at = let same : q ≡ p = cc in subst (λ x. Satisfies x t) same h.0
path_at (q ∷ paths) t (suc k) p h at = path_at paths t k p h.1 at

stranger_told : (o : ObjectForm) (e : Begun) (heard : Heard) (line : List ℕ) (after : Heard) → IsStranger o e heard line → Tells o e heard line after → ⊥
stranger_told o e heard line after s (start_told {asked = x} p is few) = let t = says_once line (an_end s.number s.reply) (a_start x) s.says p in cc
stranger_told o e heard line after s (end_told {number = n} {reply = r} {call = c} p runs same) =
    let t = says_once line (an_end s.number s.reply) (an_end n r) s.says p in
    let one : s.number ≡ n = cc in s.none c (same ∙ sym one) runs
stranger_told o e heard line after s (cancel_told {asked = x} p is) = let t = says_once line (an_end s.number s.reply) (a_cancel x) s.says p in cc
stranger_told o e heard line after s (name_told {session = k} {client = m} p rests is spelled) = let t = says_once line (an_end s.number s.reply) (a_name k m) s.says p in cc

breach_told : (o : ObjectForm) (e : Begun) (heard : Heard) (line : List ℕ) (number : ℕ) (next : Heard) → IsBreach o e heard line number → Tells o e heard line next → IsSound o e next → ⊥
breach_told o e heard line number next b told sound =
    let after : Heard = record heard { running = Some b.call } in
    let same : next ≡ after = tells_once o e heard line next after told b.told in
    let here : IsSound o e after = subst (IsSound o e) same sound in
    b.first.refuses (may_by_one b.first.path (call_of b.call) (trace_by e heard.steps) (path_at o.paths (Start (call_of b.call) ∷ trace_by e heard.steps) b.place b.first.path here.satisfied b.first.there))

wrong_told : (o : ObjectForm) (e : Begun) (heard : Heard) (line : List ℕ) (next : Heard) → IsWrong o e heard line → Tells o e heard line next → IsSound o e next → ⊥
wrong_told o e heard line next w told sound =
    let after : Heard = record { steps = ran w.call w.reply ∷ heard.steps; running = None } in
    let same : next ≡ after = tells_once o e heard line next after told w.told in
    let here : IsSound o e after = subst (IsSound o e) same sound in
    w.wrong ((legal_by_one (history_of o (happened_of heard.steps)) (end_of o w.call w.reply) e.opening).0 here.legal).1

fault_excluded : (o : ObjectForm) (e : Begun) (heard : Heard) (line : List ℕ) (next : Heard) (fault : AuditFault) → IsFault o e heard line fault → Tells o e heard line next → IsSound o e next → ⊥
fault_excluded o e heard line next faults.Bad f told sound = f.untold next told
fault_excluded o e heard line next (faults.Breaks number) f told sound = breach_told o e heard line number next f told sound
fault_excluded o e heard line next faults.Wrong f told sound = wrong_told o e heard line next f told sound
fault_excluded o e heard line next faults.Stranger f told sound = stranger_told o e heard line next f told

no_fault : (o : ObjectForm) (e : Begun) (all : List (List ℕ)) (heard : Heard) (number : ℕ) (fault : AuditFault) → Tell o e nothing_heard all heard → IsSound o e heard → IsFirstFault o e all number fault → ⊥
no_fault o e all heard number fault told sound f =
    let whole : Tell o e nothing_heard (f.before ++ f.line ∷ f.after) heard = subst (λ ls. Tell o e nothing_heard ls heard) f.cut told in
    let front = tell_front o e nothing_heard f.before f.line f.after f.heard heard f.told whole in
    fault_excluded o e f.heard f.line front.0 fault f.faulty front.1 (all_back o e front.0 f.after heard front.2 sound)

pub sound_no_fault : (o : ObjectForm) (e : Begun) (all : List (List ℕ)) (heard : Heard) (k number : ℕ) (fault : AuditFault) → Tell o e nothing_heard all heard → IsSound o e heard → IsFirstFault o e (take k all) number fault → ⊥
sound_no_fault o e all heard k number fault told sound f =
    let one = cut o e nothing_heard heard all k told sound in
    no_fault o e (take k all) one.0 number fault one.1 one.2 f
