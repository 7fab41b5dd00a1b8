-- The front of what is sound, and an end more.
use Rattle.std.proofs.Common.{◌≡◌, ℕ, ◌≤◌, true, false, List, [], ◌∷◌, ◌++◌, length, take, drop, refl, sym, ap, ◌∙◌, subst, arith, zero, suc, append_assoc, length-append}
use Rattle.std.specs.Str.Lines.{lines}
use Rattle.std.proofs.lemmas.Option.{slice_get_within}
use Rattle.keep_loop.specs.Journal.{AreLines, Begins, IsBetween}
use Rattle.history_law.specs.CrashLaws.{TellsParts, IsLeft}
use Rattle.history_law.proofs.Texts.{lines_cut}
use Rattle.path_tree.specs.Path.{Path}
use Rattle.path_tree.specs.Trace.{Call, Event, End as Finish}
use Rattle.path_tree.specs.Satisfies.{Satisfies, SatisfiesAll}
use Rattle.path_tree.specs.Laws.{FinishKeepsSatisfaction}
use Rattle.value_core.specs.Contents.{Contents}
use Rattle.decl_core.specs.ObjectForm.{ObjectForm}
use Rattle.apply_core.specs.declared.reply.Reply.{Reply}
use Rattle.apply_core.specs.History.{End, IsReplyOn, left_by, leads_to, IsLegal}
use Rattle.word_core.specs.Events.{Called, ended, trace_of, history_of, body_at, call_of}
use Rattle.audit_core.specs.Tells.{Heard, nothing_heard, IsOpened, Tells, Tell, object_told, part_told, start_told, end_told}
use Rattle.audit_core.specs.Verdicts.{IsSound, IsLegalTrace, contents_of}

front_satisfied : (paths : List Path) (e : Event) (t : List Event) → SatisfiesAll paths (e ∷ t) → SatisfiesAll paths t
front_satisfied [] e t h = tt
front_satisfied (p ∷ paths) e t h = (h.0.1, front_satisfied paths e t h.1)

front_legal : (history : List End) (e : End) (parts : List Contents) → IsLegal (history ++ e ∷ []) parts → IsLegal history parts
front_legal [] e parts h = tt
front_legal (x ∷ history) e parts h = (h.0, front_legal history e (left_by x.reply x.body x.arguments parts) h.1)

-- one line back
step_back : (o : ObjectForm) (heard : Heard) (line : List ℕ) (after : Heard) → IsOpened o heard → Tells o heard line after → IsOpened o after × (IsSound o after → IsSound o heard)
step_back o heard line after opened (object_told says is) = absurd (let e : true ≡ false = sym opened.named ∙ is.first in cc)
step_back o heard line after opened (part_told {name = n} says is) = absurd (omega (arith, opened.whole, slice_get_within o.parts (length heard.opening) (n, is.kind) is.next))
step_back o heard line after opened (start_told says is) = (
  record { named = opened.named; whole = opened.whole },
  λ s. record { satisfied = front_satisfied o.paths _ (trace_of heard.past) s.satisfied; legal = s.legal },
)
step_back o heard line after opened (end_told {reply = r} {call = c} says opened' is same runs) = (
  record { named = opened.named; whole = opened.whole },
  λ s. record {
    satisfied = front_satisfied o.paths _ (trace_of heard.past) s.satisfied;
    legal = front_legal (history_of o heard.past) (record { body = body_at o c.operation; arguments = c.arguments; reply = r }) heard.opening s.legal;
  },
)

all_back : (o : ObjectForm) (heard : Heard) (lines : List (List ℕ)) (after : Heard) → IsOpened o heard → Tell o heard lines after → IsSound o after → IsSound o heard
all_back o heard [] after opened told s = subst (IsSound o) told s
all_back o heard (line ∷ lines) after opened told s =
    let one = step_back o heard line told.0 opened told.1 in one.1 (all_back o told.0 lines after one.0 told.2 s)

pub cut : (o : ObjectForm) (opened heard : Heard) (more : List (List ℕ)) (k : ℕ) → IsOpened o opened → Tell o opened more heard → IsSound o heard →
    (mid : Heard) × Tell o opened (take k more) mid × Tell o mid (drop k more) heard × IsOpened o mid × IsSound o mid
cut o opened heard more zero is told s = (opened, refl, told, is, all_back o opened more heard is told s)
cut o opened heard [] (suc k) is told s = (opened, refl, told, is, subst (IsSound o) told s)
cut o opened heard (line ∷ more) (suc k) is told s =
    let one = step_back o opened line told.0 is told.1 in
    let later = cut o told.0 heard more k one.0 told.2 s in
    (later.0, (told.0, told.1, later.1), later.2, later.3, later.4)

-- an end more

finished : (law : FinishKeepsSatisfaction) (paths : List Path) (t : List Event) (call : Call) → SatisfiesAll paths t → SatisfiesAll paths (Finish call ∷ t)
finished law [] t call h = tt
finished law (p ∷ paths) t call h = (law p t call h.0, finished law paths t call h.1)

joined : (history : List End) (e : End) (parts : List Contents) → IsLegal history parts → IsReplyOn e.reply e.body e.arguments (leads_to history parts) → IsLegal (history ++ e ∷ []) parts
joined [] e parts h is = (is, tt)
joined (x ∷ history) e parts h is = (h.0, joined history e (left_by x.reply x.body x.arguments parts) h.1 is)

pub completed : FinishKeepsSatisfaction → (o : ObjectForm) (heard : Heard) (call : Called) (reply : Reply) → IsSound o heard →
    IsReplyOn reply (body_at o call.operation) call.arguments (contents_of o heard)
    → IsSound o (record heard { past = ended call reply ∷ heard.past })
completed law o heard call reply s is = record {
  satisfied = finished law o.paths (trace_of heard.past) (call_of call) s.satisfied;
  legal = joined (history_of o heard.past) (record { body = body_at o call.operation; arguments = call.arguments; reply = reply }) heard.opening s.legal is;
}

-- from bytes

tell_split : (o : ObjectForm) (heard : Heard) (before after : List (List ℕ)) (last : Heard) → Tell o heard (before ++ after) last → (mid : Heard) × Tell o heard before mid × Tell o mid after last
tell_split o heard [] after last told = (heard, refl, told)
tell_split o heard (line ∷ before) after last told =
    let later = tell_split o told.0 before after last told.2 in (later.0, (told.0, told.1, later.1), later.2)

tell_join : (o : ObjectForm) (heard : Heard) (before after : List (List ℕ)) (mid last : Heard) → Tell o heard before mid → Tell o mid after last → Tell o heard (before ++ after) last
tell_join o heard [] after mid last one two = subst (λ h. Tell o h after last) one two
tell_join o heard (line ∷ before) after mid last one two = (one.0, one.1, tell_join o one.0 before after mid last one.2 two)

-- a history only grows
step_grows : (o : ObjectForm) (heard : Heard) (line : List ℕ) (after : Heard) → Tells o heard line after → length (history_of o heard.past) ≤ length (history_of o after.past)
step_grows o heard line after (object_told says is) = omega arith
step_grows o heard line after (part_told says is) = omega arith
step_grows o heard line after (start_told says is) = omega arith
step_grows o heard line after (end_told {reply = r} {call = c} says opened is same runs) =
    omega (arith, length-append (history_of o heard.past) ((record { body = body_at o c.operation; arguments = c.arguments; reply = r }) ∷ []))

tell_grows : (o : ObjectForm) (heard : Heard) (lines : List (List ℕ)) (after : Heard) → Tell o heard lines after → length (history_of o heard.past) ≤ length (history_of o after.past)
tell_grows o heard [] after told = omega (arith, ap (λ (h : Heard). length (history_of o h.past)) told)
tell_grows o heard (line ∷ lines) after told = omega (arith, step_grows o heard line told.0 told.1, tell_grows o told.0 lines after told.2)

opened_on : (o : ObjectForm) (heard : Heard) (lines : List (List ℕ)) (after : Heard) → IsOpened o heard → Tell o heard lines after → IsOpened o after
opened_on o heard [] after opened told = subst (IsOpened o) (sym told) opened
opened_on o heard (line ∷ lines) after opened told = opened_on o told.0 lines after (step_back o heard line told.0 opened told.1).0 told.2

-- the front of a legal trace that has all parts
pub legal_front : (o : ObjectForm) (front text found more : List ℕ) (ends : ℕ) → TellsParts o front → AreLines front → Begins front found → AreLines found → text ≡ found ++ more → IsLegalTrace o text ends →
    (left : ℕ) × IsLegalTrace o found left × (left ≤ ends)
legal_front o front text found more ends parts front_are begins found_are is legal =
    let all : lines text ≡ lines found ++ lines more = ap lines is ∙ lines_cut found more found_are.ended in
    let told = subst (λ l. Tell o nothing_heard l legal.heard) all legal.told in
    let split = tell_split o nothing_heard (lines found) (lines more) legal.heard told in
    let mid = split.0 in
    let some : lines found ≡ lines front ++ lines begins.0 = ap lines begins.1 ∙ lines_cut front begins.0 front_are.ended in
    let first = tell_split o nothing_heard (lines front) (lines begins.0) mid (subst (λ l. Tell o nothing_heard l mid) some split.1) in
    let opened = opened_on o first.0 (lines begins.0) mid (parts first.0 first.1) first.2 in (
      length (history_of o mid.past),
      record { heard = mid; told = split.1; opened = opened; sound = all_back o mid (lines more) legal.heard opened split.2 legal.sound; counted = refl },
      omega (arith, tell_grows o mid (lines more) legal.heard split.2, legal.counted),
    )

pub crashed : (o : ObjectForm) (front stored text found : List ℕ) (ends : ℕ) → TellsParts o front → AreLines front → Begins front stored → AreLines stored →
    IsLegalTrace o text ends → AreLines found → IsBetween stored text found → IsLeft o stored text ends found
crashed o front stored text found ends parts front_are begins stored_are legal are between =
    let rest = between.all_stored in
    let on : Begins front found = (begins.0 ++ rest.0, rest.1 ∙ ap (λ (l : List ℕ). l ++ rest.0) begins.1 ∙ append_assoc front begins.0 rest.0) in
    let whole = legal_front o front text found between.nothing_else.0 ends parts front_are on are between.nothing_else.1 legal in
    let kept = legal_front o front found stored rest.0 whole.0 parts front_are begins stored_are rest.1 whole.1 in
    record { between = between; left = whole.0; legal = whole.1; most = whole.2; kept = kept.0; was_legal = kept.1; least = kept.2 }
