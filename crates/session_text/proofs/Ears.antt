-- What is heard.
use Rattle.std.proofs.Common.{◌≡◌, ◌∙◌, refl, sym, ap, subst, inr, Bool, true, false, Option, Some, None, Result, Ok, Err, String, Global}
use Rattle.std.specs.Prelude.{IsTrue, IfOk, IfErr, ◌↔◌, List, [], ℕ, string_bytes}
use Rattle.std.specs.declared.alloc.AllocError.{AllocError}
use Rattle.session_text.specs.Table.{Takes, TakesLast}
use Rattle.session_text.specs.declared.session.Action.{Action}
use Rattle.session_text.specs.declared.fault.HearFault.{HearFault}
use Rattle.session_text.specs.declared.reader.NextLine.{NextLine}
use Rattle.session_text.specs.declared.ear.Heard.{Heard}
use Rattle.session_text.specs.declared.fault.HearFault.TheVariants as faults
use Rattle.session_text.specs.declared.reader.NextLine.TheVariants as nexts
use Rattle.session_text.specs.declared.ear.Heard.TheVariants as heards
use Rattle.session_text.specs.HearLines.{Unread, Tells, Brings}
use Rattle.session_text.specs.Ears.{IsHeardOf, IsQuit, end_by, Hears, ReadsOnce, end_met, let_go}

-- what came next is heard
pub heard_next : (lines now : Unread) (is_open : Bool) (opened : Option (ℕ × ℕ)) (quits went : Bool) (end left : Option (Option HearFault)) (next : Option NextLine) (heard : Heard)
    → end ≡ None → quits ≡ false → Tells lines next now → IsHeardOf is_open next heard → (IsTrue went ↔ IsQuit heard) → left ≡ end_by heard
    → Hears (record { lines = lines; is_open = is_open; opened = opened; quits = quits; end = end }) heard (record { lines = now; is_open = is_open; opened = opened; quits = went; end = left })
heard_next lines now is_open opened quits went end left next heard going on tells of quit is =
    inr (inr (going, on, (next, tells, of), ap (λ (l : Option (Option HearFault)). record { lines = now; is_open = is_open; opened = opened; quits = went; end = l }) is, quit))

-- a read, behind `quit` and before
pub read_quiet : (lines now quiet : Unread) (is_open : Bool) (opened : Option (ℕ × ℕ)) (quits : Bool) (end left : Option (Option HearFault)) (found : Option HearFault)
    → quits ≡ true → quiet ≡ record now { bytes = [] } → Brings lines found now → left ≡ end_met end found
    → ReadsOnce (record { lines = lines; is_open = is_open; opened = opened; quits = quits; end = end }) (record { lines = quiet; is_open = is_open; opened = opened; quits = quits; end = left })
read_quiet lines now quiet is_open opened quits end left found behind gone brings is =
    (found, now, brings, λ k. record { lines = (gone ∙ ap (λ b. let_go b now) (sym behind)) k; is_open = is_open; opened = opened; quits = quits; end = is k })

pub read_on : (lines now : Unread) (is_open : Bool) (opened : Option (ℕ × ℕ)) (quits : Bool) (end left : Option (Option HearFault)) (found : Option HearFault)
    → quits ≡ false → Brings lines found now → left ≡ end_met end found
    → ReadsOnce (record { lines = lines; is_open = is_open; opened = opened; quits = quits; end = end }) (record { lines = now; is_open = is_open; opened = opened; quits = quits; end = left })
read_on lines now is_open opened quits end left found before brings is =
    (found, now, brings, λ k. record { lines = ap (λ b. let_go b now) (sym before) k; is_open = is_open; opened = opened; quits = quits; end = is k })

-- what was fed is done, or memory was refused
pub heard_line : (is_open : Bool) (text : String Global) (bytes : List ℕ) (next : Option NextLine) (fed : Result Action AllocError) (heard : Heard)
    → next ≡ Some (nexts.Line text) → bytes ≡ string_bytes text → IfOk fed (Takes is_open bytes) → IfOk fed (λ a. heard ≡ heards.Action a) → IfErr fed (λ e. heard ≡ heards.End (Some faults.Memory))
    → IsHeardOf is_open next heard
heard_line is_open text bytes next (Ok a) heard at same takes done none =
    subst (λ (n : Option NextLine). IsHeardOf is_open n heard) (sym at) (subst (IsHeardOf is_open (Some (nexts.Line text))) (sym done) (subst (λ (b : List ℕ). Takes is_open b a) same takes))
heard_line is_open text bytes next (Err e) heard at same takes done none =
    subst (λ (n : Option NextLine). IsHeardOf is_open n heard) (sym at) (subst (IsHeardOf is_open (Some (nexts.Line text))) (sym none) refl)

pub heard_rest : (is_open : Bool) (text : String Global) (bytes : List ℕ) (next : Option NextLine) (fed : Result Action AllocError) (heard : Heard)
    → next ≡ Some (nexts.Rest text) → bytes ≡ string_bytes text → IfOk fed (TakesLast is_open bytes) → IfOk fed (λ a. heard ≡ heards.Action a) → IfErr fed (λ e. heard ≡ heards.End (Some faults.Memory))
    → IsHeardOf is_open next heard
heard_rest is_open text bytes next (Ok a) heard at same takes done none =
    subst (λ (n : Option NextLine). IsHeardOf is_open n heard) (sym at) (subst (IsHeardOf is_open (Some (nexts.Rest text))) (sym done) (subst (λ (b : List ℕ). TakesLast is_open b a) same takes))
heard_rest is_open text bytes next (Err e) heard at same takes done none =
    subst (λ (n : Option NextLine). IsHeardOf is_open n heard) (sym at) (subst (IsHeardOf is_open (Some (nexts.Rest text))) (sym none) refl)
