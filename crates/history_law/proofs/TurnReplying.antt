-- Replies, and the one history in which their calls stand.
use Rattle.std.proofs.Common.{◌≡◌, ◌⊎◌, inl, inr, ◌∙◌, ap, sym, subst, refl, ℕ, List, [], ◌∷◌, ◌++◌, append_assoc}
use Rattle.value_core.specs.Contents.{Contents}
use Rattle.decl_core.specs.ObjectForm.{ObjectForm}
use Rattle.apply_core.specs.declared.reply.Reply.{Reply}
use Rattle.apply_core.specs.History.{End, IsReplyOn, IsLegal, leads_to, left_by}
use Rattle.word_core.specs.Events.{Called, end_of, history_of}
use Rattle.live_core.specs.Hall.{Every}
use Rattle.session_text.specs.Lines.{ended_text}
use Rattle.audit_core.specs.Steps.{Step, Begun, ran, happened_of}
use Rattle.history_law.specs.Year.{Epoch, all_ends, first_opening}
use Rattle.keep_loop.specs.Turns.{Asked, Turn}
use Rattle.keep_loop.specs.Turns.Asked.{Heard, Noted, Changes}
use Rattle.client_core.specs.Deeds.{Texts}
use Rattle.client_core.specs.State.{State}
use Rattle.history_law.specs.Said.{Account, SaysIn, IsTrue, SaysNoReply}
use Rattle.table_core.specs.Seen.{seen}
use Rattle.table_core.specs.declared.table.Table.{Table}
use Rattle.history_law.specs.Kept.{LeavesAnswered}
use Rattle.history_law.specs.Lived.{HasLived, epoch_in}
use Rattle.history_law.specs.Replied.{AreTold, ends_in, HaveOneHistory, StandsIn, IsReplied, IsRepeated, RepliesStand, CrashLeavesReplied}
use Rattle.history_law.proofs.KeptGoing.{crash_leaves_answered}
use Rattle.history_law.proofs.Grown.{ends_more}
use Rattle.history_law.proofs.TurnLiving.{turns_have_one_history}

-- one of a list
every_at : {X : Type 0} (P : X → Type 0) (front : List X) (x : X) (behind : List X) → Every P (front ++ x ∷ behind) → P x
every_at P [] x behind all = all.0
every_at P (y ∷ front) x behind all = every_at P front x behind all.1

-- at its place a reply is that of the sequential object
legal_at : (front : List End) (e : End) (behind : List End) (opening : List Contents) → IsLegal (front ++ e ∷ behind) opening → IsReplyOn e.reply e.body e.arguments (leads_to front opening)
legal_at [] e behind opening legal = legal.0
legal_at (d ∷ front) e behind opening legal = legal_at front e behind (left_by d.reply d.body d.arguments opening) legal.1

-- a call stands among the ends of what happened
ran_stands : (o : ObjectForm) (later before : List Step) (c : Called) (reply : Reply) →
    history_of o (happened_of (later ++ ran c reply ∷ before)) ≡ history_of o (happened_of before) ++ end_of o c reply ∷ history_of o (happened_of later)
ran_stands o later before c reply =
    ends_more o later (ran c reply ∷ before) ∙ append_assoc (history_of o (happened_of before)) (end_of o c reply ∷ []) (history_of o (happened_of later))

ends_both : (o : ObjectForm) (j : ℕ) (xs ys : List Account) → ends_in o j (xs ++ ys) ≡ ends_in o j xs ++ ends_in o j ys
ends_both o j [] ys = refl
ends_both o j (a ∷ xs) ys =
    ap (λ (l : List End). history_of o (happened_of (a j)) ++ l) (ends_both o j xs ys)
    ∙ sym (append_assoc (history_of o (happened_of (a j))) (ends_in o j xs) (ends_in o j ys))

-- one turn, with those before it
record At (first : Table) (before : List Turn) (t : Turn) (accounts : List Account) : Type 0 where
  earlier : List Account
  account : Account
  later : List Account
  cut : accounts ≡ earlier ++ account ∷ later
  mid : Table
  led : AreTold first before earlier mid
  next : Table
  says : SaysIn (seen mid) t.asked t.said t.added account (seen next)

turn_at : (first last : Table) (before after : List Turn) (t : Turn) (accounts : List Account) → AreTold first (before ++ t ∷ after) accounts last → At first before t accounts
turn_at first last [] after t [] told = absurd told
turn_at first last [] after t (a ∷ accounts) (next, gives, says, told) = record {
  earlier = [];
  account = a;
  later = accounts;
  cut = refl;
  mid = first;
  led = refl;
  next = next;
  says = says;
}
turn_at first last (b ∷ before) after t [] told = absurd told
turn_at first last (b ∷ before) after t (a ∷ accounts) (mid, gives, says, told) =
    let on = turn_at mid last before after t accounts told in
    record {
      earlier = a ∷ on.earlier;
      account = on.account;
      later = on.later;
      cut = ap (λ (l : List Account). a ∷ l) on.cut;
      mid = on.mid;
      led = (mid, gives, says, on.led);
      next = on.next;
      says = on.says;
    }

none_said : (front behind : Texts) (s : ℕ × List ℕ) → [] ≡ front ++ s ∷ behind → ⊥
none_said [] behind s is = cc
none_said (x ∷ front) behind s is = cc

-- what is told in a turn is true
text_true : (old new : State) (asked : Asked) (said added : Texts) (account : Account) (front behind : Texts) (s : ℕ × List ℕ) → SaysIn old asked said added account new → said ≡ front ++ s ∷ behind →
    IsTrue old.objects account s.1
text_true old new (Heard who line end) said added account front behind s says cut =
    every_at (λ (x : ℕ × List ℕ). IsTrue old.objects account x.1) front s behind (subst (λ (l : Texts). Every (λ (x : ℕ × List ℕ). IsTrue old.objects account x.1) l) cut says.true_all)
text_true old new (Noted note) said added account front behind s says cut =
    every_at (λ (x : ℕ × List ℕ). IsTrue old.objects account x.1) front s behind (subst (λ (l : Texts). Every (λ (x : ℕ × List ℕ). IsTrue old.objects account x.1) l) cut says.true_all)
text_true old new (Changes journal front' went) said added account front behind s says cut = absurd (none_said front behind s (sym says.0 ∙ cut))

-- a call that ran in one of the turns stands in the history of its object
pub stands_in : (first last : Table) (turns : List Turn) (h : HaveOneHistory first last turns) (j : ℕ) (before_all : List Account) (account : Account) (after_all : List Account) →
    h.accounts ≡ before_all ++ account ∷ after_all → (later before : List Step) (call : Called) (reply : Reply) → account j ≡ later ++ ran call reply ∷ before →
    (o : ObjectForm) (begun : Begun) (earlier : List Epoch) (l : HasLived first j o begun earlier) →
    StandsIn o (all_ends o (epoch_in (h.lives j o begun earlier l).0.lived) (h.lives j o begun earlier l).0.earlier) (first_opening (epoch_in l) earlier) call reply
stands_in first last turns h j before_all account after_all cut later before call reply ran_so o begun earlier l =
    let lives = h.lives j o begun earlier l in
    let on = lives.0 in
    let e : End = end_of o call reply in
    let was = history_of o (happened_of before) in
    let then = history_of o (happened_of later) in
    let here : history_of o (happened_of (account j)) ≡ was ++ e ∷ then =
    ap (λ (x : List Step). history_of o (happened_of x)) ran_so ∙ ran_stands o later before call reply in
    let ends = all_ends o (epoch_in l) earlier in
    let done : on.done ≡ (ends_in o j before_all ++ was) ++ e ∷ (then ++ ends_in o j after_all) =
    lives.1 ∙ ap (ends_in o j) cut ∙ ends_both o j before_all (account ∷ after_all)
    ∙ ap (λ (x : List End). ends_in o j before_all ++ (x ++ ends_in o j after_all)) here
    ∙ ap (λ (x : List End). ends_in o j before_all ++ x) (append_assoc was (e ∷ then) (ends_in o j after_all))
    ∙ sym (append_assoc (ends_in o j before_all) was (e ∷ (then ++ ends_in o j after_all))) in
    let before_it = ends ++ (ends_in o j before_all ++ was) in
    let behind_it = then ++ ends_in o j after_all in
    let all : all_ends o (epoch_in on.lived) on.earlier ≡ before_it ++ e ∷ behind_it =
    on.ends_are ∙ ap (λ (x : List End). ends ++ x) done ∙ sym (append_assoc ends (ends_in o j before_all ++ was) (e ∷ behind_it)) in
    let legal : IsLegal (before_it ++ e ∷ behind_it) (first_opening (epoch_in l) earlier) =
    subst (λ (p : List Contents). IsLegal (before_it ++ e ∷ behind_it) p) on.opening_is
    (subst (λ (x : List End). IsLegal x (first_opening (epoch_in on.lived) on.earlier)) all on.sound.legal) in
    record {
      before = before_it;
      after = behind_it;
      stands = all;
      given = legal_at before_it e behind_it (first_opening (epoch_in l) earlier) legal;
    }

pub replies_stand : RepliesStand
replies_stand first last before after t h who text front behind is = by (text_true (seen at.mid) (seen at.next) t.asked t.said t.added at.account front behind (who, text) at.says is)
  where
    at : At first before t h.accounts
    at = turn_at first last before after t h.accounts h.told

    by : IsTrue at.mid.objects.items at.account text → IsReplied first last (before ++ t ∷ after) before h text ⊎ (IsRepeated first last (before ++ t ∷ after) before h text ⊎ SaysNoReply text)
    by (inr none) = inr (inr none)
    by (inl (n, reply, inr (text_is, remembered))) = inr (inl (record {
      earlier = at.earlier;
      account = at.account;
      later = at.later;
      cut = at.cut;
      mid = at.mid;
      led = at.led;
      number = n;
      reply = reply;
      text_is = text_is;
      remembered = remembered;
    }))
    by (inl (n, reply, inl (text_is, run))) = inl (record {
      earlier = at.earlier;
      mid = at.mid;
      led = at.led;
      object = run.object;
      scene = run.scene;
      there = run.there;
      call = run.call;
      reply = reply;
      text_is = text_is ∙ ap (λ m. ended_text m reply) run.told_is;
      stands = λ o begun earlier l. stands_in first last (before ++ t ∷ after) h run.object at.earlier at.account at.later at.cut run.later run.before run.call reply run.ran_so o begun earlier l;
    })

pub crash_leaves_replied : CrashLeavesReplied
crash_leaves_replied first limits seen found waits honest between =
    let left : LeavesAnswered first limits seen found = crash_leaves_answered first limits seen found waits honest between in
    let s = left.left.survives in
    record { answered = left; history = turns_have_one_history first s.last (s.answered ++ s.later) s.runs }
