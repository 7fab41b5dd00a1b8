-- What turns tell, one after the other.
use Rattle.std.proofs.Common.{◌≡◌, ◌⊎◌, inl, inr, ◌∙◌, ap, sym, subst, refl, ℕ, List, [], ◌∷◌, ◌++◌, append_assoc}
use Rattle.std.specs.Prelude.{true, false, Some, None, Result, Ok, Err, IfOk, slice_get}
use Rattle.std.proofs.lemmas.List.{append-nil}
use Rattle.session_text.specs.Lines.{accepted_text, ended_text}
use Rattle.live_core.specs.Hall.{Every}
use Rattle.live_core.specs.Scene.{Scene}
use Rattle.client_core.specs.declared.client.OpenObject.{OpenObject}
use Rattle.keep_loop.specs.Turns.{Asked, Turn, Runs}
use Rattle.keep_loop.specs.Turns.Asked.{Heard, Noted, Changes}
use Rattle.client_core.specs.Deeds.{Texts}
use Rattle.client_core.specs.Given as told
use Rattle.client_core.specs.State.{State}
use Rattle.history_law.specs.Said.{Account, IsTrue, SaysIn, Says, SaysNoReply}
use Rattle.history_law.proofs.Going.{no_account}
use Rattle.table_core.specs.Moves.{Gives}
use Rattle.table_core.specs.Seen.{IsQuiet, seen}
use Rattle.table_core.specs.declared.table.Table.{Table}
use Rattle.history_law.specs.Kept.{LeavesAnswered}
use Rattle.history_law.specs.Replied.{AreTold, HaveOneHistory, IsRepeated}
use Rattle.history_law.proofs.KeptGoing.{crash_leaves_answered}
use Rattle.history_law.proofs.TurnLiving.{lives_on}
use Rattle.history_law.proofs.TurnReplying.{stands_in}
use Rattle.history_law.specs.Answers.{AllAlong, IsTold}
use Rattle.history_law.specs.Asker.{AreAskedFrom, AreCut, CrashLeavesAsked, CrashLeavesAskedFrom, HasSaid, IsAnsweredBetween, RepliesAreAsked, WaitsAreAsked, said_by}
use Rattle.history_law.specs.Awaits.{AllHeld, AreHeard, Awaits, IsElementOf, Lines, SaidBy}
use Rattle.history_law.specs.Awaits.AreHeard.{none}
use Rattle.history_law.proofs.TurnBeginning.{begins_awaits}
use Rattle.history_law.proofs.Deeds.{Did, same_awaits}
use Rattle.history_law.proofs.Heard.{awaits_lines, is_here_at, said_more}
use Rattle.history_law.proofs.Lists.{has_peer}
use Rattle.history_law.proofs.Places.{awaits_past}
use Rattle.history_law.proofs.AskerTurning.{did_heard, did_noted}

-- what is told along
abbrev pub ToldAlong : Lines → List Scene → Account → Texts → Texts → Type 0
ToldAlong heard objects account past said = AllAlong (λ (p : Texts) (who : ℕ) (text : List ℕ). IsTold heard p objects account who text) past said

-- is true of what happened
told_true : (heard : Lines) (objects : List Scene) (account : Account) (past : Texts) (who : ℕ) (text : List ℕ) → IsTold heard past objects account who text → IsTrue objects account text
told_true heard objects account past who text (inl (n, reply, is, a)) = inl (n, reply, inl (is, a.run))
told_true heard objects account past who text (inr (inl (n, reply, is, kept))) = inl (n, reply, inr (is, kept))
told_true heard objects account past who text (inr (inr plain)) = inr plain

along_true : (heard : Lines) (objects : List Scene) (account : Account) (past said : Texts) → ToldAlong heard objects account past said → Every (λ (s : ℕ × List ℕ). IsTrue objects account s.1) said
along_true heard objects account past [] all = tt
along_true heard objects account past (s ∷ said) (one, all) = (told_true heard objects account past s.0 s.1 one, along_true heard objects account (past ++ s ∷ []) said all)

-- one of them, and what was told before it
along_at : (T : Texts → ℕ → List ℕ → Type 0) (past front behind : Texts) (who : ℕ) (text : List ℕ) → AllAlong T past (front ++ (who, text) ∷ behind) → T (past ++ front) who text
along_at T past [] behind who text (one, all) = subst (λ (p : Texts). T p who text) (sym (append-nil past)) one
along_at T past (s ∷ front) behind who text (one, all) =
    subst (λ (p : Texts). T p who text) (append_assoc past (s ∷ []) front) (along_at T (past ++ s ∷ []) front behind who text all)

-- what a turn tells, and who waits behind it
pub record Turned (heard : Lines) (past : Texts) (old : State) (asked : Asked) (said added : Texts) (new : State) : Type 0 where
  pub account : Account
  pub says : SaysIn old asked said added account new
  pub along : ToldAlong heard old.objects account past said
  pub awaits : Awaits heard (past ++ said) new.objects new.peers

pub did_says : (heard : Lines) (past : Texts) (old new : State) (said added : Texts) (d : Did heard past old said added new) → Says old said added d.account new
did_says heard past old new said added d = record { went = d.went; true_all = along_true heard old.objects d.account past said d.told }

pub turned : (before after : List Turn) (t : Turn) (past : Texts) (old new : State) (asked : Asked) (said added : Texts) → t.asked ≡ asked → AreCut (before ++ t ∷ after) → Awaits (HasSaid before) past old.objects old.peers →
    told.Gives old asked said added new → Turned (HasSaid (before ++ t ∷ [])) past old asked said added new
turned before after t past old new asked said added is cut a gives = by asked is gives
  where
    heard : Lines
    heard = HasSaid (before ++ t ∷ [])

    now : Awaits (HasSaid (before ++ t ∷ [])) past old.objects old.peers
    now = awaits_lines (HasSaid before) (HasSaid (before ++ t ∷ [])) (said_more before (t ∷ [])) past old.objects old.peers a

    by : (asked : Asked) → t.asked ≡ asked → told.Gives old asked said added new → Turned (HasSaid (before ++ t ∷ [])) past old asked said added new
    by (Heard who line end) is gives =
        let d = did_heard (HasSaid (before ++ t ∷ [])) who line end past old new said added now (λ here. is_here_at before after t who line end past old _ is cut a here) gives in
        record { account = d.account; says = did_says (HasSaid (before ++ t ∷ [])) past old new said added d; along = d.told; awaits = d.awaits }
    by (Noted note) is gives =
        let d = did_noted (HasSaid (before ++ t ∷ [])) note past old new said added now gives in
        record { account = d.account; says = did_says (HasSaid (before ++ t ∷ [])) past old new said added d; along = d.told; awaits = d.awaits }
    by (Changes journal text true) is gives = record {
      account = no_account;
      says = (gives.0, λ j. refl);
      along = subst (λ (s : Texts). ToldAlong (HasSaid (before ++ t ∷ [])) old.objects no_account past s) (sym gives.0) tt;
      awaits = awaits_past (HasSaid (before ++ t ∷ [])) past said new.objects new.peers (begins_awaits (HasSaid (before ++ t ∷ [])) past old new journal text now gives.2);
    }
    by (Changes journal text false) is gives = record {
      account = no_account;
      says = (gives.told, λ j. refl);
      along = subst (λ (s : Texts). ToldAlong (HasSaid (before ++ t ∷ [])) old.objects no_account past s) (sym gives.told) tt;
      awaits = awaits_past (HasSaid (before ++ t ∷ [])) past said new.objects new.peers
          (same_awaits (HasSaid (before ++ t ∷ [])) past old new (ap (λ (s : State). s.objects) gives.left) (ap (λ (s : State). s.peers) gives.left) now);
    }

-- these turns lead from old to new behind those before, and what each of them tells was asked for
abbrev AreAsked : List Turn → Table → List Turn → List Account → Table → Type 0
AreAsked before old [] [] new = new ≡ old
AreAsked before old [] (a ∷ accounts) new = ⊥
AreAsked before old (t ∷ turns) [] new = ⊥
AreAsked before old (t ∷ turns) (a ∷ accounts) new =
    (mid : Table) × Gives old t.asked t.said t.added mid × SaysIn (seen old) t.asked t.said t.added a (seen mid)
    × ToldAlong (HasSaid (before ++ t ∷ [])) old.objects.items a (said_by before) t.said × AreAsked (before ++ t ∷ []) mid turns accounts new

asked_told : (before : List Turn) (old new : Table) (turns : List Turn) (accounts : List Account) → AreAsked before old turns accounts new → AreTold old turns accounts new
asked_told before old new [] [] all = all
asked_told before old new [] (a ∷ accounts) all = all
asked_told before old new (t ∷ turns) [] all = all
asked_told before old new (t ∷ turns) (a ∷ accounts) (mid, gives, says, along, all) = (mid, gives, says, asked_told (before ++ t ∷ []) mid new turns accounts all)

pub said_next : (before : List Turn) (t : Turn) → said_by (before ++ t ∷ []) ≡ said_by before ++ t.said
said_next [] t = append-nil t.said
said_next (b ∷ before) t = ap (λ (l : Texts). b.said ++ l) (said_next before t) ∙ sym (append_assoc b.said (said_by before) t.said)

pub turns_nil : (xs : List Turn) → xs ++ [] ≡ xs
turns_nil [] = refl
turns_nil (x ∷ xs) = ap (λ (l : List Turn). x ∷ l) (turns_nil xs)

pub turns_on : (before : List Turn) (t : Turn) (turns : List Turn) → (before ++ t ∷ []) ++ turns ≡ before ++ t ∷ turns
turns_on before t turns = append_assoc before (t ∷ []) turns

all_asked : (before turns : List Turn) (first last : Table) → AreCut (before ++ turns) → Awaits (HasSaid before) (said_by before) first.objects.items (seen first).peers → Runs Gives first turns last →
    (accounts : List Account) × AreAsked before first turns accounts last
all_asked before [] first last cut a runs = ([], runs)
all_asked before (t ∷ turns) first last cut a (mid, gives, runs) =
    let one = turned before turns t (said_by before) (seen first) (seen mid) t.asked t.said t.added refl cut a gives in
    let more = all_asked (before ++ t ∷ []) turns mid last (subst AreCut (sym (turns_on before t turns)) cut)
    (subst (λ (p : Texts). Awaits (HasSaid (before ++ t ∷ [])) p mid.objects.items (seen mid).peers) (sym (said_next before t)) one.awaits) runs in
    (one.account ∷ more.0, (mid, gives, one.says, one.along, more.1))

-- one turn, with those before it
record At (earlier : List Turn) (first : Table) (before : List Turn) (t : Turn) (accounts : List Account) : Type 0 where
  sooner : List Account
  account : Account
  later : List Account
  cut : accounts ≡ sooner ++ account ∷ later
  mid : Table
  led : AreTold first before sooner mid
  along : ToldAlong (HasSaid ((earlier ++ before) ++ t ∷ [])) mid.objects.items account (said_by (earlier ++ before)) t.said

turn_at : (earlier : List Turn) (first last : Table) (before after : List Turn) (t : Turn) (accounts : List Account) → AreAsked earlier first (before ++ t ∷ after) accounts last → At earlier first before t accounts
turn_at earlier first last [] after t [] all = absurd all
turn_at earlier first last [] after t (a ∷ accounts) (next, gives, says, along, all) = record {
  sooner = [];
  account = a;
  later = accounts;
  cut = refl;
  mid = first;
  led = refl;
  along = subst (λ (b : List Turn). ToldAlong (HasSaid (b ++ t ∷ [])) first.objects.items a (said_by b) t.said) (sym (turns_nil earlier)) along;
}
turn_at earlier first last (b ∷ before) after t [] all = absurd all
turn_at earlier first last (b ∷ before) after t (a ∷ accounts) (mid, gives, says, along, all) =
    let on = turn_at (earlier ++ b ∷ []) mid last before after t accounts all in
    record {
      sooner = a ∷ on.sooner;
      account = on.account;
      later = on.later;
      cut = ap (λ (l : List Account). a ∷ l) on.cut;
      mid = on.mid;
      led = (mid, gives, says, on.led);
      along = subst (λ (e : List Turn). ToldAlong (HasSaid (e ++ t ∷ [])) on.mid.objects.items on.account (said_by e) t.said) (turns_on earlier b before) on.along;
    }

-- where nobody has opened an object nobody waits
pub quiet_awaits : (s : State) → AllHeld s.objects → IsQuiet s → Awaits (HasSaid []) [] s.objects s.peers
quiet_awaits s held quiet = record {
  held = held;
  alone = λ place other o u by also waits waits_too object session.
      absurd (let peer = has_peer (slice_get s.peers place) o by in none_some o (sym (quiet place peer.0 peer.1).0 ∙ peer.2));
  seated = λ place p there. record {
    held = subst (λ (l : List ℕ). AreHeard (SaidBy (HasSaid []) p.who) p.is_cut l) (sym (quiet place p there).1) none;
    opened = λ o by. absurd (none_some o (sym (quiet place p there).0 ∙ by));
    waits = λ o by waits. absurd (none_some o (sym (quiet place p there).0 ∙ by));
  };
}
  where
    none_some : (o : OpenObject) → None ≡ Some o → ⊥
    none_some o is = cc

pub replies_are_asked : RepliesAreAsked
replies_are_asked first last turns runs cut held quiet = record {
  history = h;
  each = λ before after t who text front behind is said. at_turn before after t who text front behind is said;
}
  where
    all : (accounts : List Account) × AreAsked [] first turns accounts last
    all = all_asked [] turns first last cut (quiet_awaits (seen first) held quiet) runs

    h : HaveOneHistory first last turns
    h = record {
      accounts = all.0;
      told = asked_told [] first last turns all.0 all.1;
      lives = λ j o begun earlier l. lives_on first last turns all.0 j o begun earlier (asked_told [] first last turns all.0 all.1) l;
    }

    at_turn : (before after : List Turn) (t : Turn) (who : ℕ) (text : List ℕ) (front behind : Texts) → turns ≡ before ++ t ∷ after → t.said ≡ front ++ (who, text) ∷ behind →
        IsAnsweredBetween first last turns before t h who text front ⊎ (IsRepeated first last turns before h text ⊎ SaysNoReply text)
    at_turn before after t who text front behind is said =
        let at = turn_at [] first last before after t all.0 (subst (λ (ts : List Turn). AreAsked [] first ts all.0 last) is all.1) in
        by at (along_at (λ (p : Texts) (w : ℕ) (x : List ℕ). IsTold (HasSaid (before ++ t ∷ [])) p at.mid.objects.items at.account w x) (said_by before) front behind who text
        (subst (λ (s : Texts). ToldAlong (HasSaid (before ++ t ∷ [])) at.mid.objects.items at.account (said_by before) s) said at.along))
      where
        by : (at : At [] first before t all.0) → IsTold (HasSaid (before ++ t ∷ [])) (said_by before ++ front) at.mid.objects.items at.account who text →
            IsAnsweredBetween first last turns before t h who text front ⊎ (IsRepeated first last turns before h text ⊎ SaysNoReply text)
        by at (inr (inr plain)) = inr (inr plain)
        by at (inr (inl (n, reply, text_is, kept))) = inr (inl (record {
          earlier = at.sooner;
          account = at.account;
          later = at.later;
          cut = at.cut;
          mid = at.mid;
          led = at.led;
          number = n;
          reply = reply;
          text_is = text_is;
          remembered = kept;
        }))
        by at (inl (n, reply, text_is, a)) =
            let run = a.run in
            inl (record {
              replied = record {
                earlier = at.sooner;
                mid = at.mid;
                led = at.led;
                object = run.object;
                scene = run.scene;
                there = run.there;
                call = run.call;
                reply = reply;
                text_is = text_is ∙ ap (λ m. ended_text m reply) run.told_is;
                stands = λ o begun earlier l. stands_in first last turns h run.object at.sooner at.account at.later at.cut run.later run.before run.call reply run.ran_so o begun earlier l;
              };
              asked = a.asked;
              accepted = subst (λ m. IsElementOf (who, accepted_text m) (said_by before ++ front)) run.told_is a.accepted;
            })

-- who waits behind turns
all_await : (before turns : List Turn) (first last : Table) → AreCut (before ++ turns) → Awaits (HasSaid before) (said_by before) first.objects.items (seen first).peers → Runs Gives first turns last →
    Awaits (HasSaid (before ++ turns)) (said_by (before ++ turns)) last.objects.items (seen last).peers
all_await before [] first last cut a runs =
    subst (λ (ts : List Turn). Awaits (HasSaid ts) (said_by ts) last.objects.items (seen last).peers) (sym (turns_nil before))
    (subst (λ (t : Table). Awaits (HasSaid before) (said_by before) t.objects.items (seen t).peers) (sym runs) a)
all_await before (t ∷ turns) first last cut a (mid, gives, runs) =
    let one = turned before turns t (said_by before) (seen first) (seen mid) t.asked t.said t.added refl cut a gives in
    subst (λ (ts : List Turn). Awaits (HasSaid ts) (said_by ts) last.objects.items (seen last).peers) (turns_on before t turns)
    (all_await (before ++ t ∷ []) turns mid last (subst AreCut (sym (turns_on before t turns)) cut)
    (subst (λ (p : Texts). Awaits (HasSaid (before ++ t ∷ [])) p mid.objects.items (seen mid).peers) (sym (said_next before t)) one.awaits) runs)

pub waits_are_asked : WaitsAreAsked
waits_are_asked first last turns runs cut held quiet = all_await [] turns first last cut (quiet_awaits (seen first) held quiet) runs

pub crash_leaves_asked : CrashLeavesAsked
crash_leaves_asked first limits seen_so found waits honest between held quiet =
    let left : LeavesAnswered first limits seen_so found = crash_leaves_answered first limits seen_so found waits honest between in
    let s = left.left.survives in
    record { answered = left; askers = replies_are_asked first s.last (s.answered ++ s.later) s.runs (λ who. (_, _, s.heard who)) held quiet }

-- of a table that is quiet all this is so
quiet_asked : (t : Table) → IsQuiet (seen t) → AreAskedFrom t
quiet_asked t quiet last turns runs cut held = (replies_are_asked t last turns runs cut held quiet, waits_are_asked t last turns runs cut held quiet)

quiet_leaves : (t : Table) → IsQuiet (seen t) → CrashLeavesAskedFrom t
quiet_leaves t quiet limits seen_so found waits honest between held = crash_leaves_asked t limits seen_so found waits honest between held quiet

-- so of one that is made
pub made_asked : {E : Type 0} (made : Result Table E) → IfOk made (λ t. IsQuiet (seen t)) → IfOk made AreAskedFrom
made_asked (Ok t) quiet = quiet_asked t quiet
made_asked (Err e) quiet = tt

pub made_leaves : {E : Type 0} (made : Result Table E) → IfOk made (λ t. IsQuiet (seen t)) → IfOk made CrashLeavesAskedFrom
made_leaves (Ok t) quiet = quiet_leaves t quiet
made_leaves (Err e) quiet = tt
