-- What is told of calls that were made before under keys.
use Rattle.std.proofs.Common.{◌≡◌, ◌⊎◌, inl, inr, ◌∙◌, ap, sym, subst, refl, ℕ, List, [], ◌∷◌, ◌++◌, append_assoc}
use Rattle.std.specs.Prelude.{Some, slice_get}
use Rattle.std.proofs.lemmas.Option.{same_Some}
use Rattle.apply_core.specs.declared.reply.Reply.{Reply}
use Rattle.session_text.specs.Lines.{ended_text}
use Rattle.live_core.specs.Hall.{Every}
use Rattle.live_core.specs.Front.{Opening}
use Rattle.live_core.specs.Scene.{Scene}
use Rattle.live_core.specs.HostedSteps.{rests}
use Rattle.history_law.specs.Happens.{all_happen}
use Rattle.history_law.specs.Keys.{KeyEvent, IsKeptLine}
use Rattle.history_law.specs.Keyed.{HaveKeys, with_steps}
use Rattle.history_law.proofs.Keeping.{steps_keep_keys}
use Rattle.keep_loop.specs.Turns.{Turn}
use Rattle.history_law.specs.Said.{Account, SaysNoReply}
use Rattle.table_core.specs.Seen.{seen}
use Rattle.table_core.specs.declared.table.Table.{Table}
use Rattle.history_law.specs.Replied.{HaveOneHistory, IsReplied}
use Rattle.history_law.proofs.TurnReplying.{stands_in}
use Rattle.history_law.specs.Asked.{Claims, no_claims}
use Rattle.history_law.specs.AskedKeys.{IsItsCall, under}
use Rattle.history_law.specs.Repeats.{IsAskedRepeat, RepeatsAreAsked}
use Rattle.history_law.specs.Tells.{WasTold}
use Rattle.history_law.specs.Turns.{AreOwn, AreTurns, HasRememberedOwn, HaveAsked, IsOwn}
use Rattle.history_law.proofs.AskedKeying.{HasEach, RanOrTold, ran_under, remembered_so, told_before, turns_each}
use Rattle.history_law.proofs.Tracing.{Each, steps_each, under_less}
use Rattle.history_law.proofs.AskedTurning.{turns_told}

own_at : (P : ℕ × List ℕ → Type 0) (front : List (ℕ × List ℕ)) (x : ℕ × List ℕ) (behind : List (ℕ × List ℕ)) → Every P (front ++ x ∷ behind) → P x
own_at P [] x behind each = each.0
own_at P (y ∷ front) x behind each = own_at P front x behind each.1

module _ (claims : Claims) where
  -- one turn, with those before it
  record At (first : Table) (before : List Turn) (t : Turn) (accounts : List Account) : Type 0 where
    sooner : List Account
    account : Account
    later : List Account
    cut : accounts ≡ sooner ++ account ∷ later
    mid : Table
    led : AreTurns claims first before sooner mid
    own : AreOwn claims (seen mid) account t.said

  turn_at : (first last : Table) (before after : List Turn) (t : Turn) (accounts : List Account) → AreTurns claims first (before ++ t ∷ after) accounts last → At first before t accounts
  turn_at first last [] after t [] none = absurd none
  turn_at first last [] after t (a ∷ accounts) (next, gives, says, went, own, more) = record {
    sooner = [];
    account = a;
    later = accounts;
    cut = refl;
    mid = first;
    led = refl;
    own = own;
  }
  turn_at first last (b ∷ before) after t [] none = absurd none
  turn_at first last (b ∷ before) after t (a ∷ accounts) (mid, gives, says, went, own, more) =
      let on = turn_at mid last before after t accounts more in
      record {
        sooner = a ∷ on.sooner;
        account = on.account;
        later = on.later;
        cut = ap (λ (l : List Account). a ∷ l) on.cut;
        mid = on.mid;
        led = (mid, gives, says, went, own, on.led);
        own = on.own;
      }

  -- the call of which a repeat tells
  repeat_ran : (first last : Table) (turns before : List Turn) (h : HaveOneHistory first last turns) (t : Turn) (at : At first before t h.accounts) (n : ℕ) (reply : Reply)
      (own : HasRememberedOwn claims at.mid.objects.items at.account n reply) (f : Opening) (old : Scene) (told : List KeyEvent) → slice_get first.objects.items own.is.object ≡ Some old → HaveKeys f told old.guests →
      IsItsCall claims first last turns h own.is.object (under own.is.repeats.guest own.is.key own.is.repeats.call) reply
      ⊎ (WasTold told (under own.is.repeats.guest own.is.key own.is.repeats.call)
      ⊎ IsKeptLine f.clients f.kept own.is.repeats.guest.name own.is.key own.is.repeats.call)
  repeat_ran first last turns before h t at n reply own f old told there keys =
      let m = own.is in
      let j = m.object in
      let all : HasEach (RanOrTold claims first last turns h j told) first at.mid j f before at.sooner told =
      turns_each claims (RanOrTold claims first last turns h j told) first at.mid before at.sooner j f old told at.led there keys
      (λ ts earlier a behind mid s led cut at_place.
      ran_under claims first last turns h j told ts earlier a (behind ++ at.account ∷ at.later) mid s led
      (at.cut ∙ ap (λ (l : List Account). l ++ at.account ∷ at.later) cut ∙ append_assoc earlier (a ∷ behind) (at.account ∷ at.later)) at_place) (told_before claims first last turns h j told) in
      let same : all.at.scene ≡ m.scene = same_Some all.at.scene m.scene (sym all.at.there ∙ m.there) in
      let here : HaveKeys f all.at.events m.scene.guests = subst (λ (s : Scene). HaveKeys f all.at.events s.guests) same all.at.keys in
      let now = steps_keep_keys f all.at.events m.scene m.now m.lines m.since here in
      let each : Each (RanOrTold claims first last turns h j told) (with_steps m.since all.at.events) =
      steps_each (claims.called j) (RanOrTold claims first last turns h j told) m.scene m.scene m.now [] m.lines rests m.since own.own all.at.events
      (under_less (claims.called j) (RanOrTold claims first last turns h j told) m.scene m.later (all_happen m.since []) (at.account j) m.moment
      (ran_under claims first last turns h j told before at.sooner at.account at.later at.mid m.scene (turns_told claims first at.mid before at.sooner at.led) at.cut m.there)) all.each in
      remembered_so claims first last turns h j told (with_steps m.since all.at.events) f m.repeats.guest m.key m.repeats.call reply each
      (now.kept m.repeats.row m.repeats.guest m.key m.repeats.place m.repeats.call m.repeats.by.there m.repeats.has) m.repeats.reply_is

pub repeats_asked : (claims : Claims) (first last : Table) (before after : List Turn) (t : Turn) (have : HaveAsked claims first last (before ++ t ∷ after)) (who : ℕ) (text : List ℕ) (front behind : List (ℕ × List ℕ)) →
    t.said ≡ front ++ (who, text) ∷ behind →
    IsReplied first last (before ++ t ∷ after) before have.history text ⊎ (IsAskedRepeat claims first last (before ++ t ∷ after) before have.history text ⊎ SaysNoReply text)
repeats_asked claims first last before after t have who text front behind said =
    by (own_at (λ (s : ℕ × List ℕ). IsOwn claims at.mid.objects.items at.account s.1) front (who, text) behind (subst (AreOwn claims (seen at.mid) at.account) said at.own))
  where
    turns : List Turn
    turns = before ++ t ∷ after

    h : HaveOneHistory first last turns
    h = have.history

    at : At claims first before t h.accounts
    at = turn_at claims first last before after t h.accounts have.turns_are

    by : IsOwn claims at.mid.objects.items at.account text → IsReplied first last turns before h text ⊎ (IsAskedRepeat claims first last turns before h text ⊎ SaysNoReply text)
    by (inr none) = inr (inr none)
    by (inl (n, reply, inl (is, run))) = inl (record {
      earlier = at.sooner;
      mid = at.mid;
      led = turns_told claims first at.mid before at.sooner at.led;
      object = run.object;
      scene = run.scene;
      there = run.there;
      call = run.call;
      reply = reply;
      text_is = is ∙ ap (λ m. ended_text m reply) run.told_is;
      stands = λ o begun earlier l. stands_in first last turns h run.object at.sooner at.account at.later at.cut run.later run.before run.call reply run.ran_so o begun earlier l;
    })
    by (inl (n, reply, inr (is, own))) = inr (inl (record {
      sooner = at.sooner;
      account = at.account;
      later = at.later;
      cut = at.cut;
      mid = at.mid;
      led = turns_told claims first at.mid before at.sooner at.led;
      number = n;
      reply = reply;
      text_is = is;
      own = own;
      place = own.is.repeats.row;
      guest = own.is.repeats.guest;
      by = own.is.repeats.by;
      call = own.is.repeats.call;
      asked = own.is.repeats.asked;
      told_is = own.is.repeats.told_is;
      reply_is = own.is.repeats.reply_is;
      ran = λ f old told there keys. repeat_ran claims first last turns before h t at n reply own f old told there keys;
    }))

pub repeats_are_asked : RepeatsAreAsked
repeats_are_asked = repeats_asked no_claims
