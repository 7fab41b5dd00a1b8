-- What is done of lines that are held, in each talk.
use Rattle.std.proofs.Common.{◌≡◌, ◌⊎◌, inl, inr, ◌∙◌, ap, sym, subst, refl, ℕ, zero, suc, List, [], ◌∷◌, ◌++◌}
use Rattle.std.specs.Prelude.{Bool, false, Option, Some, None, Result, IfOk, slice_get}
use Rattle.std.specs.declared.alloc.AllocError.{AllocError}
use Rattle.std.proofs.lemmas.Option.{same_Some}
use Rattle.value_core.specs.Runs.{NoLineFeed}
use Rattle.live_core.specs.Scene.{Scene}
use Rattle.client_core.specs.declared.ask.Ask.{Ask}
use Rattle.client_core.specs.declared.client.OpenObject.{OpenObject}
use Rattle.client_core.specs.Asks.{Asks}
use Rattle.client_core.specs.Held.{is_some, is_whole_before, waits_of}
use Rattle.client_core.specs.Gone.{Settles}
use Rattle.client_core.specs.Gone.Settles.{rests as settled, goes_on as settles_on, calls as calls_one, seats as seats_two, frees as frees_one}
use Rattle.client_core.specs.State.{Peer, State, change, changed, cut_of, left_with, opened_in, waits_at, who_at, who_in}
use Rattle.client_core.specs.Turns.GoesOn.{rests, does as does_more}
use Rattle.client_core.specs.Turns.{TakesLine, GoesOn}
use Rattle.history_law.specs.Asker.{HasSaid}
use Rattle.history_law.specs.Awaits.{Lines, Pool, waits_in}
use Rattle.history_law.proofs.Deeds.{did_two}
use Rattle.history_law.proofs.Ends.{true_false}
use Rattle.history_law.proofs.Lines.{cut_same}
use Rattle.history_law.proofs.Lists.{change_at}
use Rattle.history_law.proofs.AskerTurning.{did_takes, takes_wish}
use Rattle.history_law.specs.TurnStands.{AreHeld, IsWaiting, SettlesInOrder, StandsIn, ends_by}
use Rattle.history_law.specs.Talk.{Line, Talk, Wanted}
use Rattle.history_law.specs.Talk.Talk.{Away, Here}
use Rattle.history_law.proofs.OrderDoing.{IsTurn, acted_heeds, spoke_frees, spoke_seats_one, voiced_from}
use Rattle.history_law.proofs.OrderLists.{is_who}
use Rattle.history_law.proofs.OrderMaking.{spoke_calls_for}
use Rattle.history_law.proofs.OrderStanding.{mine_is, stands_mine, stands_other}
use Rattle.history_law.proofs.Voicing.{Spoke, SpokeBy, deal_both, deal_of_both, nobody_deal, spoke_nothing, spoke_two, to_nobody, voice_voiced}

-- lines that are held

pub no_line : (line behind : List ℕ) → [] ≡ line ++ 10 ∷ behind → ⊥
no_line [] behind is = cc
no_line (b ∷ line) behind is = cc

pub cut_left : (is_cut : Bool) (bytes : List ℕ) (held : List Line) → AreHeld is_cut bytes held → AreHeld (cut_of bytes is_cut) bytes held
cut_left is_cut [] [] are = refl
cut_left is_cut [] (l ∷ held) (behind, feed, cut, whole, rest) = absurd (no_line l.text behind cut)
cut_left is_cut (b ∷ bytes) held are = are

-- the first is held no more
pub record IsFirst (is_cut : Bool) (line behind : List ℕ) (held : List Line) : Type 0 where
  pub rest : List Line
  pub held_is : held ≡ record { text = line; is_whole = is_whole_before is_cut behind } ∷ rest
  pub are : AreHeld (cut_of behind is_cut) behind rest

held_first : (is_cut : Bool) (bytes line behind : List ℕ) (held : List Line) → NoLineFeed line → bytes ≡ line ++ 10 ∷ behind → AreHeld is_cut bytes held → IsFirst is_cut line behind held
held_first is_cut bytes line behind [] feed is are = absurd (no_line line behind (sym are ∙ is))
held_first is_cut bytes line behind (l ∷ held) feed is (after, free, cut, whole, rest) =
    let same = cut_same l.text line after behind free feed (sym cut ∙ is) in
    record {
      rest = held;
      held_is = ap (λ (x : Line). x ∷ held) (line_same l line (is_whole_before is_cut behind) same.0 (whole ∙ ap (is_whole_before is_cut) same.1));
      are = cut_left is_cut behind held (subst (λ (r : List ℕ). AreHeld is_cut r held) same.1 rest);
    }
  where
    line_same : (l : Line) (text : List ℕ) (whole : Bool) → l.text ≡ text → l.is_whole ≡ whole → l ≡ record { text = text; is_whole = whole }
    line_same l text whole a b = ap (λ (x : List ℕ). record { text = x; is_whole = l.is_whole }) a ∙ ap (λ (x : Bool). record { text = text; is_whole = x }) b

-- what is known of one that is there

-- its talk
pub here_talk : (c n place : ℕ) (s : State) (t : Talk) → StandsIn c n s t → who_at s place ≡ Some c → (waits : Option Wanted) × (held : List Line) × (t ≡ Here waits held)
here_talk c n place s Away is here = let m = mine_is c n s.objects (waits_in s.objects) s.peers Away place is here in absurd (is.is_at (ap (λ k. who_in (slice_get s.peers k)) (sym m.3) ∙ here))
here_talk c n place s (Here waits held) is here = (waits, held, refl)

-- no call of it waits
pub idle_talk : (c n place : ℕ) (s : State) (waits : Option Wanted) (held : List Line) → StandsIn c n s (Here waits held) → who_at s place ≡ Some c → waits_at s place ≡ false → waits ≡ None
idle_talk c n place s None held is here idle = refl
idle_talk c n place s (Some w) held is here idle =
    let m = mine_is c n s.objects (waits_in s.objects) s.peers (Here (Some w) held) place is here in
    let at = is.is_at in
    let wait = at.4 in
    absurd (true_false wait.0.waits wait.2 (sym (ap waits_of (ap (λ k. opened_in (slice_get s.peers k)) m.3 ∙ ap opened_in at.1 ∙ wait.1)) ∙ idle))

pub waits_idle : (objects : List Scene) (pool : Pool) (opened : Option OpenObject) (waits : Option Wanted) → waits ≡ None → IsWaiting objects pool opened waits → waits_of opened ≡ false
waits_idle objects pool opened None is waiting = waiting
waits_idle objects pool opened (Some w) is waiting = absurd (some_none is)
  where
    some_none : Some w ≡ None → ⊥
    some_none e = cc

-- the place of one that is there
abbrev pub IsSeat : ℕ → State → ℕ → Option Wanted → List Line → Type 0
IsSeat c s place waits held = (p : Peer) × (slice_get s.peers place ≡ Some p) × (p.who ≡ Some c) × AreHeld p.is_cut p.held held × IsWaiting s.objects (waits_in s.objects) p.opened waits

pub seat_of : (c n place : ℕ) (s : State) (waits : Option Wanted) (held : List Line) → StandsIn c n s (Here waits held) → who_at s place ≡ Some c → IsSeat c s place waits held
seat_of c n place s waits held is here =
    let m = mine_is c n s.objects (waits_in s.objects) s.peers (Here waits held) place is here in
    let at = is.is_at in
    (at.0, ap (slice_get s.peers) m.3 ∙ at.1, at.2, at.3, at.4)

-- who is there is there still
left_who : (place : ℕ) (peers : List Peer) (behind : List ℕ) → who_in (slice_get (change peers place (left_with behind)) place) ≡ who_in (slice_get peers place)
left_who place [] behind = refl
left_who zero (p ∷ peers) behind = refl
left_who (suc place) (p ∷ peers) behind = left_who place peers behind

module _ (heard : Lines) where
  -- the first held line is taken, and it is its turn
  pub takes_turn : (c n place : ℕ) (asked : Result Ask AllocError) (old mid : State) (t : Talk) → waits_at old place ≡ false → TakesLine place asked old mid → StandsIn c n old t → IsTurn c n place mid asked t
  takes_turn c n place asked old mid t idle takes s = by (is_who (who_at old place) c)
    where
      left : mid ≡ changed old place (left_with takes.behind)
      left = takes.left

      by : (who_at old place ≡ Some c) ⊎ (who_at old place ≡ Some c → ⊥) → IsTurn c n place mid asked t
      by (inr other) =
          subst (λ (m : State). IsTurn c n place m asked t) (sym left)
          (inr (
            λ e. other (sym (who_left old.peers) ∙ e),
            stands_other c n old.objects (waits_in old.objects) old.peers t place (left_with takes.behind) other (λ p there who. other (ap who_in there ∙ who)) s,
          ))
        where
          who_left : (peers : List Peer) → who_in (slice_get (change peers place (left_with takes.behind)) place) ≡ who_in (slice_get peers place)
          who_left peers = left_who place peers takes.behind
      by (inl here) = subst (λ (m : State). IsTurn c n place m asked t) (sym left) (mine t s)
        where
          mine : (t : Talk) → StandsIn c n old t → IsTurn c n place (changed old place (left_with takes.behind)) asked t
          mine t s =
              let talk = here_talk c n place old t s here in
              own talk.0 talk.1 talk.2 (subst (λ (u : Talk). StandsIn c n old u) talk.2 s)
            where
              own : (waits : Option Wanted) (held : List Line) → t ≡ Here waits held → StandsIn c n old (Here waits held) → IsTurn c n place (changed old place (left_with takes.behind)) asked t
              own waits held is s =
                  let none_waits = idle_talk c n place old waits held s here idle in
                  let seat = seat_of c n place old waits held s here in
                  let p = seat.0 in
                  let same : p ≡ takes.peer = same_Some p takes.peer (sym seat.1 ∙ takes.there) in
                  let are : AreHeld takes.peer.is_cut takes.peer.held held = subst (λ (x : Peer). AreHeld x.is_cut x.held held) same seat.3 in
                  let first = held_first takes.peer.is_cut takes.peer.held takes.line takes.behind held takes.first.0 takes.first.1 are in
                  let now_there : slice_get (change old.peers place (left_with takes.behind)) place ≡ Some (left_with takes.behind takes.peer) = change_at old.peers place (left_with takes.behind) takes.peer takes.there in
                  inl (
                    record { text = takes.line; is_whole = is_whole_before takes.peer.is_cut takes.behind },
                    first.rest,
                    is ∙ ap (λ (w : Option Wanted). Here w held) none_waits ∙ ap (λ (l : List Line). Here None l) first.held_is,
                    ap who_in now_there ∙ ap (λ (x : Peer). x.who) (sym same) ∙ seat.2,
                    stands_mine c n old.objects (waits_in old.objects) old.peers (Here waits held) place (left_with takes.behind) takes.peer old.objects (waits_in old.objects) None first.rest takes.there
                        (ap (λ (x : Peer). x.who) (sym same) ∙ seat.2) (ap (λ (x : Peer). x.who) (sym same) ∙ seat.2) first.are
                        (ap (λ (x : Peer). waits_of x.opened) (sym same) ∙ waits_idle old.objects (waits_in old.objects) p.opened waits none_waits seat.4) s,
                    subst (λ (o : Option OpenObject). IfOk asked (Asks (is_some o) (is_whole_before takes.peer.is_cut takes.behind) takes.line)) (sym (ap opened_in now_there)) takes.asks,
                  )

  -- who is there is there still, and waits no more than it did
  pub takes_idle : (place : ℕ) (asked : Result Ask AllocError) (old mid : State) → waits_at old place ≡ false → TakesLine place asked old mid → waits_at mid place ≡ false
  takes_idle place asked old mid idle takes =
      ap (λ (s : State). waits_at s place) takes.left ∙ ap (λ (x : Option Peer). waits_of (opened_in x)) (change_at old.peers place (left_with takes.behind) takes.peer takes.there)
      ∙ sym (ap (λ (x : Option Peer). waits_of (opened_in x)) takes.there) ∙ idle

  -- held lines are done
  pub spoke_on : SpokeBy heard GoesOn
  spoke_on past old new said added a rests = spoke_nothing heard past old old [] [] a (record { told = refl; lines = refl; left = refl })
  spoke_on past old new said added a (does_more mid after one first two further place asked idle takes done later) =
      let taken = did_takes heard place asked past old mid a takes in
      let acted = acted_heeds heard place asked (past ++ []) mid after one first taken.awaits (takes_wish heard place asked past old mid a idle takes) done in
      let made : Spoke heard past old one first after = record {
        did = did_two heard past old mid after [] one [] first taken acted.did;
        deal = deal_both (to_nobody taken.account) acted.deal;
        dealt = deal_of_both taken.account acted.did.account (to_nobody taken.account) acted.deal (nobody_deal taken.account) acted.dealt;
        voice = λ c n t s. voiced_from heard false c n old mid after one [] taken.account acted.did.account acted.deal t [] taken.went (acted.voice c n t (takes_turn c n place asked old mid t idle takes s));
      } in
      spoke_two heard past old after new one two first further made (spoke_on (past ++ one) after new two further made.did.awaits later)

  pub spoke_settles : SpokeBy heard Settles
  spoke_settles past old new said added a settled = spoke_nothing heard past old old [] [] a (record { told = refl; lines = refl; left = refl })
  spoke_settles past old new said added a (settles_on mid one first two further is later) =
      let made = spoke_on past old mid one first a is in
      spoke_two heard past old mid new one two first further made (spoke_settles (past ++ one) mid new two further made.did.awaits later)
  spoke_settles past old new said added a (calls_one mid one first two further object session operation arguments is later) =
      let made = spoke_calls_for heard object session operation arguments past old mid one first a is in
      spoke_two heard past old mid new one two first further made (spoke_settles (past ++ one) mid new two further made.did.awaits later)
  spoke_settles past old new said added a (seats_two mid one first two further object session is later) =
      let made = spoke_seats_one heard object session past old mid one first a is in
      spoke_two heard past old mid new one two first further made (spoke_settles (past ++ one) mid new two further made.did.awaits later)
  spoke_settles past old new said added a (frees_one mid one first two further object session is later) =
      let made = spoke_frees heard object session past old mid one first a is in
      spoke_two heard past old mid new one two first further made (spoke_settles (past ++ one) mid new two further made.did.awaits later)

pub settles_in_order : SettlesInOrder
settles_in_order turns past old new said added a is =
    let made = spoke_settles (HasSaid turns) past old new said added a is in
    record {
      account = made.did.account;
      went = made.did.went;
      each = λ c n t s. voice_voiced (HasSaid turns) false c old.objects made.did.account made.deal (ends_by made.did.account) said (StandsIn c n new) t [] made.dealt (made.voice c n t s);
    }
