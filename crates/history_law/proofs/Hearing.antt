-- What is heard of a connection, in each talk.
use Rattle.std.proofs.Common.{◌≡◌, ◌≢◌, inl, inr, ◌∙◌, ap, sym, subst, refl, ℕ, List, [], ◌∷◌, ◌++◌, append_assoc}
use Rattle.std.specs.Prelude.{Bool, true, false, ◌==◌, Option, Some, None, slice_get}
use Rattle.std.specs.Str.Lines.{strip_carriage_return}
use Rattle.std.proofs.lemmas.List.{append-nil}
use Rattle.std.proofs.lemmas.List.Elements.{All-head, All-tail}
use Rattle.value_core.specs.Runs.{NoLineFeed}
use Rattle.word_core.specs.Reads.{Reads}
use Rattle.guest_core.specs.declared.answer.SubmitFault.TheVariants as faults
use Rattle.session_text.specs.declared.line.ReplyLine.TheVariants as lines
use Rattle.session_text.specs.declared.line.LineRefusal.TheVariants as refusals
use Rattle.session_text.specs.Lines.{line_text}
use Rattle.keep_loop.specs.declared.served.LineEnd.{LineEnd}
use Rattle.keep_loop.specs.declared.served.LineEnd.TheVariants as ends
use Rattle.client_core.specs.declared.ask.Sight.{Sight}
use Rattle.client_core.specs.Held.{is_not, is_whole_before, waits_of}
use Rattle.client_core.specs.Inside.{inside_in}
use Rattle.client_core.specs.Numbers.{cancel_in}
use Rattle.client_core.specs.Deeds.{Texts}
use Rattle.client_core.specs.State.{Peer, State, changed, held_in, holding, opened_in, told_to, who_at, who_in}
use Rattle.client_core.specs.Turns.HearsLine.{does, cancels, sees, puts_off, holds, refuses}
use Rattle.client_core.specs.Turns.{IsIdle as IsIdleAt}
use Rattle.client_core.specs.Turns.{HearsLine, HearsLast, HearsAt}
use Rattle.history_law.proofs.Plain.{refusal_plain}
use Rattle.history_law.specs.Awaits.{AreHeard, Awaits, Lines, waits_in}
use Rattle.history_law.specs.Awaits.AreHeard.{none, more}
use Rattle.history_law.proofs.Acting.{did_inside}
use Rattle.history_law.proofs.Deeds.{Did, did_nothing}
use Rattle.history_law.proofs.Lines.{cut_same}
use Rattle.history_law.proofs.Making.{did_cancel}
use Rattle.history_law.proofs.AskerTurning.{IsHere, IsHereAt, did_refusal, did_unsubmitted, holds_line, wish_of}
use Rattle.history_law.specs.Said.{Account}
use Rattle.history_law.specs.TurnStands.{AreHeld, StandsIn}
use Rattle.history_law.specs.Talk.{AnswersCancel, IsAtOnce, IsIdle, Line, Talk, Wanted, last_line, line_by, no_memory, texts_to}
use Rattle.history_law.specs.Talk.Part.{Hears}
use Rattle.history_law.specs.Talk.Talk.{Here}
use Rattle.history_law.proofs.OrderDoing.{Acted, acted_heeds, inside_voice}
use Rattle.history_law.proofs.OrderLists.{told_mine, told_other}
use Rattle.history_law.proofs.OrderMaking.{Lead, cancel_voice, lead_other, only_voice, plain_end}
use Rattle.history_law.proofs.Settling.{here_talk, idle_talk, no_line, seat_of, waits_idle}
use Rattle.history_law.proofs.OrderStanding.{stands_mine, stands_other}
use Rattle.history_law.proofs.AskedDoing.{cancel, done_nothing, done_only, inside}
use Rattle.history_law.proofs.AskedTurning.{holds_line as asked_holds}
use Rattle.history_law.proofs.OpenDoing.{cancel_quiet, heeds_speaks, inside_quiet, only_quiet}
use Rattle.history_law.proofs.OpenBack.{back_cancel, back_inside, back_kept, back_nothing, back_only}
use Rattle.history_law.proofs.OpenParts.{AreQuiet, HasNone, IsQuiet, Keeps, Speaks, busy_in, by_open, keeps_by, quiet_opens, quiet_refusal, texts_every}
use Rattle.history_law.proofs.Voicing.{Deal, IsDealOf, IsSo, Voice, ends_told, no_ends, nobody_deal, to_nobody, voiced_behind, voiced_between, voiced_none, voiced_quiet}

none_held : (is_cut : Bool) (held : List Line) → AreHeld is_cut [] held → held ≡ []
none_held is_cut [] are = refl
none_held is_cut (l ∷ held) (behind, feed, cut, whole, rest) = absurd (no_line l.text behind cut)

-- each had its LF
all_whole : (is_cut : Bool) (bytes : List ℕ) (held : List Line) → AreHeard (λ (line : List ℕ) (b : Bool). b ≡ true) is_cut bytes → AreHeld is_cut bytes held → AreHeld false bytes held
all_whole is_cut bytes [] are is = is
all_whole is_cut bytes (l ∷ held) none (behind, feed, cut, whole, rest) = absurd (no_line l.text behind cut)
all_whole is_cut bytes (l ∷ held) (more line after free was cut_at later) (behind, feed, cut, whole, rest) =
    let same = cut_same line l.text after behind free feed (sym cut_at ∙ cut) in (
      behind,
      feed,
      cut,
      whole ∙ subst (λ (r : List ℕ). is_whole_before is_cut r ≡ true) same.1 was,
      all_whole is_cut behind held (subst (λ (r : List ℕ). AreHeard (λ (x : List ℕ) (b : Bool). b ≡ true) is_cut r) same.1 later) rest,
    )

whole_before : (is_cut : Bool) (xs line : List ℕ) → is_whole_before is_cut (xs ++ (line ++ 10 ∷ [])) ≡ true
whole_before false xs line = refl
whole_before true [] [] = refl
whole_before true [] (b ∷ line) = refl
whole_before true (b ∷ xs) line = refl

last_before : (is_whole : Bool) → is_whole ≡ is_whole_before (is_not is_whole) []
last_before true = refl
last_before false = refl

-- one more is held
held_more : (bytes line : List ℕ) (is_whole : Bool) (held : List Line) → NoLineFeed line → AreHeld false bytes held →
    AreHeld (is_not is_whole) (bytes ++ (line ++ 10 ∷ [])) (held ++ record { text = line; is_whole = is_whole } ∷ [])
held_more bytes line is_whole [] feed is =
    subst (λ (b : List ℕ). AreHeld (is_not is_whole) (b ++ (line ++ 10 ∷ [])) (record { text = line; is_whole = is_whole } ∷ [])) (sym is) ([], feed, refl, last_before is_whole, refl)
held_more bytes line is_whole (l ∷ held) feed (behind, free, cut, whole, rest) = (
  behind ++ (line ++ 10 ∷ []),
  free,
  ap (λ (b : List ℕ). b ++ (line ++ 10 ∷ [])) cut ∙ append_assoc l.text (10 ∷ behind) (line ++ 10 ∷ []),
  whole ∙ sym (whole_before (is_not is_whole) behind line),
  held_more behind line is_whole held feed rest,
)

no_feed_in : (line behind : List ℕ) → NoLineFeed (line ++ 10 ∷ behind) → ⊥
no_feed_in [] behind is = wrong (All-head (λ (b : ℕ). (b == 10) ≡ false) 10 behind is)
  where
    wrong : true ≡ false → ⊥
    wrong e = cc
no_feed_in (b ∷ line) behind is = no_feed_in line behind (All-tail (λ (x : ℕ). (x == 10) ≡ false) b (line ++ 10 ∷ behind) is)

module _ (heard : Lines) where
  -- a line that is heard, and what of it is to be done
  record IsRaw (raw : List ℕ) (end : LineEnd) (line : List ℕ) (is_whole : Bool) : Type 0 where
    lines_are : line_by raw end ≡ record { text = line; is_whole = is_whole } ∷ []
    not_long : end ≡ ends.TooLong → ⊥
    cancels_so : is_whole ≡ true → (number : ℕ) → Reads cancel_in (λ k. k) line (Some number) → (text : List ℕ) → AnswersCancel number text → IsAtOnce raw end text
    sees_so : is_whole ≡ true → (sight : Sight) → Reads inside_in (λ i. i) line (Some sight) → (text : List ℕ) → IsAtOnce raw end text
    no_memory_so : IsAtOnce raw end no_memory
    idle_so : (waits : Option Wanted) (held : List Line) → IsIdle end waits held → (waits ≡ None) × (held ≡ [])

  -- what was heard, and what is done for it
  pub record HeardSo (past : Texts) (old : State) (who : ℕ) (raw : List ℕ) (end : LineEnd) (said added : Texts) (new : State) : Type 0 where
    pub did : Did heard past old said added new
    pub deal : Deal
    pub dealt : IsDealOf did.account deal
    pub mine : (n : ℕ) (t : Talk) → StandsIn who n old t → Speaks heard false who n old new did.account (ends_told who deal) said t ((raw, end) ∷ [])
    pub others : (c n : ℕ) (t : Talk) → c ≢ who → StandsIn c n old t → Speaks heard false c n old new did.account (ends_told c deal) said t []

  -- nobody comes
  never : (c n : ℕ) (s : State) (u : Talk) → StandsIn c n s u → false ≡ true → HasNone c s
  never c n s u stands e = absurd (wrong e)
    where
      wrong : false ≡ true → ⊥
      wrong same = cc

  -- nobody is told how a call ended, or that something is opened, and no call is repeated
  heard_quiet : (past : Texts) (old : State) (who : ℕ) (raw : List ℕ) (end : LineEnd) (said added : Texts) (new : State) (did : Did heard past old said added new) → AreQuiet said → Keeps old new →
      ((n : ℕ) (t : Talk) → StandsIn who n old t → Voice who (IsSo heard who false old.objects did.account) no_ends said (StandsIn who n new) t ((raw, end) ∷ [])) →
      ((c n : ℕ) (t : Talk) → c ≢ who → StandsIn c n old t → Voice c (IsSo heard c false old.objects did.account) no_ends said (StandsIn c n new) t []) → HeardSo past old who raw end said added new
  heard_quiet past old who raw end said added new did quiet keeps mine others = record {
    did = did;
    deal = to_nobody did.account;
    dealt = nobody_deal did.account;
    mine = λ n t s. record {
      voice = voiced_quiet who did.account (IsSo heard who false old.objects did.account) said (StandsIn who n new) t ((raw, end) ∷ []) (mine n t s);
      opens = quiet_opens heard false who n old new did.account no_ends said t ((raw, end) ∷ []) (mine n t s) (texts_every IsQuiet who said quiet) (λ names had k. keeps names who had k) (never who n new) (λ names had k. busy_in names who n had old t s k);
    };
    others = λ c n t other s. record {
      voice = voiced_quiet c did.account (IsSo heard c false old.objects did.account) said (StandsIn c n new) t [] (others c n t other s);
      opens = quiet_opens heard false c n old new did.account no_ends said t [] (others c n t other s) (texts_every IsQuiet c said quiet) (λ names had k. keeps names c had k) (never c n new) (λ names had k. busy_in names c n had old t s k);
    };
  }

  -- each line that is held had its LF
  abbrev pub AllWhole : State → ℕ → Type 0
  AllWhole s place = (p : Peer) → slice_get s.peers place ≡ Some p → AreHeard (λ (line : List ℕ) (b : Bool). b ≡ true) p.is_cut p.held

  not_other : (place who c : ℕ) (s : State) → who_at s place ≡ Some who → c ≢ who → who_at s place ≡ Some c → ⊥
  not_other place who c s here other is = other (some_same (sym is ∙ here))
    where
      some_same : Some c ≡ Some who → c ≡ who
      some_same e = cc

  -- it is told something at once, where a call waits or lines are held
  at_once : (P : Talk → Type 0) (place who : ℕ) (raw : List ℕ) (end : LineEnd) (line : List ℕ) (is_whole : Bool) (old : State) → IsRaw raw end line is_whole → who_at old place ≡ Some who → (IsIdleAt old place → ⊥) → (n : ℕ) (t : Talk) →
      StandsIn who n old t → (account : Account) → ((waits : Option Wanted) (held : List Line) → Lead who n place old (IsSo heard who false old.objects account) (Here waits held) ((raw, end) ∷ []) (IsAtOnce raw end) → P (Here waits held)) → P t
  at_once P place who raw end line is_whole old r here busy n t s account k =
      let talk = here_talk who n place old t s here in
      subst P (sym talk.2) (k talk.0 talk.1 (own talk.0 talk.1 (subst (λ (u : Talk). StandsIn who n old u) talk.2 s)))
    where
      own : (waits : Option Wanted) (held : List Line) → StandsIn who n old (Here waits held) → Lead who n place old (IsSo heard who false old.objects account) (Here waits held) ((raw, end) ∷ []) (IsAtOnce raw end)
      own waits held s text ok plain =
          voiced_between who (IsSo heard who false old.objects account) (told_to old.peers place text) (StandsIn who n old) waits held raw end text ok plain tt
          (λ i.
          let x = r.idle_so waits held i in
          let seat = seat_of who n place old waits held s here in
          busy (
            ap (λ (y : Option Peer). waits_of (opened_in y)) seat.1 ∙ waits_idle old.objects (waits_in old.objects) seat.0.opened waits x.0 seat.4,
            ap held_in seat.1 ∙ subst (λ (l : List Line). AreHeld seat.0.is_cut seat.0.held l) x.1 seat.3,
          ))
          (told_mine who old.peers place text here) s

  -- it is held
  held_line : (place who : ℕ) (raw : List ℕ) (end : LineEnd) (line : List ℕ) (is_whole : Bool) (past : Texts) (old : State) → IsRaw raw end line is_whole → Awaits heard past old.objects old.peers →
      IsHere heard place who line is_whole old → AllWhole old place → HeardSo past old who raw end [] [] (changed old place (holding line is_whole))
  held_line place who raw end line is_whole past old r a h whole =
      heard_quiet past old who raw end [] [] new d tt (keeps_by heard past old new [] [] d (back_kept old new place (holding line is_whole) refl (λ p. (refl, refl))) (λ names c had k. asked_holds (by_open names c had) place (holding line is_whole) old new (λ p. (refl, refl)) refl k))
      (λ n t s. let talk = here_talk who n place old t s h.here in own n t talk.0 talk.1 talk.2 (subst (λ (u : Talk). StandsIn who n old u) talk.2 s))
      (λ c n t other s. voiced_none c (IsSo heard c false old.objects d.account) [] (StandsIn c n new) t refl
      (stands_other c n old.objects (waits_in old.objects) old.peers t place (holding line is_whole) (not_other place who c old h.here other) (λ p there is. not_other place who c old h.here other (ap who_in there ∙ is)) s))
    where
      d : Did heard past old [] [] (changed old place (holding line is_whole))
      d = holds_line heard place who line is_whole past old a h

      new : State
      new = changed old place (holding line is_whole)

      own : (n : ℕ) (t : Talk) (waits : Option Wanted) (held : List Line) → t ≡ Here waits held → StandsIn who n old (Here waits held) →
          Voice who (IsSo heard who false old.objects d.account) no_ends [] (StandsIn who n new) t ((raw, end) ∷ [])
      own n t waits held is s =
          let first : Line = record { text = line; is_whole = is_whole } in
          let seat = seat_of who n place old waits held s h.here in
          let now = Here waits (held ++ first ∷ []) in
          subst (λ (u : Talk). Voice who (IsSo heard who false old.objects d.account) no_ends [] (StandsIn who n new) u ((raw, end) ∷ [])) (sym is) (record {
            parts = Hears raw end ∷ [];
            now = now;
            course = (now, (r.not_long, ap (λ (l : List Line). Here waits (held ++ l)) (sym r.lines_are)), refl);
            stands = stands_mine who n old.objects (waits_in old.objects) old.peers (Here waits held) place (holding line is_whole) seat.0 old.objects (waits_in old.objects) waits (held ++ first ∷ []) seat.1 seat.2 seat.2
                (held_more seat.0.held line is_whole held h.no_feed (all_whole seat.0.is_cut seat.0.held held (whole seat.0 seat.1) seat.3)) seat.4 s;
            heard = refl;
            texts = refl;
            all = (tt, tt);
            ends_are = λ o j. refl;
          })

  heard_line : (place who : ℕ) (raw : List ℕ) (end : LineEnd) (line : List ℕ) (is_whole : Bool) (past : Texts) (old new : State) (said added : Texts) → IsRaw raw end line is_whole → Awaits heard past old.objects old.peers →
      IsHere heard place who line is_whole old → AllWhole old place → HearsLine place line is_whole old said added new → HeardSo past old who raw end said added new
  heard_line place who raw end line is_whole past old new said added r a h whole (does idle asked asks_so is) =
      let acted = acted_heeds heard place asked past old new said added a (wish_of heard place who line is_whole old asked h.here h.is_heard idle.0 asks_so) is in
      record {
        did = acted.did;
        deal = acted.deal;
        dealt = acted.dealt;
        mine = λ n t s. mine n t s acted;
        others = λ c n t other s. heeds_speaks heard place asked past old new said added a idle.0 acted is c n t (inr (not_other place who c old h.here other, s));
      }
    where
      mine : (n : ℕ) (t : Talk) → StandsIn who n old t → (acted : Acted heard past place asked old said added new) → Speaks heard false who n old new acted.did.account (ends_told who acted.deal) said t ((raw, end) ∷ [])
      mine n t s acted =
          let talk = here_talk who n place old t s h.here in
          own talk.0 talk.1 talk.2 (subst (λ (u : Talk). StandsIn who n old u) talk.2 s)
        where
          own : (waits : Option Wanted) (held : List Line) → t ≡ Here waits held → StandsIn who n old (Here waits held) → Speaks heard false who n old new acted.did.account (ends_told who acted.deal) said t ((raw, end) ∷ [])
          own waits held is_t s =
              let first : Line = record { text = line; is_whole = is_whole } in
              let seat = seat_of who n place old waits held s h.here in
              let none_waits = idle_talk who n place old waits held s h.here idle.0 in
              let bytes : seat.0.held ≡ [] = sym (ap (λ (x : Option Peer). held_in x) seat.1) ∙ idle.1 in
              let none_held_is : held ≡ [] = none_held seat.0.is_cut held (subst (λ (b : List ℕ). AreHeld seat.0.is_cut b held) bytes seat.3) in
              let t_is : t ≡ Here None [] = is_t ∙ ap (λ (w : Option Wanted). Here w held) none_waits ∙ ap (λ (l : List Line). Here None l) none_held_is in
              let idle_stands : StandsIn who n old (Here None []) = subst (λ (u : Talk). StandsIn who n old u) (sym is_t ∙ t_is) s in
              let v = heeds_speaks heard place asked past old new said added a idle.0 acted is who n (Here None (first ∷ [])) (inl (first, [], refl, h.here, idle_stands, asks_so)) in
              subst (λ (u : Talk). Speaks heard false who n old new acted.did.account (ends_told who acted.deal) said u ((raw, end) ∷ [])) (sym t_is) (record {
                voice = voiced_behind who (IsSo heard who false old.objects acted.did.account) (ends_told who acted.deal) said (StandsIn who n new) (Here None []) (Here None (first ∷ [])) (Hears raw end ∷ []) ((raw, end) ∷ [])
                    (Here None (first ∷ []), (r.not_long, ap (λ (l : List Line). Here None l) (sym r.lines_are)), refl) refl refl (tt, tt) (λ o j. refl) v.voice;
                opens = λ names had k. let o = v.opens names had k in record { now = o.now; along = (had, tt, refl, o.along); knows = o.knows };
              })
  heard_line place who raw end line is_whole past old new said added r a h whole (cancels busy whole_is number reads is) =
      let d = did_cancel heard place number past old new said added a is in
      heard_quiet past old who raw end said added new d (cancel_quiet place number old new said added is) (keeps_by heard past old new said added d (back_cancel place number old new said added is) (λ names c had k. cancel (by_open names c had) place number old new said added k is))
      (λ n t s. at_once (λ (u : Talk). Voice who (IsSo heard who false old.objects d.account) no_ends said (StandsIn who n new) u ((raw, end) ∷ [])) place who raw end line is_whole old r h.here busy n t s d.account (λ (waits : Option Wanted) (held : List Line) (lead : Lead who n place old (IsSo heard who false old.objects d.account) (Here waits held) ((raw, end) ∷ []) (IsAtOnce raw end)).
      cancel_voice heard past who n place number false d.account old new said added (Here waits held) ((raw, end) ∷ []) (IsAtOnce raw end) a lead (λ text fits. r.cancels_so whole_is number reads text fits) is))
      (λ c n t other s. cancel_voice heard past c n place number false d.account old new said added t [] (λ text. Unit {0}) a
      (lead_other c n place old (IsSo heard c false old.objects d.account) t (λ text. Unit {0}) (not_other place who c old h.here other) s) (λ text fits. tt) is)
  heard_line place who raw end line is_whole past old new said added r a h whole (sees busy whole_is sight reads is) =
      let d = did_inside heard place sight past old new said added a is in
      heard_quiet past old who raw end said added new d (inside_quiet place sight old new said added is) (keeps_by heard past old new said added d (back_inside place sight old new said added is) (λ names c had k. inside (by_open names c had) place sight old new said added k is))
      (λ n t s. at_once (λ (u : Talk). Voice who (IsSo heard who false old.objects d.account) no_ends said (StandsIn who n new) u ((raw, end) ∷ [])) place who raw end line is_whole old r h.here busy n t s d.account (λ (waits : Option Wanted) (held : List Line) (lead : Lead who n place old (IsSo heard who false old.objects d.account) (Here waits held) ((raw, end) ∷ []) (IsAtOnce raw end)).
      inside_voice who n place sight (IsSo heard who false old.objects d.account) old new said added (Here waits held) ((raw, end) ∷ []) (IsAtOnce raw end) lead (λ text plain. r.sees_so whole_is sight reads text) is))
      (λ c n t other s. inside_voice c n place sight (IsSo heard c false old.objects d.account) old new said added t [] (λ text. Unit {0})
      (lead_other c n place old (IsSo heard c false old.objects d.account) t (λ text. Unit {0}) (not_other place who c old h.here other) s) (λ text plain. tt) is)
  heard_line place who raw end line is_whole past old new said added r a h whole (refuses busy is) =
      let d = did_unsubmitted heard place faults.Memory past old new said added a is in
      heard_quiet past old who raw end said added new d (only_quiet place no_memory old new said added (quiet_refusal (lines.Unsubmitted faults.Memory) tt) is)
      (keeps_by heard past old new said added d (back_only place no_memory old new said added is) (λ names c had k. done_only (by_open names c had) place no_memory (refusal_plain (lines.Unsubmitted faults.Memory) tt) old new said added k is))
      (λ n t s. at_once (λ (u : Talk). Voice who (IsSo heard who false old.objects d.account) no_ends said (StandsIn who n new) u ((raw, end) ∷ [])) place who raw end line is_whole old r h.here busy n t s d.account (λ (waits : Option Wanted) (held : List Line) (lead : Lead who n place old (IsSo heard who false old.objects d.account) (Here waits held) ((raw, end) ∷ []) (IsAtOnce raw end)).
      only_voice who n place no_memory (IsSo heard who false old.objects d.account) old new said added (Here waits held) ((raw, end) ∷ []) (IsAtOnce raw end) lead r.no_memory_so
      (plain_end no_memory (refusal_plain (lines.Unsubmitted faults.Memory) tt)) is))
      (λ c n t other s. voiced_none c (IsSo heard c false old.objects d.account) said (StandsIn c n new) t (ap (texts_to c) is.told ∙ told_other c old.peers place no_memory (not_other place who c old h.here other))
      (subst (λ (x : State). StandsIn c n x t) (sym is.left) s))
  heard_line place who raw end line is_whole past old new said added r a h whole (puts_off sight asks_so) = held_line place who raw end line is_whole past old r a h whole
  heard_line place who raw end line is_whole past old new said added r a h whole (holds busy) = held_line place who raw end line is_whole past old r a h whole

  wrong_bool : false ≡ true → ⊥
  wrong_bool e = cc

  pub heard_at : (place who : ℕ) (raw : List ℕ) (end : LineEnd) (past : Texts) (old new : State) (said added : Texts) → Awaits heard past old.objects old.peers → who_at old place ≡ Some who → IsHereAt heard place who raw end old →
      AllWhole old place → HearsAt place raw end old said added new → HeardSo past old who raw end said added new
  heard_at place who raw ends.Feed past old new said added a here h whole is =
      heard_line place who raw ends.Feed (strip_carriage_return raw) true past old new said added (record {
        lines_are = refl;
        not_long = λ e. cc;
        cancels_so = λ w number reads text fits. inl (number, reads, fits);
        sees_so = λ w sight reads text. inr (inl (sight, reads));
        no_memory_so = inr (inr refl);
        idle_so = λ waits held i. i;
      }) a h whole is
  heard_at place who raw ends.Input past old new said added a here h whole is = by (strip_carriage_return raw) refl h is
    where
      no_long : ends.Input ≡ ends.TooLong → ⊥
      no_long e = cc

      by : (line : List ℕ) → strip_carriage_return raw ≡ line → IsHere heard place who line false old → HearsLast place line old said added new → HeardSo past old who raw ends.Input said added new
      by (b ∷ line) same h is =
          heard_line place who raw ends.Input (b ∷ line) false past old new said added (record {
            lines_are = ap last_line same;
            not_long = λ e. cc;
            cancels_so = λ w number reads text fits. absurd (wrong_bool w);
            sees_so = λ w sight reads text. absurd (wrong_bool w);
            no_memory_so = refl;
            idle_so = λ waits held i. i;
          }) a h whole is
      by [] same h is =
          let d = did_nothing heard past old new said added a is in
          let left : (c n : ℕ) (t : Talk) → StandsIn c n old t → StandsIn c n new t = λ c n t s. subst (λ (x : State). StandsIn c n x t) (sym is.left) s in
          heard_quiet past old who raw ends.Input said added new d (subst AreQuiet (sym is.told) tt) (keeps_by heard past old new said added d (back_nothing old new said added is) (λ names c had k. done_nothing (by_open names c had) old new said added k is))
          (λ n t s.
          let talk = here_talk who n place old t s here in
          subst (λ (u : Talk). Voice who (IsSo heard who false old.objects d.account) no_ends said (StandsIn who n new) u ((raw, ends.Input) ∷ [])) (sym talk.2) (record {
            parts = Hears raw ends.Input ∷ [];
            now = Here talk.0 talk.1;
            course = (
              Here talk.0 talk.1,
              (no_long, ap (λ (l : List Line). Here talk.0 l) (sym (append-nil talk.1) ∙ ap (λ (l : List Line). talk.1 ++ l) (sym (ap last_line same)))),
              refl,
            );
            stands = left who n (Here talk.0 talk.1) (subst (λ (u : Talk). StandsIn who n old u) talk.2 s);
            heard = refl;
            texts = sym (ap (texts_to who) is.told);
            all = (tt, tt);
            ends_are = λ o j. refl;
          }))
          (λ c n t other s. voiced_none c (IsSo heard c false old.objects d.account) said (StandsIn c n new) t (ap (texts_to c) is.told) (left c n t s))
  heard_at place who raw ends.TooLong past old new said added a here h whole is =
      let text = line_text (lines.Refused refusals.LineTooLong) in
      let plain = plain_end text (refusal_plain (lines.Refused refusals.LineTooLong) tt) in
      let d = did_refusal heard place refusals.LineTooLong past old new said added a is in
      heard_quiet past old who raw ends.TooLong said added new d (only_quiet place text old new said added (quiet_refusal (lines.Refused refusals.LineTooLong) tt) is)
      (keeps_by heard past old new said added d (back_only place text old new said added is) (λ names c had k. done_only (by_open names c had) place text (refusal_plain (lines.Refused refusals.LineTooLong) tt) old new said added k is))
      (λ n t s.
      let talk = here_talk who n place old t s here in
      subst (λ (u : Talk). Voice who (IsSo heard who false old.objects d.account) no_ends said (StandsIn who n new) u ((raw, ends.TooLong) ∷ [])) (sym talk.2)
      (voiced_between who (IsSo heard who false old.objects d.account) said (StandsIn who n new) talk.0 talk.1 raw ends.TooLong text refl plain tt (λ i. i)
      (ap (texts_to who) is.told ∙ told_mine who old.peers place text here)
      (subst (λ (x : State). StandsIn who n x (Here talk.0 talk.1)) (sym is.left) (subst (λ (u : Talk). StandsIn who n old u) talk.2 s))))
      (λ c n t other s. voiced_none c (IsSo heard c false old.objects d.account) said (StandsIn c n new) t (ap (texts_to c) is.told ∙ told_other c old.peers place text (not_other place who c old here other))
      (subst (λ (x : State). StandsIn c n x t) (sym is.left) s))
