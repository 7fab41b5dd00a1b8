-- What turns are in each talk, one after the other.
use Rattle.std.proofs.Common.{◌≡◌, ◌≢◌, ◌⊎◌, inl, inr, ◌∙◌, ap, sym, subst, refl, ℕ, ◌+◌, List, [], ◌∷◌, ◌++◌, append_assoc, length}
use Rattle.std.specs.Prelude.{Bool, true, false, ◌%◌, if◌then◌else◌, Option, Some, None, slice_get, slice_set}
use Rattle.std.proofs.lemmas.Bool.Decides.{eqb_tells}
use Rattle.std.proofs.lemmas.List.{append-nil}
use Rattle.std.proofs.lemmas.Option.{same_Some}
use Rattle.decl_core.specs.ObjectForm.{ObjectForm}
use Rattle.decl_core.specs.declared.object.Object.{Object}
use Rattle.apply_core.specs.declared.reply.Reply.{Reply}
use Rattle.session_text.specs.Lines.{repeated_text}
use Rattle.word_core.specs.Events.{Called}
use Rattle.live_core.specs.Epochs.{numbered_from}
use Rattle.live_core.specs.Hall.{Every}
use Rattle.apply_core.specs.History.{End}
use Rattle.live_core.specs.Scene.{Scene}
use Rattle.live_core.specs.HostedSteps.{IsFollowed}
use Rattle.client_core.specs.declared.client.OpenObject.{OpenObject}
use Rattle.keep_loop.specs.Texts.{to}
use Rattle.keep_loop.specs.Turns.{Asked, Turn, Runs, heard_of, is_joining, joins, line_from, said_to, told as told_here}
use Rattle.keep_loop.specs.Turns.Asked.{Heard, Noted, Changes}
use Rattle.keep_loop.specs.declared.served.LineEnd.{LineEnd}
use Rattle.keep_loop.specs.Cuts.{IsCut}
use Rattle.client_core.specs.Deeds.{Texts}
use Rattle.client_core.specs.Given as told
use Rattle.client_core.specs.Moves.{Begins, BeginsHeld}
use Rattle.client_core.specs.State.{Peer, State, who_at, who_in}
use Rattle.client_core.specs.Turns.{place_of}
use Rattle.client_core.proofs.Moving.{to_more}
use Rattle.history_law.specs.Said.{Account, SaysIn}
use Rattle.history_law.proofs.Going.{both, no_account}
use Rattle.table_core.specs.Moves.{Gives}
use Rattle.table_core.specs.Seen.{seen}
use Rattle.table_core.specs.declared.table.Table.{Table}
use Rattle.history_law.specs.Kept.{LeavesAnswered}
use Rattle.history_law.specs.Replied.{AreTold, ends_in}
use Rattle.history_law.proofs.KeptGoing.{crash_leaves_answered}
use Rattle.history_law.proofs.TurnLiving.{lives_on}
use Rattle.history_law.specs.Asker.{AreCut, HasSaid, said_by}
use Rattle.history_law.specs.Awaits.{AllHeld, AreHeard, Awaits, IsElementOf, Lines, SaidBy, waits_in}
use Rattle.history_law.proofs.TurnBeginning.{begins_awaits}
use Rattle.history_law.proofs.Deeds.{Did, did_nothing, did_two, same_awaits}
use Rattle.history_law.proofs.Heard.{awaits_lines, cut_last, is_here_at, own_heard, said_more}
use Rattle.history_law.proofs.Lines.{heard_map}
use Rattle.history_law.proofs.Lists.{set_was}
use Rattle.history_law.proofs.Places.{awaits_past}
use Rattle.history_law.proofs.Runs.{did_says, quiet_awaits, said_next, turns_on}
use Rattle.history_law.proofs.AskerTurning.{IsHereAt}
use Rattle.history_law.specs.Order.{AnswersAreInOrder, CrashLeavesInOrder, IsEmpty}
use Rattle.history_law.specs.Dealt.{dealt_ends, ends_for}
use Rattle.history_law.specs.Answered.{IsAnswer}
use Rattle.history_law.specs.Done.{IsDoneIn}
use Rattle.history_law.specs.Once.{CrashLeavesToldOnce, AreToldOnce, EndsAreToldOnce}
use Rattle.history_law.specs.TurnStands.{Stands, StandsIn, Wants, ends_by}
use Rattle.history_law.specs.Talk.{Line, Part, Talk, Wanted, AllKept, ArePicked, Course, IsKept, IsWanted, put_together, texts_of, texts_to}
use Rattle.history_law.specs.Talk.Part.{Comes, Hears, Between, Answers, Accepts, Ends, Withdraws, Quits, Leaves}
use Rattle.history_law.specs.Talk.Talk.{Away, Here}
use Rattle.history_law.proofs.Hearing.{AllWhole, HeardSo, heard_at}
use Rattle.history_law.proofs.OrderLists.{WantedMoves, together_to}
use Rattle.history_law.proofs.OrderMaking.{moves_set}
use Rattle.history_law.proofs.AskedDoing.{done_nothing}
use Rattle.history_law.proofs.AskedTurning.{begins}
use Rattle.history_law.proofs.OpenBack.{back_nothing, back_same}
use Rattle.history_law.proofs.OpenParts.{AreNames, AreQuiet, IsSome, busy_in, Fact, IsOfIt, IsQuiet, Knows, Names, OpensOn, Speaks, along_both, along_map, along_told, by_open, keeps_by, quiet_opens, speaks_come, speaks_like, speaks_two, texts_every}
use Rattle.history_law.proofs.OpenSettling.{SpeaksOn, speaks_both, speaks_notes, speaks_settles}
use Rattle.history_law.specs.Open.{IsRunOfOpen, Open}
use Rattle.history_law.proofs.OrderStanding.{same_moves, same_set, stands_map, wanted_same}
use Rattle.history_law.proofs.Voicing.{Deal, IsDealOf, IsSo, IsToldIn, Voice, deal_both, deal_of_both, dealt_both, ends_told, for_both, moves_back, no_deal, no_ends, nobody_deal, parts_told, picked_for, to_nobody, voiced_both, voiced_map, voiced_none, voiced_quiet, voiced_so, voiced_told}

-- what is heard of a connection, in each talk
record HeardTurn (heard : Lines) (past : Texts) (old : State) (who : ℕ) (line : List ℕ) (end : LineEnd) (said added : Texts) (new : State) : Type 0 where
  did : Did heard past old said added new
  deal : Deal
  dealt : IsDealOf did.account deal
  speaks : (c n : ℕ) (t : Talk) → StandsIn c n old t → Speaks heard false c n old new did.account (ends_told c deal) said t (line_from c (Heard who line end))

-- the lines of one that is heard, and of others
of_line : (who c : ℕ) (line : List ℕ) (end : LineEnd) (P : ℕ → List (List ℕ × LineEnd) → Type 0) → P who ((line, end) ∷ []) → ((who ≡ c → ⊥) → P c []) → P c (line_from c (Heard who line end))
of_line who c line end P mine others = elim (eqb_tells who c) [
  | inl x ↦ subst (λ (l : List (List ℕ × LineEnd)). P c l) (sym (ap (λ (b : Bool). if b then (line, end) ∷ [] else []) x.0)) (subst (λ k. P k ((line, end) ∷ [])) x.1 mine)
  | inr x ↦ subst (λ (l : List (List ℕ × LineEnd)). P c l) (sym (ap (λ (b : Bool). if b then (line, end) ∷ [] else []) x.0)) (others x.1)
]

heard_turn : (heard : Lines) (past : Texts) (old new : State) (who : ℕ) (line : List ℕ) (end : LineEnd) (said added : Texts) → Awaits heard past old.objects old.peers →
    (who_at old (place_of old who) ≡ Some who → IsHereAt heard (place_of old who) who line end old) → (who_at old (place_of old who) ≡ Some who → AllWhole heard old (place_of old who)) →
    told.Gives old (Heard who line end) said added new → HeardTurn heard past old who line end said added new
heard_turn heard past old new who line end said added a h whole (inl (here, is)) =
    subst (λ (s : Texts). HeardTurn heard past old who line end s added new) (sym is.told) (subst (λ (x : Texts). HeardTurn heard past old who line end (is.said_first ++ is.said_then) x new) (sym is.lines) made)
  where
    one : HeardSo heard past old who line end is.said_first is.added_first is.mid
    one = heard_at heard (place_of old who) who line end past old is.mid is.said_first is.added_first a here (h here) (whole here) is.one

    two : SpeaksOn heard (past ++ is.said_first) is.mid is.said_then is.added_then new
    two = speaks_settles heard (past ++ is.said_first) is.mid new is.said_then is.added_then one.did.awaits is.two

    first : (c n : ℕ) (t : Talk) → StandsIn c n old t → Speaks heard false c n old is.mid one.did.account (ends_told c one.deal) is.said_first t (line_from c (Heard who line end))
    first c n t s =
        of_line who c line end (λ k l. StandsIn k n old t → Speaks heard false k n old is.mid one.did.account (ends_told k one.deal) is.said_first t l)
        (one.mine n t) (λ other. one.others c n t (λ e. other (sym e))) s

    made : HeardTurn heard past old who line end (is.said_first ++ is.said_then) (is.added_first ++ is.added_then) new
    made = record {
      did = did_two heard past old is.mid new is.said_first is.said_then is.added_first is.added_then one.did two.did;
      deal = deal_both one.deal two.deal;
      dealt = deal_of_both one.did.account two.did.account one.deal two.deal one.dealt two.dealt;
      speaks = λ c n t s.
          let v = first c n t s in
          subst (λ (l : List (List ℕ × LineEnd)). Speaks heard false c n old new (both one.did.account two.did.account) (ends_told c (deal_both one.deal two.deal)) (is.said_first ++ is.said_then) t l)
          (append-nil (line_from c (Heard who line end)))
          (speaks_two heard false c n old is.mid new is.said_first is.said_then is.added_first one.did.account two.did.account one.deal two.deal t (line_from c (Heard who line end)) [] one.did.went v (two.speaks c n v.voice.now v.voice.stands));
    }
heard_turn heard past old new who line end said added a h whole (inr (none, is)) = record {
  did = d;
  deal = to_nobody d.account;
  dealt = nobody_deal d.account;
  speaks = λ c n t s. record {
    voice = voiced_quiet c d.account (IsSo heard c false old.objects d.account) said (StandsIn c n new) t (line_from c (Heard who line end)) (voice c n t s);
    opens = quiet_opens heard false c n old new d.account no_ends said t (line_from c (Heard who line end)) (voice c n t s) (texts_every IsQuiet c said (subst AreQuiet (sym is.told) tt))
        (λ names had k. keeps_by heard past old new said added d (back_nothing old new said added is) (λ own w now x. done_nothing (by_open own w now) old new said added x is) names c had k) (λ u stands e. absurd (never e))
        (λ names had k. busy_in names c n had old t s k);
  };
}
  where
    never : false ≡ true → ⊥
    never e = cc

    d : Did heard past old said added new
    d = did_nothing heard past old new said added a is

    left : (c n : ℕ) (t : Talk) → StandsIn c n old t → StandsIn c n new t
    left c n t s = subst (λ (x : State). StandsIn c n x t) (sym is.left) s

    away : (n : ℕ) (t : Talk) → StandsIn who n old t → t ≡ Away
    away n Away s = refl
    away n (Here waits held) s = absurd (none (ap (λ k. who_in (slice_get old.peers (who % k))) s.size ∙ ap who_in s.is_at.1 ∙ s.is_at.2))

    mine : (n : ℕ) (t : Talk) → StandsIn who n old t → Voice who (IsSo heard who false old.objects d.account) no_ends said (StandsIn who n new) t ((line, end) ∷ [])
    mine n t s =
        let is_away = away n t s in
        subst (λ (u : Talk). Voice who (IsSo heard who false old.objects d.account) no_ends said (StandsIn who n new) u ((line, end) ∷ [])) (sym is_away) (record {
          parts = Hears line end ∷ [];
          now = Away;
          course = (Away, refl, refl);
          stands = left who n Away (subst (λ (u : Talk). StandsIn who n old u) is_away s);
          heard = refl;
          texts = sym (ap (texts_to who) is.told);
          all = (tt, tt);
          ends_are = λ o j. refl;
        })

    voice : (c n : ℕ) (t : Talk) → StandsIn c n old t → Voice c (IsSo heard c false old.objects d.account) no_ends said (StandsIn c n new) t (line_from c (Heard who line end))
    voice c n t s =
        of_line who c line end (λ k l. StandsIn k n old t → Voice k (IsSo heard k false old.objects d.account) no_ends said (StandsIn k n new) t l)
        (mine n t) (λ other at. voiced_none c (IsSo heard c false old.objects d.account) said (StandsIn c n new) t (ap (texts_to c) is.told) (left c n t at)) s

-- what a turn is
record Turned (heard : Lines) (past : Texts) (old : State) (asked : Asked) (said added : Texts) (new : State) : Type 0 where
  account : Account
  says : SaysIn old asked said added account new
  awaits : Awaits heard (past ++ said) new.objects new.peers
  moves : WantedMoves new.objects old.objects
  deal : Deal
  dealt : IsDealOf account deal
  speaks : (c n : ℕ) (t : Talk) → StandsIn c n old t → Speaks heard (joins c asked) c n old new account (ends_told c deal) said t (line_from c asked)

-- a call that is numbered anew waited before
numbered_back : (n : ℕ) (cs : List Called) (d : Called) → IsElementOf d (numbered_from n cs) → (c : Called) × IsElementOf c cs × (d.session ≡ c.session) × (d.operation ≡ c.operation) × (d.arguments ≡ c.arguments)
numbered_back n [] d is = absurd is
numbered_back n (c ∷ cs) d (inl is) =
    (c, inl refl, ap (λ (x : Called). x.session) (sym is), ap (λ (x : Called). x.operation) (sym is), ap (λ (x : Called). x.arguments) (sym is))
numbered_back n (c ∷ cs) d (inr is) = let on = numbered_back (n + 1) cs d is in (on.0, inr on.1, on.2, on.3, on.4)

followed_back : (old new : Scene) (past : List _) → IsFollowed old past new → (d : Called) → IsElementOf d new.hall.waiting →
    (c : Called) × IsElementOf c old.hall.waiting × (d.session ≡ c.session) × (d.operation ≡ c.operation) × (d.arguments ≡ c.arguments)
followed_back old new past is d waits = numbered_back 0 old.hall.waiting d (subst (λ (cs : List Called). IsElementOf d cs) is.begun.waiting waits)

-- where an object begins its next epoch nothing is told
begins_stands : (c n journal : ℕ) (text : List ℕ) (old new : State) (t : Talk) → BeginsHeld old journal text new → StandsIn c n old t → StandsIn c n new t
begins_stands c n journal text old new t is s =
    let b = is.begins in
    let followed = b.begun.followed in
    let made = slice_set old.objects journal b.after in
    let object = followed.begun.object in
    subst (λ (l : List Scene). Stands c n l (waits_in l) new.peers t) (sym b.left) (subst (λ (ps : List Peer). Stands c n made (waits_in made) ps t) (sym is.peers)
    (stands_map c n old.objects made (waits_in old.objects) (waits_in made) old.peers t (λ p o w here by waits wants. each o w wants) s))
  where
    each : (o : OpenObject) (w : Wanted) → Wants old.objects (waits_in old.objects) o w → Wants (slice_set old.objects journal is.begins.after) (waits_in (slice_set old.objects journal is.begins.after)) o w
    each o w wants call (scene, there, waits) session = by (set_was old.objects journal o.object is.begins.after scene is.begins.before is.begins.there there)
      where
        moves : WantedMoves old.objects (slice_set old.objects journal is.begins.after)
        moves = same_moves old.objects (slice_set old.objects journal is.begins.after)
            (same_set old.objects journal is.begins.before is.begins.after is.begins.there is.begins.begun.followed.begun.object)

        by : ((journal ≡ o.object) × (scene ≡ is.begins.after)) ⊎ ((journal ≢ o.object) × (slice_get old.objects o.object ≡ Some scene)) → IsWanted (slice_set old.objects journal is.begins.after) o.object w call
        by (inl (same, now)) =
            let was = followed_back is.begins.before is.begins.after is.begins.after.past is.begins.begun.followed call (subst (λ (x : Scene). IsElementOf call x.hall.waiting) now waits) in
            moves o.object w call (wanted_same old.objects o.object w was.0 call was.3 was.4
            (wants was.0 (is.begins.before, ap (slice_get old.objects) (sym same) ∙ is.begins.there, was.1) (sym was.2 ∙ session)))
        by (inr (other, was)) = moves o.object w call (wants call (scene, was, waits) session)

-- the objects keep their names
begins_knows : (names : Names) (c : ℕ) (had : Option Open) (old new : State) (journal : ℕ) (text : List ℕ) → BeginsHeld old journal text new → Knows names c had old → Knows names c had new
begins_knows names c had old new journal text is k = record {
  names_are = λ at s there. by at s (set_was old.objects journal at b.after s b.before b.there (ap (λ (l : List Scene). slice_get l at) (sym b.left) ∙ there));
  asked = begins (by_open names c had) old new journal text k.asked is;
  has = λ at h. k.has at (back_same old new is.peers c at h);
}
  where
    b : Begins old.objects journal is.fronts.front new.objects
    b = is.begins

    by : (at : ℕ) (s : Scene) → ((journal ≡ at) × (s ≡ b.after)) ⊎ ((journal ≢ at) × (slice_get old.objects at ≡ Some s)) → names at ≡ Some s.hall.object.name
    by at s (inl (same, now)) =
        ap names (sym same) ∙ k.names_are journal b.before b.there ∙ ap (λ (o : Object). Some o.name) (sym b.begun.followed.begun.object) ∙ ap (λ (x : Scene). Some x.hall.object.name) (sym now)
    by at s (inr (other, was)) = k.names_are at s was

turned : (before after : List Turn) (t : Turn) (past : Texts) (old new : State) (asked : Asked) (said added : Texts) → t.asked ≡ asked → AreCut (before ++ t ∷ after) → Awaits (HasSaid before) past old.objects old.peers →
    told.Gives old asked said added new → Turned (HasSaid (before ++ t ∷ [])) past old asked said added new
turned before after t past old new asked said added is cut a gives = by asked is gives
  where
    heard : Lines
    heard = HasSaid (before ++ t ∷ [])

    now : Awaits (HasSaid (before ++ t ∷ [])) past old.objects old.peers
    now = awaits_lines (HasSaid before) (HasSaid (before ++ t ∷ [])) (said_more before (t ∷ [])) past old.objects old.peers a

    whole : (who : ℕ) (line : List ℕ) (end : LineEnd) (place : ℕ) → t.asked ≡ Heard who line end → who_at old place ≡ Some who → (p : Peer) → slice_get old.peers place ≡ Some p → AreHeard (λ (l : List ℕ) (b : Bool). b ≡ true) p.is_cut p.held
    whole who line end place is here p there =
        heard_map (SaidBy (HasSaid before) p.who) (λ (l : List ℕ) (b : Bool). b ≡ true) p.is_cut p.held
        (λ l b x. each l b (subst (λ (w : Option ℕ). SaidBy (HasSaid before) w l b) (sym (ap who_in there) ∙ here) x)) (a.seated place p there).held
      where
        cuts : (ended : ℕ) × (came : List ℕ) × IsCut ended came (heard_of who before ++ (line, end) ∷ heard_of who after)
        cuts = let c = cut who in (c.0, c.1, subst (λ (l : List (List ℕ × LineEnd)). IsCut c.0 c.1 l) (own_heard before after t who line end is) c.2)

        each : (l : List ℕ) (b : Bool) → HasSaid before who l b → b ≡ true
        each l true x = refl
        each l false x = absurd (cut_last cuts.0 cuts.1 (heard_of who before) (heard_of who after) line end x.heard cuts.2 x.is_heard)

    by : (asked : Asked) → t.asked ≡ asked → told.Gives old asked said added new → Turned (HasSaid (before ++ t ∷ [])) past old asked said added new
    by (Heard who line end) is gives =
        let d = heard_turn (HasSaid (before ++ t ∷ [])) past old new who line end said added now (λ here. is_here_at before after t who line end past old _ is cut a here) (λ here. whole who line end (place_of old who) is here) gives in
        record { account = d.did.account; says = did_says (HasSaid (before ++ t ∷ [])) past old new said added d.did; awaits = d.did.awaits; moves = moves_back old.objects new.objects added d.did.account d.did.went; deal = d.deal; dealt = d.dealt; speaks = d.speaks }
    by (Noted note) is gives =
        let first = speaks_notes heard note past old gives.mid gives.said_first gives.added_first now gives.one in
        let then_settles = speaks_settles heard (past ++ gives.said_first) gives.mid new gives.said_then gives.added_then first.did.awaits gives.two in
        let d = speaks_like (λ c. is_joining c note) heard past old new said (gives.said_first ++ gives.said_then) added (gives.added_first ++ gives.added_then) gives.told gives.lines
        (speaks_both heard (λ c. is_joining c note) past old gives.mid new gives.said_first gives.said_then gives.added_first gives.added_then first
        (speaks_come (λ c. is_joining c note) heard (past ++ gives.said_first) gives.mid new gives.said_then gives.added_then then_settles)) in
        record { account = d.did.account; says = did_says (HasSaid (before ++ t ∷ [])) past old new said added d.did; awaits = d.did.awaits; moves = moves_back old.objects new.objects added d.did.account d.did.went; deal = d.deal; dealt = d.dealt; speaks = d.speaks }
    by (Changes journal text true) is gives = record {
      account = no_account;
      says = (gives.0, λ j. refl);
      awaits = awaits_past (HasSaid (before ++ t ∷ [])) past said new.objects new.peers (begins_awaits (HasSaid (before ++ t ∷ [])) past old new journal text now gives.2);
      moves = let b = gives.2.begins in subst (λ (l : List Scene). WantedMoves l old.objects) (sym b.left) (moves_set old.objects journal b.before b.after b.there b.begun.followed.begun.object);
      deal = no_deal;
      dealt = λ o j. refl;
      speaks = λ c n t s. record {
        voice = voiced_none c (IsSo heard c false old.objects no_account) said (StandsIn c n new) t (ap (texts_to c) gives.0) (begins_stands c n journal text old new t gives.2 s);
        opens = λ names had k. record { now = had; along = refl; knows = begins_knows names c had old new journal text gives.2 k };
      };
    }
    by (Changes journal text false) is gives = record {
      account = no_account;
      says = (gives.told, λ j. refl);
      awaits = awaits_past (HasSaid (before ++ t ∷ [])) past said new.objects new.peers
          (same_awaits (HasSaid (before ++ t ∷ [])) past old new (ap (λ (s : State). s.objects) gives.left) (ap (λ (s : State). s.peers) gives.left) now);
      moves = subst (λ (s : State). WantedMoves s.objects old.objects) (sym gives.left) (λ j w call x. x);
      deal = no_deal;
      dealt = λ o j. refl;
      speaks = λ c n t s. record {
        voice = voiced_none c (IsSo heard c false old.objects no_account) said (StandsIn c n new) t (ap (texts_to c) gives.told) (subst (λ (x : State). StandsIn c n x t) (sym gives.left) s);
        opens = λ names had k. record { now = had; along = refl; knows = subst (λ (x : State). Knows names c had x) (sym gives.left) k };
      };
    }

-- one that is not there, and does not come, is told nothing
stays_away : (heard : Lines) (c : ℕ) (objects : List Scene) (account : Account) (parts : List Part) (now : Talk) → Course parts Away now → Every (IsSo heard c false objects account) parts → (now ≡ Away) × (texts_of parts ≡ [])
stays_away heard c objects account [] now course all = (course, refl)
stays_away heard c objects account (Comes ∷ parts) now course (one, all) = absurd (wrong one)
  where
    wrong : false ≡ true → ⊥
    wrong e = cc
stays_away heard c objects account (Hears line end ∷ parts) now (mid, is, course) (one, all) = stays_away heard c objects account parts now (subst (λ (t : Talk). Course parts t now) is course) all
stays_away heard c objects account (Between line end text ∷ parts) now (mid, is, course) all = absurd is
stays_away heard c objects account (Answers line text ∷ parts) now (mid, is, course) all = absurd is
stays_away heard c objects account (Accepts w ∷ parts) now (mid, is, course) all = absurd is
stays_away heard c objects account (Ends object w call reply ∷ parts) now (mid, is, course) all = absurd is
stays_away heard c objects account (Withdraws w ∷ parts) now (mid, is, course) all = absurd is
stays_away heard c objects account (Quits line ∷ parts) now (mid, is, course) all = absurd is
stays_away heard c objects account (Leaves ∷ parts) now (mid, is, course) all = absurd is

-- what a line was answered in one of these turns, behind those of the past
pub record Meant (past : List Turn) (first : Table) (turns : List Turn) (accounts : List Account) (c : ℕ) (line : Line) (text : List ℕ) : Type 0 where
  pub before : List Turn
  pub turn : Turn
  pub after : List Turn
  pub cut : turns ≡ before ++ turn ∷ after
  pub told : IsElementOf text (texts_to c turn.said)
  pub sooner : List Account
  pub account : Account
  pub later : List Account
  pub happened : accounts ≡ sooner ++ account ∷ later
  pub mid : Table
  pub led : AreTold first before sooner mid
  pub answer : IsAnswer (HasSaid (past ++ (before ++ turn ∷ []))) c mid.objects.items account line text

-- what is known of a part of a talk over turns: what a line was answered in it, and of which call it tells
abbrev pub IsMeant : List Turn → Table → List Turn → List Account → ℕ → Part → Type 0
IsMeant past first turns accounts c Comes = Unit {0}
IsMeant past first turns accounts c (Hears line end) = Unit {0}
IsMeant past first turns accounts c (Between line end text) = Unit {0}
IsMeant past first turns accounts c (Answers line text) = Meant past first turns accounts c line text
IsMeant past first turns accounts c (Accepts w) = Unit {0}
IsMeant past first turns accounts c (Ends object w call reply) = IsWanted first.objects.items object w call
IsMeant past first turns accounts c (Withdraws w) = Unit {0}
IsMeant past first turns accounts c (Quits line) = Unit {0}
IsMeant past first turns accounts c Leaves = Unit {0}

meant_kept : (past : List Turn) (first : Table) (turns : List Turn) (accounts : List Account) (c : ℕ) (p : Part) → IsMeant past first turns accounts c p → IsKept first.objects.items p
meant_kept past first turns accounts c Comes is = tt
meant_kept past first turns accounts c (Hears line end) is = tt
meant_kept past first turns accounts c (Between line end text) is = tt
meant_kept past first turns accounts c (Answers line text) is = tt
meant_kept past first turns accounts c (Accepts w) is = tt
meant_kept past first turns accounts c (Ends object w call reply) is = is
meant_kept past first turns accounts c (Withdraws w) is = tt
meant_kept past first turns accounts c (Quits line) is = tt
meant_kept past first turns accounts c Leaves is = tt

pub meant_done : (first : Table) (turns : List Turn) (accounts : List Account) (c : ℕ) (p : Part) → IsMeant [] first turns accounts c p → IsDoneIn first turns accounts c p
meant_done first turns accounts c Comes is = tt
meant_done first turns accounts c (Hears line end) is = tt
meant_done first turns accounts c (Between line end text) is = tt
meant_done first turns accounts c (Answers line text) is = record {
  before = is.before;
  turn = is.turn;
  after = is.after;
  cut = is.cut;
  told = is.told;
  sooner = is.sooner;
  account = is.account;
  later = is.later;
  happened = is.happened;
  mid = is.mid;
  led = is.led;
  answer = is.answer;
}
meant_done first turns accounts c (Accepts w) is = tt
meant_done first turns accounts c (Ends object w call reply) is = tt
meant_done first turns accounts c (Withdraws w) is = tt
meant_done first turns accounts c (Quits line) is = tt
meant_done first turns accounts c Leaves is = tt

-- a repeat that was told in one of these turns is of what was open
pub record MeantOpen (past : List Turn) (first : Table) (turns : List Turn) (accounts : List Account) (c : ℕ) (had : Option Open) (line : Line) (text : List ℕ) : Type 0 where
  pub before : List Turn
  pub turn : Turn
  pub after : List Turn
  pub cut : turns ≡ before ++ turn ∷ after
  pub told : IsElementOf text (texts_to c turn.said)
  pub sooner : List Account
  pub account : Account
  pub later : List Account
  pub happened : accounts ≡ sooner ++ account ∷ later
  pub mid : Table
  pub led : AreTold first before sooner mid
  pub it : IsOfIt (HasSaid (past ++ (before ++ turn ∷ []))) c mid.objects.items account had line text

abbrev pub OpenFact : List Turn → Table → List Turn → List Account → ℕ → Option Open → Part → Type 0
OpenFact past first turns accounts c had Comes = Unit {0}
OpenFact past first turns accounts c had (Hears line end) = Unit {0}
OpenFact past first turns accounts c had (Between line end text) = Unit {0}
OpenFact past first turns accounts c had (Answers line text) = (number : ℕ) (reply : Reply) → text ≡ repeated_text number reply → MeantOpen past first turns accounts c had line text
OpenFact past first turns accounts c had (Accepts w) = IsSome had
OpenFact past first turns accounts c had (Ends object w call reply) = (o : Open) × (had ≡ Some o) × IsRunOfOpen first.objects.items object w call o
OpenFact past first turns accounts c had (Withdraws w) = IsSome had
OpenFact past first turns accounts c had (Quits line) = Unit {0}
OpenFact past first turns accounts c had Leaves = Unit {0}

open_first : (past : List Turn) (first : Table) (t : Turn) (turns : List Turn) (account : Account) (accounts : List Account) (c : ℕ) (had : Option Open) (p : Part) →
    Fact (HasSaid (past ++ t ∷ [])) c first.objects.items account had p → IsToldIn (texts_to c t.said) p → OpenFact past first (t ∷ turns) (account ∷ accounts) c had p
open_first past first t turns account accounts c had Comes is told = tt
open_first past first t turns account accounts c had (Hears line end) is told = tt
open_first past first t turns account accounts c had (Between line end text) is told = tt
open_first past first t turns account accounts c had (Answers line text) is told = λ number reply same. record {
  before = [];
  turn = t;
  after = turns;
  cut = refl;
  told = told.0;
  sooner = [];
  account = account;
  later = accounts;
  happened = refl;
  mid = first;
  led = refl;
  it = is number reply same;
}
open_first past first t turns account accounts c had (Accepts w) is told = is
open_first past first t turns account accounts c had (Ends object w call reply) is told = is
open_first past first t turns account accounts c had (Withdraws w) is told = is
open_first past first t turns account accounts c had (Quits line) is told = tt
open_first past first t turns account accounts c had Leaves is told = tt

-- an object keeps its name
run_next : (names : Names) (a b : List Scene) → AreNames names a → AreNames names b → WantedMoves b a → (at : ℕ) (w : Wanted) (call : Called) (o : Open) → IsRunOfOpen b at w call o → IsRunOfOpen a at w call o
run_next names a b are also moves at w call o r =
    let was = moves at w call r.is in
    record {
      is = was;
      named = same_Some was.scene.hall.object.name r.is.scene.hall.object.name (sym (are at was.scene was.there) ∙ also at r.is.scene r.is.there) ∙ r.named;
    }

open_next : (names : Names) (past : List Turn) (first mid : Table) (t : Turn) (turns : List Turn) (account : Account) (accounts : List Account) → Gives first t.asked t.said t.added mid → SaysIn (seen first) t.asked t.said t.added account (seen mid) →
    WantedMoves mid.objects.items first.objects.items → AreNames names first.objects.items → AreNames names mid.objects.items → (c : ℕ) (had : Option Open) (p : Part) → OpenFact (past ++ t ∷ []) mid turns accounts c had p → OpenFact past first (t ∷ turns) (account ∷ accounts) c had p
open_next names past first mid t turns account accounts gives says moves are also c had Comes is = tt
open_next names past first mid t turns account accounts gives says moves are also c had (Hears line end) is = tt
open_next names past first mid t turns account accounts gives says moves are also c had (Between line end text) is = tt
open_next names past first mid t turns account accounts gives says moves are also c had (Answers line text) is = λ number reply same.
    let m = is number reply same in
    record {
      before = t ∷ m.before;
      turn = m.turn;
      after = m.after;
      cut = ap (λ (l : List Turn). t ∷ l) m.cut;
      told = m.told;
      sooner = account ∷ m.sooner;
      account = m.account;
      later = m.later;
      happened = ap (λ (l : List Account). account ∷ l) m.happened;
      mid = m.mid;
      led = (mid, gives, says, m.led);
      it = subst (λ (l : List Turn). IsOfIt (HasSaid l) c m.mid.objects.items m.account had line text) (append_assoc past (t ∷ []) (m.before ++ m.turn ∷ [])) m.it;
    }
open_next names past first mid t turns account accounts gives says moves are also c had (Accepts w) is = is
open_next names past first mid t turns account accounts gives says moves are also c had (Ends object w call reply) (o, open_is, r) = (o, open_is, run_next names first.objects.items mid.objects.items are also moves object w call o r)
open_next names past first mid t turns account accounts gives says moves are also c had (Withdraws w) is = is
open_next names past first mid t turns account accounts gives says moves are also c had (Quits line) is = tt
open_next names past first mid t turns account accounts gives says moves are also c had Leaves is = tt

-- in the first of these turns
meant_first : (past : List Turn) (come : Bool) (first : Table) (t : Turn) (turns : List Turn) (account : Account) (accounts : List Account) (c : ℕ) (p : Part) →
    IsSo (HasSaid (past ++ t ∷ [])) c come first.objects.items account p → IsToldIn (texts_to c t.said) p → IsMeant past first (t ∷ turns) (account ∷ accounts) c p
meant_first past come first t turns account accounts c Comes is told = tt
meant_first past come first t turns account accounts c (Hears line end) is told = tt
meant_first past come first t turns account accounts c (Between line end text) is told = tt
meant_first past come first t turns account accounts c (Answers line text) is told = record {
  before = [];
  turn = t;
  after = turns;
  cut = refl;
  told = told.0;
  sooner = [];
  account = account;
  later = accounts;
  happened = refl;
  mid = first;
  led = refl;
  answer = is;
}
meant_first past come first t turns account accounts c (Accepts w) is told = tt
meant_first past come first t turns account accounts c (Ends object w call reply) is told = is
meant_first past come first t turns account accounts c (Withdraws w) is told = tt
meant_first past come first t turns account accounts c (Quits line) is told = tt
meant_first past come first t turns account accounts c Leaves is told = tt

-- or behind it
meant_next : (past : List Turn) (first mid : Table) (t : Turn) (turns : List Turn) (account : Account) (accounts : List Account) → Gives first t.asked t.said t.added mid → SaysIn (seen first) t.asked t.said t.added account (seen mid) →
    WantedMoves mid.objects.items first.objects.items → (c : ℕ) (p : Part) → IsMeant (past ++ t ∷ []) mid turns accounts c p → IsMeant past first (t ∷ turns) (account ∷ accounts) c p
meant_next past first mid t turns account accounts gives says moves c Comes is = tt
meant_next past first mid t turns account accounts gives says moves c (Hears line end) is = tt
meant_next past first mid t turns account accounts gives says moves c (Between line end text) is = tt
meant_next past first mid t turns account accounts gives says moves c (Answers line text) is = record {
  before = t ∷ is.before;
  turn = is.turn;
  after = is.after;
  cut = ap (λ (l : List Turn). t ∷ l) is.cut;
  told = is.told;
  sooner = account ∷ is.sooner;
  account = is.account;
  later = is.later;
  happened = ap (λ (l : List Account). account ∷ l) is.happened;
  mid = is.mid;
  led = (mid, gives, says, is.led);
  answer = subst (λ (l : List Turn). IsAnswer (HasSaid l) c is.mid.objects.items is.account line text) (append_assoc past (t ∷ []) (is.before ++ is.turn ∷ [])) is.answer;
}
meant_next past first mid t turns account accounts gives says moves c (Accepts w) is = tt
meant_next past first mid t turns account accounts gives says moves c (Ends object w call reply) is = moves object w call is
meant_next past first mid t turns account accounts gives says moves c (Withdraws w) is = tt
meant_next past first mid t turns account accounts gives says moves c (Quits line) is = tt
meant_next past first mid t turns account accounts gives says moves c Leaves is = tt

-- what turns are
pub record Over (past : List Turn) (first : Table) (turns : List Turn) (last : Table) : Type 0 where
  pub accounts : List Account
  pub told : AreTold first turns accounts last
  pub deal : Deal
  pub dealt : (o : ObjectForm) (j : ℕ) → dealt_ends o (deal j) ≡ ends_in o j accounts
  pub voice : (c n : ℕ) (t : Talk) → StandsIn c n (seen first) t → Voice c (IsMeant past first turns accounts c) (ends_told c deal) (said_by turns) (StandsIn c n (seen last)) t (heard_of c turns)
  pub opens : (c n : ℕ) (t : Talk) (s : StandsIn c n (seen first) t) → OpensOn c (OpenFact past first turns accounts c) (seen first) (seen last) (voice c n t s).parts
  pub bytes : (c n : ℕ) → StandsIn c n (seen first) Away → said_to c turns ≡ to c (said_by turns)

-- all is said to one that has come
told_all : (c : ℕ) (turns : List Turn) → told_here true c turns ≡ to c (said_by turns)
told_all c [] = refl
told_all c (t ∷ turns) = ap (λ (l : List ℕ). to c t.said ++ l) (told_all c turns) ∙ sym (to_more c t.said (said_by turns))

-- one turn, and those behind it
over_next : (before : List Turn) (t : Turn) (turns : List Turn) (first mid last : Table) → Gives first t.asked t.said t.added mid → Turned (HasSaid (before ++ t ∷ [])) (said_by before) (seen first) t.asked t.said t.added (seen mid) → Over (before ++ t ∷ []) mid turns last →
    Over before first (t ∷ turns) last
over_next before t turns first mid last gives one more = record {
  accounts = one.account ∷ more.accounts;
  told = (mid, gives, one.says, more.told);
  deal = deal_both one.deal more.deal;
  dealt = λ o j. dealt_both o (one.deal j) (more.deal j) ∙ ap (λ (l : List End). l ++ dealt_ends o (more.deal j)) (one.dealt o j) ∙ ap (λ (l : List End). ends_by one.account o j ++ l) (more.dealt o j);
  voice = λ c n u s.
      let Is : Part → Type 0 = IsMeant before first (t ∷ turns) (one.account ∷ more.accounts) c in
      let v = voiced_told c (IsSo (HasSaid (before ++ t ∷ [])) c (joins c t.asked) first.objects.items one.account) Is (ends_told c one.deal) t.said (StandsIn c n (seen mid)) u (line_from c t.asked)
      (meant_first before (joins c t.asked) first t turns one.account more.accounts c) (one.speaks c n u s).voice in
      let w = voiced_so c (IsMeant (before ++ t ∷ []) mid turns more.accounts c) Is (ends_told c more.deal) (said_by turns) (StandsIn c n (seen last)) v.now (heard_of c turns)
      (meant_next before first mid t turns one.account more.accounts gives one.says one.moves c) (more.voice c n v.now v.stands) in
      voiced_map c Is (λ (o : ObjectForm) (j : ℕ). ends_told c one.deal o j ++ ends_told c more.deal o j) (ends_told c (deal_both one.deal more.deal)) (t.said ++ said_by turns) (t.said ++ said_by turns)
      (StandsIn c n (seen last)) (StandsIn c n (seen last)) u (line_from c t.asked ++ heard_of c turns) (λ o j. sym (for_both c o (one.deal j) (more.deal j))) refl (λ x is. is)
      (voiced_both c Is (ends_told c one.deal) (ends_told c more.deal) t.said (said_by turns) (StandsIn c n (seen mid)) (StandsIn c n (seen last)) u (line_from c t.asked) (heard_of c turns) v w);
  opens = λ c n u s names had k.
      let v = one.speaks c n u s in
      let rest = more.voice c n v.voice.now v.voice.stands in
      let a = v.opens names had k in
      let b = more.opens c n v.voice.now v.voice.stands names a.now a.knows in
      let Is : Option Open → Part → Type 0 = OpenFact before first (t ∷ turns) (one.account ∷ more.accounts) c in
      record {
        now = b.now;
        along = along_both Is v.voice.parts rest.parts had a.now b.now
            (along_told (Fact (HasSaid (before ++ t ∷ [])) c first.objects.items one.account) Is (texts_to c t.said) (open_first before first t turns one.account more.accounts c) v.voice.parts had a.now
            (subst (λ (l : List (List ℕ)). Every (IsToldIn l) v.voice.parts) v.voice.texts (parts_told v.voice.parts)) a.along)
            (along_map (OpenFact (before ++ t ∷ []) mid turns more.accounts c) Is (open_next names before first mid t turns one.account more.accounts gives one.says one.moves k.names_are a.knows.names_are c) rest.parts a.now b.now b.along);
        knows = b.knows;
      };
  bytes = λ c n s. come c n s (joins c t.asked) refl;
}
  where
    come : (c n : ℕ) → StandsIn c n (seen first) Away → (b : Bool) → joins c t.asked ≡ b → (if b then to c t.said else []) ++ told_here b c turns ≡ to c (t.said ++ said_by turns)
    come c n s true is = ap (λ (l : List ℕ). to c t.said ++ l) (told_all c turns) ∙ sym (to_more c t.said (said_by turns))
    come c n s false is =
        let v = subst (λ (b : Bool). Voice c (IsSo (HasSaid (before ++ t ∷ [])) c b first.objects.items one.account) (ends_told c one.deal) t.said (StandsIn c n (seen mid)) Away (line_from c t.asked)) is (one.speaks c n Away s).voice in
        let none = stays_away (HasSaid (before ++ t ∷ [])) c first.objects.items one.account v.parts v.now v.course v.all in
        more.bytes c n (subst (λ (u : Talk). StandsIn c n (seen mid) u) none.0 v.stands)
        ∙ ap (λ (l : List ℕ). l ++ to c (said_by turns)) (sym (ap put_together (sym v.texts ∙ none.1)) ∙ together_to c t.said) ∙ sym (to_more c t.said (said_by turns))

pub over : (before turns : List Turn) (first last : Table) → AreCut (before ++ turns) → Awaits (HasSaid before) (said_by before) first.objects.items (seen first).peers → Runs Gives first turns last → Over before first turns last
over before [] first last cut a runs = record {
  accounts = [];
  told = runs;
  deal = no_deal;
  dealt = λ o j. refl;
  voice = λ c n t s. voiced_none c (IsMeant before first [] [] c) [] (StandsIn c n (seen last)) t refl (subst (λ (x : Table). StandsIn c n (seen x) t) (sym runs) s);
  opens = λ c n t s names had k. record { now = had; along = refl; knows = subst (λ (x : Table). Knows names c had (seen x)) (sym runs) k };
  bytes = λ c n s. refl;
}
over before (t ∷ turns) first last cut a (mid, gives, runs) =
    let one = turned before turns t (said_by before) (seen first) (seen mid) t.asked t.said t.added refl cut a gives in
    over_next before t turns first mid last gives one
    (over (before ++ t ∷ []) turns mid last (subst AreCut (sym (turns_on before t turns)) cut)
    (subst (λ (p : Texts). Awaits (HasSaid (before ++ t ∷ [])) p mid.objects.items (seen mid).peers) (sym (said_next before t)) one.awaits) runs)

pub kept_all : (first : Table) (turns : List Turn) (accounts : List Account) (c : ℕ) (parts : List Part) → Every (IsMeant [] first turns accounts c) parts → AllKept first.objects.items parts
kept_all first turns accounts c [] all = tt
kept_all first turns accounts c (p ∷ parts) (one, all) = (meant_kept [] first turns accounts c p one, kept_all first turns accounts c parts all)

-- nobody is there
pub all_away : (first : Table) → IsEmpty (seen first) → (c : ℕ) → StandsIn c (length (seen first).peers) (seen first) Away
all_away first empty c = record {
  size = refl;
  only = λ place p there who. absurd (nobody_in c place (Some p) there who);
  is_at = λ e. nobody_in c (c % length (seen first).peers) (slice_get (seen first).peers (c % length (seen first).peers)) refl e;
}
  where
    none_some : (c : ℕ) → None ≡ Some c → ⊥
    none_some c e = cc

    nobody_in : (c place : ℕ) (x : Option Peer) → slice_get (seen first).peers place ≡ x → who_in x ≡ Some c → ⊥
    nobody_in c place None at e = none_some c e
    nobody_in c place (Some p) at e = none_some c (sym (empty place p at).0 ∙ e)

-- what turns are, from a table on at which nobody is
pub over_all : (first last : Table) (turns : List Turn) → Runs Gives first turns last → AreCut turns → AllHeld first.objects.items → IsEmpty (seen first) → Over [] first turns last
over_all first last turns runs cut held empty =
    over [] turns first last cut (quiet_awaits (seen first) held (λ place p there. let e = empty place p there in (e.1, e.2))) runs

-- and what each connection is told, and who is told of which call
abbrev pub told_once : (first last : Table) (turns : List Turn) → IsEmpty (seen first) → Over [] first turns last → AreToldOnce first last turns
told_once first last turns empty all = record {
  order = record {
    history = record {
      accounts = all.accounts;
      told = all.told;
      lives = λ j o begun earlier l. lives_on first last turns all.accounts j o begun earlier all.told l;
    };
    each = λ c.
        let v = all.voice c (length (seen first).peers) Away (all_away first empty c) in
        record {
          parts = v.parts;
          now = v.now;
          course = v.course;
          lines = v.heard;
          texts = v.texts;
          kept = kept_all first turns all.accounts c v.parts v.all;
          picked = λ o j. subst (λ (l : List End). ArePicked l (ends_in o j all.accounts)) (sym (v.ends_are o j))
              (subst (λ (l : List End). ArePicked (ends_for c o (all.deal j)) l) (all.dealt o j) (picked_for c o (all.deal j)));
        };
  };
  dealt = all.deal;
  all = all.dealt;
  each = λ o j c. (all.voice c (length (seen first).peers) Away (all_away first empty c)).ends_are o j;
}

pub ends_are_told_once : EndsAreToldOnce
ends_are_told_once first last turns runs cut held empty = told_once first last turns empty (over_all first last turns runs cut held empty)

pub answers_are_in_order : AnswersAreInOrder
answers_are_in_order first last turns runs cut held empty = (ends_are_told_once first last turns runs cut held empty).order

pub crash_leaves_in_order : CrashLeavesInOrder
crash_leaves_in_order first limits seen_so found waits honest between held empty =
    let left : LeavesAnswered first limits seen_so found = crash_leaves_answered first limits seen_so found waits honest between in
    let s = left.left.survives in
    record { answered = left; order = answers_are_in_order first s.last (s.answered ++ s.later) s.runs (λ who. (_, _, s.heard who)) held empty }

pub crash_leaves_told_once : CrashLeavesToldOnce
crash_leaves_told_once first limits seen_so found waits honest between held empty =
    let left : LeavesAnswered first limits seen_so found = crash_leaves_answered first limits seen_so found waits honest between in
    let s = left.left.survives in
    record { answered = left; told = ends_are_told_once first s.last (s.answered ++ s.later) s.runs (λ who. (_, _, s.heard who)) held empty }
