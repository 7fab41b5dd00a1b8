-- An epoch and its clients, line by line.
use Rattle.std.proofs.Common.{◌≡◌, inl, inr, ℕ, suc, ◌+◌, ◌-◌, Bool, true, false, List, [], ◌∷◌, ◌++◌, length, refl, sym, ap, ◌∙◌, subst, arith, length-append, cond}
use Rattle.std.specs.Prelude.{Option, Some, None, Result, Ok, Err, IfOk, IsTrue}
use Rattle.std.specs.declared.alloc.AllocError.{AllocError}
use Rattle.audit_core.specs.declared.told.ToldReply.{ToldReply}
use Rattle.live_core.specs.declared.front.CarriedCall.{CarriedCall}
use Rattle.audit_core.specs.declared.epoch_replay.Known.{Known}
use Rattle.decl_core.specs.ObjectForm.{ObjectForm}
use Rattle.audit_core.specs.View.{told_view}
use Rattle.live_core.specs.Front.{Opening}
use Rattle.guest_core.specs.Guests.{Guests}
use Rattle.audit_core.specs.declared.epoch_replay.ReplayNote.{ReplayNote}
use Rattle.audit_core.specs.declared.epoch_replay.Replay.{Replay}
use Rattle.audit_core.specs.declared.epoch_replay.ReplayNote.TheVariants as notes
use Rattle.audit_core.specs.EpochSaid.{Says, Asked, a_start}
use Rattle.audit_core.specs.Steps.{Step, ran, cancelled, named, Heard, nothing_heard, ended_in}
use Rattle.audit_core.specs.EpochTells.{Tells, Tell, start_told, end_told, cancel_told, name_told}
use Rattle.audit_core.specs.Sound.{IsCut, IsFirstFault}
use Rattle.audit_core.specs.EpochStands.{Stands, IsNote, known_call}
use Rattle.audit_core.proofs.EpochStanding.{stands_sound}
use Rattle.audit_core.proofs.EpochExact.{sound_no_fault}
use Rattle.recover_core.specs.declared.playing.Playing.{Playing}
use Rattle.recover_core.specs.declared.playing.RefusedLine.{RefusedLine}
use Rattle.recover_core.specs.declared.playing.RefusedLine.TheVariants.{Faulty, Odd}
use Rattle.recover_core.specs.Lines.{IsLine, AreLines, joined}
use Rattle.recover_core.specs.Clients.{Makes, MakeAll}
use Rattle.recover_core.specs.Odd.{CannotCome, IsOdd, IsOddNote}
use Rattle.recover_core.specs.Playing.{begun_by, TakesNote, Counts, IsRest, PlayStands, StepsOn, PlaysSo, PlayedTo, IsContradiction, IsRefusedAt}
use Rattle.recover_core.proofs.Cutting.{joined_more, lines_more, take_front}

some_none : {X : Type 0} {x : X} → ◌≡◌ {A = Option X} (Some x) None → ⊥
some_none is = cc

longer : (x : Step) (steps : List Step) → x ∷ steps ≡ steps → ⊥
longer x steps is = let l : suc (length steps) ≡ length steps = ap length is in absurd (omega (arith, l))

-- a line that told no step told that a call started
started_so : (o : ObjectForm) (f : Opening) (heard : Heard) (line : List ℕ) (after : Heard) → Tells o (begun_by f) heard line after → after.steps ≡ heard.steps → StepsOn false heard after
started_so o f heard line after (start_told says is few) same = (is.rests, (λ none. some_none none), same)
started_so o f heard line after (end_told {reply = r} {call = c} says runs is) same = absurd (longer (ran c r) heard.steps same)
started_so o f heard line after (cancel_told {call = c} says is) same = absurd (longer (cancelled c) heard.steps same)
started_so o f heard line after (name_told {session = s} {client = n} says rests is spelled) same = absurd (longer (named s _) heard.steps same)

-- behind a line that told a step no call runs
rests_so : (o : ObjectForm) (f : Opening) (heard : Heard) (line : List ℕ) (after : Heard) (step : Step) → Tells o (begun_by f) heard line after → after.steps ≡ step ∷ heard.steps → StepsOn true heard after
rests_so o f heard line after step (start_told says is few) same = absurd (longer step heard.steps (sym same))
rests_so o f heard line after step (end_told says runs is) same = (refl, (step, same))
rests_so o f heard line after step (cancel_told says is) same = (is.rests, (step, same))
rests_so o f heard line after step (name_told says rests is spelled) same = (rests, (step, same))

-- a line behind which a call runs tells that it started
start_said : (o : ObjectForm) (f : Opening) (heard : Heard) (line : List ℕ) (after : Heard) → Tells o (begun_by f) heard line after → StepsOn false heard after → (asked : Asked) × Says line (a_start asked)
start_said o f heard line after (start_told {asked = asked} says is few) on = (asked, says)
start_said o f heard line after (end_told says runs is) on = absurd (on.1 refl)
start_said o f heard line after (cancel_told says is) on = absurd (on.1 is.rests)
start_said o f heard line after (name_told says rests is spelled) on = absurd (on.1 rests)

-- a step more, by a line of which so much is known
step_more : (o : ObjectForm) (f : Opening) (now : ℕ) (opened : Guests) (heard : Heard) (line : List ℕ) (old new : Playing) (after : Heard) (step : Step) → PlayStands o f now opened old heard →
    Tells o (begun_by f) heard line after → after.steps ≡ step ∷ heard.steps → Stands o (begun_by f) new.replay after → MakeAll f.base f.carried now opened (step ∷ heard.steps) new.guests → new.ended ≡ ended_in (step ∷ heard.steps) →
    new.numbers ≡ old.numbers → new.now ≡ old.now → PlaysSo o f now opened heard line (Ok true) new
step_more o f now opened heard line old new after step p told same stands made ended numbers second = (
  after,
  told,
  rests_so o f heard line after step told same,
  record {
    stands = stands;
    clients = subst (λ steps. MakeAll f.base f.carried now opened steps new.guests) (sym same) made;
    ended = ended ∙ ap ended_in (sym same);
    base = ap (λ n. n.base) numbers ∙ p.base;
    carried = ap (λ n. n.carried.items) numbers ∙ p.carried;
    second = second ∙ p.second;
  },
)

-- what a note makes of the clients, in the words of the front
taken : (o : ObjectForm) (f : Opening) (now : ℕ) (opened : Guests) (heard : Heard) (old : Playing) (note : ReplayNote) (guests : Guests) → PlayStands o f now opened old heard → TakesNote old.numbers.base old.numbers.carried.items old.now old.guests note guests →
    TakesNote f.base f.carried now old.guests note guests
taken o f now opened heard old note guests p takes =
    subst (λ b. TakesNote b f.carried now old.guests note guests) p.base
    (subst (λ c. TakesNote old.numbers.base c now old.guests note guests) p.carried (subst (λ n. TakesNote old.numbers.base old.numbers.carried.items n old.guests note guests) p.second takes))

if_ok : {A E : Type 0} {P Q : A → Type 0} (r : Result A E) → ((a : A) → P a → Q a) → IfOk r P → IfOk r Q
if_ok (Ok a) on is = on a is
if_ok (Err e) on is = tt

module _ (r : Result Bool AllocError) (base now : ℕ) (carried : List CarriedCall) (old new : Guests) (note : ReplayNote) where
  abbrev Taken : Bool → Type 0
  Taken b = IsTrue b → TakesNote base carried now old note new

  pub took_ran : (k : Known) (t : ToldReply) → note ≡ notes.Ran k t → IfOk r (λ yes. IsTrue yes → (n : ℕ) → Makes base carried n old (ran (known_call k) (told_view t)) new) → IfOk r Taken
  took_ran k t is = if_ok r (λ b h yes. subst (λ x. TakesNote base carried now old x new) (sym is) (h yes now))

  pub took_cancelled : (k : Known) → note ≡ notes.Cancelled k → IfOk r (λ yes. IsTrue yes → (n : ℕ) → Makes base carried n old (cancelled (known_call k)) new) → IfOk r Taken
  took_cancelled k is = if_ok r (λ b h yes. subst (λ x. TakesNote base carried now old x new) (sym is) (h yes now))

  pub took_name : (session : ℕ) (name : List ℕ) → note ≡ notes.Named session name → IfOk r (λ yes. IsTrue yes → (b : ℕ) (c : List CarriedCall) → Makes b c now old (named session name) new) → IfOk r Taken
  took_name session name is = if_ok r (λ b h yes. subst (λ x. TakesNote base carried now old x new) (sym is) (h yes base carried))

module _ (r : Result Bool AllocError) (base : ℕ) (carried : List CarriedCall) (old : Guests) (note : ReplayNote) where
  abbrev Odd_note : Bool → Type 0
  Odd_note b = b ≡ false → IsOddNote base carried old note

  pub odd_ran : (k : Known) (t : ToldReply) → note ≡ notes.Ran k t → IfOk r (λ yes. yes ≡ false → IsOdd base carried old (ran (known_call k) (told_view t))) → IfOk r Odd_note
  odd_ran k t is = if_ok r (λ b h no. subst (IsOddNote base carried old) (sym is) (h no))

  pub odd_cancelled : (k : Known) → note ≡ notes.Cancelled k → IfOk r (λ yes. yes ≡ false → IsOdd base carried old (cancelled (known_call k))) → IfOk r Odd_note
  odd_cancelled k is = if_ok r (λ b h no. subst (IsOddNote base carried old) (sym is) (h no))

  pub odd_name : (session : ℕ) (name : List ℕ) → note ≡ notes.Named session name → IfOk r (λ yes. yes ≡ false → CannotCome old session) → IfOk r Odd_note
  odd_name session name is = if_ok r (λ b h no. subst (IsOddNote base carried old) (sym is) (h no))

-- a line was heard, and its clients were told of it
pub note_taken : (o : ObjectForm) (f : Opening) (now : ℕ) (opened : Guests) (heard : Heard) (line : List ℕ) (old new : Playing) (note : ReplayNote) (count : ℕ) (rests : Bool) → PlayStands o f now opened old heard →
    (after : Heard) × Tells o (begun_by f) heard line after × IsNote heard note after × Stands o (begun_by f) new.replay after →
    TakesNote old.numbers.base old.numbers.carried.items old.now old.guests note new.guests → Counts note count → new.ended ≡ old.ended + count → new.numbers ≡ old.numbers → new.now ≡ old.now → IsRest note rests →
    PlaysSo o f now opened heard line (Ok rests) new
note_taken o f now opened heard line old new notes.Began count rests p h takes counts ended numbers second is =
    subst (λ b. PlaysSo o f now opened heard line (Ok b) new) (sym is) (
      h.0,
      h.1,
      started_so o f heard line h.0 h.1 h.2,
      record {
        stands = h.3;
        clients = subst (λ g. MakeAll f.base f.carried now opened h.0.steps g) (sym takes) (subst (λ steps. MakeAll f.base f.carried now opened steps old.guests) (sym h.2) p.clients);
        ended = omega (arith, ended, counts, p.ended, ap ended_in h.2);
        base = ap (λ n. n.base) numbers ∙ p.base;
        carried = ap (λ n. n.carried.items) numbers ∙ p.carried;
        second = second ∙ p.second;
      },
    )
note_taken o f now opened heard line old new (notes.Ran known reply) count rests p h takes counts ended numbers second is =
    subst (λ b. PlaysSo o f now opened heard line (Ok b) new) (sym is)
    (step_more o f now opened heard line old new h.0 (ran (known_call known) (told_view reply)) p h.1 (ap (λ (x : Heard). x.steps) h.2) h.3
    (old.guests, p.clients, taken o f now opened heard old (notes.Ran known reply) new.guests p takes) (omega (arith, ended, counts, p.ended)) numbers second)
note_taken o f now opened heard line old new (notes.Cancelled known) count rests p h takes counts ended numbers second is =
    subst (λ b. PlaysSo o f now opened heard line (Ok b) new) (sym is)
    (step_more o f now opened heard line old new h.0 (cancelled (known_call known)) p h.1 (ap (λ (x : Heard). x.steps) h.2) h.3
    (old.guests, p.clients, taken o f now opened heard old (notes.Cancelled known) new.guests p takes) (omega (arith, ended, counts, p.ended)) numbers second)
note_taken o f now opened heard line old new (notes.Named session name) count rests p h takes counts ended numbers second is =
    subst (λ b. PlaysSo o f now opened heard line (Ok b) new) (sym is)
    (step_more o f now opened heard line old new h.0 (named session name) p h.1 (ap (λ (x : Heard). x.steps) h.2) h.3
    (old.guests, p.clients, taken o f now opened heard old (notes.Named session name) new.guests p takes) (omega (arith, ended, counts, p.ended)) numbers second)

-- what a note tells does not fit the clients, in the words of the front
odd_note : (o : ObjectForm) (f : Opening) (now : ℕ) (opened : Guests) (heard : Heard) (old : Playing) (note : ReplayNote) → PlayStands o f now opened old heard → IsOddNote old.numbers.base old.numbers.carried.items old.guests note → IsOddNote f.base f.carried old.guests note
odd_note o f now opened heard old note p odd = subst (λ b. IsOddNote b f.carried old.guests note) p.base (subst (λ c. IsOddNote old.numbers.base c old.guests note) p.carried odd)

-- a line was heard, and what it told does not fit the clients
pub note_odd : (o : ObjectForm) (f : Opening) (now : ℕ) (opened : Guests) (heard : Heard) (line : List ℕ) (old : Playing) (replay : Replay) (note : ReplayNote) → PlayStands o f now opened old heard →
    (after : Heard) × Tells o (begun_by f) heard line after × IsNote heard note after × Stands o (begun_by f) replay after → IsOddNote old.numbers.base old.numbers.carried.items old.guests note → IsContradiction o f now opened heard line
note_odd o f now opened heard line old replay notes.Began p h odd = absurd odd
note_odd o f now opened heard line old replay (notes.Ran known reply) p h odd = record {
  after = h.0;
  told = h.1;
  step = ran (known_call known) (told_view reply);
  steps = ap (λ (x : Heard). x.steps) h.2;
  clients = old.guests;
  made = p.clients;
  odd = odd_note o f now opened heard old (notes.Ran known reply) p odd;
}
note_odd o f now opened heard line old replay (notes.Cancelled known) p h odd = record {
  after = h.0;
  told = h.1;
  step = cancelled (known_call known);
  steps = ap (λ (x : Heard). x.steps) h.2;
  clients = old.guests;
  made = p.clients;
  odd = odd_note o f now opened heard old (notes.Cancelled known) p odd;
}
note_odd o f now opened heard line old replay (notes.Named session name) p h odd = record {
  after = h.0;
  told = h.1;
  step = named session name;
  steps = ap (λ (x : Heard). x.steps) h.2;
  clients = old.guests;
  made = p.clients;
  odd = odd_note o f now opened heard old (notes.Named session name) p odd;
}

-- all lines

-- the lines before this rest were played
pub record Follows (o : ObjectForm) (f : Opening) (now : ℕ) (opened : Guests) (behind rest : List ℕ) (p : Playing) (number mark : ℕ) : Type 0 where
  pub before : List (List ℕ)
  pub each : AreLines before
  pub cut : behind ≡ joined before ++ rest
  pub counted : number ≡ length before
  pub heard : Heard
  pub told : Tell o (begun_by f) nothing_heard before heard
  pub stands : PlayStands o f now opened p heard
  pub kept : List (List ℕ)
  pub kept_so : IsCut before kept
  pub resting : heard.running ≡ None → kept ≡ before
  pub kept_told : Tell o (begun_by f) nothing_heard kept (record { steps = heard.steps; running = None })
  pub mark_is : mark ≡ length (joined kept)

pub follow_none : (o : ObjectForm) (f : Opening) (now : ℕ) (opened : Guests) (behind : List ℕ) (p : Playing) → PlayStands o f now opened p nothing_heard → Follows o f now opened behind behind p 0 0
follow_none o f now opened behind p s = record {
  before = [];
  each = tt;
  cut = refl;
  counted = refl;
  heard = nothing_heard;
  told = refl;
  stands = s;
  kept = [];
  kept_so = inl refl;
  resting = λ none. refl;
  kept_told = refl;
  mark_is = refl;
}

tell_more : (o : ObjectForm) (f : Opening) (first : Heard) (before : List (List ℕ)) (line : List ℕ) (mid after : Heard) → Tell o (begun_by f) first before mid → Tells o (begun_by f) mid line after → Tell o (begun_by f) first (before ++ line ∷ []) after
tell_more o f first [] line mid after same told = (after, subst (λ h. Tells o (begun_by f) h line after) same told, refl)
tell_more o f first (l ∷ before) line mid after told one = (told.0, told.1, tell_more o f told.0 before line mid after told.2 one)

rested : (heard : Heard) → heard.running ≡ None → ◌≡◌ {A = Heard} (record { steps = heard.steps; running = None }) heard
rested heard none = ap (λ r. record { steps = heard.steps; running = r }) (sym none)

module _ (o : ObjectForm) (f : Opening) (now : ℕ) (opened : Guests) (behind rest line tail : List ℕ) (old new : Playing) (number mark next here : ℕ) where
  more_by : (rests : Bool) → Follows o f now opened behind rest old number mark → IsLine line → rest ≡ line ++ 10 ∷ tail →
      ((heard : Heard) → PlayStands o f now opened old heard → PlaysSo o f now opened heard line (Ok rests) new) → next ≡ number + 1 → here ≡ cond rests (length behind - length tail) mark → Follows o f now opened behind tail new next here
  more_by true s is cut hears counted marks =
      let h = hears s.heard s.stands in
      let text : behind ≡ joined (s.before ++ line ∷ []) ++ tail = s.cut ∙ ap (λ t. joined s.before ++ t) cut ∙ joined_more s.before line tail in
      record {
        before = s.before ++ line ∷ [];
        each = lines_more s.before line s.each is;
        cut = text;
        counted = omega (arith, counted, s.counted, length-append s.before (line ∷ []));
        heard = h.0;
        told = tell_more o f nothing_heard s.before line s.heard h.0 s.told h.1;
        stands = h.3;
        kept = s.before ++ line ∷ [];
        kept_so = inl refl;
        resting = λ none. refl;
        kept_told = subst (Tell o (begun_by f) nothing_heard (s.before ++ line ∷ [])) (sym (rested h.0 h.2.0)) (tell_more o f nothing_heard s.before line s.heard h.0 s.told h.1);
        mark_is = omega (arith, marks, ap length text, length-append (joined (s.before ++ line ∷ [])) tail);
      }
  more_by false s is cut hears counted marks =
      let h = hears s.heard s.stands in
      let same : ◌≡◌ {A = Heard} (record { steps = h.0.steps; running = None }) s.heard = ap (λ steps. record { steps = steps; running = None }) h.2.2 ∙ rested s.heard h.2.0 in
      record {
        before = s.before ++ line ∷ [];
        each = lines_more s.before line s.each is;
        cut = s.cut ∙ ap (λ t. joined s.before ++ t) cut ∙ joined_more s.before line tail;
        counted = omega (arith, counted, s.counted, length-append s.before (line ∷ []));
        heard = h.0;
        told = tell_more o f nothing_heard s.before line s.heard h.0 s.told h.1;
        stands = h.3;
        kept = s.before;
        kept_so = (let started = start_said o f s.heard line h.0 h.1 h.2 in inr (line, started.0, started.1, refl));
        resting = λ none. absurd (h.2.1 none);
        kept_told = subst (Tell o (begun_by f) nothing_heard s.before) (sym same) s.told;
        mark_is = marks ∙ s.mark_is ∙ ap (λ ls. length (joined ls)) (s.resting h.2.0);
      }

-- a line more
pub follow_more : (o : ObjectForm) (f : Opening) (now : ℕ) (opened : Guests) (behind rest line tail : List ℕ) (old new : Playing) (number mark next here : ℕ) (rests : Bool) → Follows o f now opened behind rest old number mark → IsLine line → rest ≡ line ++ 10 ∷ tail →
    ((heard : Heard) → PlayStands o f now opened old heard → PlaysSo o f now opened heard line (Ok rests) new) → next ≡ number + 1 → here ≡ cond rests (length behind - length tail) mark → Follows o f now opened behind tail new next here
follow_more o f now opened behind rest line tail old new number mark next here rests = more_by o f now opened behind rest line tail old new number mark next here rests

-- no line more
pub follow_end : (o : ObjectForm) (f : Opening) (now : ℕ) (opened : Guests) (behind rest : List ℕ) (p : Playing) (number mark : ℕ) → Follows o f now opened behind rest p number mark → IsLine rest → PlayedTo o f now opened behind mark p
follow_end o f now opened behind rest p number mark s none = record {
  lines = s.before;
  rest = rest;
  each = s.each;
  open_end = none;
  cut = s.cut;
  heard = s.heard;
  stands = s.stands;
  played = record {
    kept = s.kept;
    cut = s.kept_so;
    told = s.kept_told;
    rests = refl;
    sound = record { satisfied = s.stands.stands.counted.together.satisfied; legal = s.stands.stands.legal };
  };
  mark_is = s.mark_is;
}

-- a line with a fault
pub follow_fault : (o : ObjectForm) (f : Opening) (now : ℕ) (opened : Guests) (behind rest line tail : List ℕ) (old new : Playing) (number mark next : ℕ) (refused : RefusedLine) → Follows o f now opened behind rest old number mark → IsLine line → rest ≡ line ++ 10 ∷ tail →
    ((heard : Heard) → PlayStands o f now opened old heard → PlaysSo o f now opened heard line (Err refused) new) → next ≡ number + 1 → IsRefusedAt o f now opened behind next refused
follow_fault o f now opened behind rest line tail old new number mark next Odd s is cut hears counted = record {
  before = s.before;
  line = line;
  rest = tail;
  each = lines_more s.before line s.each is;
  cut = s.cut ∙ ap (λ t. joined s.before ++ t) cut ∙ joined_more s.before line tail;
  counted = omega (arith, counted, s.counted);
  heard = s.heard;
  told = s.told;
  sound = stands_sound o (begun_by f) old.replay s.heard s.stands.stands;
  contradicts = hears s.heard s.stands;
}
follow_fault o f now opened behind rest line tail old new number mark next (Faulty fault) s is cut hears counted =
    let first : IsFirstFault o (begun_by f) (s.before ++ line ∷ []) next fault = record {
      before = s.before;
      line = line;
      after = [];
      cut = refl;
      counted = omega (arith, counted, s.counted);
      heard = s.heard;
      told = s.told;
      sound = stands_sound o (begun_by f) old.replay s.heard s.stands.stands;
      faulty = hears s.heard s.stands;
    } in
    record {
      lines = s.before ++ line ∷ [];
      rest = tail;
      each = lines_more s.before line s.each is;
      cut = s.cut ∙ ap (λ t. joined s.before ++ t) cut ∙ joined_more s.before line tail;
      first = first;
      unsound = λ more heard told sound. sound_no_fault o (begun_by f) ((s.before ++ line ∷ []) ++ more) heard (length (s.before ++ line ∷ [])) next fault told sound
          (subst (λ ls. IsFirstFault o (begun_by f) ls next fault) (sym (take_front (s.before ++ line ∷ []) more)) first);
    }
