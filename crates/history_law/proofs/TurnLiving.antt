-- Objects over all their epochs and lives.
use Rattle.std.proofs.Common.{◌≡◌, inl, inr, ◌∙◌, ap, sym, subst, refl, arith, ℕ, ◌<◌, List, [], ◌∷◌, ◌++◌, length, append_assoc, eqb-true}
use Rattle.std.specs.Prelude.{Bool, true, false, ◌==◌, Option, Some, slice_get}
use Rattle.std.proofs.lemmas.Bool.{eqb-false}
use Rattle.std.proofs.lemmas.List.{append-nil, length-map}
use Rattle.std.proofs.lemmas.Option.{same_Some, slice_get_within}
use Rattle.path_tree.specs.Trace.{Event, running_calls}
use Rattle.path_count.specs.Stands.{StandsFor}
use Rattle.value_core.specs.Contents.{Contents}
use Rattle.decl_core.specs.declared.object.Object.{Object}
use Rattle.decl_core.specs.ObjectForm.{ObjectForm}
use Rattle.decl_core.specs.ObjectMap.{object_of}
use Rattle.apply_core.specs.History.{End}
use Rattle.word_core.specs.Events.{history_of}
use Rattle.path_count.specs.Past.{events_of}
use Rattle.live_core.specs.declared.call.Limits.{Limits}
use Rattle.live_core.specs.Hall.{Told}
use Rattle.live_core.specs.Text.{front_text}
use Rattle.audit_core.specs.Steps.{Step, Begun, nothing_heard, told_by, happened_of}
use Rattle.recover_core.specs.declared.recover.House.{House}
use Rattle.recover_core.specs.Playing.{begun_by}
use Rattle.live_core.specs.Fronts.{front_of}
use Rattle.live_core.specs.Scene.{Scene, next_base, next_epoch}
use Rattle.live_core.specs.HostedSteps.{BeginsBy, rests}
use Rattle.history_law.specs.Happens.{all_happen}
use Rattle.history_law.specs.Told.{heard_of}
use Rattle.history_law.proofs.Beginning.{followed_stands}
use Rattle.history_law.proofs.WrittenTelling.{steps_are_told}
use Rattle.history_law.specs.Read.{IsReadOf}
use Rattle.history_law.specs.Year.{AreEpochs, Epoch, IsEpoch, Follows, epoch_of, all_ends, first_opening}
use Rattle.history_law.proofs.Reading.{read_is_epoch, epochs_up_to}
use Rattle.history_law.proofs.Sound.{kept_is_epoch, begun_follows, epochs_are_sound}
use Rattle.keep_loop.specs.Texts.{to}
use Rattle.keep_loop.specs.Turns.{Asked, Turn, Runs}
use Rattle.keep_loop.specs.Turns.Asked.{Heard, Noted, Changes}
use Rattle.keep_loop.specs.Epochs.{BeginsNot, BeginsNone, change_to}
use Rattle.client_core.specs.Deeds.{Texts}
use Rattle.client_core.specs.Custody.{held_lines, held_lines_in}
use Rattle.client_core.specs.Moves.{BeginsHeld}
use Rattle.client_core.specs.State.{State}
use Rattle.history_law.specs.Said.{Account, Went, AllWent, SaysIn}
use Rattle.history_law.proofs.Going.{all_more}
use Rattle.history_law.proofs.Turning.{turns_say}
use Rattle.table_core.specs.Moves.{Gives}
use Rattle.table_core.specs.Seen.{seen}
use Rattle.table_core.specs.declared.table.Table.{Table}
use Rattle.history_law.specs.Lived.{BeginsAt, HasLived, epoch_in, StoodHasLived, IsBegunIn, TurnsLiveOn, ReadLivesOn, StartLivesOn, CrashLeavesOneHistory}
use Rattle.history_law.specs.Kept.{LeavesAnswered}
use Rattle.history_law.specs.Replied.{AreTold, ends_in, Lives, TurnsHaveOneHistory}
use Rattle.history_law.proofs.KeptGoing.{get_at, set_at, set_other, crash_leaves_answered}
use Rattle.history_law.proofs.Grown.{ends_more, epochs_grow, opening_grows, ends_grow}
use Rattle.history_law.proofs.Starting.{behind_stands}

pub stood_has_lived : StoodHasLived
stood_has_lived t j o s = record {
  scene = s.scene;
  there = s.there;
  names = s.names;
  heard = s.heard;
  stands = s.stands;
  base = 0;
  epochs = subst (λ x. IsEpoch x (epoch_of s.scene.hall (told_by s.begun s.heard.steps) 0)) s.stands.object
      (kept_is_epoch s.scene.hall (told_by s.begun s.heard.steps) 0 s.stands.held.kept);
}

-- it has lived on, by these ends
lived_on : (last : Table) (j : ℕ) (o : ObjectForm) (turns : List Turn) (was : Begun) (opening : List Contents) (ends : List End) (begun : Begun) → IsBegunIn o j turns was begun →
    (earlier : List Epoch) (l : HasLived last j o begun earlier) → first_opening (epoch_in l) earlier ≡ opening → (done : List End) → all_ends o (epoch_in l) earlier ≡ ends ++ done →
    Lives last j o turns was opening ends done
lived_on last j o turns was opening ends begun by earlier l opened done is = (
  record {
    begun = begun;
    by = by;
    earlier = earlier;
    lived = l;
    sound = epochs_are_sound o (epoch_in l) earlier l.epochs;
    opening_is = opened;
    done = done;
    ends_are = is;
  },
  refl,
)

module _ (old new : Table) (j : ℕ) (o : ObjectForm) (b : Begun) (earlier : List Epoch) (l : HasLived old j o b earlier) where
  abbrev d : Epoch
  d = epoch_in l

  -- it lives on over one turn, by these ends
  abbrev LivesBy : Asked → Texts → Texts → List End → Type 0
  LivesBy asked said added done =
      Lives new j o (record { asked = asked; said = said; added = added } ∷ []) b (first_opening d earlier) (all_ends o d earlier) done

  -- in the same epoch
  lives_in : (turn : Turn) → BeginsNone j (turn ∷ []) → (lines : List ℕ) (steps : List Step) (k : Scene) → slice_get new.objects.items j ≡ Some k → Went l.scene lines steps k →
      Lives new j o (turn ∷ []) b (first_opening d earlier) (all_ends o d earlier) (history_of o (happened_of steps))
  lives_in turn none lines steps k there (all, is_all) =
      let told = steps_are_told o b l.heard l.scene k lines all l.names l.stands in
      let heard = all_happen all l.heard.steps in
      let now : Epoch = epoch_of k.hall (told_by b heard) l.base in
      let is : IsEpoch o now = subst (λ x. IsEpoch x now) told.stands.object (kept_is_epoch k.hall (told_by b heard) l.base told.stands.held.kept) in
      let done = history_of o (happened_of steps) in
      let more : history_of o (happened_of heard) ≡ history_of o (happened_of l.heard.steps) ++ done =
      ap (λ (x : List Step). history_of o (happened_of x)) (all_more l.scene k lines all l.heard.steps ∙ ap (λ (x : List Step). x ++ l.heard.steps) (sym is_all))
      ∙ ends_more o steps l.heard.steps in
      lived_on new j o (turn ∷ []) b (first_opening d earlier) (all_ends o d earlier) b (inl (none, refl)) earlier (record {
        scene = k;
        there = there;
        names = l.names;
        heard = heard_of heard;
        stands = told.stands;
        base = l.base;
        epochs = epochs_grow o d now earlier refl refl refl is l.epochs;
      }) (opening_grows d now earlier refl) done (ends_grow o d now earlier done more)

  -- where it is as it was
  lives_still : (turn : Turn) → BeginsNone j (turn ∷ []) → (lines : List ℕ) → lines ≡ [] → slice_get new.objects.items j ≡ slice_get old.objects.items j →
      Lives new j o (turn ∷ []) b (first_opening d earlier) (all_ends o d earlier) []
  lives_still turn none lines quiet same = lives_in turn none lines [] l.scene (same ∙ l.there) (subst (λ (x : List ℕ). Went l.scene x [] l.scene) (sym quiet) (rests, refl))

  -- the epoch that it begins is one behind that
  pub begun_epochs : (front : List ℕ) (s' : Scene) (by : BeginsBy l.scene front s') →
      (n : ℕ) × AreEpochs o (epoch_of s'.hall (told_by (begun_by (front_of l.scene (next_epoch l.scene) by.written.runs (next_base l.scene))) []) n) (d ∷ earlier)
  begun_epochs front s' by =
      let s = l.scene in
      let w = by.written in
      let f = front_of s (next_epoch s) w.runs (next_base s) in
      let stands = followed_stands o b l.heard s s' s'.past w.runs (next_epoch s) (next_base s) l.stands by.followed w.events in
      let up = epochs_up_to o d earlier b.past refl l.epochs in
      let now : Epoch = epoch_of s'.hall (told_by (begun_by f) []) up.0 in
      let is : IsEpoch o now =
      subst (λ x. IsEpoch x now) stands.object (kept_is_epoch s'.hall (told_by (begun_by f) []) up.0 stands.held.kept) in
      let follows : Follows o d now =
      subst (λ x. Follows x d now) l.stands.object
      (begun_follows s.hall s'.hall (told_by b l.heard.steps) l.base now s'.past by.followed.begun (by.followed.held (told_by b l.heard.steps) l.stands.held).kept
      (ap events_of w.events) refl) in
      (up.0, (is, follows, up.1, l.epochs))

  -- where it begins the next one
  lives_changed : (front : List ℕ) (said added : Texts) → said ≡ [] → added ≡ [] → BeginsHeld (seen old) j front (seen new) → LivesBy (Changes j front true) said added []
  lives_changed front said added quiet nothing held =
      let begins = held.begins in
      let bare : List ℕ = held.fronts.front in
      let s = l.scene in
      let s' = begins.after in
      let same : begins.before ≡ s = same_Some begins.before s (sym begins.there ∙ l.there) in
      let by : BeginsBy s bare s' = subst (λ (x : Scene). BeginsBy x bare s') same begins.begun in
      let w = by.written in
      let f = front_of s (next_epoch s) w.runs (next_base s) in
      let stands = followed_stands o b l.heard s s' s'.past w.runs (next_epoch s) (next_base s) l.stands by.followed w.events in
      let epochs = begun_epochs bare s' by in
      let text : front ≡ front_text o f ++ held_lines o (slice_get (seen old).custody j) =
      held.fronts.told ∙ ap (λ (x : Option Scene). bare ++ held_lines_in (seen old).custody j x) l.there
      ∙ ap (λ (x : ObjectForm). bare ++ held_lines x (slice_get (seen old).custody j)) l.stands.object
      ∙ ap (λ (x : List ℕ). x ++ held_lines o (slice_get (seen old).custody j)) (w.added ∙ ap (λ x. front_text x f) l.stands.object) in
      lived_on new j o (record { asked = Changes j front true; said = said; added = added } ∷ []) b (first_opening d earlier) (all_ends o d earlier) (begun_by f)
      (inr (record {
        front = f;
        held = slice_get (seen old).custody j;
        before = [];
        since = [];
        cut = ap (λ (x : Texts). record { asked = Changes j front true; said = x; added = added } ∷ []) quiet
            ∙ ap (λ (x : Texts). record { asked = Changes j front true; said = []; added = x } ∷ []) nothing ∙ ap (λ x. change_to j x ∷ []) text;
        none = tt;
        is = refl;
      })) (d ∷ earlier) (record {
        scene = s';
        there = ap (λ (x : List Scene). slice_get x j) begins.left ∙ set_at old.objects.items j s' begins.before begins.there;
        names = l.names;
        heard = nothing_heard;
        stands = stands;
        base = epochs.0;
        epochs = epochs.1;
      }) refl [] refl

  -- by what happened to it
  lives_went : (asked : Asked) (said added : Texts) (account : Account) → BeginsNot j asked → AllWent old.objects.items added account new.objects.items → LivesBy asked said added (history_of o (happened_of (account j)))
  lives_went asked said added account none went =
      let within : j < length new.objects.items = let at = slice_get_within old.objects.items j l.scene l.there in let long = went.count in omega (arith, at, long) in
      let k = get_at new.objects.items j within in
      lives_in (record { asked = asked; said = said; added = added }) (none, tt) (to j added) (account j) k.0 k.1 (went.each j l.scene k.0 l.there k.1)

  -- nothing happened to it
  none_happened : (asked : Asked) (said added : Texts) (account : Account) → account j ≡ [] → LivesBy asked said added [] → LivesBy asked said added (history_of o (happened_of (account j)))
  none_happened asked said added account none lives = subst (λ (x : List Step). LivesBy asked said added (history_of o (happened_of x))) (sym none) lives

  lives_one : (asked : Asked) (said added : Texts) (account : Account) → Gives old asked said added new → SaysIn (seen old) asked said added account (seen new) →
      LivesBy asked said added (history_of o (happened_of (account j)))
  lives_one (Heard who line end) said added account gives says = lives_went (Heard who line end) said added account tt says.went
  lives_one (Noted note) said added account gives says = lives_went (Noted note) said added account tt says.went
  lives_one (Changes journal front true) said added account gives says = none_happened (Changes journal front true) said added account (says.1 j) (by (journal == j) refl)
    where
      by : (is : Bool) → (journal == j) ≡ is → LivesBy (Changes journal front true) said added []
      by false other =
          let apart : journal ≡ j → ⊥ = λ e. absurd (let no = eqb-false journal j other in omega (arith, no, e)) in
          lives_still (record { asked = Changes journal front true; said = said; added = added }) (apart, tt) (to j added) (ap (to j) gives.1)
          (ap (λ (x : List Scene). slice_get x j) gives.2.begins.left ∙ set_other old.objects.items journal j gives.2.begins.after apart)
      by true same =
          let at : journal ≡ j = eqb-true journal j same in
          let begins : BeginsHeld (seen old) j front (seen new) = subst (λ n. BeginsHeld (seen old) n front (seen new)) at gives.2 in
          subst (λ n. LivesBy (Changes n front true) said added []) (sym at) (lives_changed front said added gives.0 gives.1 begins)
  lives_one (Changes journal front false) said added account gives says =
      none_happened (Changes journal front false) said added account (says.1 j)
      (lives_still (record { asked = Changes journal front false; said = said; added = added }) (tt, tt) (to j added) (ap (to j) gives.lines)
      (ap (λ (x : State). slice_get x.objects j) gives.left))

none_both : (j : ℕ) (ts us : List Turn) → BeginsNone j ts → BeginsNone j us → BeginsNone j (ts ++ us)
none_both j [] us none more = more
none_both j (t ∷ ts) us none more = (none.0, none_both j ts us none.1 more)

-- a turn, and those behind it
begun_then : (o : ObjectForm) (j : ℕ) (t : Turn) (turns : List Turn) (was mid now : Begun) → IsBegunIn o j (t ∷ []) was mid → IsBegunIn o j turns mid now → IsBegunIn o j (t ∷ turns) was now
begun_then o j t turns was mid now first (inr m) = inr (record {
  front = m.front;
  held = m.held;
  before = t ∷ m.before;
  since = m.since;
  cut = ap (λ (l : List Turn). t ∷ l) m.cut;
  none = m.none;
  is = m.is;
})
begun_then o j t turns was mid now (inl (none, same)) (inl (more, on)) = inl ((none.0, more), on ∙ same)
begun_then o j t turns was mid now (inr m) (inl (more, on)) = inr (record {
  front = m.front;
  held = m.held;
  before = m.before;
  since = m.since ++ turns;
  cut = ap (λ (l : List Turn). l ++ turns) m.cut ∙ append_assoc m.before (change_to j (front_text o m.front ++ held_lines o m.held) ∷ m.since) turns;
  none = none_both j m.since turns m.none more;
  is = on ∙ m.is;
})

pub lives_on : (first last : Table) (turns : List Turn) (accounts : List Account) (j : ℕ) (o : ObjectForm) (b : Begun) (earlier : List Epoch) → AreTold first turns accounts last →
    (l : HasLived first j o b earlier) → Lives last j o turns b (first_opening (epoch_in l) earlier) (all_ends o (epoch_in l) earlier) (ends_in o j accounts)
lives_on first last [] [] j o b earlier told l =
    subst (λ (t : Table). Lives t j o [] b (first_opening (epoch_in l) earlier) (all_ends o (epoch_in l) earlier) []) (sym told)
    (lived_on first j o [] b (first_opening (epoch_in l) earlier) (all_ends o (epoch_in l) earlier) b (inl (tt, refl)) earlier l refl []
    (sym (append-nil (all_ends o (epoch_in l) earlier))))
lives_on first last [] (a ∷ accounts) j o b earlier told l = absurd told
lives_on first last (t ∷ turns) [] j o b earlier told l = absurd told
lives_on first last (t ∷ turns) (a ∷ accounts) j o b earlier (mid, gives, says, told) l =
    let opening = first_opening (epoch_in l) earlier in
    let ends = all_ends o (epoch_in l) earlier in
    let first_ends = history_of o (happened_of (a j)) in
    let one = lives_one first mid j o b earlier l t.asked t.said t.added a gives says in
    let on = one.0 in
    let more = lives_on mid last turns accounts j o on.begun on.earlier told on.lived in
    let all = lived_on last j o (t ∷ turns) b opening ends more.0.begun (begun_then o j t turns b on.begun more.0.begun on.by more.0.by) more.0.earlier more.0.lived (more.0.opening_is ∙ on.opening_is) (on.done ++ more.0.done)
    (more.0.ends_are ∙ ap (λ (x : List End). x ++ more.0.done) on.ends_are ∙ append_assoc ends on.done more.0.done) in
    (all.0, all.1 ∙ ap (λ (x : List End). x ++ more.0.done) one.1 ∙ ap (λ (x : List End). first_ends ++ x) more.1)

-- what happened in turns
tell_all : (first last : Table) (turns : List Turn) → Runs Gives first turns last → (accounts : List Account) × AreTold first turns accounts last
tell_all first last [] runs = ([], runs)
tell_all first last (t ∷ turns) (mid, gives, runs) =
    let one = turns_say (seen first) (seen mid) t.asked t.said t.added gives in
    let more = tell_all mid last turns runs in
    (one.0 ∷ more.0, (mid, gives, one.1, more.1))

pub turns_have_one_history : TurnsHaveOneHistory
turns_have_one_history first last turns runs =
    let all = tell_all first last turns runs in
    record { accounts = all.0; told = all.1; lives = λ j o begun earlier l. lives_on first last turns all.0 j o begun earlier all.1 l }

pub turns_live_on : TurnsLiveOn
turns_live_on first last turns j o b earlier runs l = ((turns_have_one_history first last turns runs).lives j o b earlier l).0

pub read_lives_on : ReadLivesOn
read_lives_on t j o b earlier h f text came l began read =
    let e : Epoch = record { counters = came.played.counters; contents = came.played.contents.items; told = told_by (begun_by f) read.is.steps; base = l.base } in
    let is : IsReadOf o text came e = record { house = h; front = f; read = read; told = refl; counters = refl; contents = refl } in
    let past : e.told.past ≡ events_of b.past = ap (λ (x : Begun). events_of x.past) (sym began) in
    let opening : e.told.opening ≡ b.opening = ap (λ (x : Begun). x.opening) (sym began) in
    let are = epochs_grow o (epoch_in l) e earlier refl past opening (read_is_epoch o text came e is) l.epochs in
    (e, is, are, epochs_are_sound o e earlier are)

-- the epoch that a start has begun is one behind that which was read
pub start_epochs : (t : Table) (j : ℕ) (object : Object) (h : House) (lines : List ℕ) (limits : Limits) (b : BeginsAt t j object h lines limits) (e : Epoch) (earlier : List Epoch) →
    IsReadOf (object_of object) lines b.begins.came e → AreEpochs (object_of object) e earlier →
    (n : ℕ) × AreEpochs (object_of object) (epoch_of b.scene.hall (told_by (begun_by (front_of b.scene b.scene.epoch b.adds.tells.runs b.scene.base)) []) n) (e ∷ earlier)
start_epochs t j object h lines limits b e earlier is are =
    let o = object_of object in
    let s = b.scene in
    let again = b.begins.again in
    let f = front_of s s.epoch b.adds.tells.runs s.base in
    let stands = behind_stands object h lines limits s b.before b.after b.begins b.adds b.few b.known in
    let up = epochs_up_to o e earlier (begun_by is.front).past (ap (λ (t : Told). t.past) is.told) are in
    let now : Epoch = epoch_of s.hall (told_by (begun_by f) []) up.0 in
    let epoch : IsEpoch o now = subst (λ x. IsEpoch x now) stands.object (kept_is_epoch s.hall (told_by (begun_by f) []) up.0 stands.held.kept) in
    let past : now.told.past ≡ events_of again.past = ap events_of (b.adds.tells.events ∙ again.past_is) in
    let follows : Follows o e now = record {
      contents = again.held.kept.contents ∙ sym is.contents;
      counters = again.counted.counters;
      stands = subst (λ (t : List Event). StandsFor again.counted.counters (length o.operations) o.paths t) (sym past)
          (subst (λ n. StandsFor again.counted.counters n o.paths (events_of again.past)) (sym (length-map object.operations.items _)) again.counted.stands);
      quiet = ap running_calls past ∙ again.counted.quiet;
      same = again.counted.same ∙ ap (λ c. c.words) (sym is.counters);
    } in
    (up.0, (epoch, follows, up.1, are))

pub start_lives_on : StartLivesOn
start_lives_on t j object h lines limits b e earlier is are =
    let epochs = start_epochs t j object h lines limits b e earlier is are in
    record {
      scene = b.scene;
      there = b.there;
      names = b.names;
      heard = nothing_heard;
      stands = behind_stands object h lines limits b.scene b.before b.after b.begins b.adds b.few b.known;
      base = epochs.0;
      epochs = epochs.1;
    }

pub crash_leaves_one_history : CrashLeavesOneHistory
crash_leaves_one_history first limits seen found waits honest between =
    let left : LeavesAnswered first limits seen found = crash_leaves_answered first limits seen found waits honest between in
    let s = left.left.survives in
    record {
      answered = left;
      lived = λ j o begun earlier l. turns_live_on first s.last (s.answered ++ s.later) j o begun earlier s.runs l;
    }
