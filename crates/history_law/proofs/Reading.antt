-- Epochs of texts, line by line and text by text.
use Rattle.std.proofs.Common.{◌≡◌, ℕ, ◌+◌, ◌<◌, ◌≤◌, List, [], ◌∷◌, ◌++◌, refl, sym, ap, ◌∙◌, subst, arith}
use Rattle.std.specs.Prelude.{Option, Some, None}
use Rattle.path_tree.specs.Trace.{Event, Start, End}
use Rattle.path_count.specs.Future.{later, AreUpTo}
use Rattle.decl_core.specs.ObjectForm.{ObjectForm}
use Rattle.word_core.specs.Events.{Called, Happened, began, ended, trace_of}
use Rattle.path_count.specs.declared.past.PastEvent.{PastEvent}
use Rattle.path_count.specs.Past.{AreBefore, events_of}
use Rattle.path_count.proofs.Behind.{before_of}
use Rattle.live_core.specs.Hall.{AreNumbered}
use Rattle.audit_core.specs.Tells.{IsCallNumber}
use Rattle.live_core.specs.Front.{Opening}
use Rattle.audit_core.specs.Steps.{Begun, Heard, nothing_heard, happened_of, told_by}
use Rattle.audit_core.specs.EpochTells.{Tells, Tell, start_told, end_told, cancel_told, name_told}
use Rattle.recover_core.specs.declared.recover.Recovered.{Recovered}
use Rattle.recover_core.specs.Playing.{begun_by}
use Rattle.recover_core.specs.Chain as chain
use Rattle.recover_core.specs.Epochs as chains
use Rattle.recover_core.specs.declared.epochs.Epochs.{Epochs}
use Rattle.history_law.specs.Year.{Epoch, IsEpoch, Follows, AreEpochs, all_events}
use Rattle.history_law.specs.Read.{IsReadOf, ReadIsEpoch, AreReadOf, TextsAreEpochs}
use Rattle.history_law.specs.Keys.{ReadEpoch, texts_of, epochs_of, AreKnownOn, TextsTellKeys}
use Rattle.history_law.proofs.Sound.{epochs_are_sound}
use Rattle.history_law.proofs.Keyed.{keys_stand_once}
use Rattle.history_law.proofs.Within.{within}

-- the numbers of what lines told

abbrev Runs : Option Called → Type 0
Runs None = Unit {0}
Runs (Some c) = IsCallNumber c.number

record Counts (heard : Heard) : Type 0 where
  steps : AreNumbered 65536 (happened_of heard.steps)
  running : Runs heard.running

number_is : (n m : ℕ) → n ≡ m → IsCallNumber m → IsCallNumber n
number_is n m is number = subst IsCallNumber (sym is) number

runs_by : (running : Option Called) (c : Called) → running ≡ Some c → Runs running → IsCallNumber c.number
runs_by running c is runs = subst Runs is runs

counts_line : (o : ObjectForm) (e : Begun) (heard : Heard) (line : List ℕ) (after : Heard) → Tells o e heard line after → Counts heard → Counts after
counts_line o e heard line after (start_told {asked = a} {call = c} says is few) h =
    record { steps = h.steps; running = number_is c.number a.number is.number is.number_is }
counts_line o e heard line after (end_told {call = c} says runs is) h =
    let n = runs_by heard.running c runs h.running in record { steps = (n.0, n.1, h.steps); running = tt }
counts_line o e heard line after (cancel_told says is) h = record { steps = h.steps; running = h.running }
counts_line o e heard line after (name_told says rests is spelled) h = record { steps = h.steps; running = h.running }

counts_lines : (o : ObjectForm) (e : Begun) (heard : Heard) (lines : List (List ℕ)) (after : Heard) → Tell o e heard lines after → Counts heard → Counts after
counts_lines o e heard [] after same h = subst Counts (sym same) h
counts_lines o e heard (line ∷ more) after (mid, told, rest) h = counts_lines o e mid more after rest (counts_line o e heard line mid told h)

-- a text tells an epoch
pub read_is_epoch : ReadIsEpoch
read_is_epoch o text came e is =
    let b = is.read.is in
    let n = counts_lines o (begun_by is.front) nothing_heard b.played.kept (record { steps = b.steps; running = None }) b.played.told (record { steps = tt; running = tt }) in
    subst (λ t. IsEpoch o (record { counters = e.counters; contents = e.contents; told = t; base = e.base })) (sym is.told)
    (subst (λ c. IsEpoch o (record { counters = c; contents = e.contents; told = told_by (begun_by is.front) b.steps; base = e.base })) (sym is.counters)
    (record {
      stands = b.comes.counters;
      quiet = b.comes.quiet;
      legal = b.played.sound.legal;
      contents = is.contents ∙ b.comes.contents;
      most = 65536;
      numbers = n.steps;
    }))

-- an epoch that was found to follow another one does
pub read_follows : (o : ObjectForm) (text other : List ℕ) (before came : Recovered) (d e : Epoch) (was : IsReadOf o text before d) (is : IsReadOf o other came e) → chain.Follows o before is.front → Follows o d e
read_follows o text other before came d e was is f =
    subst (λ t. Follows o d (record { counters = e.counters; contents = e.contents; told = t; base = e.base })) (sym is.told)
    (record {
      contents = sym f.contents ∙ sym was.contents;
      counters = f.past.counters;
      stands = f.past.stands;
      quiet = f.past.quiet;
      same = f.past.same ∙ ap (λ c. c.words) (sym was.counters);
    })

-- numbers from 1 are up to some number

abbrev Positive : List Event → Type 0
Positive [] = Unit {0}
Positive (Start c ∷ t) = (0 < c.number) × Positive t
Positive (End c ∷ t) = Positive t

raise : (n m : ℕ) (t : List Event) → n ≤ m → AreUpTo n t → AreUpTo m t
raise n m [] less all = tt
raise n m (Start c ∷ t) less all = (all.0, omega (arith, less, all.1), raise n m t less all.2)
raise n m (End c ∷ t) less all = raise n m t less all

bounded : (t : List Event) → Positive t → (n : ℕ) × AreUpTo n t
bounded [] p = (0, tt)
bounded (Start c ∷ t) p =
    let b = bounded t p.1 in (c.number + b.0, (p.0, omega (arith), raise b.0 (c.number + b.0) t (omega (arith)) b.1))
bounded (End c ∷ t) p = bounded t p

positive_past : (t : List Event) → AreBefore t → Positive t
positive_past [] b = tt
positive_past (Start c ∷ t) b = (omega (arith, b.0), positive_past t b.1)
positive_past (End c ∷ t) b = positive_past t b

positive_on : (most : ℕ) (happened : List Happened) (t : List Event) → AreNumbered most happened → Positive t → Positive (trace_of happened ++ t)
positive_on most [] t n p = p
positive_on most (began c ∷ happened) t n p = (omega (arith, n.0), positive_on most happened t n.2 p)
positive_on most (ended c reply ∷ happened) t n p = positive_on most happened t n p

positive_later : (base most : ℕ) (happened : List Happened) (t : List Event) → AreNumbered most happened → Positive t → Positive (later base (trace_of happened) ++ t)
positive_later base most [] t n p = p
positive_later base most (began c ∷ happened) t n p = (omega (arith, n.0), positive_later base most happened t n.2 p)
positive_later base most (ended c reply ∷ happened) t n p = positive_later base most happened t n p

positive_up_to : (n : ℕ) (t : List Event) → AreUpTo n t → Positive t
positive_up_to n [] all = tt
positive_up_to n (Start c ∷ t) all = (all.0, positive_up_to n t all.2)
positive_up_to n (End c ∷ t) all = positive_up_to n t all

-- so are those of epochs
positive_epochs : (o : ObjectForm) (e : Epoch) (earlier : List Epoch) (past : List PastEvent) → e.told.past ≡ events_of past → AreEpochs o e earlier → Positive (all_events e earlier)
positive_epochs o e [] past is epoch =
    positive_on epoch.most e.told.happened e.told.past epoch.numbers (subst Positive (sym is) (positive_past (events_of past) (before_of past)))
positive_epochs o e (d ∷ earlier) past is (epoch, follows, numbers, before) =
    positive_later e.base epoch.most e.told.happened (all_events d earlier) epoch.numbers (positive_up_to e.base (all_events d earlier) numbers)

pub epochs_up_to : (o : ObjectForm) (e : Epoch) (earlier : List Epoch) (past : List PastEvent) → e.told.past ≡ events_of past → AreEpochs o e earlier → (n : ℕ) × AreUpTo n (all_events e earlier)
epochs_up_to o e earlier past is are = bounded (all_events e earlier) (positive_epochs o e earlier past is are)

-- what texts tell, the newest first, of which the last one came to this
record Told (o : ObjectForm) (text : List ℕ) (texts : List (List ℕ)) (all : Epochs) : Type 0 where
  now : ReadEpoch o
  earlier : List (ReadEpoch o)
  last : all.last ≡ Some now.came
  text_is : now.text ≡ text
  texts_are : texts_of o earlier ≡ texts
  epochs : AreEpochs o now.epoch (epochs_of o earlier)
  known : AreKnownOn o now earlier
  positive : Positive (all_events now.epoch (epochs_of o earlier))

abbrev epoch_with : (o : ObjectForm) (text : List ℕ) (before all : Epochs) → chains.IsNext o text before all → ℕ → Epoch
epoch_with o text before all is base = record {
  counters = is.came.played.counters;
  contents = is.came.played.contents.items;
  told = told_by (begun_by is.front) is.read.is.steps;
  base = base;
}

abbrev read_with : (o : ObjectForm) (text : List ℕ) (before all : Epochs) (is : chains.IsNext o text before all) (base : ℕ) → IsReadOf o text is.came (epoch_with o text before all is base)
read_with o text before all is base = record {
  house = chains.all_clients;
  front = is.front;
  read = is.read;
  told = refl;
  counters = refl;
  contents = refl;
}

told_first : (o : ObjectForm) (text : List ℕ) (before all : Epochs) → chains.IsNext o text before all → Told o text [] all
told_first o text before all is =
    let r = read_with o text before all is 0 in
    let e = epoch_with o text before all is 0 in
    let epoch = read_is_epoch o text is.came e r in
    record {
      now = record { text = text; came = is.came; epoch = e; is = r };
      earlier = [];
      last = is.last;
      text_is = refl;
      texts_are = refl;
      epochs = epoch;
      known = tt;
      positive = positive_on epoch.most e.told.happened e.told.past epoch.numbers (positive_past e.told.past (before_of (begun_by is.front).past));
    }

may_follow : (o : ObjectForm) (last : Option Recovered) (came : Recovered) (f : Opening) → last ≡ Some came → chains.MayFollow o last f → chain.Follows o came f
may_follow o last came f is may = subst (λ l. chains.MayFollow o l f) is may

told_next : (o : ObjectForm) (text other : List ℕ) (texts_before : List (List ℕ)) (before all : Epochs) → Told o other texts_before before → chains.IsNext o text before all → Told o text (other ∷ texts_before) all
told_next o text other texts_before before all t is =
    let d = t.now in
    let happened = all_events d.epoch (epochs_of o t.earlier) in
    let b = bounded happened t.positive in
    let r = read_with o text before all is b.0 in
    let e = epoch_with o text before all is b.0 in
    let epoch = read_is_epoch o text is.came e r in
    let may = may_follow o before.last d.came is.front t.last is.follows in
    let follows = read_follows o d.text text d.came is.came d.epoch e d.is r may in
    record {
      now = record { text = text; came = is.came; epoch = e; is = r };
      earlier = d ∷ t.earlier;
      last = is.last;
      text_is = refl;
      texts_are = ap (λ l. l ∷ texts_of o t.earlier) t.text_is ∙ ap (λ l. other ∷ l) t.texts_are;
      epochs = (epoch, follows, b.1, t.epochs);
      known = (may.clients, t.known);
      positive = positive_later b.0 epoch.most e.told.happened happened epoch.numbers t.positive;
    }

told_all : (o : ObjectForm) (text : List ℕ) (texts_before : List (List ℕ)) (all : Epochs) → chains.AreEpochs o (text ∷ texts_before) all → Told o text texts_before all
told_all o text [] all (before, none, is) = told_first o text before all is
told_all o text (other ∷ texts_before) all (before, more, is) = told_next o text other texts_before before all (told_all o other texts_before before more) is

are_read : (o : ObjectForm) (all : List (ReadEpoch o)) → AreReadOf o (texts_of o all) (epochs_of o all)
are_read o [] = tt
are_read o (e ∷ all) = ((e.came, e.is), are_read o all)

pub texts_are_epochs : TextsAreEpochs
texts_are_epochs o text texts_before all are =
    let t = told_all o text texts_before all are in
    let texts_are = ap (λ l. l ∷ texts_of o t.earlier) t.text_is ∙ ap (λ l. text ∷ l) t.texts_are in
    record {
      last = t.now.epoch;
      earlier = epochs_of o t.earlier;
      told = subst (λ l. AreReadOf o l (t.now.epoch ∷ epochs_of o t.earlier)) texts_are (are_read o (t.now ∷ t.earlier));
      epochs = t.epochs;
      sound = epochs_are_sound o t.now.epoch (epochs_of o t.earlier) t.epochs;
    }

-- and keys stand in their history once
pub texts_tell_keys : TextsTellKeys
texts_tell_keys o text texts_before all are =
    let t = told_all o text texts_before all are in
    record {
      last = t.now;
      earlier = t.earlier;
      told = ap (λ l. l ∷ texts_of o t.earlier) t.text_is ∙ ap (λ l. text ∷ l) t.texts_are;
      epochs = t.epochs;
      sound = epochs_are_sound o t.now.epoch (epochs_of o t.earlier) t.epochs;
      known = t.known;
      within = within o t.now t.earlier;
      keyed = keys_stand_once o t.now t.earlier t.known;
    }
