-- Epochs in a row, one by one.
use Rattle.std.proofs.Common.{◌≡◌, ◌≤◌, ℕ, List, [], ◌∷◌, length, ap, sym, ◌∙◌, subst}
use Rattle.path_tree.specs.Path.{Path}
use Rattle.path_tree.specs.Trace.{Event, running_calls}
use Rattle.path_count.specs.State.{State}
use Rattle.path_count.specs.Stands.{StandsFor}
use Rattle.path_count.specs.Object.{all_slots}
use Rattle.path_count.specs.Future.{Leaves, AreUpTo}
use Rattle.path_count.proofs.Epochs.{epochs_go_on}
use Rattle.decl_core.specs.ObjectForm.{ObjectForm}
use Rattle.decl_core.specs.ObjectMap.{object_of}
use Rattle.apply_core.specs.History.{IsLegal, leads_to}
use Rattle.apply_core.proofs.Histories.{legal_splits, leads_on}
use Rattle.word_core.specs.Events.{Happened, began, ended, trace_of, history_of}
use Rattle.live_core.specs.Hall.{trace, AreNumbered}
use Rattle.path_count.specs.Past.{events_of}
use Rattle.history_law.specs.Year.{Epoch, KeptIsEpoch, BegunFollows, AreEpochs, all_events, all_ends, first_opening, EpochsAreSound}

pub kept_is_epoch : KeptIsEpoch
kept_is_epoch h t base kept = record {
  stands = kept.stands;
  quiet = kept.quiet;
  legal = kept.legal;
  contents = kept.contents;
  most = h.given;
  numbers = kept.numbers;
}

pub begun_follows : BegunFollows
begun_follows old new t base next past begun kept past_is opening_is =
    let o = object_of old.object in
    record {
      contents = opening_is;
      counters = new.counters;
      stands = subst (λ t. StandsFor new.counters (length o.operations) o.paths t) (sym past_is)
          (subst (λ x. StandsFor new.counters (length (object_of x).operations) (object_of x).paths (events_of past)) begun.object kept.stands);
      quiet = ap running_calls past_is ∙ kept.quiet;
      same = begun.counted;
    }

-- the numbers of an epoch, as paths see them
numbered : (most : ℕ) (past : List Happened) → AreNumbered most past → AreUpTo most (trace_of past)
numbered most [] all = tt
numbered most (began c ∷ past) all = (all.0, all.1, numbered most past all.2)
numbered most (ended c reply ∷ past) all = numbered most past all

-- what counters leave that stand for a trace
left_by_counters : (c : State) (n : ℕ) (paths : List Path) (t : List Event) → StandsFor c n paths t → Leaves paths t c.words
left_by_counters c n paths t stands = record { trace = stands.trace; satisfied = stands.satisfied; kept = stands.kept }

-- the counters now are those that all events leave, and nothing runs
record Leads (o : ObjectForm) (e : Epoch) (earlier : List Epoch) : Type 0 where
  leaves : Leaves o.paths (all_events e earlier) e.counters.words
  quiet : running_calls (all_events e earlier) ≡ []

leads : (o : ObjectForm) (e : Epoch) (earlier : List Epoch) → AreEpochs o e earlier → Leads o e earlier
leads o e [] of = record {
  leaves = left_by_counters e.counters (length o.operations) o.paths (trace e.told) of.stands;
  quiet = of.quiet;
}
leads o e (d ∷ earlier) (of, follows, numbers, before) =
    let was = leads o d earlier before in
    let begun = left_by_counters follows.counters (length o.operations) o.paths e.told.past follows.stands in
    let past : Leaves o.paths e.told.past d.counters.words = subst (λ w. Leaves o.paths e.told.past w) follows.same begun in
    let now = left_by_counters e.counters (length o.operations) o.paths (trace e.told) of.stands in
    let on = epochs_go_on o.paths d.counters.words e.counters.words of.most e.base (trace_of e.told.happened) e.told.past (all_events d earlier)
    follows.stands.once (subst (λ (w : List ℕ). all_slots o.paths ≤ length w) follows.same follows.stands.fits) past follows.quiet
    (record { leaves = was.leaves; numbers = numbers; quiet = was.quiet }) (numbered of.most e.told.happened of.numbers) now of.quiet in
    record { leaves = on.0; quiet = on.1 }

-- the history of all epochs

record Goes (o : ObjectForm) (e : Epoch) (earlier : List Epoch) : Type 0 where
  legal : IsLegal (all_ends o e earlier) (first_opening e earlier)
  to : e.contents ≡ leads_to (all_ends o e earlier) (first_opening e earlier)

goes : (o : ObjectForm) (e : Epoch) (earlier : List Epoch) → AreEpochs o e earlier → Goes o e earlier
goes o e [] of = record { legal = of.legal; to = of.contents }
goes o e (d ∷ earlier) (of, follows, numbers, before) =
    let was = goes o d earlier before in
    let opening = first_opening d earlier in
    let first = all_ends o d earlier in
    let second = history_of o e.told.happened in
    let here : e.told.opening ≡ leads_to first opening = follows.contents ∙ was.to in
    record {
      legal = (legal_splits first second opening).1 (was.legal, subst (IsLegal second) here of.legal);
      to = of.contents ∙ ap (leads_to second) here ∙ sym (leads_on first second opening);
    }

pub epochs_are_sound : EpochsAreSound
epochs_are_sound o e earlier are =
    let l = leads o e earlier are in
    let g = goes o e earlier are in
    record { is_trace = l.leaves.trace; satisfied = l.leaves.satisfied; legal = g.legal; leads = g.to }
