-- What was done stays done.
use Rattle.std.proofs.Common.{◌≡◌, ◌∙◌, ap, sym, subst, refl, List, [], ◌∷◌, ◌++◌, length, append_assoc}
use Rattle.std.proofs.lemmas.List.{append-nil}
use Rattle.path_tree.specs.Trace.{Event, running_calls}
use Rattle.path_count.specs.Stands.{StandsFor}
use Rattle.path_count.specs.Future.{AreUpTo}
use Rattle.decl_core.specs.ObjectForm.{ObjectForm}
use Rattle.apply_core.specs.History.{End}
use Rattle.word_core.specs.Events.{Happened, began, ended, end_of, history_of}
use Rattle.audit_core.specs.Steps.{Step, ran, cancelled, named, happened_of}
use Rattle.history_law.specs.Year.{Epoch, IsEpoch, AreEpochs, all_events, all_ends, first_opening}

happened_more : (xs ys : List Step) → happened_of (xs ++ ys) ≡ happened_of xs ++ happened_of ys
happened_more [] ys = refl
happened_more (ran c reply ∷ xs) ys = ap (λ (l : List Happened). ended c reply ∷ began c ∷ l) (happened_more xs ys)
happened_more (cancelled c ∷ xs) ys = happened_more xs ys
happened_more (named session name ∷ xs) ys = happened_more xs ys

history_more : (o : ObjectForm) (hs gs : List Happened) → history_of o (hs ++ gs) ≡ history_of o gs ++ history_of o hs
history_more o [] gs = sym (append-nil (history_of o gs))
history_more o (began c ∷ hs) gs = history_more o hs gs
history_more o (ended c reply ∷ hs) gs =
    ap (λ (l : List End). l ++ end_of o c reply ∷ []) (history_more o hs gs) ∙ append_assoc (history_of o gs) (history_of o hs) (end_of o c reply ∷ [])

-- the ends of what happened stand behind those of what had happened
pub ends_more : (o : ObjectForm) (now was : List Step) → history_of o (happened_of (now ++ was)) ≡ history_of o (happened_of was) ++ history_of o (happened_of now)
ends_more o now was = ap (history_of o) (happened_more now was) ∙ history_more o (happened_of now) (happened_of was)

-- an epoch at a later moment, in place of itself
pub epochs_grow : (o : ObjectForm) (e f : Epoch) (earlier : List Epoch) → f.base ≡ e.base → f.told.past ≡ e.told.past → f.told.opening ≡ e.told.opening → IsEpoch o f →
    AreEpochs o e earlier → AreEpochs o f earlier
epochs_grow o e f [] base past opening is are = is
epochs_grow o e f (d ∷ earlier) base past opening is (was, follows, numbers, before) = (
  is,
  record {
    contents = opening ∙ follows.contents;
    counters = follows.counters;
    stands = subst (λ (t : List Event). StandsFor follows.counters (length o.operations) o.paths t) (sym past) follows.stands;
    quiet = ap running_calls past ∙ follows.quiet;
    same = follows.same;
  },
  subst (λ n. AreUpTo n (all_events d earlier)) (sym base) numbers,
  before,
)

pub opening_grows : (e f : Epoch) (earlier : List Epoch) → f.told.opening ≡ e.told.opening → first_opening f earlier ≡ first_opening e earlier
opening_grows e f [] is = is
opening_grows e f (d ∷ earlier) is = refl

pub ends_grow : (o : ObjectForm) (e f : Epoch) (earlier : List Epoch) (more : List End) → history_of o f.told.happened ≡ history_of o e.told.happened ++ more →
    all_ends o f earlier ≡ all_ends o e earlier ++ more
ends_grow o e f [] more is = is
ends_grow o e f (d ∷ earlier) more is =
    ap (λ (l : List End). all_ends o d earlier ++ l) is ∙ sym (append_assoc (all_ends o d earlier) (history_of o e.told.happened) more)
