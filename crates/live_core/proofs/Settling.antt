-- The calls that ran so far, while a hand settles.
use Rattle.std.proofs.Common.{◌≡◌, ◌≤◌, List, [], ◌∷◌, ◌++◌, length, arith, refl, sym, ◌∙◌, ap, subst, append_assoc, append-nil}
use Rattle.decl_core.specs.ObjectForm.{ObjectForm}
use Rattle.decl_core.specs.ObjectMap.{object_of}
use Rattle.word_core.specs.Events.{Called}
use Rattle.live_core.specs.declared.call.Ran.{Ran}
use Rattle.live_core.specs.Hall.{Hall, Told, IsKept, IsHeld, Rests}
use Rattle.live_core.specs.Settles.{Settles, rests, runs, with_ran, with_all, IsFirst, IsReplyHere}
use Rattle.live_core.specs.Steps.{RunsOne, SettlesTo}

-- these ran, and what else will is behind them
pub record SoFar (old : Hall) (t : Told) (before : List Ran) (now : Hall) (all : List Ran) : Type 0 where
  pub ran : List Ran
  pub all_are : all ≡ before ++ ran
  pub kept : IsKept now (with_all t ran)
  pub goes_on : (more : List Ran) (left : List Called) → Settles (object_of old.object) (with_all t ran) now.waiting more left →
      Settles (object_of old.object) t old.waiting (ran ++ more) left

pub none_yet : (h : Hall) (t : Told) (before : List Ran) → IsKept h t → SoFar h t before h before
none_yet h t before kept = record {
  ran = [];
  all_are = sym (append-nil before);
  kept = kept;
  goes_on = λ more left settles. settles;
}

with_one : (t : Told) (ran : List Ran) (r : Ran) → with_all t (ran ++ r ∷ []) ≡ with_ran (with_all t ran) r
with_one t [] r = refl
with_one t (x ∷ ran) r = with_one (with_ran t x) ran r

pub one_more : (old now new : Hall) (t : Told) (before all : List Ran) (r : Ran) → now.object ≡ old.object → (far : SoFar old t before now all) → RunsOne now (with_all t far.ran) r new →
    SoFar old t before new (all ++ r ∷ [])
one_more old now new t before all r object far one = record {
  ran = far.ran ++ r ∷ [];
  all_are = ap (λ xs. xs ++ r ∷ []) far.all_are ∙ append_assoc before far.ran (r ∷ []);
  kept = subst (IsKept new) (sym (with_one t far.ran r)) one.kept;
  goes_on = λ more left settles.
      let o = object_of old.object in
      let same : object_of now.object ≡ o = ap object_of object in
      let next = subst (λ xs. Settles o (with_ran (with_all t far.ran) r) xs more left) one.left (subst (λ x. Settles o x new.waiting more left) (with_one t far.ran r) settles) in
      let step = runs one.front one.behind r more (subst (λ f. IsFirst f (with_all t far.ran) one.front r.call) same one.first) (subst (λ f. IsReplyHere f (with_all t far.ran) r) same one.reply) one.fails next in
      subst (λ xs. Settles o t old.waiting xs left) (sym (append_assoc far.ran (r ∷ []) more)) (far.goes_on (r ∷ more) left (subst (λ xs. Settles o (with_all t far.ran) xs (r ∷ more) left) (sym one.waited) step));
}

pub at_rest : (old now : Hall) (t : Told) (before all : List Ran) → now.object ≡ old.object → (far : SoFar old t before now all) → Rests (object_of now.object) now.waiting (with_all t far.ran) →
    (ran : List Ran) × (all ≡ before ++ ran) × SettlesTo old t ran now
at_rest old now t before all object far rested = (
  far.ran,
  far.all_are,
  record {
    settles = subst (λ xs. Settles (object_of old.object) t old.waiting xs now.waiting) (append-nil far.ran)
        (far.goes_on [] now.waiting (rests (subst (λ f. Rests f now.waiting (with_all t far.ran)) (ap object_of object) rested)));
    kept = far.kept;
  },
)

pub none_wait : (o : ObjectForm) (t : Told) (waiting : List Called) → length waiting ≤ 0 → Rests o waiting t
none_wait o t [] few = tt
none_wait o t (c ∷ waiting) few = absurd (omega (arith, few))

-- once it is settled no waiting call may start
pub settled_rests : (o : ObjectForm) (t : Told) (waiting left : List Called) (all : List Ran) → Settles o t waiting all left → Rests o left (with_all t all)
settled_rests o t waiting left all (rests at) = at
settled_rests o t waiting left all (runs front behind r more first reply fails then) = settled_rests o (with_ran t r) (front ++ behind) left more then

-- what is settled is held
pub held_of : (mid new : Hall) (t : Told) (ran : List Ran) → new.object ≡ mid.object → SettlesTo mid t ran new → IsHeld new (with_all t ran)
held_of mid new t ran object to = record {
  kept = to.kept;
  rests = subst (λ f. Rests f new.waiting (with_all t ran)) (sym (ap object_of object)) (settled_rests (object_of mid.object) t mid.waiting new.waiting ran to.settles);
}
