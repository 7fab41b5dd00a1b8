-- What is told so of a part of what happened is told so of all of it.
use Rattle.std.proofs.Common.{◌≡◌, inl, inr, ◌∙◌, ap, sym, arith, ℕ, ◌<◌, List, [], ◌∷◌, ◌++◌, length, append_assoc}
use Rattle.std.specs.Prelude.{Some, slice_get}
use Rattle.std.proofs.lemmas.Option.{slice_get_within}
use Rattle.apply_core.specs.declared.reply.Reply.{Reply}
use Rattle.audit_core.specs.Steps.{Step, ran}
use Rattle.live_core.specs.Scene.{Scene}
use Rattle.live_core.specs.HostedSteps.{goes_on}
use Rattle.history_law.specs.Happens.{all_happen}
use Rattle.keep_loop.specs.Texts.{to}
use Rattle.client_core.specs.Deeds.{Texts}
use Rattle.client_core.specs.State.{State}
use Rattle.history_law.specs.Said.{Account, HasRun, IsTrue}
use Rattle.history_law.proofs.Doing.{AreTrue}
use Rattle.history_law.proofs.Going.{all_alike, all_more, both, every_map, get_at, told_alike}
use Rattle.history_law.specs.Asked.{Claims}
use Rattle.history_law.specs.Turns.{AllWentAsked, AreOwn, HasRememberedOwn, IsOwn, WentAsked}

run_before : (objects : List Scene) (first more : Account) (n : ℕ) (reply : Reply) → HasRun objects first n reply → HasRun objects (both first more) n reply
run_before objects first more n reply is = record {
  object = is.object;
  scene = is.scene;
  there = is.there;
  call = is.call;
  later = more is.object ++ is.later;
  before = is.before;
  ran_so = ap (λ (l : List Step). more is.object ++ l) is.ran_so ∙ sym (append_assoc (more is.object) is.later (ran is.call reply ∷ is.before));
  told_is = is.told_is;
}

module _ (claims : Claims) where
  kept_before : (objects : List Scene) (first more : Account) (n : ℕ) (reply : Reply) → HasRememberedOwn claims objects first n reply → HasRememberedOwn claims objects (both first more) n reply
  kept_before objects first more n reply kept =
      let is = kept.is in
      record {
        is = record {
          object = is.object;
          scene = is.scene;
          there = is.there;
          now = is.now;
          lines = is.lines;
          since = is.since;
          later = more is.object ++ is.later;
          moment = ap (λ (l : List Step). more is.object ++ l) is.moment ∙ sym (append_assoc (more is.object) is.later (all_happen is.since []));
          session = is.session;
          key = is.key;
          asked = is.asked;
          repeats = is.repeats;
        };
        own = kept.own;
      }

  pub own_before : (objects : List Scene) (first more : Account) (text : List ℕ) → IsOwn claims objects first text → IsOwn claims objects (both first more) text
  own_before objects first more text (inl (n, reply, inl (is, run))) = inl (n, reply, inl (is, run_before objects first more n reply run))
  own_before objects first more text (inl (n, reply, inr (is, kept))) = inl (n, reply, inr (is, kept_before objects first more n reply kept))
  own_before objects first more text (inr none) = inr none

  -- the object that stood at a place before
  was_at : (a b : List Scene) (added : Texts) (first : Account) (j : ℕ) (m : Scene) → AllWentAsked claims a added first b → slice_get b j ≡ Some m →
      (h : Scene) × (slice_get a j ≡ Some h) × WentAsked (claims.called j) h (to j added) (first j) m
  was_at a b added first j m went there =
      let within : j < length a = let at = slice_get_within b j m there in let long = went.count in omega (arith, at, long) in
      let h = get_at a j within in
      (h.0, h.1, went.each j h.0 m h.1 there)

  run_behind : (a b : List Scene) (added : Texts) (first more : Account) (n : ℕ) (reply : Reply) → AllWentAsked claims a added first b → HasRun b more n reply → HasRun a (both first more) n reply
  run_behind a b added first more n reply went is =
      let was = was_at a b added first is.object is.scene went is.there in
      record {
        object = is.object;
        scene = was.0;
        there = was.1;
        call = is.call;
        later = is.later;
        before = is.before ++ first is.object;
        ran_so = ap (λ (l : List Step). l ++ first is.object) is.ran_so ∙ append_assoc is.later (ran is.call reply ∷ is.before) (first is.object);
        told_is = is.told_is ∙ told_alike was.0 is.scene is.call.number (all_alike was.0 is.scene (to is.object added) was.2.0);
      }

  kept_behind : (a b : List Scene) (added : Texts) (first more : Account) (n : ℕ) (reply : Reply) → AllWentAsked claims a added first b → HasRememberedOwn claims b more n reply → HasRememberedOwn claims a (both first more) n reply
  kept_behind a b added first more n reply went kept =
      let is = kept.is in
      let was = was_at a b added first is.object is.scene went is.there in
      let since = was.2.0 in
      record {
        is = record {
          object = is.object;
          scene = was.0;
          there = was.1;
          now = is.now;
          lines = to is.object added ++ is.lines;
          since = goes_on since is.since;
          later = is.later;
          moment = ap (λ (l : List Step). l ++ first is.object) is.moment ∙ append_assoc is.later (all_happen is.since []) (first is.object)
              ∙ ap (λ (l : List Step). is.later ++ (all_happen is.since [] ++ l)) was.2.1
              ∙ ap (λ (l : List Step). is.later ++ l) (sym (all_more is.scene is.now is.lines is.since (all_happen since [])));
          session = is.session;
          key = is.key;
          asked = is.asked;
          repeats = is.repeats;
        };
        own = (was.2.2, kept.own);
      }

  pub own_behind : (a b : List Scene) (added : Texts) (first more : Account) (text : List ℕ) → AllWentAsked claims a added first b → IsOwn claims b more text → IsOwn claims a (both first more) text
  own_behind a b added first more text went (inl (n, reply, inl (is, run))) = inl (n, reply, inl (is, run_behind a b added first more n reply went run))
  own_behind a b added first more text went (inl (n, reply, inr (is, kept))) = inl (n, reply, inr (is, kept_behind a b added first more n reply went kept))
  own_behind a b added first more text went (inr none) = inr none

  -- what is told so is true
  true_of : (objects : List Scene) (account : Account) (text : List ℕ) → IsOwn claims objects account text → IsTrue objects account text
  true_of objects account text (inl (n, reply, inl (is, run))) = inl (n, reply, inl (is, run))
  true_of objects account text (inl (n, reply, inr (is, kept))) = inl (n, reply, inr (is, kept.is))
  true_of objects account text (inr none) = inr none

  pub own_true : (old : State) (account : Account) (said : Texts) → AreOwn claims old account said → AreTrue old account said
  own_true old account said all = every_map (λ (s : ℕ × List ℕ). IsOwn claims old.objects account s.1) (λ (s : ℕ × List ℕ). IsTrue old.objects account s.1) said (λ s is. true_of old.objects account s.1 is) all
