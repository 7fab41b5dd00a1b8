-- Objects that go on, by steps in which each call that runs is its client's own.
use Rattle.std.proofs.Common.{◌≡◌, ◌≢◌, inl, inr, ◌∙◌, ap, sym, subst, refl, arith, ℕ, ◌<◌, List, [], ◌∷◌, ◌++◌, length, eqb-true}
use Rattle.std.specs.Prelude.{Bool, true, false, Some, slice_get, slice_set, if◌then◌else◌, ◌==◌}
use Rattle.std.proofs.lemmas.Bool.Decides.{eqb_tells}
use Rattle.std.proofs.lemmas.List.{append-nil, length-set}
use Rattle.std.proofs.lemmas.Option.{same_Some, slice_get_within}
use Rattle.audit_core.specs.Steps.{Step}
use Rattle.live_core.specs.Scene.{Scene}
use Rattle.live_core.specs.HostedSteps.{Steps, rests, goes_on}
use Rattle.history_law.specs.Happens.{all_happen}
use Rattle.keep_loop.specs.Texts.{to}
use Rattle.client_core.specs.Deeds.{Texts}
use Rattle.client_core.proofs.Moving.{to_more}
use Rattle.history_law.specs.Said.{Account, AllWent}
use Rattle.history_law.proofs.Going.{all_more, at_one, both, get_at, no_account}
use Rattle.history_law.proofs.Lists.{set_at, set_other}
use Rattle.history_law.specs.Asked.{Claim, Claims, AreAsked}
use Rattle.history_law.specs.Turns.{AllWentAsked, WentAsked}

went_both : (known : Claim) (h m k : Scene) (lines added : List ℕ) (first more : List Step) → WentAsked known h lines first m → WentAsked known m added more k → WentAsked known h (lines ++ added) (more ++ first) k
went_both known h m k lines added first more (one, was, own) (two, now, also) = (
  goes_on one two,
  ap (λ (l : List Step). l ++ first) now ∙ ap (λ (l : List Step). all_happen two [] ++ l) was ∙ sym (all_more m k added two (all_happen one [])),
  (own, also),
)

apart : (m n : ℕ) → (m == n) ≡ false → m ≢ n
apart m n h same = elim (eqb_tells m n) [ inl x ↦ absurd (let e : true ≡ false = sym x.0 ∙ h in cc) | inr x ↦ x.1 same ]

none_to : (at j : ℕ) → to j ((at, []) ∷ []) ≡ []
none_to at j = by (at == j)
  where
    nothing : List ℕ
    nothing = []

    by : (b : Bool) → (if b then nothing else nothing) ++ nothing ≡ nothing
    by true = refl
    by false = refl

module _ (claims : Claims) where
  -- as objects went
  pub all_went : (old : List Scene) (added : Texts) (account : Account) (new : List Scene) → AllWentAsked claims old added account new → AllWent old added account new
  all_went old added account new is = record { count = is.count; each = λ j h k was now. let w = is.each j h k was now in (w.0, w.1) }

  pub went_none : (scenes : List Scene) → AllWentAsked claims scenes [] no_account scenes
  went_none scenes = record {
    count = refl;
    each = λ j h k was is. subst (λ (x : Scene). WentAsked (claims.called j) h [] [] x) (same_Some h k (sym was ∙ is)) (rests, refl, tt);
  }

  pub went_then : (a b c : List Scene) (added further : Texts) (first more : Account) → AllWentAsked claims a added first b → AllWentAsked claims b further more c → AllWentAsked claims a (added ++ further) (both first more) c
  went_then a b c added further first more one two = record {
    count = two.count ∙ one.count;
    each = λ j h k was is.
        let within : j < length b = let at = slice_get_within c j k is in let long = two.count in omega (arith, at, long) in
        let m = get_at b j within in
        subst (λ (lines : List ℕ). WentAsked (claims.called j) h lines (more j ++ first j) k) (sym (to_more j added further))
        (went_both (claims.called j) h m.0 k (to j added) (to j further) (first j) (more j) (one.each j h m.0 was m.1) (two.each j m.0 k m.1 is));
  }

  pub went_one : (scenes : List Scene) (at : ℕ) (old new : Scene) (lines : List ℕ) → slice_get scenes at ≡ Some old → (goes : Steps old lines new) → AreAsked (claims.called at) goes →
      AllWentAsked claims scenes ((at, lines) ∷ []) (at_one at (all_happen goes [])) (slice_set scenes at new)
  went_one scenes at old new lines there goes own = record {
    count = length-set scenes at new;
    each = λ j h k was is. one j h k was is (at == j) refl;
  }
    where
      one : (j : ℕ) (h k : Scene) → slice_get scenes j ≡ Some h → slice_get (slice_set scenes at new) j ≡ Some k → (b : Bool) → (at == j) ≡ b →
          WentAsked (claims.called j) h ((if at == j then lines else []) ++ []) (if at == j then all_happen goes [] else []) k
      one j h k was is true same =
          let at_is : at ≡ j = eqb-true at j same in
          let h_is : old ≡ h = same_Some old h (sym there ∙ ap (slice_get scenes) at_is ∙ was) in
          let k_is : new ≡ k = same_Some new k (sym (set_at scenes at new old there) ∙ ap (slice_get (slice_set scenes at new)) at_is ∙ is) in
          subst (λ (b : Bool). WentAsked (claims.called j) h ((if b then lines else []) ++ []) (if b then all_happen goes [] else []) k) (sym same)
          (subst (λ (l : List ℕ). WentAsked (claims.called j) h l (all_happen goes []) k) (sym (append-nil lines))
          (subst (λ n. WentAsked (claims.called n) h lines (all_happen goes []) k) at_is
          (subst (λ (x : Scene). WentAsked (claims.called at) h lines (all_happen goes []) x) k_is (subst (λ (x : Scene). WentAsked (claims.called at) x lines (all_happen goes []) new) h_is (goes, refl, own)))))
      one j h k was is false other =
          let same : h ≡ k = same_Some h k (sym was ∙ sym (set_other scenes at j new (apart at j other)) ∙ is) in
          subst (λ (b : Bool). WentAsked (claims.called j) h ((if b then lines else []) ++ []) (if b then all_happen goes [] else []) k) (sym other) (subst (λ (x : Scene). WentAsked (claims.called j) h [] [] x) same (rests, refl, tt))

  -- no line tells of it
  pub went_quiet : (scenes : List Scene) (at : ℕ) (old new : Scene) → slice_get scenes at ≡ Some old → (goes : Steps old [] new) → AreAsked (claims.called at) goes →
      AllWentAsked claims scenes [] (at_one at (all_happen goes [])) (slice_set scenes at new)
  went_quiet scenes at old new there goes own =
      let m = went_one scenes at old new [] there goes own in
      record { count = m.count; each = λ j h k was is. subst (λ (l : List ℕ). WentAsked (claims.called j) h l (at_one at (all_happen goes []) j) k) (none_to at j) (m.each j h k was is) }
