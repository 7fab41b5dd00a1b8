-- Who is told that a call ended, and who waits then.
use Rattle.std.proofs.Common.{◌≡◌, ◌≢◌, ◌⊎◌, inl, inr, ◌∙◌, ap, sym, subst, refl, ℕ, List, [], ◌∷◌, ◌++◌, append_assoc}
use Rattle.std.specs.Prelude.{Bool, true, false, Option, Some, None, slice_get}
use Rattle.std.proofs.lemmas.List.{append-nil}
use Rattle.std.proofs.lemmas.Option.{same_Some}
use Rattle.decl_core.specs.declared.object.Object.{Object}
use Rattle.word_core.specs.Events.{Called}
use Rattle.session_text.specs.Lines.{accepted_text, ended_text}
use Rattle.live_core.specs.declared.call.Ran.{Ran}
use Rattle.live_core.specs.Hall.{Every}
use Rattle.live_core.specs.Scene.{Scene, told_of}
use Rattle.client_core.specs.declared.client.OpenObject.{OpenObject}
use Rattle.client_core.specs.Held.{with_waits}
use Rattle.client_core.specs.Asked.{Ends, AllEnd}
use Rattle.client_core.specs.Deeds.{Texts}
use Rattle.client_core.specs.State.{Peer, State, change, waiting, one_text, opened_in, who_in}
use Rattle.history_law.specs.Awaits.{IsElementOf, Lines, HasAsked, Pool, IsSeated, AllSeated, AreAlone}
use Rattle.history_law.specs.Answers.{AllAlong}
use Rattle.history_law.proofs.Lists.{Apart, one_of_session, calls_of, changed_was, has_peer}
use Rattle.history_law.proofs.Places.{all_past, alone_changed}

-- what was opened where now this is
pub with_waits_some : (x : Option OpenObject) (b : Bool) (o : OpenObject) → with_waits b x ≡ Some o → (u : OpenObject) × (x ≡ Some u) × (o ≡ record u { waits = b })
with_waits_some None b o is = absurd (none_some o is)
  where
    none_some : (o : OpenObject) → None ≡ Some o → ⊥
    none_some o is = cc
with_waits_some (Some u) b o is = (u, refl, sym (same_Some (record u { waits = b }) o is))

pub true_false : (b : Bool) → b ≡ true → b ≡ false → ⊥
true_false b is not = wrong (sym is ∙ not)
  where
    wrong : true ≡ false → ⊥
    wrong e = cc

-- one thing along, and then another
pub along_both : (T : Texts → ℕ → List ℕ → Type 0) (past first rest : Texts) → AllAlong T past first → AllAlong T (past ++ first) rest → AllAlong T past (first ++ rest)
along_both T past [] rest all more = subst (λ (p : Texts). AllAlong T p rest) (append-nil past) more
along_both T past (s ∷ first) rest (one, all) more =
    (one, along_both T (past ++ s ∷ []) first rest all (subst (λ (p : Texts). AllAlong T p rest) (sym (append_assoc past (s ∷ []) first)) more))

pub along_map : (T U : Texts → ℕ → List ℕ → Type 0) (past said : Texts) → ((p : Texts) (who : ℕ) (text : List ℕ) → T p who text → U p who text) → AllAlong T past said → AllAlong U past said
along_map T U past [] f all = tt
along_map T U past (s ∷ said) f (one, all) = (f past s.0 s.1 one, along_map T U (past ++ s ∷ []) said f all)

-- these calls, and others
abbrev pub with_ran : ℕ → List Ran → Pool → Pool
with_ran at all base j d = ((j ≡ at) × IsElementOf d (calls_of all)) ⊎ base j d

module _ (heard : Lines) where
  -- what is told of the end of a call
  abbrev pub TellsEnd : Texts → Object → Called → ℕ → List ℕ → Texts → Type 0
  TellsEnd past object c number text said =
      (said ≡ []) ⊎ ((who : ℕ) × (said ≡ (who, text) ∷ []) × HasAsked heard who object c × IsElementOf (who, accepted_text number) past)

  -- who waits where fewer calls are there
  pub seated_pool : (past : Texts) (objects : List Scene) (was is : Pool) (p : Peer) →
      ((o : OpenObject) → p.opened ≡ Some o → o.waits ≡ true → (d : Called) → d.session ≡ o.session → was o.object d → is o.object d) →
      IsSeated heard past objects was p → IsSeated heard past objects is p
  seated_pool past objects was is p f s = record {
    held = s.held;
    opened = s.opened;
    waits = λ o by waits.
        let a = s.waits o by waits in
        record {
          here = a.here;
          who_is = a.who_is;
          object = a.object;
          there = a.there;
          call = a.call;
          is_there = f o by waits a.call a.session_is a.is_there;
          session_is = a.session_is;
          told_is = a.told_is;
          asked = a.asked;
          accepted = a.accepted;
        };
  }

  -- who is told it, and waits no more
  seated_idle : (past : Texts) (objects : List Scene) (was is : Pool) (p : Peer) → IsSeated heard past objects was p → IsSeated heard past objects is (waiting false p)
  seated_idle past objects was is p s = record {
    held = s.held;
    opened = λ o by.
        let u = with_waits_some p.opened false o by in
        let m = s.opened u.0 u.1 in
        record { here = m.here; who_is = m.who_is; object = m.object; there = ap (λ (x : OpenObject). slice_get objects x.object) u.2 ∙ m.there; asked = m.asked };
    waits = λ o by waits. absurd (let u = with_waits_some p.opened false o by in true_false o.waits waits (ap (λ (x : OpenObject). x.waits) u.2));
  }

  pub one_end : (past : Texts) (at : ℕ) (object : Scene) (c : Called) (pool rest : Pool) (session number : ℕ) (text : List ℕ) (old new : State) (said added : Texts) →
      slice_get old.objects at ≡ Some object → c.session ≡ session → number ≡ told_of object c.number →
      ((j : ℕ) (d : Called) → pool j d → ((j ≡ at) × (d ≡ c)) ⊎ rest j d) → ((d : Called) → pool at d → d.session ≡ c.session → d ≡ c) →
      AllSeated heard past old.objects pool old.peers → AreAlone old.peers → Ends at session number text old said added new →
      TellsEnd past object.hall.object c number text said × AllSeated heard past old.objects rest new.peers × AreAlone new.peers × (new.objects ≡ old.objects)
  one_end past at object c pool rest session number text old new said added there of number_is split unique seated alone (inl (place, e)) =
      let opened = e.waits.opened in
      let is = e.waits.is in
      let peer = has_peer (slice_get old.peers place) opened e.waits.by in
      let a = (seated place peer.0 peer.1).waits opened peer.2 is.waits in
      let call : a.call ≡ c = unique a.call (subst (λ n. pool n a.call) is.object a.is_there) (a.session_is ∙ is.session_is ∙ sym of) in
      let scene : a.object ≡ object = same_Some a.object object (sym a.there ∙ ap (slice_get old.objects) is.object ∙ there) in
      let asked : HasAsked heard a.here object.hall.object c =
      subst (λ (s : Scene). HasAsked heard a.here s.hall.object c) scene (subst (λ (d : Called). HasAsked heard a.here a.object.hall.object d) call a.asked) in
      let left : new.peers ≡ change old.peers place (waiting false) = ap (λ (s : State). s.peers) e.left in (
        inr (
          a.here,
          e.told ∙ ap (λ (w : Option ℕ). one_text w text) (ap who_in peer.1 ∙ a.who_is),
          asked,
          subst (λ n. IsElementOf (a.here, accepted_text n) past) is.told_is a.accepted,
        ),
        subst (λ (ps : List Peer). AllSeated heard past old.objects rest ps) (sym left)
            (λ q p now. others q p (changed_was old.peers place (waiting false) q p now)),
        subst (λ (ps : List Peer). AreAlone ps) (sym left)
            (alone_changed old.peers place (waiting false) alone
            (λ p now o by waits. absurd (let u = with_waits_some p.opened false o by in true_false o.waits waits (ap (λ (x : OpenObject). x.waits) u.2)))),
        ap (λ (s : State). s.objects) e.left,
      )
    where
      others : (q : ℕ) (p : Peer) → ((q ≡ place) × ((was : Peer) × (slice_get old.peers q ≡ Some was) × (p ≡ waiting false was))) ⊎ ((q ≢ place) × (slice_get old.peers q ≡ Some p)) →
          IsSeated heard past old.objects rest p
      others q p (inl (here, (was, there_was, is))) =
          subst (λ (x : Peer). IsSeated heard past old.objects rest x) (sym is) (seated_idle past old.objects pool rest was (seated q was there_was))
      others q p (inr (other, same)) =
          seated_pool past old.objects pool rest p
          (λ o by waits d session_of is_there.
          elim (split o.object d is_there) [
            | inl gone ↦ absurd (other (alone q place o e.waits.opened (ap opened_in same ∙ by) e.waits.by waits e.waits.is.waits (gone.0 ∙ sym e.waits.is.object)
                (sym session_of ∙ ap (λ (x : Called). x.session) gone.1 ∙ of ∙ sym e.waits.is.session_is)))
            | inr stays ↦ stays
          ])
          (seated q p same)
  one_end past at object c pool rest session number text old new said added there of number_is split unique seated alone (inr (nobody, n)) =
      let left : new.peers ≡ old.peers = ap (λ (s : State). s.peers) n.left in (
        inl n.told,
        subst (λ (ps : List Peer). AllSeated heard past old.objects rest ps) (sym left) all,
        subst (λ (ps : List Peer). AreAlone ps) (sym left) alone,
        ap (λ (s : State). s.objects) n.left,
      )
    where
      all : AllSeated heard past old.objects rest old.peers
      all q p same = record {
        held = (seated q p same).held;
        opened = (seated q p same).opened;
        waits = λ o by waits.
            let a = (seated q p same).waits o by waits in
            record {
              here = a.here;
              who_is = a.who_is;
              object = a.object;
              there = a.there;
              call = a.call;
              is_there = elim (split o.object a.call a.is_there) [
                | inl gone ↦ absurd (nobody q (record {
                  opened = o;
                  by = ap opened_in same ∙ by;
                  is = record {
                    object = gone.0;
                    session_is = sym a.session_is ∙ ap (λ (x : Called). x.session) gone.1 ∙ of;
                    waits = waits;
                    told_is = sym a.told_is ∙ ap (λ (x : Called). told_of a.object x.number) gone.1
                        ∙ ap (λ (s : Scene). told_of s c.number) (same_Some a.object object (sym a.there ∙ ap (slice_get old.objects) gone.0 ∙ there)) ∙ sym number_is;
                  };
                }))
                | inr stays ↦ stays
              ];
              session_is = a.session_is;
              told_is = a.told_is;
              asked = a.asked;
              accepted = a.accepted;
            };
      }

  -- of all that ran
  pub all_end : (T : Texts → ℕ → List ℕ → Type 0) (Run : Ran → Type 0) (at : ℕ) (object : Scene) (all : List Ran) (past : Texts) (base : Pool) (cs : List Called) (old new : State) (said added : Texts) →
      slice_get old.objects at ≡ Some object →
      ((p : Texts) (who : ℕ) (r : Ran) → Run r → HasAsked heard who object.hall.object r.call → IsElementOf (who, accepted_text (told_of object r.call.number)) p →
      T p who (ended_text (told_of object r.call.number) r.reply)) → Every Run all → Apart cs → ((d : Called) → with_ran at all base at d → IsElementOf d cs) →
      AllSeated heard past old.objects (with_ran at all base) old.peers → AreAlone old.peers → AllEnd at object all old said added new →
      AllAlong T past said × AllSeated heard (past ++ said) old.objects base new.peers × AreAlone new.peers × (new.objects ≡ old.objects)
  all_end T Run at object [] past base cs old new said added there answer runs apart all_in seated alone n =
      let left : new.peers ≡ old.peers = ap (λ (s : State). s.peers) n.left in (
        subst (λ (s : Texts). AllAlong T past s) (sym n.told) tt,
        subst (λ (s : Texts). AllSeated heard (past ++ s) old.objects base new.peers) (sym n.told)
            (subst (λ (ps : List Peer). AllSeated heard (past ++ []) old.objects base ps) (sym left)
            (all_past heard past [] old.objects base old.peers
            (λ q p same. seated_pool past old.objects (with_ran at [] base) base p (λ o by waits d of is_there. elim is_there [ inl none ↦ absurd none.1 | inr stays ↦ stays ]) (seated q p same)))),
        subst (λ (ps : List Peer). AreAlone ps) (sym left) alone,
        ap (λ (s : State). s.objects) n.left,
      )
  all_end T Run at object (r ∷ all) past base cs old new said added there answer (run, runs) apart all_in seated alone (mid, first, rest, told, one, more) =
      let number = told_of object r.call.number in
      let text = ended_text number r.reply in
      let step = one_end past at object r.call (with_ran at (r ∷ all) base) (with_ran at all base) r.call.session number text old mid first [] there refl refl
      (λ j d is. elim is [
        | inl a ↦ elim a.1 [ inl same ↦ inl (a.0, sym same) | inr later ↦ inr (inl (a.0, later)) ]
        | inr b ↦ inr (inr b)
      ])
      (λ d is same. one_of_session cs d r.call apart (all_in d is) (all_in r.call (inl (refl, inl refl))) same)
      seated alone one in
      let along : AllAlong T past first = elim step.0 [
        | inl none ↦ subst (λ (s : Texts). AllAlong T past s) (sym none) tt
        | inr a ↦ subst (λ (s : Texts). AllAlong T past s) (sym a.1) (answer past a.0 r run a.2 a.3, tt)
      ] in
      let later = all_end T Run at object all (past ++ first) base cs mid new rest added (ap (λ (l : List Scene). slice_get l at) step.3 ∙ there) answer runs apart
      (λ d is. all_in d (elim is [ inl a ↦ inl (a.0, inr a.1) | inr b ↦ inr b ]))
      (subst (λ (l : List Scene). AllSeated heard (past ++ first) l (with_ran at all base) mid.peers) (sym step.3)
      (all_past heard past first old.objects (with_ran at all base) mid.peers step.1)) step.2 more in (
        subst (λ (s : Texts). AllAlong T past s) (sym told) (along_both T past first rest along later.0),
        subst (λ (s : Texts). AllSeated heard (past ++ s) old.objects base new.peers) (sym told)
            (subst (λ (p : Texts). AllSeated heard p old.objects base new.peers) (append_assoc past first rest)
            (subst (λ (l : List Scene). AllSeated heard ((past ++ first) ++ rest) l base new.peers) step.3 later.1)),
        later.2,
        later.3 ∙ step.3,
      )
