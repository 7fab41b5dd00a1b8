-- What all paths of an object do together.
use Rattle.std.proofs.Common.{◌≡◌, ℕ, ◌+◌, ◌<◌, ◌≤◌, ◌⊎◌, inl, inr, Bool, true, false, List, [], ◌∷◌, refl, ap, arith, sym, ◌∙◌, length, get_or, subst}
use Rattle.std.specs.Prelude.{◌&&◌, if◌then◌else◌}
use Rattle.std.specs.Bool.{Decides}
use Rattle.std.proofs.lemmas.Bool.Decides.{leb_tells, Decides-and, Decides-like, Decides-at}
use Rattle.std.proofs.lemmas.List.{append-nil}
use Rattle.path_tree.specs.Path.{Path}
use Rattle.path_tree.specs.Trace.{Call, Event, Start, End, starts, ends, IsTrace}
use Rattle.path_tree.specs.Satisfies.{Satisfies, SatisfiesAll}
use Rattle.path_tree.specs.Names.{names, NamesOnce}
use Rattle.path_tree.proofs.CountLaws.{holds_now, end_satisfies}
use Rattle.path_count.specs.declared.program.Step.{Step}
use Rattle.path_count.specs.Program.{slots, start_steps, finish_steps, after_start, after_finish, has_room, AreWithin}
use Rattle.path_count.specs.Kept.{Kept}
use Rattle.path_count.specs.Object.{all_slots, programs_of, all_have_room, after_all, StaySmall, KeptAll, AllOnce, AllWithin}
use Rattle.path_count.proofs.PathWalk.{opens, after, admits, choose, Outside, after_outside, after_length, after_raised, kept_same}
use Rattle.path_count.proofs.FinishWalk.{closes, left, left_outside, left_length, left_raised}
use Rattle.path_count.proofs.Starting.{absent_holds, start_kept, absent_kept}
use Rattle.path_count.proofs.Finishing.{finish_kept, absent_left}
use Rattle.path_count.proofs.Admitting.{start_decides}
use Rattle.path_count.proofs.Steps.{start_walk, room_walk}
use Rattle.path_count.proofs.FinishSteps.{finish_walk}
use Rattle.path_count.proofs.Within.{start_within, finish_within}

-- what an event does to the counters of one path
abbrev pub Walking : Type 0
Walking = Path → ℕ → ℕ → List ℕ → List ℕ

-- it changes only the path's own counters, each by at most one upwards, as the path's steps say
pub record Steady (steps : Path → ℕ → ℕ → List Step) (run : List Step → List ℕ → List ℕ) (walk : Walking) : Type 0 where
  pub inside : (e : Path) (at op size : ℕ) → at + slots e ≤ size → AreWithin (steps e at op) size
  pub is : (e : Path) (at op : ℕ) (w : List ℕ) → run (steps e at op) w ≡ walk e at op w
  pub outside : (e : Path) (at op : ℕ) (w : List ℕ) → Outside (walk e at op w) w at (slots e)
  pub as_long : (e : Path) (at op : ℕ) (w : List ℕ) → length (walk e at op w) ≡ length w
  pub rises : (e : Path) (at op : ℕ) (w : List ℕ) (k : ℕ) → get_or (walk e at op w) k 0 ≤ get_or w k 0 + 1

both_same : (o : Bool) (v : List ℕ) → (if o then v else v) ≡ v
both_same true v = refl
both_same false v = refl

and_true : (a o : Bool) → (a && (if o then true else true)) ≡ a
and_true true true = refl
and_true true false = refl
and_true false o = refl

pub steady_start : Steady start_steps after_start after
steady_start = record {
  inside = start_within;
  is = λ e at op w. ap (λ s. after_start s w) (sym (append-nil (start_steps e at op))) ∙ start_walk e at op w [] ∙ both_same (opens e at op w) (after e at op w);
  outside = after_outside;
  as_long = after_length;
  rises = after_raised;
}

pub steady_finish : Steady finish_steps after_finish left
steady_finish = record {
  inside = finish_within;
  is = λ e at op w. ap (λ s. after_finish s w) (sym (append-nil (finish_steps e at op))) ∙ finish_walk e at op w [] ∙ both_same (closes e at op w) (left e at op w);
  outside = left_outside;
  as_long = left_length;
  rises = left_raised;
}

pub all_within : (steps : Path → ℕ → ℕ → List Step) (run : List Step → List ℕ → List ℕ) (walk : Walking) → Steady steps run walk →
    (paths : List Path) (at op size : ℕ) → at + all_slots paths ≤ size → AllWithin (programs_of steps paths at op) size
all_within steps run walk f [] at op size fits = tt
all_within steps run walk f (p ∷ paths) at op size fits =
    choose (λ s. AllWithin s size) (names p op) (steps p at op ∷ programs_of steps paths (at + slots p) op) (programs_of steps paths (at + slots p) op)
    (λ _. (f.inside p at op size (omega arith), all_within steps run walk f paths (at + slots p) op size (omega arith)))
    (λ _. all_within steps run walk f paths (at + slots p) op size (omega arith))

-- the counters after the event, path by path
abbrev pub walk_all : Walking → List Path → ℕ → ℕ → List ℕ → List ℕ
walk_all walk [] at op w = w
walk_all walk (p ∷ paths) at op w = walk_all walk paths (at + slots p) op (if names p op then walk p at op w else w)

by_name : (steps : Path → ℕ → ℕ → List Step) (run : List Step → List ℕ → List ℕ) (walk : Walking) → Steady steps run walk →
    (n : Bool) (p : Path) (paths : List Path) (at op : ℕ) (w : List ℕ) →
    ((v : List ℕ) → after_all run (programs_of steps paths (at + slots p) op) v ≡ walk_all walk paths (at + slots p) op v) →
    after_all run (if n then steps p at op ∷ programs_of steps paths (at + slots p) op else programs_of steps paths (at + slots p) op) w
    ≡ walk_all walk paths (at + slots p) op (if n then walk p at op w else w)
by_name steps run walk f true p paths at op w rest = ap (after_all run (programs_of steps paths (at + slots p) op)) (f.is p at op w) ∙ rest (walk p at op w)
by_name steps run walk f false p paths at op w rest = rest w

pub walk_is : (steps : Path → ℕ → ℕ → List Step) (run : List Step → List ℕ → List ℕ) (walk : Walking) → Steady steps run walk →
    (paths : List Path) (at op : ℕ) (w : List ℕ) → after_all run (programs_of steps paths at op) w ≡ walk_all walk paths at op w
walk_is steps run walk f [] at op w = refl
walk_is steps run walk f (p ∷ paths) at op w = by_name steps run walk f (names p op) p paths at op w (walk_is steps run walk f paths (at + slots p) op)

-- what the event in one path leaves
one : (steps : Path → ℕ → ℕ → List Step) (run : List Step → List ℕ → List ℕ) (walk : Walking) → Steady steps run walk → (p : Path) (at op : ℕ) (w : List ℕ) (k : ℕ) →
    (k < at) ⊎ (at + slots p ≤ k) → get_or (if names p op then walk p at op w else w) k 0 ≡ get_or w k 0
one steps run walk f p at op w k out = choose (λ v. get_or v k 0 ≡ get_or w k 0) (names p op) (walk p at op w) w (λ _. f.outside p at op w k out) (λ _. refl)

below : (steps : Path → ℕ → ℕ → List Step) (run : List Step → List ℕ → List ℕ) (walk : Walking) → Steady steps run walk →
    (paths : List Path) (at op : ℕ) (w : List ℕ) (k : ℕ) → k < at → get_or (walk_all walk paths at op w) k 0 ≡ get_or w k 0
below steps run walk f [] at op w k under = refl
below steps run walk f (p ∷ paths) at op w k under =
    below steps run walk f paths (at + slots p) op (if names p op then walk p at op w else w) k (omega arith) ∙ one steps run walk f p at op w k (inl under)

one_length : (steps : Path → ℕ → ℕ → List Step) (run : List Step → List ℕ → List ℕ) (walk : Walking) → Steady steps run walk → (p : Path) (at op : ℕ) (w : List ℕ) →
    length (if names p op then walk p at op w else w) ≡ length w
one_length steps run walk f p at op w = choose (λ v. length v ≡ length w) (names p op) (walk p at op w) w (λ _. f.as_long p at op w) (λ _. refl)

pub walk_length : (steps : Path → ℕ → ℕ → List Step) (run : List Step → List ℕ → List ℕ) (walk : Walking) → Steady steps run walk →
    (paths : List Path) (at op : ℕ) (w : List ℕ) → length (walk_all walk paths at op w) ≡ length w
walk_length steps run walk f [] at op w = refl
walk_length steps run walk f (p ∷ paths) at op w =
    walk_length steps run walk f paths (at + slots p) op (if names p op then walk p at op w else w) ∙ one_length steps run walk f p at op w

kept_all_same : (paths : List Path) (at : ℕ) (v w : List ℕ) (t : List Event) → KeptAll paths at w t → ((k : ℕ) → at ≤ k → get_or v k 0 ≡ get_or w k 0) → KeptAll paths at v t
kept_all_same [] at v w t h same = tt
kept_all_same (p ∷ paths) at v w t h same = (kept_same p at v w t h.0 (λ k lo hi. same k lo), kept_all_same paths (at + slots p) v w t h.1 (λ k lo. same k (omega arith)))

-- the counters of all paths follow where those of each path do
pub all_kept : (steps : Path → ℕ → ℕ → List Step) (run : List Step → List ℕ → List ℕ) (walk : Walking) → Steady steps run walk → (op : ℕ) (t later : List Event) →
    ((e : Path) (at : ℕ) (w : List ℕ) → Satisfies e t → NamesOnce e → names e op ≡ true → at + slots e ≤ length w → Kept e at w t → Kept e at (walk e at op w) later) →
    ((e : Path) (at : ℕ) (w : List ℕ) → names e op ≡ false → Kept e at w t → Kept e at w later) →
    (paths : List Path) (at : ℕ) (w : List ℕ) → SatisfiesAll paths t → AllOnce paths → at + all_slots paths ≤ length w → KeptAll paths at w t →
    KeptAll paths at (walk_all walk paths at op w) later
all_kept steps run walk f op t later named absent [] at w holds once fits kept = tt
all_kept steps run walk f op t later named absent (p ∷ paths) at w holds once fits kept =
    let v = if names p op then walk p at op w else w in
    let len : length v ≡ length w = one_length steps run walk f p at op w in
    let above : (k : ℕ) → at + slots p ≤ k → get_or v k 0 ≡ get_or w k 0 = λ k lo. one steps run walk f p at op w k (inr lo) in
    let here_kept : Kept p at v later = choose (λ x. Kept p at x later) (names p op) (walk p at op w) w
    (λ here. named p at w holds.0 once.0 here (omega arith) kept.0)
    (λ not_here. absent p at w not_here kept.0) in (
      kept_same p at (walk_all walk paths (at + slots p) op v) v later here_kept (λ k lo hi. below steps run walk f paths (at + slots p) op v k hi),
      all_kept steps run walk f op t later named absent paths (at + slots p) v holds.1 once.1 (omega (arith, len)) (kept_all_same paths (at + slots p) v w t kept.1 above),
    )

-- no counter grows by more than one
pub all_raised : (steps : Path → ℕ → ℕ → List Step) (run : List Step → List ℕ → List ℕ) (walk : Walking) → Steady steps run walk →
    (paths : List Path) (at op : ℕ) (w : List ℕ) (k : ℕ) → get_or (walk_all walk paths at op w) k 0 ≤ get_or w k 0 + 1
all_raised steps run walk f [] at op w k = omega arith
all_raised steps run walk f (p ∷ paths) at op w k =
    let v = if names p op then walk p at op w else w in
    elim (leb_tells (at + slots p) k) [
      | inl above ↦ omega (arith, all_raised steps run walk f paths (at + slots p) op v k, one steps run walk f p at op w k (inr above.1))
      | inr under ↦ omega (
        arith,
        below steps run walk f paths (at + slots p) op v k under.1,
        choose (λ x. get_or x k 0 ≤ get_or w k 0 + 1) (names p op) (walk p at op w) w (λ _. f.rises p at op w k) (λ _. omega arith),
      )
    ]

-- so none grows large on the way
pub stay_small : (steps : Path → ℕ → ℕ → List Step) (run : List Step → List ℕ → List ℕ) (walk : Walking) → Steady steps run walk →
    (paths : List Path) (at op : ℕ) (w : List ℕ) → ((k : ℕ) → get_or w k 0 ≤ 131073) → ((k : ℕ) → at ≤ k → get_or w k 0 ≤ 131072) → StaySmall run (programs_of steps paths at op) w
stay_small steps run walk f [] at op w all above = tt
stay_small steps run walk f (p ∷ paths) at op w all above =
    choose (λ s. StaySmall run s w) (names p op) (steps p at op ∷ programs_of steps paths (at + slots p) op) (programs_of steps paths (at + slots p) op)
    (λ _. (
      (λ k. omega (arith, all k)),
      subst (λ v. StaySmall run (programs_of steps paths (at + slots p) op) v) (sym (f.is p at op w))
          (stay_small steps run walk f paths (at + slots p) op (walk p at op w)
          (λ k. elim (leb_tells at k) [ inl up ↦ omega (arith, above k up.1, f.rises p at op w k) | inr down ↦ omega (arith, all k, f.outside p at op w k (inl down.1)) ])
          (λ k lo. omega (arith, above k (omega arith), f.outside p at op w k (inr lo)))),
    ))
    (λ _. stay_small steps run walk f paths (at + slots p) op w all (λ k lo. above k (omega arith)))

room_is : (e : Path) (at op : ℕ) (w : List ℕ) → has_room (start_steps e at op) w ≡ admits e at op w
room_is e at op w = ap (λ s. has_room s w) (sym (append-nil (start_steps e at op))) ∙ room_walk e at op w [] ∙ and_true (admits e at op w) (opens e at op w)

-- the counters admit the start exactly where every path allows it
pub all_decide : (paths : List Path) (at : ℕ) (w : List ℕ) (call : Call) (t : List Event) → IsTrace t → SatisfiesAll paths t → AllOnce paths → KeptAll paths at w t →
    Decides (all_have_room (programs_of start_steps paths at call.operation) w) (SatisfiesAll paths (Start call ∷ t))
all_decide [] at w call t trace holds once kept = (λ _. tt, λ _. refl)
all_decide (p ∷ paths) at w call t trace holds once kept =
    let op = call.operation in
    let later = programs_of start_steps paths (at + slots p) op in
    let rest = all_decide paths (at + slots p) w call t trace holds.1 once.1 kept.1 in
    choose (λ s. Decides (all_have_room s w) (SatisfiesAll (p ∷ paths) (Start call ∷ t))) (names p op) (start_steps p at op ∷ later) later
    (λ here. Decides-and (has_room (start_steps p at op) w) (all_have_room later w)
    (Decides-at (has_room (start_steps p at op) w) (admits p at op w) (room_is p at op w)
    (Decides-like (admits p at op w) (λ h. (h, holds.0)) (λ h. h.0) (start_decides p at w call t trace (holds_now p t holds.0) once.0 here kept.0)))
    rest)
    (λ not_here. Decides-like (all_have_room later w) (λ h. ((absent_holds p call t not_here (holds_now p t holds.0), holds.0), h)) (λ h. h.1) rest)

-- the counters of all paths follow a start, and a finish of a running call
pub all_started : (paths : List Path) (w : List ℕ) (call : Call) (t : List Event) → IsTrace t → SatisfiesAll paths t → AllOnce paths → all_slots paths ≤ length w → KeptAll paths 0 w t →
    KeptAll paths 0 (walk_all after paths 0 call.operation w) (Start call ∷ t)
all_started paths w call t trace holds once fits kept =
    all_kept start_steps after_start after steady_start call.operation t (Start call ∷ t)
    (λ e at w satisfied once named fits kept. start_kept e at w call t trace (holds_now e t satisfied) once named fits kept)
    (λ e at w absent kept. absent_kept e at w call t absent kept)
    paths 0 w holds once (omega (arith, fits)) kept

pub all_finished : (paths : List Path) (w : List ℕ) (call : Call) (t : List Event) → IsTrace t → SatisfiesAll paths t → AllOnce paths → all_slots paths ≤ length w → ends call.operation t < starts call.operation t → KeptAll paths 0 w t →
    KeptAll paths 0 (walk_all left paths 0 call.operation w) (End call ∷ t)
all_finished paths w call t trace holds once fits runs kept =
    all_kept finish_steps after_finish left steady_finish call.operation t (End call ∷ t)
    (λ e at w satisfied once named fits kept. finish_kept e at w call t trace (holds_now e t satisfied) once named runs fits kept)
    (λ e at w absent kept. absent_left e at w call t absent kept)
    paths 0 w holds once (omega (arith, fits)) kept

-- a finish is always allowed
pub all_satisfy : (paths : List Path) (t : List Event) (call : Call) → SatisfiesAll paths t → SatisfiesAll paths (End call ∷ t)
all_satisfy [] t call holds = tt
all_satisfy (p ∷ paths) t call holds = (end_satisfies p t call holds.0, all_satisfy paths t call holds.1)
