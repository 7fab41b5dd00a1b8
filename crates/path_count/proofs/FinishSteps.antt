-- Along its steps a finish does what it does on the path.
use Rattle.std.proofs.Common.{◌≡◌, ℕ, ◌+◌, ◌-◌, inl, Bool, true, false, List, [], ◌∷◌, ◌++◌, refl, ap, arith, ◌∙◌, get_or, append_assoc}
use Rattle.std.proofs.Math.ListN.{set}
use Rattle.std.specs.Prelude.{nat_lt, if◌then◌else◌}
use Rattle.path_tree.specs.Path.{Path, Paths, name, list, sequence, bound, burst, two, more}
use Rattle.path_tree.specs.Names.{names}
use Rattle.path_count.specs.Program.{slots, finish_steps, list_finish, turn_finish, after_finish}
use Rattle.path_count.specs.declared.program.Step.{Step}
use Rattle.path_count.specs.declared.program.Step.TheVariants as steps
use Rattle.path_count.proofs.FinishWalk.{closes, closes_some, closes_last, left, left_some, left_turn, left_outside}
use Rattle.path_count.proofs.Steps.{by_test}

bound_after_finish : (o : Bool) (q : List Step) (v : List ℕ) (at x y : ℕ) → y ≡ x →
    (if o then after_finish q (set v at (y - 1)) else v) ≡ (if o then after_finish q (if o then set v at (x - 1) else v) else (if o then set v at (x - 1) else v))
bound_after_finish true q v at x y h = ap (λ z. after_finish q (set v at (z - 1))) h
bound_after_finish false q v at x y h = refl

burst_after_finish : (o c : Bool) (q : List Step) (v : List ℕ) (at x y : ℕ) → y ≡ x → c ≡ nat_lt 1 x →
    (if o then (if nat_lt 1 y then set v at (y - 1) else after_finish q (set v at (y - 1))) else v) ≡
    (if (if o then (if c then false else true) else false) then after_finish q (if o then set v at (x - 1) else v) else (if o then set v at (x - 1) else v))
burst_after_finish true true q v at x y h is = rw (h, ← is) refl
burst_after_finish true false q v at x y h is = rw (h, ← is) refl
burst_after_finish false c q v at x y h is = refl

turn_after_finish : (o : Bool) (v : List ℕ) (at x y : ℕ) → y ≡ x →
    (if o then set v at (y + 1) else v) ≡ (if o then set v at (x + 1) else v)
turn_after_finish o v at x y h = ap (λ z. if o then set v at (z + 1) else v) h

mutual
  pub finish_walk : (e : Path) (at op : ℕ) (w : List ℕ) (q : List Step) →
      after_finish (finish_steps e at op ++ q) w ≡ (if closes e at op w then after_finish q (left e at op w) else left e at op w)
  finish_walk (name o) at op w q = refl
  finish_walk (list ms) at op w q = finish_walk_some ms at op w q
  finish_walk (sequence ms) at op w q = finish_walk_turn ms at op w q
  finish_walk (bound n e) at op w q =
      ap (λ s. after_finish s w) (append_assoc (finish_steps e (at + 1) op) (steps.Bound at n ∷ []) q)
      ∙ finish_walk e (at + 1) op w (steps.Bound at n ∷ q)
      ∙ bound_after_finish (closes e (at + 1) op w) q (left e (at + 1) op w) at (get_or w at 0) (get_or (left e (at + 1) op w) at 0) (left_outside e (at + 1) op w at (inl (omega arith)))
  finish_walk (burst e) at op w q =
      ap (λ s. after_finish s w) (append_assoc (finish_steps e (at + 1) op) (steps.Burst at ∷ []) q)
      ∙ finish_walk e (at + 1) op w (steps.Burst at ∷ q)
      ∙ burst_after_finish (closes e (at + 1) op w) (nat_lt 1 (get_or w at 0)) q (left e (at + 1) op w) at (get_or w at 0) (get_or (left e (at + 1) op w) at 0) (left_outside e (at + 1) op w at (inl (omega arith))) refl

  finish_walk_some : (ms : Paths) (at op : ℕ) (w : List ℕ) (q : List Step) →
      after_finish (list_finish ms at op ++ q) w ≡ (if closes_some ms at op w then after_finish q (left_some ms at op w) else left_some ms at op w)
  finish_walk_some (two a b) at op w q = let next = (at + 1) + slots a in
      by_test after_finish (names a op) w q (finish_steps a (at + 1) op) (finish_steps b next op) (closes a (at + 1) op w) (closes b next op w)
      (left a (at + 1) op w) (left b next op w) (finish_walk a (at + 1) op w q) (finish_walk b next op w q)
  finish_walk_some (more a rest) at op w q = let next = (at + 1) + slots a in
      by_test after_finish (names a op) w q (finish_steps a (at + 1) op) (list_finish rest next op) (closes a (at + 1) op w) (closes_some rest next op w)
      (left a (at + 1) op w) (left_some rest next op w) (finish_walk a (at + 1) op w q) (finish_walk_some rest next op w q)

  finish_walk_turn : (ms : Paths) (at op : ℕ) (w : List ℕ) (q : List Step) →
      after_finish (turn_finish ms at op ++ q) w ≡ (if closes_last ms at op w then after_finish q (left_turn ms at op w) else left_turn ms at op w)
  finish_walk_turn (two a b) at op w q = let next = (at + 1) + slots a in let v = left a (at + 1) op w in
      by_test after_finish (names a op) w q (finish_steps a (at + 1) op ++ steps.Turn at ∷ []) (finish_steps b next op) false (closes b next op w)
      (if closes a (at + 1) op w then set v at (get_or w at 0 + 1) else v) (left b next op w)
      (ap (λ s. after_finish s w) (append_assoc (finish_steps a (at + 1) op) (steps.Turn at ∷ []) q)
      ∙ finish_walk a (at + 1) op w (steps.Turn at ∷ q)
      ∙ turn_after_finish (closes a (at + 1) op w) v at (get_or w at 0) (get_or v at 0) (left_outside a (at + 1) op w at (inl (omega arith))))
      (finish_walk b next op w q)
  finish_walk_turn (more a rest) at op w q = let next = (at + 1) + slots a in let v = left a (at + 1) op w in
      by_test after_finish (names a op) w q (finish_steps a (at + 1) op ++ steps.Turn at ∷ []) (turn_finish rest next op) false (closes_last rest next op w)
      (if closes a (at + 1) op w then set v at (get_or w at 0 + 1) else v) (left_turn rest next op w)
      (ap (λ s. after_finish s w) (append_assoc (finish_steps a (at + 1) op) (steps.Turn at ∷ []) q)
      ∙ finish_walk a (at + 1) op w (steps.Turn at ∷ q)
      ∙ turn_after_finish (closes a (at + 1) op w) v at (get_or w at 0) (get_or v at 0) (left_outside a (at + 1) op w at (inl (omega arith))))
      (finish_walk_turn rest next op w q)
