-- What is told of an operation of a board.
use Rattle.std.proofs.Common.{◌≡◌, ℕ, ◌++◌, List, length, sym, ◌∙◌, ap, subst}
use Rattle.path_tree.specs.Path.{Path}
use Rattle.path_tree.specs.Trace.{Event}
use Rattle.path_count.specs.State.{State}
use Rattle.path_count.specs.Stands.{StandsFor}
use Rattle.decl_core.specs.declared.object.Object.{Object}
use Rattle.decl_core.specs.ObjectMap.{object_of}
use Rattle.stuck_core.specs.declared.reason.Reason.{Reason}
use Rattle.stuck_core.specs.ReasonViews.{whys_of}
use Rattle.stuck_core.specs.Tells.{Tells}
use Rattle.board_core.specs.Board.{Board, paths_of, past_of}
use Rattle.stuck_core.specs.declared.why.RunningRow.{RunningRow}
use Rattle.stuck_core.specs.Why.{why_text}
use Rattle.world_core.specs.Counted.{HasCounted}
use Rattle.world_core.specs.Told.{running_there}

-- reasons by counters that have counted what happened on a board
pub told_by : (b : Board) (c : State) (o : Object) (paths : List Path) (given op : ℕ) (found : List Reason) → HasCounted b c → o ≡ b.object → paths ≡ o.paths.items → given ≡ op
    → ((n : ℕ) (t : List Event) → StandsFor c n paths t → Tells paths given t (whys_of found)) → Tells (paths_of b) op (past_of b) (whys_of found)
told_by b c o paths given op found counted same are is told =
    let path : paths ≡ paths_of b = are ∙ ap (λ (x : Object). x.paths.items) same in
    subst (λ ps. Tells ps op (past_of b) (whys_of found)) path (subst (λ k. Tells paths k (past_of b) (whys_of found)) is
    (told (length b.object.operations.items) (past_of b) (subst (λ ps. StandsFor c (length b.object.operations.items) ps (past_of b)) (sym path) counted)))

-- the lines that tell of a call that waits
pub why_made : (b : Board) (o : Object) (number : ℕ) (out new : List ℕ) (found given asked : List Reason) (runs shown : List RunningRow) → o ≡ b.object
    → new ≡ out ++ why_text (object_of o) number (whys_of given) shown → given ≡ found → shown ≡ runs → asked ≡ found → runs ≡ running_there b (whys_of asked)
    → new ≡ out ++ why_text (object_of b.object) number (whys_of found) (running_there b (whys_of found))
why_made b o number out new found given asked runs shown same made is_given is_shown is_asked run =
    made
    ∙ ap (λ (x : Object). out ++ why_text (object_of x) number (whys_of given) shown) same
    ∙ ap (λ rs. out ++ why_text (object_of b.object) number (whys_of rs) shown) is_given
    ∙ ap (λ xs. out ++ why_text (object_of b.object) number (whys_of found) xs) (is_shown ∙ run ∙ ap (λ rs. running_there b (whys_of rs)) is_asked)
