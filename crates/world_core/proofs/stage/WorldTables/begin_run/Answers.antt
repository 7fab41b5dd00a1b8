use Rattle.std.proofs.Common.{◌≡◌, sym, ◌∙◌, ap, subst, length}
use Rattle.device_core.specs.Files.{files_of}
use Rattle.run_core.specs.Runs.{run_call}
use Rattle.page_core.specs.ObjectCalls.{RunningCall}
use Rattle.board_core.specs.Board.{Board, taken_at}
use Rattle.board_core.specs.Sound.{IsSound}
use Rattle.board_core.specs.Answers.{Collects}
use Rattle.world_core.specs.declared.slot.Slot.{Slot as ASlot}
use Rattle.world_core.specs.Scene.{call_running}
use Rattle.world_core.specs.Kept.{IsKept}
use Rattle.world_core.proofs.Beginning.{found_none, none_left_absurd, ticket_found, begun_ready, one_begun}
use Rattle.world_core.proofs.Places.{some_is}
use Rattle.world_core.proofs.stage.WorldTables.begin_run.Goals as goal

pub unreachable-requires : goal.unreachable-requires
unreachable-requires c =
    let next = c.requires.next in
    none_left_absurd _ _ _ _ next.0 c.args.number c.requires.kept next.1 next.2 (found_none _ _ _ _ c.collect.ensures.board c.in-Waiting.is)

pub returns-clause-kept : goal.returns-clause-kept
returns-clause-kept c =
    let next = c.requires.next in
    let r : RunningCall = next.0 in
    let old = c.args.self.now in
    let found = ticket_found _ _ _ _ c.args.number r c.in-Ticket.ticket _ c.requires.kept next.1 next.2 (subst (λ x. Collects old.desk c.args.number x c.collect.new.self) c.in-Ticket.is c.collect.ensures.board) in
    let slot : ASlot = record { alloc = old.alloc; number = c.args.number; run = c.new-run.result } in
    let call : run_call c.new-run.result ≡ call_running r = c.new-run.ensures.call ∙ found.1 in
    let sound : IsSound (taken_at old.desk (length old.runs.items) r) = subst IsSound found.0 c.history.ensures.sound in
    let ready = begun_ready old.desk (files_of old.hand) (length old.runs.items) r slot c.requires.kept.sound next.1 c.requires.kept.served call (sym next.2) c.new-run.ensures.pen c.new-run.ensures.sealed c.new-run.ensures.starts c.new-run.ensures.fresh in
    let all = one_begun old.desk (files_of old.hand) old.runs.items old.opening.items r slot c.requires.kept next.1 sound call ready c.new-run.ensures.pen in
    subst (λ (b : Board). IsKept b (files_of old.hand) c.push_reserved.new.self.items old.opening.items) (sym found.0)
    (subst (λ runs. IsKept (taken_at old.desk (length old.runs.items) r) (files_of old.hand) runs old.opening.items) (sym c.push_reserved.ensures.items) all)

pub returns-clause-desk : goal.returns-clause-desk
returns-clause-desk c = λ r at.
    let next = c.requires.next in
    let old = c.args.self.now in
    let found = ticket_found _ _ _ _ c.args.number next.0 c.in-Ticket.ticket _ c.requires.kept next.1 next.2 (subst (λ x. Collects old.desk c.args.number x c.collect.new.self) c.in-Ticket.is c.collect.ensures.board) in
    found.0 ∙ ap (λ (x : RunningCall). taken_at old.desk (length old.runs.items) x) (some_is (sym next.1 ∙ at))

pub returns-clause-runs : goal.returns-clause-runs
returns-clause-runs c = λ r at.
    let next = c.requires.next in
    let old = c.args.self.now in
    let found = ticket_found _ _ _ _ c.args.number next.0 c.in-Ticket.ticket _ c.requires.kept next.1 next.2 (subst (λ x. Collects old.desk c.args.number x c.collect.new.self) c.in-Ticket.is c.collect.ensures.board) in
    let slot : ASlot = record { alloc = old.alloc; number = c.args.number; run = c.new-run.result } in
    (slot, c.push_reserved.ensures.items, c.new-run.ensures.call ∙ found.1 ∙ ap call_running (some_is (sym next.1 ∙ at)), c.new-run.ensures.starts)
