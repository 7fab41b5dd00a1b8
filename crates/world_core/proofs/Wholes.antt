-- The pins of running calls are whole.
use Rattle.std.proofs.Common.{◌≡◌, ℕ, zero, suc, List, Some}
use Rattle.value_core.specs.Contents.{Contents}
use Rattle.device_core.specs.declared.file.File.{File}
use Rattle.device_core.specs.Device.{Assignment}
use Rattle.device_core.specs.Files.{HasFiles}
use Rattle.apply_core.specs.History.{leads_to}
use Rattle.page_core.specs.Truths.{PinsAreWhole}
use Rattle.page_core.specs.Lists.{Every, Among}
use Rattle.page_core.specs.ObjectCalls.{AcceptedCall, RunningCall}
use Rattle.board_core.specs.Board.{Board, call_at}
use Rattle.board_core.specs.Chain.{ShowContents, history_of}
use Rattle.board_core.specs.Sound.{IsMadeOf, IsPinned, IsRunningIn, kinds_of}
use Rattle.board_core.proofs.Law.{chained_are_legal, pins_whole}
use Rattle.page_core.proofs.Lists.{Every-at, Every-among}
use Rattle.world_core.specs.declared.slot.Slot.{Slot}
use Rattle.world_core.specs.Kept.{IsKept}
use Rattle.world_core.specs.Scene.{call_running}

-- what holds of each accepted call
pub of_call_at : (P : AcceptedCall → Type 0) (calls : List AcceptedCall) (n : ℕ) (call : AcceptedCall) → Every P calls → call_at calls n ≡ Some call → P call
of_call_at P calls zero call all at = absurd cc
of_call_at P calls (suc k) call all at = Every-at P calls k call all at

-- the published pins show contents
pub pins_show : (b : Board) (files : List File) (runs : List Slot) (values : List Contents) (a : Assignment) → IsKept b files runs values → HasFiles files a → ShowContents a (kinds_of b.object) b.pins (leads_to (history_of b.history) values)
pins_show b files runs values a kept agrees = (chained_are_legal a (kinds_of b.object) b.opening b.pins b.history values kept.sound.pinned.entries kept.sound.pinned.chained (kept.opening a agrees) (kept.entries a agrees)).1

-- so the pins of a running call are whole
pub call_whole : (b : Board) (files : List File) (runs : List Slot) (values : List Contents) (r : RunningCall) (a : Assignment) → IsKept b files runs values → Among r b.running → HasFiles files a → PinsAreWhole a (call_running r)
call_whole b files runs values r a kept among agrees =
    let runs_so : IsRunningIn b r = Every-among (IsRunningIn b) b.running r kept.sound.counted.runs among in
    let made : IsMadeOf b.object r.call = of_call_at (IsMadeOf b.object) b.calls r.number r.call kept.sound.counted.made runs_so.call in
    pins_whole a (kinds_of b.object) b.pins (leads_to (history_of b.history) values) (call_running r) (pins_show b files runs values a kept agrees) made.parts
    (Every-among (IsPinned b.pins) b.running r kept.sound.pinned.pinned among)
