-- The history of a world, whose tables are kept, is sequential.
use Rattle.std.proofs.Common.{◌≡◌, ◌≢◌, ◌<◌, List, [], ◌∷◌, Some, sym, ◌∙◌, ap, arith}
use Rattle.std.specs.Prelude.{unwrap_or}
use Rattle.device_core.specs.Device.{Assignment}
use Rattle.device_core.specs.Files.{HasFiles, files_of}
use Rattle.device_core.proofs.Agreeing.{some_map}
use Rattle.apply_core.specs.History.{leads_to}
use Rattle.page_core.specs.Lists.{Every, EachPair}
use Rattle.page_core.specs.ObjectCalls.{AcceptedCall, Noted}
use Rattle.board_core.specs.Board.{call_at}
use Rattle.board_core.specs.Chain.{ShowContents, history_of}
use Rattle.board_core.specs.Sound.{IsNoted, kinds_of}
use Rattle.board_core.proofs.Law.{chained_are_legal}
use Rattle.world_core.specs.declared.stage.WorldTables.{WorldTables}
use Rattle.world_core.specs.Kept.{IsStaged, scene_of}
use Rattle.world_core.specs.Headline.{IsSequential}

-- entries of one number are of one session
same_session : (calls : List AcceptedCall) (e f : Noted) → IsNoted calls e → IsNoted calls f → e.number ≡ f.number → e.session ≡ f.session
same_session calls e f one other same =
    let call : Some one.call ≡ Some other.call = sym one.there ∙ ap (call_at calls) same ∙ other.there in
    one.session ∙ ap (λ o. (unwrap_or o one.call).session) call ∙ sym other.session

-- so no two have one number, where those of a session stand in their order
differs : (calls : List AcceptedCall) (e : Noted) (es : List Noted) → IsNoted calls e → Every (IsNoted calls) es → Every (λ (f : Noted). e.session ≡ f.session → e.number < f.number) es → Every (λ (f : Noted). e.number ≢ f.number) es
differs calls e [] one all later = tt
differs calls e (f ∷ es) one all later = (not_same, differs calls e es one all.1 later.1) where
  not_same : e.number ≡ f.number → ⊥
  not_same same = let less : e.number < f.number = later.0 (same_session calls e f one all.0 same) in omega (arith, less, same)

pub once_each : (calls : List AcceptedCall) (es : List Noted) → Every (IsNoted calls) es → EachPair (λ (e f : Noted). e.session ≡ f.session → e.number < f.number) es → EachPair (λ (e f : Noted). e.number ≢ f.number) es
once_each calls [] noted ordered = tt
once_each calls (e ∷ es) noted ordered = (differs calls e es noted.0 noted.1 ordered.0, once_each calls es noted.1 ordered.1)

-- what the published pins spell is what the history leads to
pub contents_shown : (s : WorldTables) → IsStaged s → (a : Assignment) → HasFiles (files_of s.hand) a → ShowContents a (kinds_of s.desk.object) s.desk.pins (leads_to (history_of s.desk.history) s.opening.items)
contents_shown s staged a agrees =
    let kept = staged.kept in
    (chained_are_legal a (kinds_of s.desk.object) s.desk.opening s.desk.pins s.desk.history s.opening.items kept.sound.pinned.entries kept.sound.pinned.chained (kept.opening a agrees) (kept.entries a agrees)).1

pub staged_is_sequential : (s : WorldTables) → IsStaged s → IsSequential (scene_of s)
staged_is_sequential s staged =
    let kept = staged.kept in
    let some = some_map s.hand.files.items in
    record {
      replies = (chained_are_legal some.0 (kinds_of s.desk.object) s.desk.opening s.desk.pins s.desk.history s.opening.items kept.sound.pinned.entries kept.sound.pinned.chained (kept.opening some.0 some.1) (kept.entries some.0 some.1)).0;
      published = contents_shown s staged;
      agrees = some;
      once = once_each s.desk.calls s.desk.history kept.sound.told.noted kept.sound.told.in_order;
      in_order = kept.sound.told.in_order;
      ends = kept.sound.told.ends;
      noted = kept.sound.told.noted;
      trace = kept.sound.counted.trace;
      paths = kept.sound.counted.satisfied;
    }
