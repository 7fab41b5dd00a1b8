-- A source that a command goes on with has no holds, and so has the server that is made of it.
use Rattle.std.proofs.Common.{◌≡◌, ℕ, List, refl, sym, subst}
use Rattle.command_line.specs.declared.request.Serving.{Serving}
use Rattle.answer_core.specs.Telling.{HasNoHolds, IsPlainOrRefused}
use Rattle.answer_core.specs.declared.sources.WithoutHolds.{WithoutHolds}
use Rattle.answer_core.specs.declared.sources.WithoutHolds.TheVariants as plains
use Rattle.command_tool.specs.Starts.{IsPrepared, IsServable, StartsAs, TellsAs}
use Rattle.command_tool.specs.declared.start.Prepared.TheVariants as prepared
use Rattle.command_tool.specs.declared.start.ServerStart.{ServerStart}

pub servable : (source : List ℕ) (plain : WithoutHolds) → IsPlainOrRefused source plain → IsServable plain
servable source (plains.Plain text) is = subst HasNoHolds (sym is.0) is.1
servable source (plains.Told status) is = is

pub goes_on : (asked : Serving) (start : ServerStart) (text : List ℕ) → HasNoHolds text → start.source.text.items ≡ text →
    StartsAs asked start → TellsAs asked start → IsPrepared asked (prepared.Serves start asked.stops)
goes_on asked start text none same starts tells = (subst HasNoHolds (sym same) none, starts, tells, refl)
