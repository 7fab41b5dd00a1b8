-- What a server starts with, by what it was asked for.
use Rattle.std.specs.Prelude.{◌≡◌, ⊤, ℕ, length, string_bytes}
use Rattle.command_line.specs.declared.request.Explain.TheVariants.{Always, Never}
use Rattle.command_line.specs.declared.request.Serving.{Serving}
use Rattle.answer_core.specs.Places.{IsSocketOf}
use Rattle.answer_core.specs.Telling.{HasNoHolds}
use Rattle.answer_core.specs.declared.explanation.Telling.TheVariants.{Nothing, Whole}
use Rattle.answer_core.specs.declared.sources.WithoutHolds.{WithoutHolds}
use Rattle.answer_core.specs.declared.sources.WithoutHolds.TheVariants as plains
use Rattle.command_tool.specs.declared.start.Prepared.{Prepared}
use Rattle.command_tool.specs.declared.start.Prepared.TheVariants as prepared
use Rattle.command_tool.specs.declared.start.ServerStart.{ServerStart}

-- a source in which no object has holds; or a command ends with 1
abbrev pub IsServable : WithoutHolds → Type 0
IsServable (plains.Plain text) = HasNoHolds text.items
IsServable (plains.Told status) = status ≡ 1

-- the file and the folder that were named, as many hands on this folder as connections were asked for, and a socket
-- where a path was named
abbrev pub StartsAs : Serving → ServerStart → Type 0
StartsAs asked start =
    (string_bytes start.source.file ≡ asked.file.now) × (string_bytes start.source.folder ≡ asked.folder.now)
    × (string_bytes start.place.folder ≡ asked.folder.now) × (length start.place.hands.items ≡ asked.sessions)
    × IsSocketOf asked.address start.socket

-- as much is told of the source as was asked for
abbrev pub TellsAs : Serving → ServerStart → Type 0
TellsAs asked start =
    (asked.explain ≡ Always → start.source.telling ≡ Whole) × (asked.explain ≡ Never → start.source.telling ≡ Nothing)

-- before any thread is started `serve` ends with 1, or has all that it was asked for, and no object has holds
abbrev pub IsPrepared : Serving → Prepared → Type 0
IsPrepared asked (prepared.Ended status) = status ≡ 1
IsPrepared asked (prepared.Serves start stops) = HasNoHolds start.source.text.items × StartsAs asked start
    × TellsAs asked start × (stops ≡ asked.stops)
