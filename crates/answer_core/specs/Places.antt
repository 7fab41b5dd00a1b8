-- Where clients of a server connect.
use Rattle.std.specs.Prelude.{◌≡◌, ℕ, List, [], Option, Some, None, string_bytes}
use Rattle.command_line.specs.declared.request.Address.{Address}
use Rattle.command_line.specs.declared.request.Address.TheVariants as addresses
use Rattle.answer_core.specs.declared.socket.Socket.{Socket}
use Rattle.answer_core.specs.declared.lack.Wanted.{Wanted}
use Rattle.answer_core.specs.declared.lack.Wanted.TheVariants as needs

-- the path of a socket, where clients connect at one; else no text
abbrev pub path_in : Address → List ℕ
path_in (addresses.Port port) = []
path_in (addresses.Path path) = path.now

-- what is lacking where nobody can listen there
abbrev pub need_at : Address → Wanted
need_at (addresses.Port port) = needs.Port port
need_at (addresses.Path path) = needs.Socket

-- no socket for a port; for a path the one that is there
abbrev pub IsSocketOf : Address → Option Socket → Type 0
IsSocketOf (addresses.Port port) made = made ≡ None
IsSocketOf (addresses.Path path) made = (socket : Socket) × (made ≡ Some socket) × (string_bytes socket.path ≡ path.now)
