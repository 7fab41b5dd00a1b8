-- How much a run has still to do.
use Rattle.std.specs.Prelude.{ℕ, ◌+◌, ◌-◌, ◌*◌, ◌==◌, if◌then◌else◌, List, [], ◌∷◌, length}
use Rattle.known_core.specs.Masks.{unread}
use Rattle.run_core.specs.Steps.{Place, at_read, at_page, at_create, at_append, at_seal, at_end}
use Rattle.world_core.specs.Scene.{Standing}

-- a run writes no more files: 8 pages of each of 16 parts
abbrev pub most_files : ℕ
most_files = 128

-- a body comes to no more pages that are not known: 8 of each of 16 parts
abbrev pub most_further : ℕ
most_further = 128

-- so many, or the most that there can be
abbrev pub at_most_further : ℕ → ℕ
at_most_further n = most_further - (most_further - n)

-- How many steps are left from there at most: one for each page of the parts that may still be read at first, of which
-- 16 have 8 pages, one for each page that is not known then, and three for each file that may still be written.
abbrev pub work_at : Place → ℕ
work_at (at_read part page) = ((16 - part) * 8 - page) + most_further + most_files * 3
work_at (at_page known part page) = at_most_further (unread known) + most_files * 3
work_at (at_create writes sealed) = (most_files - length sealed) * 3
work_at (at_append writes sealed) = (most_files - length sealed) * 3 - 1
work_at (at_seal writes sealed) = (most_files - length sealed) * 3 - 2
work_at (at_end reply sealed) = 0

-- no run has more than this to do
abbrev pub most_work : ℕ
most_work = 640

-- what the run of the call of this number has still to do
abbrev pub work_of : ℕ → List Standing → ℕ
work_of number [] = 0
work_of number (run ∷ runs) = if run.call.number == number then work_at run.place else work_of number runs
