-- Who is told of each call of an object that ended.
use Rattle.std.specs.Prelude.{ℕ, Bool, false, ◌==◌, if◌then◌else◌, List, [], ◌∷◌, ◌++◌, map, Option, Some, None}
use Rattle.decl_core.specs.ObjectForm.{ObjectForm}
use Rattle.apply_core.specs.declared.reply.Reply.{Reply}
use Rattle.apply_core.specs.History.{End}
use Rattle.word_core.specs.Events.{Called, end_of}

-- a call that ended, how, and the connection that was told of it, if one was
pub record Dealt : Type 0 where
  pub whom : Option ℕ
  pub call : Called
  pub reply : Reply

-- the ends of these calls
abbrev pub dealt_ends : ObjectForm → List Dealt → List End
dealt_ends o dealt = map (λ (d : Dealt). end_of o d.call d.reply) dealt

abbrev pub is_for : ℕ → Option ℕ → Bool
is_for c None = false
is_for c (Some who) = who == c

-- and those of them of which this connection was told
abbrev pub ends_for : ℕ → ObjectForm → List Dealt → List End
ends_for c o [] = []
ends_for c o (d ∷ dealt) = (if is_for c d.whom then end_of o d.call d.reply ∷ [] else []) ++ ends_for c o dealt
