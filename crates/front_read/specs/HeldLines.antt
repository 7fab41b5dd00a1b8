-- What is held, as the front of an epoch tells it.
use Rattle.std.specs.Prelude.{◌≡◌, ℕ, List, ◌∷◌, ◌++◌, Option, Some, None, codes, decimal, map, slice_get}
use Rattle.value_core.specs.Datum.{IsDatum, elem_of}
use Rattle.decl_core.specs.ObjectForm.{ObjectForm}
use Rattle.word_core.specs.Words.{Word, bare}
use Rattle.word_core.specs.Data.{session_word}
use Rattle.word_core.specs.Events.{body_at}
use Rattle.word_core.specs.Text.{lines_of}
use Rattle.live_core.specs.Front.{Every, IsOperation, IsSession, IsLong}
use Rattle.live_core.specs.Text.{call_words, rows}
use Rattle.decl_core.specs.HoldForm.{HoldForm, reply_sorts}
use Rattle.guest_core.specs.Held.{HeldCall, hold_of_op}
use Rattle.value_core.specs.declared.datum.Datum.{Datum}
use Rattle.front_read.specs.declared.hold_lines.HeldSo.{HeldSo}

-- the operation whose calls are held so; a number that no operation has, where there is no such hold
abbrev pub op_by : Option HoldForm → ℕ
op_by None = 65535
op_by (Some h) = h.op

abbrev pub held_op : List HoldForm → HeldCall → ℕ
held_op holds h = op_by (slice_get holds h.rule)

-- behind `held`: `sK N OP DATA ..`
abbrev pub held_words : ObjectForm → List HoldForm → HeldCall → List Word
held_words o holds h =
    session_word h.session ∷ bare (decimal h.number) ∷ call_words o (held_op holds h) h.values

-- the lines of what is held
abbrev pub held_text : ObjectForm → List HoldForm → List HeldCall → List ℕ
held_text o holds held = lines_of (rows (codes "held") (held_words o holds) held)

-- a line says something by itself: its operation is that of a hold, and it is held with what that takes, and what it
-- replies
pub record IsHeldLine (o : ObjectForm) (holds : List HoldForm) (h : HeldCall) : Type 0 where
  pub rule : HoldForm
  pub there : slice_get holds h.rule ≡ Some rule
  pub first : hold_of_op holds rule.op ≡ Some h.rule
  pub number : IsLong h.number
  pub session : IsSession h.session
  pub operation : IsOperation o rule.op
  pub fit : map elem_of h.values ≡ (body_at o rule.op).params ++ reply_sorts (body_at o rule.op).result
  pub each : Every IsDatum h.values

-- a call that is held so, with these values
abbrev pub held_with : HeldSo → List Datum → HeldCall
held_with so values =
    record { number = so.number; session = so.session; rule = so.rule; values = values }
