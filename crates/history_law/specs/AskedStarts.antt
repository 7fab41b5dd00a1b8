-- What was asked under keys in the epochs that a start reads.
use Rattle.std.specs.Prelude.{◌≡◌, ℕ, List, ◌∷◌, ◌++◌, Some}
use Rattle.decl_core.specs.ObjectForm.{ObjectForm}
use Rattle.apply_core.specs.declared.reply.Reply.{Reply}
use Rattle.apply_core.specs.History.{End}
use Rattle.word_core.specs.Events.{body_at}
use Rattle.live_core.specs.declared.front.NamedClient.{NamedClient}
use Rattle.guest_core.specs.declared.kept.Asked.{Asked}
use Rattle.history_law.specs.Year.{all_ends}
use Rattle.history_law.specs.Keys.{KeyedCall, TellKeys, all_told, epoch_began, epochs_of}
use Rattle.history_law.specs.Tells.{WasTold}

-- the end of a call that asked for this
abbrev pub end_asked : ObjectForm → Asked → Reply → End
end_asked o a reply = record { body = body_at o a.operation; arguments = a.arguments; reply = reply }

-- it stands in a history
pub record HasEnd (history : List End) (e : End) : Type 0 where
  pub before : List End
  pub after : List End
  pub stands : history ≡ before ++ e ∷ after

-- Each call of which the epochs tell that a start has read, behind which its own begins, that it ended under a key with a reply has
-- its end in their one history: of the operation and with the arguments that were asked, and with this reply.
abbrev pub StartsAreAsked : Type 0
StartsAreAsked =
    (o : ObjectForm) (text : List ℕ) (texts : List (List ℕ)) (t : TellKeys o text texts) (clients : List NamedClient) (k : KeyedCall) (reply : Reply) →
    WasTold (epoch_began clients ∷ all_told o t.last t.earlier) k → k.call.reply ≡ Some reply →
    HasEnd (all_ends o t.last.epoch (epochs_of o t.earlier)) (end_asked o k.call.asked reply)
