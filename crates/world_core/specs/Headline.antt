-- The main theorem of worlds.
use Rattle.std.specs.Prelude.{◌≡◌, ◌≢◌, ◌<◌, List, map}
use Rattle.path_tree.specs.Trace.{IsTrace}
use Rattle.path_tree.specs.Satisfies.{SatisfiesAll}
use Rattle.decl_core.specs.declared.object.Object.{Object}
use Rattle.device_core.specs.Device.{Assignment}
use Rattle.apply_core.specs.declared.reply.Failure.TheVariants as failures
use Rattle.apply_core.specs.declared.reply.Reply.TheVariants as replies
use Rattle.apply_core.specs.History.{IsLegal, leads_to}
use Rattle.page_core.specs.Lists.{Every, EachPair}
use Rattle.page_core.specs.ObjectCalls.{Noted}
use Rattle.board_core.specs.Board.{paths_of, past_of, Rests}
use Rattle.board_core.specs.Chain.{history_of, ShowContents}
use Rattle.board_core.specs.Sound.{kinds_of, ends_of, IsNoted}
use Rattle.world_core.specs.declared.event.EventAnswer.{EventAnswer}
use Rattle.world_core.specs.Events.{WorldEvent}
use Rattle.world_core.specs.Scene.{Scene, AgreesWith, IsNew}
use Rattle.world_core.specs.Plays.{Plays, finishes, HasFailedStep}

-- The history of a world is sequential.
pub record IsSequential (w : Scene) : Type 0 where
  -- each finished call has the reply that the sequential object gives at its place
  pub replies : IsLegal (history_of w.board.history) w.opening
  -- the published contents, which the bytes under the published pins spell, are the sequential
  -- object's after that history
  pub published : (a : Assignment) → AgreesWith w a →
      ShowContents a (kinds_of w.board.object) w.board.pins (leads_to (history_of w.board.history) w.opening)
  pub agrees : (a : Assignment) × AgreesWith w a
  -- each finished call stands there once, each session's in its order, and nothing else ended
  pub once : EachPair (λ (e f : Noted). e.number ≢ f.number) w.board.history
  pub in_order : EachPair (λ (e f : Noted). e.session ≡ f.session → e.number < f.number) w.board.history
  pub ends : ends_of w.board.trace ≡ map (λ (e : Noted). (e.number, e.reply)) w.board.history
  -- each is of the call that was accepted under its number: its session, its operation and its arguments
  pub noted : Every (IsNoted w.board.calls) w.board.history
  -- what happened is a trace: each call starts once at most, and ends once at most, after its start
  pub trace : IsTrace (past_of w.board)
  -- every prefix of starts and finishes satisfies every path
  pub paths : SatisfiesAll (paths_of w.board) (past_of w.board)

-- Every history is sequential: what holds of the world of an object after these events, which were answered so.
pub record EveryHistoryIsSequential (o : Object) (events : List WorldEvent) (answers : List EventAnswer)
    (new : Scene) : Type 0 where
  pub old : Scene
  pub begins : IsNew o old
  pub plays : Plays old events answers new
  pub sequential : IsSequential new
  -- the calls that finished, with the replies that they were given, are the history, in order
  pub told : map (λ (e : Noted). (e.number, e.reply)) new.board.history ≡ finishes events answers
  -- a call fails for the device only where a step of its own was made to fail, and never since a part is damaged
  pub fails : Every (λ (e : Noted). e.reply ≡ replies.Failed failures.Device → HasFailedStep e.number events answers)
      new.board.history
  pub sound : Every (λ (e : Noted). e.reply ≢ replies.Failed failures.Damaged) new.board.history
  -- no waiting call may start
  pub rests : Rests new.board
