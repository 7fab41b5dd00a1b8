-- Over turns each call that runs is the one for which its client asked.
use Rattle.std.specs.Prelude.{◌≡◌, ◌≢◌, ◌⊎◌, ℕ, true, List, [], ◌∷◌, Option, Some, length, slice_get}
use Rattle.apply_core.specs.declared.reply.Reply.{Reply}
use Rattle.word_core.specs.Events.{Called}
use Rattle.live_core.specs.Hall.{Every}
use Rattle.session_text.specs.Lines.{ended_text, repeated_text}
use Rattle.guest_core.specs.declared.seats.SeatHolder.TheVariants.{Nameless}
use Rattle.audit_core.specs.Steps.{Step}
use Rattle.live_core.specs.Scene.{Scene}
use Rattle.live_core.specs.HostedSteps.{Steps}
use Rattle.history_law.specs.Happens.{all_happen}
use Rattle.history_law.specs.Stands.{AreSeated}
use Rattle.keep_loop.specs.Texts.{to}
use Rattle.keep_loop.specs.Turns.{Asked, Turn, Runs}
use Rattle.keep_loop.specs.Turns.Asked.{Heard, Noted, Changes}
use Rattle.client_core.specs.declared.client.OpenObject.{OpenObject}
use Rattle.client_core.specs.Deeds.{Texts}
use Rattle.client_core.specs.State.{Peer, State, opened_in, who_in}
use Rattle.history_law.specs.Said.{Account, HasRun, HasRemembered, SaysIn, SaysNoReply}
use Rattle.table_core.specs.Moves.{Gives}
use Rattle.table_core.specs.Seen.{IsQuiet, seen}
use Rattle.table_core.specs.declared.table.Table.{Table}
use Rattle.history_law.specs.Replied.{HaveOneHistory}
use Rattle.history_law.specs.Awaits.{IsElementOf, AllHeld}
use Rattle.history_law.specs.Asked.{Claim, Claims, no_claims, AreAsked, ClientHas, IsAskedOf, IsHere}

-- a connection has opened an object by a name, and this is known of it
abbrev pub OpenedAs : Claims → Option ℕ → OpenObject → List ℕ → Type 0
OpenedAs claims who o name = (o.is_named ≡ true) × claims.named who o.object name

-- Objects and who has opened them: each call that waits is the one for which its client asked; who has a session of an object
-- has it alone, and is not away, and where it has a name it has opened the object by this name; and while a call of a session without a name waits, who has that session waits for it.
pub record AllAsked (claims : Claims) (objects : List Scene) (peers : List Peer) : Type 0 where
  pub asked : (j : ℕ) (s : Scene) → slice_get objects j ≡ Some s → IsAskedOf (claims.called j) s
  pub here : (place : ℕ) (o : OpenObject) (s : Scene) → opened_in (slice_get peers place) ≡ Some o → o.session ≢ 0 → slice_get objects o.object ≡ Some s →
      ClientHas (IsHere (OpenedAs claims (who_in (slice_get peers place)) o)) s.guests o.session
  pub alone : (place other : ℕ) (o u : OpenObject) → opened_in (slice_get peers place) ≡ Some o → opened_in (slice_get peers other) ≡ Some u → o.session ≢ 0 → o.object ≡ u.object → o.session ≡ u.session →
      place ≡ other
  pub waits : (place : ℕ) (o : OpenObject) (s : Scene) (c : Called) → opened_in (slice_get peers place) ≡ Some o → slice_get objects o.object ≡ Some s → IsElementOf c s.hall.waiting → c.session ≡ o.session →
      slice_get s.guests.seats o.session ≡ Some Nameless → o.waits ≡ true

-- an object went by steps with these lines, this is what happened, and each call that ran in them is its client's own
abbrev pub WentAsked : Claim → Scene → List ℕ → List Step → Scene → Type 0
WentAsked known old lines steps new = (all : Steps old lines new) × (steps ≡ all_happen all []) × AreAsked known all

-- each object went so
pub record AllWentAsked (claims : Claims) (old : List Scene) (added : Texts) (account : Account) (new : List Scene) : Type 0 where
  pub count : length new ≡ length old
  pub each : (j : ℕ) (h k : Scene) → slice_get old j ≡ Some h → slice_get new j ≡ Some k → WentAsked (claims.called j) h (to j added) (account j) k

-- at one of the moments of what happened an object had remembered a call, and until then each call that ran was its client's own
pub record HasRememberedOwn (claims : Claims) (objects : List Scene) (account : Account) (told : ℕ) (reply : Reply) : Type 0 where
  pub is : HasRemembered objects account told reply
  pub own : AreAsked (claims.called is.object) is.since

-- a text tells the end of a call that ran, or of one that was remembered so, with the number that was told of it and its reply; or
-- no reply
abbrev pub IsOwn : Claims → List Scene → Account → List ℕ → Type 0
IsOwn claims objects account text =
    ((n : ℕ) × (reply : Reply) × (((text ≡ ended_text n reply) × HasRun objects account n reply) ⊎ ((text ≡ repeated_text n reply) × HasRememberedOwn claims objects account n reply)))
    ⊎ SaysNoReply text

abbrev pub AreOwn : Claims → State → Account → Texts → Type 0
AreOwn claims old account said = Every (λ (s : ℕ × List ℕ). IsOwn claims old.objects account s.1) said

-- so do objects in a turn in which no epoch begins
abbrev pub WentIn : Claims → State → Asked → Texts → Account → State → Type 0
WentIn claims old (Heard who line end) added account new = AllWentAsked claims old.objects added account new.objects
WentIn claims old (Noted note) added account new = AllWentAsked claims old.objects added account new.objects
WentIn claims old (Changes journal text went) added account new = Unit {0}

-- These turns lead from old to new, this happened in each of them, what each tells is true of that and so, and objects went so.
abbrev pub AreTurns : Claims → Table → List Turn → List Account → Table → Type 0
AreTurns claims old [] [] new = new ≡ old
AreTurns claims old [] (a ∷ accounts) new = ⊥
AreTurns claims old (t ∷ turns) [] new = ⊥
AreTurns claims old (t ∷ turns) (a ∷ accounts) new =
    (mid : Table) × Gives old t.asked t.said t.added mid × SaysIn (seen old) t.asked t.said t.added a (seen mid) × WentIn claims (seen old) t.asked t.added a (seen mid)
    × AreOwn claims (seen old) a t.said × AreTurns claims mid turns accounts new

-- Turns have one history, in which it is so; and so it is behind them.
pub record HaveAsked (claims : Claims) (first last : Table) (turns : List Turn) : Type 0 where
  pub history : HaveOneHistory first last turns
  pub turns_are : AreTurns claims first turns history.accounts last
  pub now : AllAsked claims last.objects.items (seen last).peers

-- So it is of any turns, from a table on of which it is so.
abbrev pub TurnsHaveAsked : Type 0
TurnsHaveAsked =
    (first last : Table) (turns : List Turn) → Runs Gives first turns last → AllAsked no_claims first.objects.items (seen first).peers → HaveAsked no_claims first last turns

-- A table of which nobody has opened an object, and no call waits, is one.
abbrev pub NobodyHasAsked : Type 0
NobodyHasAsked =
    (t : Table) → AllHeld t.objects.items → ((j : ℕ) (s : Scene) → slice_get t.objects.items j ≡ Some s → AreSeated s.guests × (s.hall.waiting ≡ [])) → IsQuiet (seen t) →
    AllAsked no_claims t.objects.items (seen t).peers
