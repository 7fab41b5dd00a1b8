-- What the sequential object makes of the lines of a script: each call at once, as it finishes, one after another.
use Rattle.std.specs.Prelude.{◌≡◌, ◌≢◌, ℕ, ◌+◌, ◌⊎◌, Bool, true, false, List, [], ◌∷◌, ◌++◌, length, map, codes, Some}
use Rattle.std.specs.List.{flat_map}
use Rattle.std.specs.Str.Lines.{lines}
use Rattle.value_core.specs.declared.datum.Datum.{Datum}
use Rattle.value_core.specs.Contents.{Contents}
use Rattle.value_core.specs.Meaning.{opening_of}
use Rattle.decl_core.specs.Bodies.{body_of}
use Rattle.decl_core.specs.declared.object.Object.{Object}
use Rattle.decl_core.specs.ObjectMap.{object_of}
use Rattle.value_core.specs.Runs.{Runs, Stops}
use Rattle.word_core.specs.Says.{Says}
use Rattle.apply_core.specs.declared.reply.Failure.TheVariants as failures
use Rattle.apply_core.specs.declared.reply.Reply.{Reply}
use Rattle.apply_core.specs.declared.reply.Reply.TheVariants.{Done, Refused, Failed}
use Rattle.apply_core.specs.History.{IsReplyOn, left_by}
use Rattle.page_core.specs.Lists.{Every, Among}
use Rattle.page_core.specs.ObjectCalls.{AcceptedCall}
use Rattle.board_core.specs.Board.{call_at}
use Rattle.board_core.specs.Sound.{kinds_of}
use Rattle.board_core.specs.Keys.{HasKey, next_key}
use Rattle.board_core.specs.Answers.{IsNamedAt}
use Rattle.board_core.specs.Keyed.{IsSameCall}
use Rattle.word_core.specs.Said.{Said, a_call, a_keyed_call, a_do, a_step, all_steps, a_finish, a_cancel, a_drop}
use Rattle.word_core.specs.Said.{a_resume, a_show, a_trace, said_of, IsSkipped}
use Rattle.word_core.specs.Answers.{called_line, refused_line, all_stepped_line, finished_line, kept_line}
use Rattle.word_core.specs.Answers.{repeated_line, started_line, shown_lines, bad_line}
use Rattle.world_core.specs.Asked.{Asked, asked_of}
use Rattle.world_core.specs.declared.script.ScriptEnd.{ScriptEnd}
use Rattle.world_core.specs.declared.script.ScriptEnd.TheVariants.{Whole, BadLine}
use Rattle.world_core.specs.Writes.{NamesObject, IsOther}

-- Whether the first line has named the object, the calls that were given numbers, from 1, the values of the parts, the
-- calls that have finished, each with its reply, and those of which a step was to fail.
pub record Serial : Type 0 where
  pub named : Bool
  pub object : Object
  pub calls : List AcceptedCall
  pub contents : List Contents
  pub replies : List (ℕ × Reply)
  pub failing : List ℕ

-- before the first line each part has its opening value
pub record IsFirst (o : Object) (s : Serial) : Type 0 where
  pub named : s.named ≡ false
  pub object : s.object ≡ o
  pub calls : s.calls ≡ []
  pub contents : s.contents ≡ map opening_of (kinds_of o)
  pub replies : s.replies ≡ []
  pub failing : s.failing ≡ []

-- a call of this session, whose operation is the object's of this name
pub record IsCallOf (o : Object) (session : ℕ) (name : List ℕ) (arguments : List Datum)
    (call : AcceptedCall) : Type 0 where
  pub caller : call.session ≡ session
  pub named : IsNamedAt o call.op call.operation name
  pub given : call.arguments ≡ arguments

-- of the calls so far the one of this number is the session's of this key, and it is of the operation of this name, in
-- any case, with these arguments
pub record IsRepeat (calls : List AcceptedCall) (session key : ℕ) (name : List ℕ) (arguments : List Datum)
    (number : ℕ) : Type 0 where
  pub has : HasKey calls session key number
  pub same : IsSameCall (record { session = session; name = name; arguments = arguments }) has.call

-- the call of this number has not finished
abbrev pub IsUnended : List (ℕ × Reply) → ℕ → Type 0
IsUnended replies number = Every (λ (told : ℕ × Reply). told.0 ≢ number) replies

-- what is said of such a call
abbrev pub IsKeptWord : List ℕ → Type 0
IsKeptWord word = (word ≡ codes "waiting") ⊎ ((word ≡ codes "running") ⊎ (word ≡ codes "cancelled"))

-- a call fails for the device only where a step of it was to fail, and never since a part is damaged; for
-- want of memory it may
abbrev pub MayReply : List ℕ → ℕ → Reply → Type 0
MayReply failing number (Done reply) = Unit {0}
MayReply failing number (Refused word) = Unit {0}
MayReply failing number (Failed failures.Device) = Among number failing
MayReply failing number (Failed failures.Memory) = Unit {0}
MayReply failing number (Failed failures.Damaged) = ⊥

-- a line `started N` for each of some calls
abbrev pub AreStarts : List ℕ → Type 0
AreStarts text = (numbers : List ℕ) × (text ≡ flat_map started_line numbers)

-- What a line that says this is answered, and what it leaves. A call does nothing until it finishes. Then it
-- has the reply that its operation's body gives on the values of the parts, as the calls that finished
-- before it have left them.
pub data Serially : Said → Serial → List ℕ → Serial → Type 0 where
  called : {session : ℕ} {name : List ℕ} {arguments : List Datum} {old : Serial} {text starts : List ℕ}
      (call : AcceptedCall) → IsCallOf old.object session name arguments call → AreStarts starts
      → text ≡ called_line (length old.calls + 1) ++ starts →
      Serially (a_call session name arguments) old text (record old { calls = old.calls ++ call ∷ [] })
  not_called : {session : ℕ} {name : List ℕ} {arguments : List Datum} {old : Serial} {text : List ℕ} (fault : List ℕ) →
      text ≡ refused_line fault → Serially (a_call session name arguments) old text old
  -- under the key of the session's next call it is such a call; under that of an earlier one it changes nothing, and
  -- tells the reply with which that finished, or that it has not
  called_key : {session key : ℕ} {name : List ℕ} {arguments : List Datum} {old : Serial} {text starts : List ℕ}
      (call : AcceptedCall) → key ≡ next_key old.calls session → IsCallOf old.object session name arguments call →
      AreStarts starts
      → text ≡ called_line (length old.calls + 1) ++ starts →
      Serially (a_keyed_call session key name arguments) old text (record old { calls = old.calls ++ call ∷ [] })
  repeated : {session key : ℕ} {name : List ℕ} {arguments : List Datum} {old : Serial} {text : List ℕ} (number : ℕ)
      (reply : Reply) → IsRepeat old.calls session key name arguments number → Among (number, reply) old.replies
      → text ≡ repeated_line number reply → Serially (a_keyed_call session key name arguments) old text old
  kept : {session key : ℕ} {name : List ℕ} {arguments : List Datum} {old : Serial} {text : List ℕ} (number : ℕ)
      (word : List ℕ) → IsRepeat old.calls session key name arguments number → IsUnended old.replies number →
      IsKeptWord word
      → text ≡ kept_line word number → Serially (a_keyed_call session key name arguments) old text old
  not_called_key : {session key : ℕ} {name : List ℕ} {arguments : List Datum} {old : Serial} {text : List ℕ}
      (fault : List ℕ) → text ≡ refused_line fault → Serially (a_keyed_call session key name arguments) old text old
  finished : {number : ℕ} {old : Serial} {text starts : List ℕ} (call : AcceptedCall) (reply : Reply) →
      call_at old.calls number ≡ Some call → IsReplyOn reply (body_of call.operation) call.arguments old.contents
      → MayReply old.failing number reply → AreStarts starts → text ≡ finished_line number reply ++ starts
      → Serially (a_finish number) old text (record old {
        contents = left_by reply (body_of call.operation)
            call.arguments old.contents;
        replies = old.replies ++ (number, reply) ∷ [];
      })
  not_finished : {number : ℕ} {old : Serial} {text : List ℕ} (why : List ℕ) → text ≡ refused_line why →
      Serially (a_finish number) old text old
  -- a call that is done at once is called and finishes, with a reply; one that is not is called alone
  done_at_once : {session number : ℕ} {name : List ℕ} {arguments : List Datum} {old mid new : Serial}
      {first last text : List ℕ} (count : ℕ) (reply : Reply) → number ≡ length old.calls + 1 →
      Serially (a_call session name arguments) old first mid → Serially (a_finish number) mid last new →
      new.replies ≡ mid.replies ++ (number, reply) ∷ []
      → text ≡ first ++ all_stepped_line number count ++ last → Serially (a_do session name arguments) old text new
  only_called : {session : ℕ} {name : List ℕ} {arguments : List Datum} {old new : Serial} {text : List ℕ} →
      Serially (a_call session name arguments) old text new → Serially (a_do session name arguments) old text new
  shown : {old : Serial} {text : List ℕ} → text ≡ shown_lines (object_of old.object).parts old.contents →
      Serially a_show old text old
  -- what else a line says changes nothing for the sequential object, and is not told by it
  to_fail : {number : ℕ} {old : Serial} {text : List ℕ} →
      Serially (a_step number false) old text (record old { failing = number ∷ old.failing })
  to_work : {number : ℕ} {old : Serial} {text : List ℕ} → Serially (a_step number true) old text old
  to_end : {number : ℕ} {old : Serial} {text : List ℕ} → Serially (all_steps number) old text old
  cancels_it : {number : ℕ} {old : Serial} {text : List ℕ} → Serially (a_cancel number) old text old
  leaves : {session : ℕ} {old : Serial} {text : List ℕ} → Serially (a_drop session) old text old
  is_back : {session : ℕ} {old : Serial} {text : List ℕ} → Serially (a_resume session) old text old
  traced : {old : Serial} {text : List ℕ} → Serially a_trace old text old

-- the answer to the line of this number: its text, whether the script goes on, and what holds then
pub data WritesSerially (s : Serial) (number : ℕ) (line : List ℕ) : List ℕ → Bool → Serial → Type 0 where
  named : s.named ≡ false → NamesObject s.object line → WritesSerially s number line [] true (record s { named = true })
  not_named : s.named ≡ false → (NamesObject s.object line → ⊥) → WritesSerially s number line (bad_line number) false s
  skipped : s.named ≡ true → IsSkipped line → WritesSerially s number line [] true s
  done : {text : List ℕ} {new : Serial} (said : Said) → s.named ≡ true → (IsSkipped line → ⊥) → Says said_of line said →
      Serially said s text new → WritesSerially s number line text true new
  -- what a line asks is not told by the sequential object: it changes nothing
  asked : {text : List ℕ} (question : Asked) → s.named ≡ true → IsOther line → Says asked_of line question →
      WritesSerially s number line text true s
  bad : s.named ≡ true → IsOther line → ((question : Asked) → Says asked_of line question → ⊥) →
      WritesSerially s number line (bad_line number) false s

-- What a script over an object writes, by the sequential object: its lines on calls, finishes and values.
abbrev pub IsSerialScript : Object → List ℕ → ScriptEnd → List ℕ → Type 0
IsSerialScript o text Whole written =
    (start : Serial) × IsFirst o start × (last : Serial) × Runs WritesSerially start 1 (lines text) written last
IsSerialScript o text (BadLine k) written =
    (start : Serial) × IsFirst o start × (before : List (List ℕ)) × (line : List ℕ) × (after : List (List ℕ))
    × (last : Serial) × (k ≡ length before + 1)
    × (lines text ≡ before ++ line ∷ after) × Stops WritesSerially start 1 before line written last
