-- Calls of an object, as contracts see them.
use Rattle.std.specs.Prelude.{ℕ, Bool, List}
use Rattle.value_core.specs.declared.datum.Datum.{Datum}
use Rattle.decl_core.specs.declared.object.Operation.{Operation}
use Rattle.decl_core.specs.Bodies.{body_of}
use Rattle.decl_core.specs.Footprint.{reads_of}
use Rattle.device_core.specs.declared.hand.Stamp.{Stamp}
use Rattle.apply_core.specs.declared.reply.Reply.{Reply}
use Rattle.page_core.specs.PartPins.{PartPin, pins_in}

-- an accepted call: its session, its operation, also by its place in the object, and its arguments
pub record AcceptedCall : Type 0 where
  pub session : ℕ
  pub op : ℕ
  pub operation : Operation
  pub arguments : List Datum

-- a call that waits
pub record WaitingCall : Type 0 where
  pub number : ℕ
  pub call : AcceptedCall

-- a call that runs: of the pins that were published at its start those of the parts that its operation reads, and
-- whether its ticket was taken
pub record RunningCall : Type 0 where
  pub number : ℕ
  pub call : AcceptedCall
  pub pins : List PartPin
  pub taken : Bool

-- of pins, one for each part, those of the parts that an operation reads
abbrev pub read_pins : Operation → List (List Stamp) → List PartPin
read_pins operation pins = pins_in (reads_of (body_of operation)) 0 pins

-- an entry of the history: a call that has finished, with its reply, the pins of the parts that its operation reads,
-- and the pins that it published
pub record Noted : Type 0 where
  pub number : ℕ
  pub session : ℕ
  pub operation : Operation
  pub arguments : List Datum
  pub reply : Reply
  pub pins : List PartPin
  pub news : List PartPin

-- the entry of a call
abbrev pub noted_of : ℕ → AcceptedCall → Reply → List PartPin → List PartPin → Noted
noted_of n call reply pins news =
    record {
      number = n;
      session = call.session;
      operation = call.operation;
      arguments = call.arguments;
      reply = reply;
      pins = pins;
      news = news;
    }
