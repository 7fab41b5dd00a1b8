-- Sessions that are back.
use Rattle.std.proofs.Common.{◌≡◌, ℕ, false, refl, ◌∙◌}
use Rattle.std.specs.Prelude.{◌-◌}
use Rattle.std.proofs.Math.ListN.{length-set}
use Rattle.board_core.specs.Board.{Board, Rests}
use Rattle.board_core.specs.Sound.{IsSound, IsWaitingIn, IsRunningIn}
use Rattle.page_core.proofs.Lists.{Every-map}
use Rattle.board_core.specs.Keys.{resumed}

-- a session that is back leaves a board sound
pub sound-resumed : (b : Board) (session : ℕ) → IsSound b → IsSound (resumed b session)
unfolding resumed
sound-resumed b session h =
    let c = h.counted in
    record {
      counted = record {
        few = c.few;
        open_few = c.open_few;
        counted = c.counted;
        trace = c.trace;
        satisfied = c.satisfied;
        numbered = c.numbered;
        fresh = c.fresh;
        made = c.made;
        waits = Every-map (IsWaitingIn b) (IsWaitingIn (resumed b session)) (λ w is. record { call = is.call; fresh = is.fresh }) b.waiting c.waits;
        runs = Every-map (IsRunningIn b) (IsRunningIn (resumed b session)) (λ r is. record { call = is.call; among = is.among }) b.running c.runs;
        in_order = c.in_order;
        apart = c.apart;
      };
      pinned = record {
        exclusive = h.pinned.exclusive;
        each = h.pinned.each;
        opening_each = h.pinned.opening_each;
        long = h.pinned.long;
        gone = length-set b.gone (session - 1) false ∙ h.pinned.gone;
        pinned = h.pinned.pinned;
        chained = h.pinned.chained;
        entries = h.pinned.entries;
      };
      told = record {
        one_each = h.told.one_each;
        later = h.told.later;
        in_order = h.told.in_order;
        noted = h.told.noted;
        ends = h.told.ends;
      };
    }

-- it lets no call start
pub resumed_rests : (b : Board) (session : ℕ) → Rests b → Rests (resumed b session)
unfolding resumed
resumed_rests b session h = h

-- it changes neither the history nor the pins
pub resumed_history : (b : Board) (session : ℕ) → ((resumed b session).history ≡ b.history) × ((resumed b session).pins ≡ b.pins)
unfolding resumed
resumed_history b session = (refl, refl)
