-- Where steps lead.
use Rattle.std.proofs.Common.{◌≡◌, Some, List, sym, ap, ◌∙◌, subst}
use Rattle.device_core.specs.declared.hand.Stamp.{Stamp}
use Rattle.run_core.specs.declared.phase.Phase.{Phase}
use Rattle.run_core.specs.declared.phase.Phase.TheVariants.{Reading, Paging, Creating, Appending, Sealing, Ended}
use Rattle.apply_core.specs.declared.reply.Reply.{Reply}
use Rattle.run_core.specs.declared.run.Run.{Run}
use Rattle.page_core.specs.CallPins.{Call}
use Rattle.run_core.specs.Phases.{ending_of, sealed_in}
use Rattle.run_core.specs.Runs.{run_ending, run_place, run_sealed}
use Rattle.run_core.specs.Steps.{Place, place_in, at_end, Follows, Leads, there, onward}
use Rattle.page_core.proofs.ListBytes.{some_same}

ended_in : (phase : Phase) (reply : Reply) → ending_of phase ≡ Some reply → place_in phase ≡ at_end reply (sealed_in phase)
ended_in (Reading r) reply is = absurd cc
ended_in (Paging m) reply is = absurd cc
ended_in (Creating plan) reply is = absurd cc
ended_in (Appending plan pen) reply is = absurd cc
ended_in (Sealing plan pen) reply is = absurd cc
ended_in (Ended told left) reply is = ap (λ r. at_end r left.sealed.items) (some_same is)

-- steps lead to where a run has ended
pub ends : (call : Call) (first : Place) (run : Run) (reply : Reply) (news : List Stamp) → run_ending run ≡ Some reply → news ≡ run_sealed run → ((last : Place) → Leads call (run_place run) last → Leads call first last) → Leads call first (at_end reply news)
ends call first run reply news is sealed steps =
    steps (at_end reply news) (subst (λ (p : Place). Leads call (run_place run) p) (ended_in run.phase reply is ∙ ap (at_end reply) (sym sealed)) there)

-- one step more
pub one_more : (call other : Call) (first place now next : Place) → other ≡ call → now ≡ place → Follows other now next → ((last : Place) → Leads call place last → Leads call first last) → (last : Place) → Leads call next last → Leads call first last
one_more call other first place now next same here follows steps last more =
    let step : Follows call place next = subst (λ (p : Place). Follows call p next) here (subst (λ (c : Call). Follows c now next) same follows) in
    steps last (onward step more)
