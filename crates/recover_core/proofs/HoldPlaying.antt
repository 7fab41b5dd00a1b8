-- What is held behind lines.
use Rattle.std.proofs.Common.{◌≡◌, ℕ, List, [], ◌∷◌, ◌++◌, refl, sym, ap, ◌∙◌, subst}
use Rattle.decl_core.specs.ObjectForm.{ObjectForm}
use Rattle.apply_core.specs.declared.reply.Reply.{Reply}
use Rattle.word_core.specs.Events.{Called, Happened, ended}
use Rattle.live_core.specs.declared.front.CarriedCall.{CarriedCall}
use Rattle.audit_core.specs.declared.epoch_replay.Replay.{Replay}
use Rattle.audit_core.specs.EpochStands.{Stands}
use Rattle.audit_core.specs.Steps.{Begun, Heard, nothing_heard}
use Rattle.audit_core.specs.EpochTells.{Tells, Tell}
use Rattle.recover_core.specs.Lines.{AreLines, IsLine, joined}
use Rattle.recover_core.proofs.Cutting.{joined_more, lines_more}
use Rattle.decl_core.specs.HoldForm.{HoldForm}
use Rattle.guest_core.specs.declared.hold_ends.HoldEnds.{HoldEnds}
use Rattle.guest_core.specs.Held.{HeldCall, AreHeldBy, Gives, at_end, begun}
use Rattle.recover_core.specs.HeldPlay.{HaveNumbers, HeldOn, PlaysLines, rules_by}

pub held_behind : (ends : HoldEnds) (holds : List HoldForm) (c : Called) (reply : Reply) (old new : List HeldCall) (past : List Happened) → ((left : List HeldCall) × Gives ends holds c reply old left × (new ≡ left ++ begun holds c reply)) → AreHeldBy ends holds past old
    → AreHeldBy ends holds (ended c reply ∷ past) new
held_behind ends holds c reply old new past gives are = subst (λ xs. AreHeldBy ends holds (ended c reply ∷ past) xs) (sym gives.2) (at_end old gives.0 are gives.1)

tell_push : (o : ObjectForm) (e : Begun) (first : Heard) (lines : List (List ℕ)) (line : List ℕ) (heard after : Heard) → Tell o e first lines heard → Tells o e heard line after → Tell o e first (lines ++ line ∷ []) after
tell_push o e first [] line heard after told one = (after, subst (λ h. Tells o e h line after) told one, refl)
tell_push o e first (l ∷ lines) line heard after told one = (told.0, told.1, tell_push o e told.0 lines line heard after told.2 one)

-- some lines were played, and this is left
pub record Plays (ends : HoldEnds) (o : ObjectForm) (holds : List HoldForm) (e : Begun) (base : ℕ) (carried : List CarriedCall) (text rest : List ℕ) (old new : List HeldCall) (replay : Replay) : Type 0 where
  pub lines : List (List ℕ)
  pub each : AreLines lines
  pub cut : text ≡ joined lines ++ rest
  pub heard : Heard
  pub told : Tell o e nothing_heard lines heard
  pub stands : Stands o e replay heard
  pub held : HeldOn ends holds base carried [] heard.steps old new
  pub small : HaveNumbers base carried heard.steps

pub plays_none : (ends : HoldEnds) (o : ObjectForm) (holds : List HoldForm) (e : Begun) (base : ℕ) (carried : List CarriedCall) (text : List ℕ) (old : List HeldCall) (replay : Replay) → Stands o e replay nothing_heard → Plays ends o holds e base carried text text old old replay
plays_none ends o holds e base carried text old replay stands = record { lines = []; each = tt; cut = refl; heard = nothing_heard; told = refl; stands = stands; held = λ past are. are; small = tt }

pub plays_more : (ends : HoldEnds) (o : ObjectForm) (holds : List HoldForm) (e : Begun) (base : ℕ) (carried : List CarriedCall) (text rest line more : List ℕ) (old mid new : List HeldCall) (was now : Replay) → Plays ends o holds e base carried text rest old mid was → IsLine line → rest ≡ line ++ 10 ∷ more
    → ((heard : Heard) → Stands o e was heard → (after : Heard) × Tells o e heard line after × Stands o e now after × HeldOn ends holds base carried heard.steps after.steps mid new × (HaveNumbers base carried heard.steps → HaveNumbers base carried after.steps))
    → Plays ends o holds e base carried text more old new now
plays_more ends o holds e base carried text rest line more old mid new was now p is cut plays =
    let one = plays p.heard p.stands in
    record {
      lines = p.lines ++ line ∷ [];
      each = lines_more p.lines line p.each is;
      cut = p.cut ∙ ap (λ t. joined p.lines ++ t) cut ∙ joined_more p.lines line more;
      heard = one.0;
      told = tell_push o e nothing_heard p.lines line p.heard one.0 p.told one.1;
      stands = one.2;
      held = λ past are. one.3 past (p.held past are);
      small = one.4 p.small;
    }

pub plays_all : (ends : HoldEnds) (o : ObjectForm) (holds : List HoldForm) (e : Begun) (base : ℕ) (carried : List CarriedCall) (text rest : List ℕ) (old new : List HeldCall) (replay : Replay) → Plays ends o holds e base carried text rest old new replay → IsLine rest → PlaysLines (rules_by ends holds) o e base carried text old new
plays_all ends o holds e base carried text rest old new replay p is = record { lines = p.lines; each = p.each; rest = rest; open_end = is; cut = p.cut; heard = p.heard; told = p.told; held = p.held; small = p.small }
