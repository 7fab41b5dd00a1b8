-- What an epoch came to, from what was played.
use Rattle.std.proofs.Common.{◌≡◌, inr, ℕ, ◌+◌, List, sym, ap, ◌∙◌, subst}
use Rattle.std.specs.Prelude.{Result, Ok, Err, IfOk}
use Rattle.decl_core.specs.ObjectForm.{ObjectForm}
use Rattle.live_core.specs.Front.{Opening}
use Rattle.guest_core.specs.Guests.{Guests}
use Rattle.audit_core.specs.Steps.{Heard}
use Rattle.recover_core.specs.declared.playing.Playing.{Playing}
use Rattle.recover_core.specs.declared.playing.RefusedLine.{RefusedLine}
use Rattle.recover_core.specs.declared.playing.RefusedLine.TheVariants.{Faulty, Odd}
use Rattle.recover_core.specs.declared.recover.House.{House}
use Rattle.recover_core.specs.declared.recover.Recovered.{Recovered}
use Rattle.recover_core.specs.Carried.{AreCounted}
use Rattle.recover_core.specs.Clients.{OpenAll, MakeAll}
use Rattle.recover_core.specs.Playing.{PlayStands, PlayedTo, IsRefusedAt}
use Rattle.recover_core.specs.Recovered.{nobody, ComesTo, IsBehind, RefusesBehind, told_of}

pub if_ok : {A E : Type 0} {P Q : A → Type 0} (r : Result A E) → ((a : A) → P a → Q a) → IfOk r P → IfOk r Q
if_ok (Ok a) on is = on a is
if_ok (Err e) on is = tt

-- what was played is what was recovered
pub is_behind : (o : ObjectForm) (h : House) (f : Opening) (opened : Guests) (bytes mark : ℕ) (behind : List ℕ) (p : Playing) (r : Recovered) → PlayedTo o f h.now opened behind mark p → AreCounted 0 f.carried →
    OpenAll h.now (nobody h) f.clients f.kept opened → ((heard : Heard) → PlayStands o f h.now opened p heard → ComesTo o f heard.steps r) → r.guests ≡ p.guests → r.length ≡ bytes + mark →
    r.epoch ≡ f.epoch → r.source ≡ f.source → r.base ≡ f.base → IsBehind o h f bytes behind r
is_behind o h f opened bytes mark behind p r s counted opens comes guests length epoch source base = record {
  lines = s.lines;
  rest = s.rest;
  each = s.each;
  open_end = s.open_end;
  cut = s.cut;
  steps = s.heard.steps;
  played = s.played;
  comes = comes s.heard s.stands;
  clients = record {
    counted = counted;
    opened = opened;
    opens = opens;
    makes = subst (λ g. MakeAll f.base f.carried h.now opened s.heard.steps g) (sym guests) s.stands.clients;
  };
  length_is = length ∙ ap (λ n. bytes + n) s.mark_is;
  epoch_is = epoch;
  source_is = source;
  base_is = base;
}

-- a line that was not taken
pub refused_so : (o : ObjectForm) (h : House) (f : Opening) (opened : Guests) (lines number line : ℕ) (behind : List ℕ) (refused : RefusedLine) → AreCounted 0 f.carried → OpenAll h.now (nobody h) f.clients f.kept opened →
    IsRefusedAt o f h.now opened behind number refused → line ≡ lines + number → RefusesBehind o h f lines behind (told_of line refused)
refused_so o h f opened lines number line behind (Faulty fault) counted opens is at = (number, at, is)
refused_so o h f opened lines number line behind Odd counted opens is at = inr (opened, record { counted = counted; opens = opens }, (number, at, is))
