use Rattle.std.proofs.Common.{◌∷◌, refl, sym, ap, ◌∙◌}
use Rattle.std.specs.Prelude.{is_some}
use Rattle.std.proofs.lemmas.Bool.{false≢true}
use Rattle.audit_core.specs.Steps.{named}
use Rattle.audit_core.proofs.EpochHearing.{name_bad}
use Rattle.audit_core.proofs.EpochStanding.{rests_so, rests_is, named_stands, none_by, name_so}
use Rattle.audit_core.proofs.epoch_replay.Replay.hear_name.Goals as goal
use Rattle.audit_core.proofs.epoch_replay.Replay.hear_name.Goals.{then-is_some-via-then-is_some, then-is_some-via-else-is_some+then-not-is_session}

pub returns-then-is_some : goal.returns-then-is_some
returns-then-is_some c = λ o line e heard s says. name_bad o e heard line c.args.session c.args.client.now says
    (λ rests is spelled. elim c.then-is_some.branch [
      | then-is_some-via-then-is_some w ↦ false≢true (ap is_some (sym (rests_so o e c.args.self.now heard s rests)) ∙ sym c.is_some.ensures ∙ w.if-is_some.true)
      | then-is_some-via-else-is_some+then-not-is_session w ↦ false≢true (sym w.if-not-is_session.true ∙ w.is_session.ensures.1 is)
    ])

pub returns-in-None : goal.returns-in-None
returns-in-None c = λ o line e heard s says. name_bad o e heard line c.args.session c.args.client.now says (λ rests is spelled. (rw c.in-None.is at c.in_ok-read.ensures) spelled)

pub returns-in-Some : goal.returns-in-Some
returns-in-Some c = λ o line e heard s says.
    let none = none_by c.args.self.now.running c.is_some.result c.is_some.ensures c.if-is_some.false in
    let rests = rests_is o e c.args.self.now heard s none in
    let spelled = rw c.in-Some.is at c.in_ok-read.ensures in
    let name = c.in-Some.name in (
      record heard { steps = named c.args.session name ∷ heard.steps },
      name_so o e heard line c.args.session c.args.client.now name says rests (c.is_session.ensures.0 c.if-not-is_session.false) spelled.0 spelled.1,
      refl,
      named_stands o e c.args.self.now heard c.args.session name s rests none,
    )
