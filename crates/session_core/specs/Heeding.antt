-- What the second thread makes of what it hears.
use Rattle.std.specs.Prelude.{◌≡◌, ◌⊎◌, Bool, true, false, Option, Some, None}
use Rattle.session_text.specs.declared.session.Action.{Action}
use Rattle.session_text.specs.declared.session.Action.TheVariants as actions
use Rattle.session_text.specs.declared.fault.HearFault.{HearFault}
use Rattle.session_text.specs.declared.fault.HearFault.TheVariants as faults
use Rattle.session_text.specs.declared.ear.Heard.{Heard}
use Rattle.session_text.specs.declared.ear.Heard.TheVariants as heards
use Rattle.session_text.specs.Hearing.{Hearing}
use Rattle.session_text.specs.Ears.{ReadsOnce, ended_by}

-- what ends the hearing where a line was not done: the answer of a cancel could not be sent, or there was no memory to
-- hand the line over
abbrev pub end_of : Action → Option HearFault
end_of (actions.Cancel number) = None
end_of (actions.Open name client) = Some faults.Memory
end_of (actions.Call key name args) = Some faults.Memory
end_of actions.Quit = Some faults.Memory
end_of (actions.Answer refusal) = Some faults.Memory

-- What becomes of the hearing, and whether it goes on: where nothing is there more is read; a line is done or handed
-- over, or nothing more is heard; and it ends with the end that was heard.
abbrev pub Heeds : Heard → Hearing → Bool → Hearing → Type 0
Heeds heards.Nothing old goes new = (goes ≡ true) × ReadsOnce old new
Heeds (heards.Action action) old goes new = (goes ≡ true) × ((new ≡ old) ⊎ (new ≡ ended_by (end_of action) old))
Heeds heards.LineTooLong old goes new = (goes ≡ true) × (new ≡ old)
Heeds (heards.End fault) old goes new = (goes ≡ false) × (new ≡ old)
