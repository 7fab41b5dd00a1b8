use Rattle.std.proofs.Common.{◌≡◌, ◌<◌, ◌≤◌, ◌⊎◌, ◌∙◌, List, length, sym, ap, subst}
use Rattle.page_core.specs.ObjectCalls.{RunningCall}
use Rattle.board_core.specs.Board.{Board}
use Rattle.board_core.specs.Sound.{IsSound}
use Rattle.board_core.specs.Keys as keys
use Rattle.world_core.specs.declared.event.EventAnswer.{EventAnswer}
use Rattle.world_core.specs.declared.event.WorldAnswer.TheVariants.{Resumed, Refused}
use Rattle.world_core.specs.declared.event.EventRefusal.TheVariants.{NoSession}
use Rattle.world_core.specs.declared.stage.WorldTables.{WorldTables}
use Rattle.world_core.specs.Events.{resume}
use Rattle.world_core.specs.Answers.{Answers, with_starts, resumed, not_resumed}
use Rattle.world_core.specs.Kept.{IsStaged, scene_of}
use Rattle.world_core.proofs.Settling.{resumed_kept, resumed_running, outside, within_sessions}
use Rattle.world_core.proofs.stage.WorldTables.resume.Goals as goal

pub returns-then-not-resume-clause-answers : goal.returns-then-not-resume-clause-answers
returns-then-not-resume-clause-answers c =
    let old = c.args.self.now in
    let none : (c.args.session ≡ 0) ⊎ (1024 < c.args.session) = outside c.args.session (λ above below. let yes = (c.resume.ensures.back above below).0 in let no = c.if-not-resume.true in cc) in
    let put : Board → WorldTables = λ b. record old { desk = b } in
    subst (λ (x : EventAnswer). Answers (scene_of old) (resume c.args.session) x (scene_of (put c.resume.new.self))) (sym c.only.ensures)
    (subst (λ (b : Board). Answers (scene_of old) (resume c.args.session) (with_starts (Refused NoSession) 0) (scene_of (put b))) (sym (c.resume.ensures.none none).1) (not_resumed none))

pub returns-then-not-resume-clause-staged : goal.returns-then-not-resume-clause-staged
returns-then-not-resume-clause-staged c =
    let old = c.args.self.now in
    let none : (c.args.session ≡ 0) ⊎ (1024 < c.args.session) = outside c.args.session (λ above below. let yes = (c.resume.ensures.back above below).0 in let no = c.if-not-resume.true in cc) in
    let put : Board → WorldTables = λ b. record old { desk = b } in
    subst (λ (b : Board). IsStaged (put b)) (sym (c.resume.ensures.none none).1) c.requires.staged

pub returns-clause-answers : goal.returns-clause-answers
returns-clause-answers c =
    let old = c.args.self.now in
    let range : (0 < c.args.session) × (c.args.session ≤ 1024) = within_sessions c.args.session (λ none. let no = (c.resume.ensures.none none).0 in let yes = c.if-not-resume.false in cc) in
    let put : Board → WorldTables = λ b. record old { desk = b } in
    subst (λ (x : EventAnswer). Answers (scene_of old) (resume c.args.session) x (scene_of (put c.resume.new.self))) (sym c.only-2.ensures)
    (subst (λ (b : Board). Answers (scene_of old) (resume c.args.session) (with_starts Resumed 0) (scene_of (put b))) (sym (c.resume.ensures.back range.0 range.1).1) (resumed range.0 range.1))

pub returns-clause-staged : goal.returns-clause-staged
returns-clause-staged c =
    let old = c.args.self.now in
    let range : (0 < c.args.session) × (c.args.session ≤ 1024) = within_sessions c.args.session (λ none. let no = (c.resume.ensures.none none).0 in let yes = c.if-not-resume.false in cc) in
    let made : c.resume.new.self ≡ keys.resumed old.desk c.args.session = (c.resume.ensures.back range.0 range.1).1 in
    let put : Board → WorldTables = λ b. record old { desk = b } in
    let sound : IsSound (keys.resumed old.desk c.args.session) = subst IsSound made c.history.ensures.sound in
    subst (λ (b : Board). IsStaged (put b)) (sym made) (record {
      kept = resumed_kept old.desk c.args.session _ _ _ sound c.requires.staged.kept;
      all = c.requires.staged.all ∙ ap (λ (rs : List RunningCall). length rs) (sym (resumed_running old.desk c.args.session));
      room = c.requires.staged.room;
    })
