use Rattle.std.proofs.Common.{◌≡◌, ◌==◌, not, ℕ, Bool, rules, sym, subst}
use Rattle.std.specs.List.{filter}
use Rattle.std.proofs.lemmas.Fn.{filter_same}
use Rattle.word_core.specs.Said.{a_resume}
use Rattle.world_core.specs.HoldDoes.{Acts, ward, is_back}
use Rattle.world_core.proofs.acts.come_back.Goals as goal

pub returns : goal.returns
returns c = λ holds held.
    let told = c.in_ok-answer_said.ensures in
    let stays : ℕ → Bool = λ s. not (s == c.args.session) in
    let left : c.retain.new.self.items ≡ filter stays c.args.gone.now.items = filter_same _ stays _ (λ x b q h. search rules) _ _ c.retain.ensures.filtered in
    (told.0, told.1, subst (λ g. Acts holds (ward c.args.world.now held c.args.gone.now.items) (a_resume c.args.session) told.0 c.answer_said.new.world g) (sym left) (is_back told.2))
