use Rattle.std.proofs.Common.{rules, ◌≡◌, ◌++◌, ◌-◌, ℕ, List, take, replicate, ap, ◌∙◌}
use Rattle.apply_core.specs.Pages.{HasFrame}
use Rattle.run_core.specs.Tasks.{task_call}
use Rattle.run_core.proofs.Taking.{zeros_behind, front_damaged, front_taken}
use Rattle.run_core.proofs.seen.Seen.take_front.Goals as goal

pub returns-then-not-has_frame-clause-damaged : goal.returns-then-not-has_frame-clause-damaged
returns-then-not-has_frame-clause-damaged c = λ err a pins so.
    let got : List ℕ = c.args.got.items in
    let len = c.in-Some.len in
    let filled : List ℕ = c.deref.result.now in
    let is : filled ≡ zeros_behind got len = c.deref.ensures.value ∙ c.in-Ok.ensures.items ∙ ap (λ n. take len got ++ replicate (len - n) 0) c.args.got.ok.0 in
    let miss : HasFrame c.args.count filled → ⊥ = search rules in
    front_damaged a (task_call c.args.task.now) c.args.part c.args.count len c.pages_of.result.now got filled c.requires.paged c.requires.named c.pages_of.ensures c.in-Some.ensures.some is pins so miss

pub returns-clause-found : goal.returns-clause-found
returns-clause-found c = λ a pins so before.
    let got : List ℕ = c.args.got.items in
    let len = c.in-Some.len in
    let filled : List ℕ = c.resize.new.self.items in
    let is : filled ≡ zeros_behind got len = c.in-Ok.ensures.items ∙ ap (λ n. take len got ++ replicate (len - n) 0) c.args.got.ok.0 in
    front_taken a (task_call c.args.task.now) c.args.part c.args.count len c.pages_of.result.now got filled c.requires.paged c.requires.named c.pages_of.ensures c.in-Some.ensures.some is pins so
    c.args.self.now.known c.front-self.result c.args.self.now.read.items c.put.new.read.items c.requires.place c.in-Ok-put.ensures c.front-self.ensures.first c.front-self.ensures.others before
