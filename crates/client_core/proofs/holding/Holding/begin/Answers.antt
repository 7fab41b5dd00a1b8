use Rattle.std.proofs.Common.{◌≡◌, ap, ◌∙◌, subst, map}
use Rattle.std.specs.Prelude.{All}
use Rattle.client_core.specs.Holding.{Holding, with_gone, with_since}
use Rattle.client_core.specs.Since.{since_start}
use Rattle.client_core.specs.Start.{IsAmong, IsGoneBy}
use Rattle.client_core.proofs.holding.Holding.begin.Goals as goal

pub returns-clause-begins : goal.returns-clause-begins
returns-clause-begins c =
    let gone = c.in_ok-gone.gone.items in
    let v = c.seat_all.new.hosted.guests in
    let held : c.all-2.result.now ≡ c.args.self.now.held = c.all-2.ensures ∙ ap (λ (h : Holding). h.held) c.self.view_is in
    let away : c.self.inside.away ≡ c.args.self.now.away = ap (λ (h : Holding). h.away) c.self.view_is in
    let since : c.in_ok-since.since.items ≡ map (since_start c.args.second) c.args.self.now.held = c.in_ok-since.ensures ∙ ap (map (since_start c.args.second)) (c.all-3.ensures ∙ ap (λ (h : Holding). h.held) c.self.view_is) in
    record {
      left = ap (λ h. with_gone (with_since h c.in_ok-since.since.items) gone) c.self.view_is ∙ ap (λ xs. with_gone (with_since c.args.self.now xs) gone) since;
      gone = subst (λ a. All (IsGoneBy v c.args.self.now.held c.args.second a) gone) away (subst (λ xs. All (IsGoneBy v xs c.args.second c.self.inside.away) gone) held c.in_ok-gone.ensures.gone);
      all = subst (λ xs. All (IsAmong gone) xs) held c.in_ok-gone.ensures.all;
    }
