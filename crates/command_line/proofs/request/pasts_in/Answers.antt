use Rattle.std.proofs.Common.{◌≡◌, ◌∙◌, [], Some, None, map, ap, codes}
use Rattle.std.specs.Prelude.{unwrap_or}
use Rattle.std.proofs.lemmas.Result.{IfOk-weaker}
use Rattle.clap.specs.Matches.{found_of}
use Rattle.clap.specs.Walk.{all_of, rows_of}
use Rattle.clap.proofs.WalkLemmas.{raw_values-rows}
use Rattle.command_line.proofs.request.pasts_in.Goals as goal

pub returns-in-Some : goal.returns-in-Some
returns-in-Some c =
    let f = found_of c.args.keep.now in
    let found : Some (map (λ w. w.now) c.in-Some.words.now) ≡ all_of (codes "past") (rows_of f) = c.in-Some.ensures ∙ raw_values-rows f (codes "past") in
    IfOk-weaker c.to_vec.result _ _ (λ v same. ap (map (λ w. w.now)) (same (λ x y e. e)) ∙ ap (λ o. unwrap_or o []) found) c.to_vec.ensures.items_if_clones_equal

pub returns-in-None : goal.returns-in-None
returns-in-None c =
    let f = found_of c.args.keep.now in
    let found : None ≡ all_of (codes "past") (rows_of f) = c.in-None.ensures ∙ raw_values-rows f (codes "past") in
    ap (map (λ w. w.now)) c.new.ensures.items ∙ ap (λ o. unwrap_or o []) found
