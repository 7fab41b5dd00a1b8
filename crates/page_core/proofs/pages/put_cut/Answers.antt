use Rattle.std.proofs.Common.{◌≡◌, ◌≤◌, List, length, sym, subst, ◌∙◌}
use Rattle.device_core.specs.declared.hand.Stamp.{Stamp}
use Rattle.page_core.specs.Pages.{AreHeld}
use Rattle.page_core.proofs.Paging.{has_size, all_put}
use Rattle.page_core.proofs.pages.put_cut.Goals as goal

pub unreachable-requires : goal.unreachable-requires
unreachable-requires g c = has_size (length c.args.bytes.now) c.requires.few c.in_default.ensures.none

pub of-requires-clause-few : goal.of-requires-clause-few
of-requires-clause-few g c =
    let put = all_put _ _ c.in-Some.size c.args.bytes.now c.in-Ok.stamps.items c.put_pages.new.stamps.items c.in-Ok.ensures.items c.requires.some c.in-Some.ensures.some c.in-Ok-put_pages.ensures.ok in
    subst (λ (l : List Stamp). length l ≤ 8) (sym c.deref.ensures.value) put.2

pub returns-in-Ok-put_pages-clause-ok : goal.returns-in-Ok-put_pages-clause-ok
returns-in-Ok-put_pages-clause-ok g c =
    let put = all_put _ _ c.in-Some.size c.args.bytes.now c.in-Ok.stamps.items c.put_pages.new.stamps.items c.in-Ok.ensures.items c.requires.some c.in-Some.ensures.some c.in-Ok-put_pages.ensures.ok in
    let is : c.of.result ≡ c.put_pages.new.stamps.items = c.of.ensures ∙ c.deref.ensures.value in
    (put.0.0, put.0.1, λ a so. subst (λ (l : List Stamp). AreHeld a l put.0.0) (sym is) (put.0.2 a so))
