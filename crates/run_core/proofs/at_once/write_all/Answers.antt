use Rattle.std.proofs.Common.{◌≡◌, List, ◌++◌, length, ap, sym, ◌∙◌, subst, arith}
use Rattle.device_core.specs.declared.hand.Stamp.{Stamp}
use Rattle.page_core.specs.declared.plan.PageWrite.{PageWrite}
use Rattle.page_core.specs.PartPins.{pins_by, count_pages}
use Rattle.page_core.specs.Renewed.{AreSealed, ArePlaces, with_sealed}
use Rattle.page_core.proofs.PartRows.{count_by}
use Rattle.page_core.specs.CallPins.{AreSized}
use Rattle.run_core.proofs.Sizes.{sized_by}
use Rattle.run_core.proofs.WritingAll.{all_places, sealed_long}
use Rattle.run_core.proofs.MadeAtOnce.{each_served, none_served}
use Rattle.page_core.specs.Calls.{WritesPages}
use Rattle.run_core.proofs.at_once.write_all.Goals as goal

pub write_pages-sealed-requires : goal.write_pages-sealed-requires
write_pages-sealed-requires g c = omega (arith, c.args.pages.room, ap length c.requires, ap length c.deref.ensures.value)

pub put_sealed-requires : goal.put_sealed-requires
put_sealed-requires g c =
    subst (ArePlaces (length c.args.pages.stamps.items)) (sym c.deref-2.ensures.value) (all_places (length c.args.pages.stamps.items) c.args.pages.writes.items c.args.pages.placed)

pub from_counts-news-requires : goal.from_counts-news-requires
from_counts-news-requires g c = c.args.pages.counted ∙ sym (ap length c.put_sealed.ensures ∙ sealed_long c.args.pages.stamps.items c.deref-2.result.now c.deref-3.result.now)

pub copy_into-entry-requires-clause-room : goal.copy_into-entry-requires-clause-room
copy_into-entry-requires-clause-room g c =
    let long = ap length c.put_sealed.ensures ∙ sealed_long c.args.pages.stamps.items c.deref-2.result.now c.deref-3.result.now in
    omega (arith, c.args.pages.twice.1, long, count_by 0 c.args.pages.counts c.put_sealed.new.stamps.items (c.args.pages.counted ∙ sym long), ap count_pages c.from_counts-news.ensures)

pub invariant_of-left : goal.invariant_of-left
invariant_of-left g c =
    let long = ap length c.put_sealed.ensures ∙ sealed_long c.args.pages.stamps.items c.deref-2.result.now c.deref-3.result.now in
    record {
      twice = c.copy_into-entry.ensures;
      sized = subst AreSized (sym c.from_counts-news.ensures) (sized_by 0 c.args.pages.counts c.put_sealed.new.stamps.items (c.args.pages.counted ∙ sym long) c.args.pages.short);
    }

pub returns-clause-news : goal.returns-clause-news
returns-clause-news g c =
    c.from_counts-news.ensures ∙ ap (pins_by 0 c.args.pages.counts) (c.put_sealed.ensures ∙ (ap (λ (w : List PageWrite). with_sealed c.args.pages.stamps.items w c.deref-3.result.now) c.deref-2.ensures.value
    ∙ ap (with_sealed c.args.pages.stamps.items c.args.pages.writes.items) c.deref-3.ensures.value))

pub returns-clause-sealed : goal.returns-clause-sealed
returns-clause-sealed g c = λ a is.
    let more = c.write_pages-sealed.ensures.sealed.0 in
    let sealed : c.write_pages-sealed.result.0.items ≡ more = c.write_pages-sealed.ensures.sealed.1 ∙ ap (λ (s : List Stamp). s ++ more) c.requires in
    subst (AreSealed a c.args.pages.writes.items) (sym sealed) (subst (λ (w : List PageWrite). AreSealed a w more) c.deref.ensures.value (c.write_pages-sealed.ensures.sealed.2 a is))

pub returns-clause-all : goal.returns-clause-all
returns-clause-all g c = λ went. omega (arith, c.write_pages-sealed.ensures.all went, ap length c.requires, ap length c.deref.ensures.value)

pub returns-clause-makes : goal.returns-clause-makes
returns-clause-makes g c =
    let made = c.write_pages-sealed.ensures.makes in
    let sealed : c.write_pages-sealed.result.0.items ≡ made.1 = made.2 ∙ ap (λ (s : List Stamp). s ++ made.1) c.requires in (
      made.0,
      made.3,
      subst (λ (s : List Stamp). WritesPages c.args.pages.writes.items made.0 s c.write_pages-sealed.result.1) (sym sealed) (subst (λ (w : List PageWrite). WritesPages w made.0 made.1 c.write_pages-sealed.result.1) c.deref.ensures.value made.4),
    )

pub returns-clause-written : goal.returns-clause-written
returns-clause-written g c = each_served (g.H.Hand.serves c.write_pages-sealed.new.hand) c.write_pages-sealed.result.0.items (c.write_pages-sealed.ensures.served (none_served (g.H.Hand.serves c.args.hand.now) c.args.pages.sealed.items c.requires))
