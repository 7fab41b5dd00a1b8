use Rattle.std.proofs.Common.{◌<◌, length}
use Rattle.page_core.proofs.Planning.{is_none, is_some}
use Rattle.page_core.proofs.Paging.{put_none, put_more}
use Rattle.page_core.proofs.pages.+put_pages.Goals as goal

pub returns-then-is_empty-clause-ok : goal.returns-then-is_empty-clause-ok
returns-then-is_empty-clause-ok g t c =
    put_none _ _ c.args.size c.args.bytes.now c.args.stamps.now.items (is_none (length c.args.bytes.now) c.is_empty.result c.is_empty.ensures c.if-is_empty.true)

pub returns-in-Ok-put_pages-clause-ok : goal.returns-in-Ok-put_pages-clause-ok
returns-in-Ok-put_pages-clause-ok g t c =
    let some : 0 < length c.args.bytes.now = is_some (length c.args.bytes.now) c.is_empty.result c.is_empty.ensures c.if-is_empty.false in
    let one = c.in-Ok.ensures.ok in
    put_more (g.H.Hand.agrees c.put_page.new.hand) (g.H.Hand.agrees c.put_pages.new.hand) (g.H.Hand.serves c.put_page.new.hand) (g.H.Hand.serves c.put_pages.new.hand)
    c.args.size c.args.bytes.now c.first_page.result.0.now c.first_page.result.1.now one.0 c.args.stamps.now.items c.put_page.new.stamps.items c.put_pages.new.stamps.items
    c.requires.size some c.first_page.ensures.whole c.first_page.ensures.len one.1 one.2 one.3 c.in-Ok-put_pages.ensures.kept c.in-Ok-put_pages.ensures.serves c.in-Ok-put_pages.ensures.ok
