use Rattle.table_core.specs.Seen.{seen, state_of}
use Rattle.table_core.proofs.Turning.{ends_none, ends_more, ends_last, same_ok}
use Rattle.std.proofs.Common.{false, true}
use Rattle.client_core.specs.Views.{custodies_of}
use Rattle.table_core.proofs.table.Table.end_next.Goals as goal

pub returns-in-None-clause-all : goal.returns-in-None-clause-all
returns-in-None-clause-all c = λ yes. ends_none (custodies_of c.args.self.now.custody) c.args.post.now c.args.self.now.objects.items c.args.self.now.clients c.take.new.clients c.args.place c.in-None.ensures.none c.in-None.ensures.same

pub returns-in_ok-end_ask-in-Some-clause-more : goal.returns-in_ok-end_ask-in-Some-clause-more
returns-in_ok-end_ask-in-Some-clause-more c = λ no.
    ends_more c.args.post.now c.end_ask.new.post (seen c.args.self.now) (state_of (custodies_of c.args.self.now.custody) c.args.self.now.objects.items c.take.new.clients) (seen c.end_ask.new.self) c.args.place c.in-Some.ask (c.quits-is_last.ensures.no (same_ok c.quits-is_last.result false no))
    (c.in-Some.ensures.some (custodies_of c.args.self.now.custody) c.args.self.now.objects.items) c.in_ok-end_ask-in-Some.ensures

pub returns-in_ok-end_ask-in-Some-clause-all : goal.returns-in_ok-end_ask-in-Some-clause-all
returns-in_ok-end_ask-in-Some-clause-all c = λ yes.
    ends_last c.args.post.now c.end_ask.new.post (seen c.args.self.now) (state_of (custodies_of c.args.self.now.custody) c.args.self.now.objects.items c.take.new.clients) (seen c.end_ask.new.self) c.args.place c.in-Some.ask (c.quits-is_last.ensures.yes (same_ok c.quits-is_last.result true yes))
    (c.in-Some.ensures.some (custodies_of c.args.self.now.custody) c.args.self.now.objects.items) c.in_ok-end_ask-in-Some.ensures
