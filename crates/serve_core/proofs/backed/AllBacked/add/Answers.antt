use Rattle.serve_core.proofs.Backing.{backed_as, backed_more}
use Rattle.serve_core.proofs.backed.AllBacked.add.Goals as goal

pub invariant_of-self : goal.invariant_of-self
invariant_of-self g c = backed_as g.H.Hand.agrees c.self.inside.hands.items c.push.new.self.items c.self.inside.receipts.items c.in_err-push.ensures.items c.self.invariant

pub invariant_of-self-2 : goal.invariant_of-self-2
invariant_of-self-2 g c =
    backed_as g.H.Hand.agrees _ c.push.new.self.items c.append.new.receipts.items c.in_ok-push.ensures.items
    (backed_more g.H.Hand.agrees c.self.inside.receipts.items c.into_parts-receipts.result.0.items c.append.new.receipts.items c.self.inside.hands.items c.into_parts-receipts.result.1
    c.append.result c.append.ensures.ok c.append.ensures.err c.self.invariant c.into_parts-receipts.ensures.backed)
