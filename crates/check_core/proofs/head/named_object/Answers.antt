use Rattle.check_core.proofs.head.named_object.Goals as goal

pub returns-in-None : goal.returns-in-None
returns-in-None c name is = c.in-None.ensures is.1.0 is.1.1
