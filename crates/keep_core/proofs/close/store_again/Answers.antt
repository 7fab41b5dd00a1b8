use Rattle.keep_core.proofs.Keeping.{text_stored, text_left, text_again, on_ok, on_err}
use Rattle.keep_core.proofs.close.store_again.Goals as goal

pub returns-in-Ok-clause-stored : goal.returns-in-Ok-clause-stored
returns-in-Ok-clause-stored g c = text_stored c.in-Ok.ensures.stored

pub returns-in-Err-Device-clause-left : goal.returns-in-Err-Device-clause-left
returns-in-Err-Device-clause-left g c = text_left c.in-Err-Device.ensures.left

pub returns-in-Err-Memory-clause-stored : goal.returns-in-Err-Memory-clause-stored
returns-in-Err-Memory-clause-stored g c = on_ok c.store_trace-in-Err-Memory.result (λ s. text_again (text_left c.in-Err-Memory.ensures.left) (text_stored s)) c.store_trace-in-Err-Memory.ensures.stored

pub returns-in-Err-Memory-clause-left : goal.returns-in-Err-Memory-clause-left
returns-in-Err-Memory-clause-left g c = on_err c.store_trace-in-Err-Memory.result (λ s. text_again (text_left c.in-Err-Memory.ensures.left) (text_left s)) c.store_trace-in-Err-Memory.ensures.left
