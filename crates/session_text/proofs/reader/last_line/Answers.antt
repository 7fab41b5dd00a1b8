use Rattle.session_text.proofs.Lines.{last_found, last_goes_on, end_found, end_goes_on, last_refused_found, last_refused_goes_on}
use Rattle.session_text.proofs.reader.last_line.Goals as goal

pub returns-in-Ok-Some-clause-found : goal.returns-in-Ok-Some-clause-found
returns-in-Ok-Some-clause-found c =
    last_found c.is_unbroken-is_rest.result c.args.codec.now c.args.buffer.now.items c.in-Ok-Some.line c.decode_eof.new.self c.decode_eof.new.src.items c.last.result c.last.ensures
    (rw (c.as_slice.ensures) at c.is_unbroken-is_rest.ensures) c.requires (rw (c.in-Ok-Some.field-0-is) at c.in-Ok-Some.ensures)

pub returns-in-Ok-Some-clause-goes_on : goal.returns-in-Ok-Some-clause-goes_on
returns-in-Ok-Some-clause-goes_on c = λ _.
    last_goes_on c.is_unbroken-is_rest.result c.args.codec.now c.args.buffer.now.items c.in-Ok-Some.line c.decode_eof.new.self c.decode_eof.new.src.items
    (rw (c.as_slice.ensures) at c.is_unbroken-is_rest.ensures) c.requires (rw (c.in-Ok-Some.field-0-is) at c.in-Ok-Some.ensures)

pub returns-in-Ok-None-clause-found : goal.returns-in-Ok-None-clause-found
returns-in-Ok-None-clause-found c = end_found c.args.codec.now c.args.buffer.now.items c.decode_eof.new.self c.decode_eof.new.src.items c.requires (rw (c.in-Ok-None.field-0-is) at c.in-Ok-None.ensures)

pub returns-in-Ok-None-clause-goes_on : goal.returns-in-Ok-None-clause-goes_on
returns-in-Ok-None-clause-goes_on c = λ _. end_goes_on c.args.codec.now c.args.buffer.now.items c.decode_eof.new.self c.decode_eof.new.src.items c.requires (rw (c.in-Ok-None.field-0-is) at c.in-Ok-None.ensures)

pub returns-in-Err-clause-found : goal.returns-in-Err-clause-found
returns-in-Err-clause-found c = last_refused_found c.args.codec.now c.args.buffer.now.items c.in-Err.e c.refused.result c.decode_eof.new.self c.decode_eof.new.src.items c.requires c.in-Err.ensures c.refused.ensures

pub returns-in-Err-clause-goes_on : goal.returns-in-Err-clause-goes_on
returns-in-Err-clause-goes_on c = last_refused_goes_on c.args.codec.now c.args.buffer.now.items c.in-Err.e c.refused.result c.decode_eof.new.self c.decode_eof.new.src.items c.requires c.in-Err.ensures c.refused.ensures
