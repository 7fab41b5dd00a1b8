use Rattle.session_text.proofs.Lines.{line_found, line_goes_on, none_found, none_goes_on, refused_found, refused_goes_on}
use Rattle.session_text.proofs.reader.next_line.Goals as goal

pub returns-in-Ok-Some-clause-found : goal.returns-in-Ok-Some-clause-found
returns-in-Ok-Some-clause-found c =
    let next = rw (c.in-Ok-Some.field-0-is) at c.in-Ok-Some.ensures.next in
    (line_found c.args.codec.now c.args.buffer.now.items c.in-Ok-Some.line c.decode.new.self c.decode.new.src.items c.requires next)

pub returns-in-Ok-Some-clause-goes_on : goal.returns-in-Ok-Some-clause-goes_on
returns-in-Ok-Some-clause-goes_on c =
    let next = rw (c.in-Ok-Some.field-0-is) at c.in-Ok-Some.ensures.next in
    λ _. line_goes_on c.args.codec.now c.args.buffer.now.items c.in-Ok-Some.line c.decode.new.self c.decode.new.src.items c.requires next

pub returns-in-Ok-None-clause-found : goal.returns-in-Ok-None-clause-found
returns-in-Ok-None-clause-found c =
    let next = rw (c.in-Ok-None.field-0-is) at c.in-Ok-None.ensures.next in
    let settled = rw (c.in-Ok-None.field-0-is) at c.in-Ok-None.ensures.settled in
    none_found c.args.codec.now c.args.buffer.now.items c.decode.new.self c.decode.new.src.items c.requires next settled

pub returns-in-Ok-None-clause-goes_on : goal.returns-in-Ok-None-clause-goes_on
returns-in-Ok-None-clause-goes_on c =
    let next = rw (c.in-Ok-None.field-0-is) at c.in-Ok-None.ensures.next in
    let settled = rw (c.in-Ok-None.field-0-is) at c.in-Ok-None.ensures.settled in
    λ _. none_goes_on c.args.codec.now c.args.buffer.now.items c.decode.new.self c.decode.new.src.items c.requires next settled

pub returns-in-Err-clause-found : goal.returns-in-Err-clause-found
returns-in-Err-clause-found c = refused_found c.args.codec.now c.args.buffer.now.items c.in-Err.e c.refused.result c.decode.new.self c.decode.new.src.items c.requires c.in-Err.ensures.next c.refused.ensures

pub returns-in-Err-clause-goes_on : goal.returns-in-Err-clause-goes_on
returns-in-Err-clause-goes_on c = refused_goes_on c.args.codec.now c.args.buffer.now.items c.in-Err.e c.refused.result c.decode.new.self c.decode.new.src.items c.requires c.in-Err.ensures.next c.refused.ensures
