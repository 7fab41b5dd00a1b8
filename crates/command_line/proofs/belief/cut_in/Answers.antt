use Rattle.std.proofs.Common.{Some, None, sym, subst, arith}
use Rattle.std.proofs.lemmas.Str.Pattern.{split_after, split_parts}
use Rattle.command_line.specs.Forms.{IsNumber}
use Rattle.command_line.proofs.belief.cut_in.Goals as goal

pub returns-in_default-clause-none : goal.returns-in_default-clause-none
returns-in_default-clause-none c = λ none p says.
    split_after 58 c.args.word.now p.object.now says.number None c.in_default.ensures.cases (omega arith) says.are says.no_colon

pub returns-in-Some-line_in-clause-some : goal.returns-in-Some-line_in-clause-some
returns-in-Some-line_in-clause-some c =
    let front = split_parts 58 c.args.word.now (Some (c.in-Some.object, c.in-Some.number)) c.in-Some.ensures.cases (omega arith) in record {
      number = c.in-Some.number.now;
      are = front.0;
      no_colon = front.1;
      is_number = c.in-Some-line_in.ensures.some.0;
      line = c.in-Some-line_in.ensures.some.1;
    }

pub returns-in-None-clause-none : goal.returns-in-None-clause-none
returns-in-None-clause-none c = λ none p says.
    let front = split_after 58 c.args.word.now p.object.now says.number (Some (c.in-Some.object, c.in-Some.number)) c.in-Some.ensures.cases (omega arith) says.are says.no_colon in
    c.line_in.ensures.none c.in-None.is (subst (IsNumber 1 4294967295) (sym front.1) says.is_number)
