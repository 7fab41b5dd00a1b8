use Rattle.std.proofs.Common.{◌∙◌, ◌++◌, ◌∷◌, Some, None, ap, sym, subst, arith}
use Rattle.std.proofs.lemmas.Str.Pattern.{split_after, split_parts}
use Rattle.command_line.specs.Forms.{IsNumber}
use Rattle.command_line.proofs.past.past_in.Goals as goal

pub returns-in_default-clause-none : goal.returns-in_default-clause-none
returns-in_default-clause-none c = λ none p says.
    split_after 58 c.args.word.now p.object.now (p.operation.now ++ 58 ∷ says.number) None c.in_default.ensures.cases (omega arith) says.are says.no_colon

pub returns-in_default-split_once-clause-none : goal.returns-in_default-split_once-clause-none
returns-in_default-split_once-clause-none c = λ none p says.
    let front = split_after 58 c.args.word.now p.object.now (p.operation.now ++ 58 ∷ says.number) (Some (c.in-Some.object, c.in-Some.rest)) c.in-Some.ensures.cases (omega arith) says.are says.no_colon in
    split_after 58 c.in-Some.rest.now p.operation.now says.number None c.in_default-split_once.ensures.cases (omega arith) front.1 says.no_other

pub returns-in-Some-times_in-clause-some : goal.returns-in-Some-times_in-clause-some
returns-in-Some-times_in-clause-some c =
    let front = split_parts 58 c.args.word.now (Some (c.in-Some.object, c.in-Some.rest)) c.in-Some.ensures.cases (omega arith) in
    let back = split_parts 58 c.in-Some.rest.now (Some (c.in-Some-split_once.operation, c.in-Some-split_once.number)) c.in-Some-split_once.ensures.cases (omega arith) in record {
      number = c.in-Some-split_once.number.now;
      are = front.0 ∙ ap (λ more. c.in-Some.object.now ++ 58 ∷ more) back.0;
      no_colon = front.1;
      no_other = back.1;
      is_number = c.in-Some-times_in.ensures.some.0;
      times = c.in-Some-times_in.ensures.some.1;
    }

pub returns-in-None-clause-none : goal.returns-in-None-clause-none
returns-in-None-clause-none c = λ none p says.
    let front = split_after 58 c.args.word.now p.object.now (p.operation.now ++ 58 ∷ says.number) (Some (c.in-Some.object, c.in-Some.rest)) c.in-Some.ensures.cases (omega arith) says.are says.no_colon in
    let back = split_after 58 c.in-Some.rest.now p.operation.now says.number (Some (c.in-Some-split_once.operation, c.in-Some-split_once.number)) c.in-Some-split_once.ensures.cases (omega arith) front.1 says.no_other in
    c.times_in.ensures.none c.in-None.is (subst (IsNumber 1 30000) (sym back.1) says.is_number)
