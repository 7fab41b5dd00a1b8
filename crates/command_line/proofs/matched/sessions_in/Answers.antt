use Rattle.std.proofs.Common.{◌∙◌, arith, codes, sym}
use Rattle.clap.specs.Matches.{found_of}
use Rattle.std.specs.Str.Parse.{ExplainsUnsignedError, HasUnsignedDigitsIfOk, ParsesUnsigned}
use Rattle.command_line.proofs.Found.{has_one, number_read}
use Rattle.command_line.proofs.Rows.{some_none}
use Rattle.command_line.proofs.matched.sessions_in.Goals as goal

pub unreachable-requires : goal.unreachable-requires
unreachable-requires c =
    let h = c.requires.1 in
    let read = number_read (λ bs r. ParsesUnsigned 8 10 bs r × ExplainsUnsignedError 10 bs r × HasUnsignedDigitsIfOk bs r) 8 1 64 h.3 c.get_one.result
    (c.get_one.ensures.value h.3 (has_one (found_of c.args.serve.now) (codes "sessions") h.3 h.8)) (λ u x g. g.0) (omega arith) h.9 in
    some_none _ (sym read ∙ c.in-None.is)
