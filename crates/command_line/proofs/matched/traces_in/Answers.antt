use Rattle.std.proofs.Common.{◌∙◌, arith, codes, sym}
use Rattle.clap.specs.Matches.{found_of}
use Rattle.std.specs.Str.Parse.{ExplainsUnsignedError, HasUnsignedDigitsIfOk, ParsesUnsigned}
use Rattle.command_line.proofs.Found.{has_one, number_read}
use Rattle.command_line.proofs.Rows.{some_none}
use Rattle.command_line.proofs.matched.traces_in.Goals as goal

pub unreachable-requires : goal.unreachable-requires
unreachable-requires c =
    let h = c.requires.1.15 in
    let read = number_read (λ bs r. ParsesUnsigned 32 10 bs r × ExplainsUnsignedError 10 bs r × HasUnsignedDigitsIfOk bs r) 32 1 1000000 h.0 c.get_one.result
    (c.get_one.ensures.value h.0 (has_one (found_of c.args.keep.now) (codes "traces") h.0 h.1)) (λ u x g. g.0) (omega arith) h.2 in
    some_none _ (sym read ∙ c.in-None.is)
