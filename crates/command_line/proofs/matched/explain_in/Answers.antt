use Rattle.std.proofs.Common.{◌∙◌, ap₂, codes, sym}
use Rattle.clap.specs.Matches.{found_of}
use Rattle.command_line.specs.Forms.{explain_of}
use Rattle.command_line.proofs.Found.{flag_is}
use Rattle.command_line.proofs.matched.explain_in.Goals as goal

pub returns : goal.returns
returns c = λ g h.
    let f = found_of c.args.matches.now in
    c.explain_by.ensures ∙ sym (ap₂ explain_of
    (flag_is f (codes "explain") g.explains c.get_flag.result h.0 c.get_flag.ensures.value c.get_flag.ensures.other)
    (flag_is f (codes "no-explain") g.silent c.get_flag-2.result h.1 c.get_flag-2.ensures.value c.get_flag-2.ensures.other))
