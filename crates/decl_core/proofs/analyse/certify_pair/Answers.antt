use Rattle.std.proofs.Common.{refl}
use Rattle.decl_core.specs.ObjectMap.{object_of}
use Rattle.decl_core.proofs.Certified.{certified_past, certified_with}
use Rattle.decl_core.proofs.analyse.certify_pair.Goals as goal

pub returns-in-None : goal.returns-in-None
returns-in-None c =
    certified_past (object_of c.args.object.now) c.args.first c.args.second (λ h. c.in-None.ensures h.0 h.1) c.args.entries.now.items c.requires.so_far

pub returns-in_ok-push-in-Some-separation_of : goal.returns-in_ok-push-in-Some-separation_of
returns-in_ok-push-in-Some-separation_of c =
    let more = certified_with (object_of c.args.object.now) c.args.first c.args.second c.requires.in_order (c.in-Some.part, c.in-Some.ensures.0)
    (record { first = c.args.first; second = c.args.second; path = c.in-Some-separation_of.at.path; node = c.in-Some-separation_of.at.node })
    refl refl c.in-Some-separation_of.ensures c.args.entries.now.items c.requires.so_far in
    rw c.in_ok-push-in-Some-separation_of.ensures.items more
