use Rattle.std.proofs.Common.{List, length, sym, ap, subst, arith}
use Rattle.device_core.specs.declared.hand.Stamp.{Stamp}
use Rattle.device_core.specs.Device.{AreServed}
use Rattle.device_core.specs.declared.file.File.{File}
use Rattle.device_core.specs.Files.{Serves, files_of}
use Rattle.world_core.proofs.Reading.{first_served, others_served}
use Rattle.world_core.proofs.read.+read_pages.Goals as goal

pub read_bytes-requires : goal.read_bytes-requires
read_bytes-requires t c = first_served (λ s. Serves (files_of c.args.hand.now) s) c.args.pages.now c.in-Some.rest.now c.in-Some.page.now c.in-Some.ensures.cases.0 c.requires

pub read_pages-requires : goal.read_pages-requires
read_pages-requires t c =
    let d = c.decreases in
    let rest = c.in-Some.rest.now in (
      omega (arith, ap (λ (l : List Stamp). length l) c.in-Some.ensures.cases.0, d),
      subst (λ (files : List File). AreServed (λ s. Serves files s) rest) (sym c.read_bytes.ensures.files)
          (others_served (λ s. Serves (files_of c.args.hand.now) s) c.args.pages.now rest c.in-Some.page.now c.in-Some.ensures.cases.0 c.requires),
    )
