use Rattle.std.proofs.Common.{ℕ, ◌+◌, List, sym, ◌∙◌}
use Rattle.keep_loop.specs.Taken.{TellsBetween}
use Rattle.keep_loop.proofs.Moments.{started, goes_on}
use Rattle.keep_loop.proofs.KeptLines.{sync_stands}
use Rattle.keep_loop.proofs.KeptTold.{now_tells, sync_checks, sync_tells}
use Rattle.keep_loop.proofs.journal.Journal.sync.Goals as goal

pub returns-in_err-sync-clause-any_moment : goal.returns-in_err-sync-clause-any_moment
returns-in_err-sync-clause-any_moment g c stored text h =
    let j = c.args.self.now in
    let s = c.requires.stands h.file h.known in
    let k = c.requires.checks h.file h.known in
    let P : List ℕ → Type 0 = λ f. TellsBetween stored text f in
    let here : (f : List ℕ) → g.D.Device.may_leave j.device f → P f = λ f now. now_tells h.file _ j.stored j.size (j.room + j.checks) j.crc s k stored text h.lines_are h.stored_are f now in
    let at_start = started g.D.Device.moment g.D.Device.left_since j.device P (λ f left. here f (g.met.D.Device.only_now j.device f left)) in
    goes_on g.D.Device.moment g.D.Device.left_since j.device j.device c.sync.new.self P _ at_start c.sync.ensures.time (λ f now. here f (c.sync.ensures.crash f now))

pub returns-clause-any_moment : goal.returns-clause-any_moment
returns-clause-any_moment g c stored text h =
    let j = c.args.self.now in
    let s = c.requires.stands h.file h.known in
    let k = c.requires.checks h.file h.known in
    let P : List ℕ → Type 0 = λ f. TellsBetween stored text f in
    let here : (f : List ℕ) → g.D.Device.may_leave j.device f → P f = λ f now. now_tells h.file _ j.stored j.size (j.room + j.checks) j.crc s k stored text h.lines_are h.stored_are f now in
    let at_start = started g.D.Device.moment g.D.Device.left_since j.device P (λ f left. here f (g.met.D.Device.only_now j.device f left)) in
    goes_on g.D.Device.moment g.D.Device.left_since j.device j.device c.sync.new.self P _ at_start c.sync.ensures.time (λ f now. here f (c.sync.ensures.crash f now))

pub returns-clause-in_order : goal.returns-clause-in_order
returns-clause-in_order g c =
    let j = c.args.self.now in
    record {
      fits = c.requires.fits;
      stands = λ file known.
          let was = sym (c.in_ok-sync.ensures.seen) ∙ known in
          sync_stands file _ j.stored j.size (j.room + j.checks) (c.requires.stands file was) _ (c.in_ok-sync.ensures.durable file was);
      checks = λ file known.
          let was = sym (c.in_ok-sync.ensures.seen) ∙ known in
          sync_checks file _ j.stored j.size (j.room + j.checks) j.crc (c.requires.stands file was) (c.requires.checks file was);
    }

pub returns-clause-stored : goal.returns-clause-stored
returns-clause-stored g c stored text h =
    let j = c.args.self.now in
    record {
      file = h.file;
      known = c.in_ok-sync.ensures.seen ∙ h.known;
      lines_are = h.lines_are;
      stored_are = sync_tells h.file _ j.stored j.size (j.room + j.checks) j.crc (c.requires.stands h.file h.known) (c.requires.checks h.file h.known) text h.lines_are;
    }
