use Rattle.std.proofs.Common.{◌≡◌, ℕ, ◌+◌, ◌-◌, List, ◌++◌, length, sym, ap, subst, ◌∙◌, arith, length-append}
use lib.ListN.{replicate}
use Rattle.std.proofs.lemmas.List.{length-replicate}
use Rattle.keep_loop.specs.Device.{with_bytes}
use Rattle.keep_loop.specs.Journal.{Stands}
use Rattle.keep_loop.specs.Order.{Fills, Checks}
use Rattle.keep_loop.specs.Taken.{TellsBetween}
use Rattle.keep_loop.proofs.Moments.{started, goes_on}
use Rattle.keep_loop.proofs.KeptLines.{changed_from, changed_to, append_stands}
use Rattle.keep_loop.proofs.KeptTold.{between_told, now_tells, append_tells, append_checks, append_told, append_on_disk, bytes_lines, fills_fit, fills_left}
use Rattle.keep_loop.proofs.journal.Journal.append.Goals as goal

pub returns-then-lines-self-clause-any_moment : goal.returns-then-lines-self-clause-any_moment
returns-then-lines-self-clause-any_moment g c stored text h =
    let j = c.args.self.now in
    let s = c.requires.in_order.stands h.file h.known in
    let k = c.requires.in_order.checks h.file h.known in
    started g.D.Device.moment g.D.Device.left_since j.device (λ f. TellsBetween stored (text ++ c.args.lines.now) f)
    (λ f left. between_told _ _ _ _ (now_tells h.file _ j.stored j.size (j.room + j.checks) j.crc s k stored text h.lines_are h.stored_are f (g.met.D.Device.only_now j.device f left)))

pub returns-in_err-crc-clause-any_moment : goal.returns-in_err-crc-clause-any_moment
returns-in_err-crc-clause-any_moment g c stored text h =
    let j = c.args.self.now in
    let s = c.requires.in_order.stands h.file h.known in
    let k = c.requires.in_order.checks h.file h.known in
    started g.D.Device.moment g.D.Device.left_since j.device (λ f. TellsBetween stored (text ++ c.args.lines.now) f)
    (λ f left. between_told _ _ _ _ (now_tells h.file _ j.stored j.size (j.room + j.checks) j.crc s k stored text h.lines_are h.stored_are f (g.met.D.Device.only_now j.device f left)))

pub returns-in_err-write_at-clause-any_moment : goal.returns-in_err-write_at-clause-any_moment
returns-in_err-write_at-clause-any_moment g c stored text h =
    let j = c.args.self.now in
    let lines = c.args.lines.now in
    let bytes = c.deref.result.now in
    let s = c.requires.in_order.stands h.file h.known in
    let k = c.requires.in_order.checks h.file h.known in
    let fills = subst (λ b. Fills lines j.stored j.crc j.checks b c.in_ok-crc.crc c.in_ok-crc.checks) (sym c.deref.ensures.value) c.in_ok-crc.ensures in
    let P : List ℕ → Type 0 = λ f. TellsBetween stored (text ++ lines) f in
    let at_start = started g.D.Device.moment g.D.Device.left_since j.device P
    (λ f left. between_told _ _ _ _ (now_tells h.file _ j.stored j.size (j.room + j.checks) j.crc s k stored text h.lines_are h.stored_are f (g.met.D.Device.only_now j.device f left))) in
    goes_on g.D.Device.moment g.D.Device.left_since j.device j.device c.write_at.new.self P _ at_start c.write_at.ensures.time
    (λ f now. append_tells h.file _ j.stored j.size (j.room + j.checks) j.crc s k lines j.checks bytes _ _ c.requires.lines (omega (arith, s.stored_is, s.size_is, c.requires.in_order.fits)) fills
    (fills_fit lines j.stored j.crc j.checks bytes _ _ j.room fills c.if-lines-self.false) stored text h.lines_are h.stored_are _ c.write_at.ensures.crash f now)

pub returns-clause-any_moment : goal.returns-clause-any_moment
returns-clause-any_moment g c stored text h =
    let j = c.args.self.now in
    let lines = c.args.lines.now in
    let bytes = c.deref.result.now in
    let s = c.requires.in_order.stands h.file h.known in
    let k = c.requires.in_order.checks h.file h.known in
    let fills = subst (λ b. Fills lines j.stored j.crc j.checks b c.in_ok-crc.crc c.in_ok-crc.checks) (sym c.deref.ensures.value) c.in_ok-crc.ensures in
    let P : List ℕ → Type 0 = λ f. TellsBetween stored (text ++ lines) f in
    let at_start = started g.D.Device.moment g.D.Device.left_since j.device P
    (λ f left. between_told _ _ _ _ (now_tells h.file _ j.stored j.size (j.room + j.checks) j.crc s k stored text h.lines_are h.stored_are f (g.met.D.Device.only_now j.device f left))) in
    goes_on g.D.Device.moment g.D.Device.left_since j.device j.device c.write_at.new.self P _ at_start c.write_at.ensures.time
    (λ f now. append_tells h.file _ j.stored j.size (j.room + j.checks) j.crc s k lines j.checks bytes _ _ c.requires.lines (omega (arith, s.stored_is, s.size_is, c.requires.in_order.fits)) fills
    (fills_fit lines j.stored j.crc j.checks bytes _ _ j.room fills c.if-lines-self.false) stored text h.lines_are h.stored_are _ c.write_at.ensures.crash f now)

pub write_at-requires : goal.write_at-requires
write_at-requires g c file known =
    let j = c.args.self.now in
    let s = c.requires.in_order.stands file known in
    let fit = fills_fit c.args.lines.now j.stored j.crc j.checks c.fill.new.buffer.items _ _ j.room c.in_ok-crc.ensures c.if-lines-self.false in
    omega (arith, ap length s.file_is, length-append (s.stored ++ s.loose) (replicate (j.room + j.checks) 0), length-append s.stored s.loose, length-replicate {A = ℕ} (j.room + j.checks) 0, s.size_is, fit, ap length c.deref.ensures.value)

pub overflow_add-self : goal.overflow_add-self
overflow_add-self g c =
    let j = c.args.self.now in
    let fit = fills_fit c.args.lines.now j.stored j.crc j.checks c.fill.new.buffer.items _ _ j.room c.in_ok-crc.ensures c.if-lines-self.false in
    omega (arith, c.requires.in_order.fits, fit, c.len.ensures)

pub returns-clause-in_order : goal.returns-clause-in_order
returns-clause-in_order g c =
    let j = c.args.self.now in
    let lines = c.args.lines.now in
    let bytes = c.deref.result.now in
    let long : c.len.result ≡ length bytes = c.len.ensures ∙ sym c.deref.ensures.len in
    let fills = subst (λ b. Fills lines j.stored j.crc j.checks b c.in_ok-crc.crc c.in_ok-crc.checks) (sym c.deref.ensures.value) c.in_ok-crc.ensures in
    let fit = fills_fit lines j.stored j.crc j.checks bytes _ _ j.room fills c.if-lines-self.false in
    let left = fills_left lines j.stored j.crc j.checks bytes _ _ j.room fills c.if-lines-self.false in
    record {
      fits = omega (arith, c.requires.in_order.fits, fit, left, long, c.if-lines-self.false);
      stands = λ file known.
          let was = changed_from (with_bytes j.size bytes) (g.D.Device.seen j.device) (g.D.Device.seen c.write_at.new.self) c.in_ok-write_at.ensures.written file known in
          let s = c.requires.in_order.stands was.0 was.1 in
          let k = c.requires.in_order.checks was.0 was.1 in
          subst (λ n. Stands file (g.D.Device.may_leave c.write_at.new.self) j.stored (j.size + n) ((j.room - length lines) + c.in_ok-crc.checks)) (sym long)
          (subst (λ n. Stands file (g.D.Device.may_leave c.write_at.new.self) j.stored (j.size + length bytes) n) left
          (subst (λ f. Stands f (g.D.Device.may_leave c.write_at.new.self) j.stored (j.size + length bytes) ((j.room + j.checks) - length bytes)) (sym was.2)
          (append_stands was.0 _ j.stored j.size (j.room + j.checks) s bytes fit
          (bytes_lines was.0 _ j.stored j.size (j.room + j.checks) j.crc s k lines j.checks bytes _ _ c.requires.lines (omega (arith, s.stored_is, s.size_is, c.requires.in_order.fits)) fills fit) _ c.write_at.ensures.crash)));
      checks = λ file known.
          let was = changed_from (with_bytes j.size bytes) (g.D.Device.seen j.device) (g.D.Device.seen c.write_at.new.self) c.in_ok-write_at.ensures.written file known in
          let s = c.requires.in_order.stands was.0 was.1 in
          let k = c.requires.in_order.checks was.0 was.1 in
          subst (λ f. Checks f j.stored c.in_ok-crc.crc) (sym was.2)
          (append_checks was.0 _ j.stored j.size (j.room + j.checks) j.crc s k lines j.checks bytes _ _ c.requires.lines (omega (arith, s.stored_is, s.size_is, c.requires.in_order.fits)) fills fit);
    }

pub returns-clause-added : goal.returns-clause-added
returns-clause-added g c stored text h =
    let j = c.args.self.now in
    let lines = c.args.lines.now in
    let bytes = c.deref.result.now in
    let s = c.requires.in_order.stands h.file h.known in
    let k = c.requires.in_order.checks h.file h.known in
    let fills = subst (λ b. Fills lines j.stored j.crc j.checks b c.in_ok-crc.crc c.in_ok-crc.checks) (sym c.deref.ensures.value) c.in_ok-crc.ensures in
    let fit = fills_fit lines j.stored j.crc j.checks bytes _ _ j.room fills c.if-lines-self.false in
    record {
      file = with_bytes j.size bytes h.file;
      known = changed_to (with_bytes j.size bytes) _ _ c.in_ok-write_at.ensures.written h.file h.known;
      lines_are = append_told h.file _ j.stored j.size (j.room + j.checks) j.crc s k lines j.checks bytes _ _ c.requires.lines (omega (arith, s.stored_is, s.size_is, c.requires.in_order.fits)) fills fit text h.lines_are;
      stored_are = append_on_disk h.file _ j.stored j.size (j.room + j.checks) j.crc s k lines j.checks bytes _ _ c.requires.lines (omega (arith, s.stored_is, s.size_is, c.requires.in_order.fits)) fills fit stored h.stored_are;
    }
