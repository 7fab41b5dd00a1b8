use Rattle.std.proofs.Common.{◌≡◌, ◌≤◌, ◌++◌, [], ℕ, List, Option, Ok, Err, Result, OnErr, length, take, subst, ap, ◌∙◌, arith}
use Rattle.std.specs.Io.KnownBytes.{Appends}
use Rattle.std.proofs.lemmas.List.{with_items_is, length-take}
use Rattle.value_core.specs.Runs.{Fed, Finished}
use Rattle.value_core.proofs.Known.{Consumes-kept, Consumes-none}
use Rattle.value_core.proofs.Whole.{Sofar-none, Sofar-unread, Sofar-more, Sofar-stops, Sofar-whole, Sofar-last, Begins-sofar, Begins-fed, Begins-finished}
use Rattle.value_core.proofs.engine.run_lines.Goals as goal

pub loop-turn-init : goal.loop-turn-init
loop-turn-init g c =
    let none : c.new.result.items ≡ [] = c.new.ensures.items in
    record {
      size = c.in_ok-piece.ensures;
      clear = (rw none (λ k d below. absurd (omega arith)));
      empty = c.new-2.ensures.items;
      room = omega arith;
      sofar = rw none (Sofar-none g.M.Machine.gives c.args.machine.now (g.R.Read.remaining c.args.reader.now) (g.W.Write.contents c.args.writer.now));
    }

pub loop-turn-preserved-in-Err : goal.loop-turn-preserved-in-Err
loop-turn-preserved-in-Err g c =
    let now = c.loop-turn.invariant in
    record {
      size = now.size;
      clear = now.clear;
      empty = now.empty;
      room = omega (arith, now.room);
      sofar = Sofar-unread g.M.Machine.gives c.args.machine.now (g.R.Read.remaining c.args.reader.now) (g.W.Write.contents c.args.writer.now) c.loop-turn.machine (g.R.Read.remaining c.loop-turn.reader) (g.W.Write.contents c.loop-turn.writer) c.loop-turn.pending.number c.loop-turn.pending.held.items (g.R.Read.remaining c.read.new.self) now.sofar c.in-Err.ensures.bytes;
    }

-- an answer that was added to nothing is what was written
told : (sent sent' : Option (List ℕ)) (out out' slice answers : List ℕ) → out ≡ [] → out' ≡ out ++ answers → slice ≡ out' → Appends sent sent' slice → Appends sent sent' answers
told sent sent' out out' slice answers none added same wrote =
    let e : slice ≡ answers = same ∙ added ∙ ap (λ bs. bs ++ answers) none in
    rw e at wrote

pub returns-then-not-goes-clause-ended : goal.returns-then-not-goes-clause-ended
returns-then-not-goes-clause-ended g c =
    let now = c.loop-turn.invariant in
    let piece = take c.in-Ok.len c.read.new.buf in
    let same : c.deref.result.now ≡ c.read.new.buf = c.deref.ensures.value ∙ with_items_is c.loop-turn.piece c.read.new.buf (omega arith) in
    let fed = c.in_ok-goes-2.ensures.fed in
    let step = subst (λ goes. Fed g.M.Machine.gives c.loop-turn.machine c.loop-turn.pending.number (c.loop-turn.pending.held.items ++ piece) goes fed.0 c.feed.new.machine c.feed.new.self.number c.feed.new.self.held.items) c.if-not-goes.true (rw same at fed.2) in
    let wrote = told (g.W.Write.contents c.loop-turn.writer) (g.W.Write.contents c.write_whole-in-loop-turn.new.writer) c.loop-turn.pending.out.items c.feed.new.self.out.items c.as_slice-in-loop-turn.result.now fed.0 now.empty fed.1 c.as_slice-in-loop-turn.ensures.value c.in_ok-write_whole-2.ensures.ok in
    Sofar-stops g.M.Machine.gives c.args.machine.now (g.R.Read.remaining c.args.reader.now) (g.W.Write.contents c.args.writer.now) c.loop-turn.machine (g.R.Read.remaining c.loop-turn.reader) (g.W.Write.contents c.loop-turn.writer) c.loop-turn.pending.number c.loop-turn.pending.held.items piece fed.0 c.feed.new.machine (g.R.Read.remaining c.read.new.self) (g.W.Write.contents c.write_whole-in-loop-turn.new.writer) c.feed.new.self.number c.feed.new.self.held.items
    now.sofar c.in-Ok.ensures.bytes.0 wrote step

pub loop-turn-preserved : goal.loop-turn-preserved
loop-turn-preserved g c =
    let now = c.loop-turn.invariant in
    let piece = take c.in-Ok.len c.read.new.buf in
    let same : c.deref.result.now ≡ c.read.new.buf = c.deref.ensures.value ∙ with_items_is c.loop-turn.piece c.read.new.buf (omega arith) in
    let fed = c.in_ok-goes-2.ensures.fed in
    let step = subst (λ goes. Fed g.M.Machine.gives c.loop-turn.machine c.loop-turn.pending.number (c.loop-turn.pending.held.items ++ piece) goes fed.0 c.feed.new.machine c.feed.new.self.number c.feed.new.self.held.items) c.if-not-goes.false (rw same at fed.2) in
    let wrote = told (g.W.Write.contents c.loop-turn.writer) (g.W.Write.contents c.write_whole-in-loop-turn.new.writer) c.loop-turn.pending.out.items c.feed.new.self.out.items c.as_slice-in-loop-turn.result.now fed.0 now.empty fed.1 c.as_slice-in-loop-turn.ensures.value c.in_ok-write_whole-2.ensures.ok in
    record {
      size = now.size;
      clear = c.in_ok-goes-2.ensures.held (ap Ok c.if-not-goes.false);
      empty = c.clear.ensures.items;
      room = (let e : length piece ≤ 65536 = omega (arith, length-take c.in-Ok.len c.read.new.buf) in omega (arith, e, now.room, rw same at c.in_ok-goes-2.ensures.room));
      sofar = Sofar-more g.M.Machine.gives c.args.machine.now (g.R.Read.remaining c.args.reader.now) (g.W.Write.contents c.args.writer.now) c.loop-turn.machine (g.R.Read.remaining c.loop-turn.reader) (g.W.Write.contents c.loop-turn.writer) c.loop-turn.pending.number c.loop-turn.pending.held.items piece fed.0 c.feed.new.machine (g.R.Read.remaining c.read.new.self) (g.W.Write.contents c.write_whole-in-loop-turn.new.writer) c.feed.new.self.number c.feed.new.self.held.items
          now.sofar c.in-Ok.ensures.bytes.0 wrote step;
    }

pub returns-then-goes-clause-ended : goal.returns-then-goes-clause-ended
returns-then-goes-clause-ended g c =
    let now = c.loop-turn.invariant in
    let fin = c.in_ok-goes.ensures.finished in
    let step = subst (λ goes. Finished g.M.Machine.gives c.loop-turn.machine c.loop-turn.pending.number c.loop-turn.pending.held.items goes fin.0 c.finish.new.machine) c.if-goes.true fin.2 in
    let wrote = told (g.W.Write.contents c.loop-turn.writer) (g.W.Write.contents c.write_whole.new.writer) c.loop-turn.pending.out.items c.finish.new.self.out.items c.as_slice.result.now fin.0 now.empty fin.1 c.as_slice.ensures.value c.in_ok-write_whole.ensures.ok in
    let nothing : take c.in-Ok.len c.read.new.buf ≡ [] = ap (λ n. take n c.read.new.buf) c.if-len-eq0.true in
    Sofar-whole g.M.Machine.gives c.args.machine.now (g.R.Read.remaining c.args.reader.now) (g.W.Write.contents c.args.writer.now) c.loop-turn.machine (g.R.Read.remaining c.loop-turn.reader) (g.W.Write.contents c.loop-turn.writer) c.loop-turn.pending.number c.loop-turn.pending.held.items fin.0 c.finish.new.machine (g.R.Read.remaining c.read.new.self) (g.W.Write.contents c.write_whole.new.writer)
    now.sofar (rw nothing at c.in-Ok.ensures.bytes.0) (c.in-Ok.ensures.bytes.1 c.if-len-eq0.true (omega (arith, now.size))) wrote step

pub returns-then-len-eq0-clause-ended : goal.returns-then-len-eq0-clause-ended
returns-then-len-eq0-clause-ended g c =
    let now = c.loop-turn.invariant in
    let fin = c.in_ok-goes.ensures.finished in
    let step = subst (λ goes. Finished g.M.Machine.gives c.loop-turn.machine c.loop-turn.pending.number c.loop-turn.pending.held.items goes fin.0 c.finish.new.machine) c.if-goes.false fin.2 in
    let wrote = told (g.W.Write.contents c.loop-turn.writer) (g.W.Write.contents c.write_whole.new.writer) c.loop-turn.pending.out.items c.finish.new.self.out.items c.as_slice.result.now fin.0 now.empty fin.1 c.as_slice.ensures.value c.in_ok-write_whole.ensures.ok in
    let nothing : take c.in-Ok.len c.read.new.buf ≡ [] = ap (λ n. take n c.read.new.buf) c.if-len-eq0.true in
    let last = Sofar-last g.M.Machine.gives c.args.machine.now (g.R.Read.remaining c.args.reader.now) (g.W.Write.contents c.args.writer.now) c.loop-turn.machine (g.R.Read.remaining c.loop-turn.reader) (g.W.Write.contents c.loop-turn.writer) c.loop-turn.pending.number c.loop-turn.pending.held.items fin.0 c.finish.new.machine (g.R.Read.remaining c.read.new.self) (g.W.Write.contents c.write_whole.new.writer)
    now.sofar (rw nothing at c.in-Ok.ensures.bytes.0) (c.in-Ok.ensures.bytes.1 c.if-len-eq0.true (omega (arith, now.size))) wrote step in
    rw c.finish.ensures.number last

-- what holds anyway holds of an error
on_err : {T E P : Type 0} (r : Result T E) → P → OnErr r P
on_err (Ok x) p = tt
on_err (Err e) p = p

pub returns-in_err-piece-clause-faulted : goal.returns-in_err-piece-clause-faulted
returns-in_err-piece-clause-faulted g c =
    on_err c.from_residual.result (Begins-sofar g.M.Machine.gives c.args.machine.now (g.R.Read.remaining c.args.reader.now) (g.W.Write.contents c.args.writer.now) c.args.machine.now (g.R.Read.remaining c.args.reader.now) (g.W.Write.contents c.args.writer.now) 1 [] [] (g.R.Read.remaining c.args.reader.now)
    (Sofar-none g.M.Machine.gives c.args.machine.now (g.R.Read.remaining c.args.reader.now) (g.W.Write.contents c.args.writer.now)) (Consumes-none (g.R.Read.remaining c.args.reader.now)))

pub returns-in-Err-2-clause-faulted : goal.returns-in-Err-2-clause-faulted
returns-in-Err-2-clause-faulted g c =
    Begins-sofar g.M.Machine.gives c.args.machine.now (g.R.Read.remaining c.args.reader.now) (g.W.Write.contents c.args.writer.now) c.loop-turn.machine (g.R.Read.remaining c.loop-turn.reader) (g.W.Write.contents c.loop-turn.writer) c.loop-turn.pending.number c.loop-turn.pending.held.items [] (g.R.Read.remaining c.read.new.self) c.loop-turn.invariant.sofar
    (Consumes-kept (g.R.Read.remaining c.loop-turn.reader) (g.R.Read.remaining c.read.new.self) c.in-Err-2.ensures.bytes)

pub returns-in_err-goes-clause-faulted : goal.returns-in_err-goes-clause-faulted
returns-in_err-goes-clause-faulted g c =
    on_err c.from_residual-in_err-goes.result (Begins-sofar g.M.Machine.gives c.args.machine.now (g.R.Read.remaining c.args.reader.now) (g.W.Write.contents c.args.writer.now) c.loop-turn.machine (g.R.Read.remaining c.loop-turn.reader) (g.W.Write.contents c.loop-turn.writer) c.loop-turn.pending.number c.loop-turn.pending.held.items (take c.in-Ok.len c.read.new.buf) (g.R.Read.remaining c.read.new.self)
    c.loop-turn.invariant.sofar c.in-Ok.ensures.bytes.0)

pub returns-in_err-goes-2-clause-faulted : goal.returns-in_err-goes-2-clause-faulted
returns-in_err-goes-2-clause-faulted g c =
    on_err c.from_residual-in_err-goes-2.result (Begins-sofar g.M.Machine.gives c.args.machine.now (g.R.Read.remaining c.args.reader.now) (g.W.Write.contents c.args.writer.now) c.loop-turn.machine (g.R.Read.remaining c.loop-turn.reader) (g.W.Write.contents c.loop-turn.writer) c.loop-turn.pending.number c.loop-turn.pending.held.items (take c.in-Ok.len c.read.new.buf) (g.R.Read.remaining c.read.new.self)
    c.loop-turn.invariant.sofar c.in-Ok.ensures.bytes.0)

pub returns-clause-faulted : goal.returns-clause-faulted
returns-clause-faulted g c =
    Begins-sofar g.M.Machine.gives c.args.machine.now (g.R.Read.remaining c.args.reader.now) (g.W.Write.contents c.args.writer.now) c.loop-turn.machine (g.R.Read.remaining c.loop-turn.reader) (g.W.Write.contents c.loop-turn.writer) c.loop-turn.pending.number c.loop-turn.pending.held.items [] (g.R.Read.remaining c.loop-turn.reader) c.loop-turn.invariant.sofar (Consumes-none (g.R.Read.remaining c.loop-turn.reader))

-- a front of an answer that was added to nothing is what was written
told_front : (sent sent' : Option (List ℕ)) (out out' slice answers : List ℕ) (count : ℕ) → out ≡ [] → out' ≡ out ++ answers → slice ≡ out' → Appends sent sent' (take count slice) → Appends sent sent' (take count answers)
told_front sent sent' out out' slice answers count none added same wrote =
    let e : slice ≡ answers = same ∙ added ∙ ap (λ bs. bs ++ answers) none in
    rw e at wrote

pub returns-in_err-write_whole-clause-faulted : goal.returns-in_err-write_whole-clause-faulted
returns-in_err-write_whole-clause-faulted g c =
    let now = c.loop-turn.invariant in
    let fin = c.in_ok-goes.ensures.finished in
    let front = c.in_err-write_whole.ensures.err in
    let wrote = told_front (g.W.Write.contents c.loop-turn.writer) (g.W.Write.contents c.write_whole.new.writer) c.loop-turn.pending.out.items c.finish.new.self.out.items c.as_slice.result.now fin.0 front.0 now.empty fin.1 c.as_slice.ensures.value front.1 in
    let nothing : take c.in-Ok.len c.read.new.buf ≡ [] = ap (λ n. take n c.read.new.buf) c.if-len-eq0.true in
    on_err c.from_residual-in_err-write_whole.result (Begins-finished g.M.Machine.gives c.args.machine.now (g.R.Read.remaining c.args.reader.now) (g.W.Write.contents c.args.writer.now) c.loop-turn.machine (g.R.Read.remaining c.loop-turn.reader) (g.W.Write.contents c.loop-turn.writer) c.loop-turn.pending.number c.loop-turn.pending.held.items c.in_ok-goes.goes fin.0 c.finish.new.machine (g.R.Read.remaining c.read.new.self) (g.W.Write.contents c.write_whole.new.writer) front.0
    now.sofar (rw nothing at c.in-Ok.ensures.bytes.0) (c.in-Ok.ensures.bytes.1 c.if-len-eq0.true (omega (arith, now.size))) wrote fin.2)

pub returns-in_err-write_whole-2-clause-faulted : goal.returns-in_err-write_whole-2-clause-faulted
returns-in_err-write_whole-2-clause-faulted g c =
    let now = c.loop-turn.invariant in
    let piece = take c.in-Ok.len c.read.new.buf in
    let same : c.deref.result.now ≡ c.read.new.buf = c.deref.ensures.value ∙ with_items_is c.loop-turn.piece c.read.new.buf (omega arith) in
    let fed = c.in_ok-goes-2.ensures.fed in
    let front = c.in_err-write_whole-2.ensures.err in
    let wrote = told_front (g.W.Write.contents c.loop-turn.writer) (g.W.Write.contents c.write_whole-in-loop-turn.new.writer) c.loop-turn.pending.out.items c.feed.new.self.out.items c.as_slice-in-loop-turn.result.now fed.0 front.0 now.empty fed.1 c.as_slice-in-loop-turn.ensures.value front.1 in
    on_err c.from_residual-in_err-write_whole-2.result (Begins-fed g.M.Machine.gives c.args.machine.now (g.R.Read.remaining c.args.reader.now) (g.W.Write.contents c.args.writer.now) c.loop-turn.machine (g.R.Read.remaining c.loop-turn.reader) (g.W.Write.contents c.loop-turn.writer) c.loop-turn.pending.number c.loop-turn.pending.held.items piece c.in_ok-goes-2.goes fed.0 c.feed.new.machine c.feed.new.self.number c.feed.new.self.held.items (g.R.Read.remaining c.read.new.self) (g.W.Write.contents c.write_whole-in-loop-turn.new.writer) front.0
    now.sofar c.in-Ok.ensures.bytes.0 wrote (rw same at fed.2))
