use Rattle.std.proofs.Common.{◌≡◌, ◌∙◌, refl, inl}
use Rattle.device_core.specs.MemShelf.{papers_of}
use Rattle.device_core.proofs.mem_shelf.MemShelfShelf.store.Goals.{in-Ok, in-Err}
use Rattle.device_core.proofs.mem_shelf.MemShelfShelf.store.Goals as goal

pub returns-clause-agrees : goal.returns-clause-agrees
returns-clause-agrees c = λ papers is.
    let now : papers ≡ papers_of c.keep.new.papers = is in
    let before : c.args.self.now ≡ papers_of c.self.inside.papers = cc c.self.view_is in
    elim c.match-keep.branch [
      | in-Ok w ↦ (c.args.self.now, refl, rw w.result-is (cc (now, before, w.in-Ok.ensures.ok)))
      | in-Err w ↦ (c.args.self.now, refl, rw w.result-is (inl (cc (now, before, w.in-Err.ensures.err))))
    ]

pub returns-clause-follows : goal.returns-clause-follows
returns-clause-follows c = λ earlier is.
    let before : earlier ≡ papers_of c.self.inside.papers = is ∙ cc c.self.view_is in
    elim c.match-keep.branch [
      | in-Ok w ↦ (papers_of c.keep.new.papers, refl, rw w.result-is (cc (before, w.in-Ok.ensures.ok)))
      | in-Err w ↦ (papers_of c.keep.new.papers, refl, rw w.result-is (inl (cc (before, w.in-Err.ensures.err))))
    ]
