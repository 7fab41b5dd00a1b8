use Rattle.std.proofs.Common.{refl, subst}
use Rattle.decl_core.specs.ObjectMap.{object_of}
use Rattle.word_core.specs.View.{words_of}
use Rattle.decl_core.specs.HoldMap.{holds_of}
use Rattle.recover_core.specs.HeldSo.{TakesBy}
use Rattle.recover_core.proofs.Reading.{no_data, no_head, takes_told}
use Rattle.recover_core.proofs.read.take_words.Goals as goal

pub returns-in-None : goal.returns-in-None
returns-in-None c = (no_head (object_of c.args.object.now) (holds_of c.args.holds.now) c.args.line.now (words_of c.args.words.now) c.requires.names c.requires.words c.in-None.ensures, refl)

pub returns-in-None-2 : goal.returns-in-None-2
returns-in-None-2 c =
    (no_data (object_of c.args.object.now) (holds_of c.args.holds.now) c.args.line.now (words_of c.args.words.now) (words_of c.in-Some.rest.now) c.in-Some.session c.in-Some.number c.in-Some.name.now c.requires.names c.requires.words c.in-Some.ensures (rw c.in-None-2.is at c.in_ok-data_of-in-Some.ensures), refl)

pub returns-in_ok-taken-in-Some-2 : goal.returns-in_ok-taken-in-Some-2
returns-in_ok-taken-in-Some-2 c =
    let o = object_of c.args.object.now in
    let holds = holds_of c.args.holds.now in
    takes_told o holds c.args.line.now (words_of c.args.words.now) (words_of c.in-Some.rest.now) c.in-Some.session c.in-Some.number c.in-Some.name.now c.in-Some-2.values.items c.args.all.now c.take_by.new.all c.in_ok-taken-in-Some-2.taken c.requires.names c.requires.words c.in-Some.ensures
    (rw c.in-Some-2.is at c.in_ok-data_of-in-Some.ensures)
    (subst (λ xs. TakesBy o holds c.args.line.now c.in-Some.session c.in-Some.number c.in-Some.name.now xs c.args.all.now c.in_ok-taken-in-Some-2.taken c.take_by.new.all) c.deref.ensures.value c.in_ok-taken-in-Some-2.ensures)
