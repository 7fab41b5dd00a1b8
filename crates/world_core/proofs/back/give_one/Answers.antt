use Rattle.std.proofs.Common.{◌≡◌, ◌∙◌, [], Some, sym, ap, subst, arith, slice_get}
use Rattle.std.specs.Arc.{arc_value}
use Rattle.std.proofs.lemmas.List.{append-nil, length-map}
use Rattle.std.proofs.lemmas.Option.{slice_get_within}
use Rattle.decl_core.specs.ObjectMap.{object_of, operation_of}
use Rattle.decl_core.specs.HoldMap.{holds_of}
use Rattle.board_core.specs.Board.{Board}
use Rattle.page_core.proofs.Lists.{true_false}
use Rattle.guest_core.specs.Undo.{IsUndoOf}
use Rattle.world_core.specs.HoldDoes.{GivesBack, Tries, holds_none, gives, gives_not, no_session}
use Rattle.world_core.proofs.Acting.{on_told}
use Rattle.world_core.proofs.back.give_one.Goals as goal

pub returns-then-not-is_session : goal.returns-then-not-is_session
returns-then-not-is_session c = ([], sym (append-nil c.args.out.now.items), no_session (λ s. true_false c.is_session.result (c.is_session.ensures.1 s) c.if-not-is_session.true))

pub returns-in_default : goal.returns-in_default
returns-in_default c = ([], sym (append-nil c.args.out.now.items), holds_none (rw c.in_default.is at c.newest.ensures))

pub returns-in_default-undo_of : goal.returns-in_default-undo_of
returns-in_default-undo_of c =
    let newest = c.in-Some.ensures in
    let object : c.object-object.result.now ≡ c.args.world.now.board.object = c.object-object.ensures.same ∙ c.accepted.ensures ∙ ap (λ (b : Board). b.object) c.desk.ensures.desk in (
      [],
      sym (append-nil c.args.out.now.items),
      gives_not newest.0 c.in-Some.held.now newest.1 (λ op arguments is. c.in_default-undo_of.ensures op arguments (subst (λ o. IsUndoOf (object_of o) (holds_of c.args.rules.now) c.in-Some.held.now op arguments) (sym object) is)),
    )

pub name_at-requires : goal.name_at-requires
name_at-requires c =
    let undo = c.in-Some-undo_of.ensures in
    omega (arith, slice_get_within (object_of c.object-object.result.now).operations c.in-Some-undo_of.op undo.form undo.declared, length-map c.object-object.result.now.operations.items (λ x. operation_of (arc_value x)))

pub returns : goal.returns
returns c =
    let newest = c.in-Some.ensures in
    let object : c.object-object.result.now ≡ c.args.world.now.board.object = c.object-object.ensures.same ∙ c.accepted.ensures ∙ ap (λ (b : Board). b.object) c.desk.ensures.desk in
    let undo = c.in-Some-undo_of.ensures in
    let called : c.text_of.result.now ≡ undo.form.name = c.text_of.ensures ∙ c.in_ok-name.ensures undo.form undo.declared in
    on_told c.try_call.result c.try_call.new.out.items c.args.out.now.items (λ t. Tries c.args.session c.text_of.result.now c.in-Some-undo_of.arguments.now c.args.world.now t c.try_call.new.world) (λ t. GivesBack (holds_of c.args.rules.now) c.args.holds.now c.args.session c.args.world.now t c.try_call.new.world)
    (λ t tried. gives newest.0 c.in-Some-undo_of.op c.in-Some.held.now newest.1
    (subst (λ o. IsUndoOf (object_of o) (holds_of c.args.rules.now) c.in-Some.held.now c.in-Some-undo_of.op c.in-Some-undo_of.arguments.now) object undo)
    (subst (λ o. slice_get (object_of o).operations c.in-Some-undo_of.op ≡ Some undo.form) object undo.declared)
    (subst (λ n. Tries c.args.session n c.in-Some-undo_of.arguments.now c.args.world.now t c.try_call.new.world) called tried))
    c.try_call.ensures
