use Rattle.std.proofs.Common.{◌++◌, [], inl, inr, codes, refl, arith}
use Rattle.std.specs.Prelude.{decimal}
use Rattle.std.proofs.lemmas.Bool.Decides.{nat_tests}
use Rattle.std.proofs.lemmas.Grind.{common_steps}
use Rattle.value_core.specs.Reply.{reply}
use Rattle.path_count.specs.ReadLine.{line_fault_text}
use Rattle.path_count.proofs.Lines.{late_path, some_told, none_told, path_line_told, fault_told}
use Rattle.path_count.proofs.paths.machine.Paths.take_path.Goals as goal
use Rattle.path_count.proofs.paths.machine.Paths.take_path.Goals.{then-is_empty-via-then-is_empty, then-is_empty-via-else-is_empty+then-self, then-is_empty-via-else-is_empty+else-self+then-len-ge-MOST_PATHS}

pub returns-then-is_empty : goal.returns-then-is_empty
returns-then-is_empty c = (
  reply (codes "bad line ") (decimal c.args.number),
  c.in_ok-push_count.ensures,
  λ told stands is.
      late_path told c.args.number c.args.line.now c.args.self.now stands is (elim c.then-is_empty.branch [
        | then-is_empty-via-then-is_empty w ↦ inl (none_told told c.args.self.now c.names.result.now stands c.names.ensures.names (grind (arith, nat_tests)))
        | then-is_empty-via-else-is_empty+then-self w ↦ inr (inl w.if-self.true)
        | then-is_empty-via-else-is_empty+else-self+then-len-ge-MOST_PATHS w ↦ inr (inr (grind (arith, common_steps)))
      ]),
)

pub returns-in_ok-push-in-Path : goal.returns-in_ok-push-in-Path
returns-in_ok-push-in-Path c =
    let read = rw c.in-Path.is at c.in_ok-path.ensures in (
      reply c.in_ok-text-in-Path.text.items [],
      rw c.deref.ensures.value at c.in_ok-push_reply-in-Path.ensures,
      λ told stands is.
          path_line_told told c.args.number c.args.line.now c.in-Path.path c.in_ok-text-in-Path.text.items c.args.self.now _ stands
          (some_told told c.args.self.now c.names.result.now stands c.names.ensures.names (λ h. grind (arith, nat_tests)))
          c.if-self.false (grind (arith, common_steps)) is (rw c.names-2.ensures.names at read.0) (rw c.names-in-Path.ensures.names at c.in_ok-text-in-Path.ensures.text)
          refl c.in_ok-push-in-Path.ensures.items refl,
    )

pub returns-in_ok-push_line_fault-in-Refused : goal.returns-in_ok-push_line_fault-in-Refused
returns-in_ok-push_line_fault-in-Refused c =
    let read = rw c.in-Refused.is at c.in_ok-path.ensures in (
      codes "line " ++ decimal c.args.number ++ codes ": " ++ line_fault_text c.in-Refused.fault,
      c.in_ok-push_line_fault-in-Refused.ensures,
      λ told stands is.
          fault_told told c.args.number c.args.line.now c.in-Refused.fault c.args.self.now stands
          (some_told told c.args.self.now c.names.result.now stands c.names.ensures.names (λ h. grind (arith, nat_tests)))
          c.if-self.false (grind (arith, common_steps)) is (rw c.names-2.ensures.names at read.0) (rw c.names-2.ensures.names at read.1),
    )
