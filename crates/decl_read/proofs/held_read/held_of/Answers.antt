use Rattle.std.proofs.Common.{◌∙◌}
use Rattle.std.specs.Map.{values_of}
use Rattle.path_tree.specs.Tokens.{placed_tokens}
use Rattle.path_tree.proofs.TokenLists.{one_list}
use Rattle.decl_core.specs.ObjectMap.{objects_of}
use Rattle.decl_read.proofs.Reading.{cut_has, ruled_by, both_only}
use Rattle.decl_read.proofs.held_read.held_of.Goals as goal

pub returns-in-Ok-read_objects-clause-only : goal.returns-in-Ok-read_objects-clause-only
returns-in-Ok-read_objects-clause-only c objects rules p =
    let same = one_list c.args.source.now p.tokens (placed_tokens c.args.tokens.now) p.lexed c.requires.lexed in
    let has = cut_has c.args.source.now c.deref.result.now (placed_tokens c.args.tokens.now) objects rules p same (c.deref.ensures.value ∙ c.in-Ok.ensures) in
    let read = c.in-Ok-read_objects.ensures.only objects has in
    both_only c.with_rules.result (placed_tokens c.args.tokens.now) c.in-Ok.cut.items (objects_of (values_of c.in-Ok-read_objects.all.entries)) objects rules c.with_rules.ensures.found
    (c.with_rules.ensures.only rules (ruled_by c.args.source.now (placed_tokens c.args.tokens.now) objects (objects_of (values_of c.in-Ok-read_objects.all.entries)) rules p same read)) read

pub returns-in-Err-read_objects-clause-only : goal.returns-in-Err-read_objects-clause-only
returns-in-Err-read_objects-clause-only c objects rules p =
    let same = one_list c.args.source.now p.tokens (placed_tokens c.args.tokens.now) p.lexed c.requires.lexed in
    let has = cut_has c.args.source.now c.deref.result.now (placed_tokens c.args.tokens.now) objects rules p same (c.deref.ensures.value ∙ c.in-Ok.ensures) in
    c.told_behind.ensures (c.in-Err-read_objects.ensures.only objects has)
