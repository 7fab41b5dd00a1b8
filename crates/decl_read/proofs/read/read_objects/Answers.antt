use Rattle.std.proofs.Common.{◌≡◌, length, sym, ap, subst, ◌∙◌, Some, arith}
use Rattle.std.specs.Map.{values_of}
use Rattle.path_tree.specs.Lexeme.{lexemes}
use Rattle.decl_core.specs.ObjectMap.{objects_of}
use Rattle.decl_read.specs.DeclarationReading.{file_in}
use Rattle.decl_read.proofs.Sources.{source_found, source_read, only_memory, told_memory, told_one, one_of_some, at_most_when, never_too_long}
use Rattle.decl_read.proofs.read.read_objects.Goals as goal

pub returns-in-Err-file-clause-only : goal.returns-in-Err-file-clause-only
returns-in-Err-file-clause-only c = λ objects p.
    let same = c.in-Ok.ensures.complete p.tokens p.lexed p.short in
    let read = source_read c.args.source.now c.in-Ok.tokens.items objects (omega (arith, c.in-Ok.tokens.ok.0, c.in-Ok.ensures.count, p.short)) p same in
    let read_there = subst (λ ts. file_in 131072 (lexemes ts) ≡ Some objects) (sym c.deref.ensures.value) read in
    c.told_behind.ensures ∙ only_memory c.in-Err-file.fault objects _ read_there c.in-Err-file.ensures

pub returns-in-Err-file-clause-lexical : goal.returns-in-Err-file-clause-lexical
returns-in-Err-file-clause-lexical c = λ fault first short. absurd (c.in-Ok.ensures.faulty fault first short)

pub returns-in-Err-clause-only : goal.returns-in-Err-clause-only
returns-in-Err-clause-only c = λ objects p. c.told.ensures ∙ told_memory c.in-Err.fault (c.in-Err.ensures.complete p.tokens p.lexed p.short)

pub returns-in-Err-clause-lexical : goal.returns-in-Err-clause-lexical
returns-in-Err-clause-lexical c = λ fault first short. told_one c.in-Err.fault fault c.told.result c.told.ensures (c.in-Err.ensures.faulty fault first short)

pub returns-clause-found : goal.returns-clause-found
returns-clause-found c =
    let read = subst (λ ts. file_in 131072 (lexemes ts) ≡ Some (objects_of c.in-Ok-file.all)) c.deref.ensures.value c.in-Ok-file.ensures in
    let all = ap objects_of (sym c.into_map.ensures.objects) in
    let short = at_most_when 65536 (length c.args.source.now) (λ h. never_too_long c.in-Ok.tokens (c.in-Ok.ensures.too_long.1 h)) in
    source_found c.args.source.now c.in-Ok.tokens.items (objects_of (values_of c.into_map.result.entries)) short c.in-Ok.ensures.tokens (read ∙ ap Some all)

pub returns-clause-only : goal.returns-clause-only
returns-clause-only c = λ objects p.
    let same = c.in-Ok.ensures.complete p.tokens p.lexed p.short in
    let read = source_read c.args.source.now c.in-Ok.tokens.items objects (omega (arith, c.in-Ok.tokens.ok.0, c.in-Ok.ensures.count, p.short)) p same in
    let there = subst (λ ts. file_in 131072 (lexemes ts) ≡ Some (objects_of c.in-Ok-file.all)) c.deref.ensures.value c.in-Ok-file.ensures in
    let all = ap objects_of c.into_map.ensures.objects in
    all ∙ one_of_some (sym there ∙ read)
