use Rattle.std.proofs.Common.{◌∷◌, [], ◌∙◌, slice_index, ap, sym, refl, inl}
use Rattle.path_tree.proofs.Signs.{no_sign, single_sign, double_sign, NoDouble}
use Rattle.path_tree.proofs.lex.sign.read_sign.Goals as goal

pub returns-in-Some : goal.returns-in-Some
returns-in-Some c =
    let first = slice_index c.args.source.now c.args.start in
    inl (double_sign c.args.source.now c.args.start c.in-Some.symbol c.in-Some.ensures.0 (c.in-Some.ensures.1 ∙ ap (λ x. first ∷ x ∷ []) c.byte_at.ensures) c.requires.no_comment)

pub returns-in-Some-single_sign : goal.returns-in-Some-single_sign
returns-in-Some-single_sign c =
    let source = c.args.source.now in
    let first = slice_index source c.args.start in
    let no_double : NoDouble source c.args.start = λ s sign is. c.in_default.ensures s sign (is ∙ ap (λ x. first ∷ x ∷ []) (sym c.byte_at.ensures)) in
    inl (single_sign source c.args.start c.in-Some-single_sign.symbol c.in-Some-single_sign.ensures.0 c.in-Some-single_sign.ensures.1 c.requires.within no_double c.requires.no_comment)

pub returns-in-None : goal.returns-in-None
returns-in-None c =
    let source = c.args.source.now in
    let first = slice_index source c.args.start in
    let no_double : NoDouble source c.args.start = λ s sign is. c.in_default.ensures s sign (is ∙ ap (λ x. first ∷ x ∷ []) (sym c.byte_at.ensures)) in
    let r = c.requires in
    inl ((r.within, r.no_blank, r.no_comment, r.no_word, r.no_number, r.no_string, no_sign source c.args.start no_double c.in-None.ensures), refl)
