use Rattle.std.proofs.Common.{◌≡◌, ◌++◌, List, ℕ, take, ◌∙◌, ap}
use Rattle.std.specs.Prelude.{IfOk, Result, Ok, Err, Vec}
use Rattle.std.specs.declared.alloc.Global.{Global}
use Rattle.keep_loop.specs.Journal.{whole, recovered}
use Rattle.keep_loop.specs.Taken.{cut, plain, without_form, taken}
use Rattle.keep_loop.proofs.Lines.{recovered_lines}
use Rattle.keep_loop.proofs.taken.lines_told.Goals as goal

told_of : {E : Type 0} (r : Result (Vec ℕ Global) E) (file text lines : List ℕ) → text ≡ recovered file → lines ≡ plain (cut (whole text)) → IfOk r (λ t. t.items ≡ without_form 2 lines) → IfOk r (λ t. t.items ≡ taken file)
told_of (Ok t) file text lines is lines_are made =
    made ∙ ap (λ (l : List ℕ). without_form 2 l) (lines_are ∙ ap (λ (l : List ℕ). plain (cut (whole l))) is ∙ ap (λ (l : List ℕ). plain (cut l)) (recovered_lines file).ended)
told_of (Err e) file text lines is lines_are made = tt

pub returns : goal.returns
returns c =
    let text : List ℕ = take c.recovered_len-size.result c.args.file.now in
    let made : c.push_plain.new.out.items ≡ plain (cut (whole text)) = c.in_ok-push_plain.ensures ∙ ap (λ (l : List ℕ). l ++ plain (cut (whole text))) c.new-lines.ensures.items in
    told_of c.without_form.result c.args.file.now text c.deref.result.now c.recovered_len-size.ensures.lines (c.deref.ensures.value ∙ made) c.without_form.ensures
