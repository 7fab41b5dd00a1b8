use Rattle.std.proofs.Common.{◌≡◌, ◌≢◌, ◌+◌, ◌++◌, ◌∷◌, [], length, refl, map, sym, ap, subst, ◌∙◌, arith, rules}
use Rattle.std.specs.Prelude.{All}
use Rattle.value_core.specs.declared.datum.Datum.TheVariants as datum
use Rattle.value_core.specs.declared.kind.Elem.TheVariants as elem
use Rattle.value_core.specs.Datum.{IsElementIn}
use Rattle.value_bytes.specs.Spelling.{spelled_datum_in}
use Rattle.value_bytes.proofs.Decoding.{read_more, All-push, length-push, map-push, no_next, no_more, no_text}
use Rattle.value_bytes.proofs.decode.decode_texts.Goals as goal

pub returns-in_default-clause-damaged : goal.returns-in_default-clause-damaged
returns-in_default-clause-damaged c = λ _.
    no_next c.args.format c.args.bytes.now c.loop-place.rest.now elem.Text c.args.count (map datum.Text c.loop-place.all.items) c.loop-place.invariant.each (omega arith) c.loop-place.invariant.parts (no_text c.args.format c.loop-place.rest.now c.in_default.ensures.none)

pub loop-place-preserved : goal.loop-place-preserved
loop-place-preserved c =
    let old = c.loop-place.all.items in
    let text = c.in-Some.front.0 in
    let pushed : c.push.new.self.items ≡ old ++ text ∷ [] = search rules in
    let made : map datum.Text c.push.new.self.items ≡ map datum.Text old ++ datum.Text text ∷ [] = ap (map datum.Text) pushed ∙ map-push datum.Text old text in
    let is : IsElementIn c.args.format elem.Text (datum.Text text) = record { sort = refl; datum = c.in-Some.ensures.some.0 } in
    record {
      each = subst (All (IsElementIn c.args.format elem.Text)) (sym made) (All-push (IsElementIn c.args.format elem.Text) (map datum.Text old) (datum.Text text) c.loop-place.invariant.each is);
      many = subst (λ ys. length ys ≡ c.loop-place.place + 1) (sym made) (length-push (map datum.Text old) (datum.Text text) c.loop-place.place c.loop-place.invariant.many);
      parts = rw made (read_more (spelled_datum_in c.args.format) _ _ _ (map datum.Text old) (datum.Text text) c.loop-place.invariant.parts c.in-Some.ensures.some.1);
    }

pub returns-then-not-is_empty-clause-damaged : goal.returns-then-not-is_empty-clause-damaged
returns-then-not-is_empty-clause-damaged c = λ _.
    let some : c.loop-place.rest.now ≢ [] = search rules in
    no_more c.args.format c.args.bytes.now c.loop-place.rest.now elem.Text c.args.count (map datum.Text c.loop-place.all.items) c.loop-place.invariant.each (omega arith) c.loop-place.invariant.parts some
