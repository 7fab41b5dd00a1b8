use Rattle.std.proofs.Common.{◌≡◌, ◌+◌, ◌≤◌, ◌<◌, ◌∷◌, [], ◌++◌, length, slice_index, sym, ◌∙◌, inl, inr, refl, arith}
use Rattle.std.proofs.lemmas.Bool.{false≢true}
use Rattle.std.proofs.lemmas.List.{length_push}
use Rattle.path_tree.specs.Tokens.{IsTextByte, most_string_bytes}
use Rattle.path_tree.proofs.Slices.{byte_within}
use Rattle.path_tree.proofs.Strings.{width, width_two, width_one, doubled, content_more}
use Rattle.path_tree.proofs.lex.text.read_string.Goals as goal
use Rattle.path_tree.proofs.lex.text.read_string.Goals.{then-byte-eq39, else-byte-eq39}

pub returns-then-ends_line : goal.returns-then-ends_line
returns-then-ends_line c =
    let content = c.loop-content.content.items in
    let i = c.loop-content.invariant in
    inr ((length content, c.loop-content.at, (content, c.requires.apostrophe, i.so_far, refl), inl (i.few, c.if-ends_line.ensures.0 refl)), refl)

pub returns-then-len-eq-MOST_STRING_BYTES : goal.returns-then-len-eq-MOST_STRING_BYTES
returns-then-len-eq-MOST_STRING_BYTES c =
    let source = c.args.source.now in
    let at = c.loop-content.at in
    let content = c.loop-content.content.items in
    let b = slice_index source at in
    let twice : b ≡ 39 → slice_index source (at + 1) ≡ 39 = doubled b (slice_index source (at + 1)) (λ closes. absurd (false≢true (c.if-closes_string.ensures.1 closes))) in
    let more = content_more source (c.args.start + 1) content at b c.loop-content.invariant.so_far (c.if-not-is_text_byte.ensures.0 refl) refl twice in
    inr ((most_string_bytes + 1, at + width b, (content ++ b ∷ [], c.requires.apostrophe, more, omega (arith, length_push content b, c.loop-content.content.ok.0)), inr refl), refl)

pub loop-content-preserved : goal.loop-content-preserved
loop-content-preserved c =
    let source = c.args.source.now in
    let at = c.loop-content.at in
    let content = c.loop-content.content.items in
    let b = slice_index source at in
    let text : IsTextByte b = c.if-not-is_text_byte.ensures.0 refl in
    let inside : at < length source = byte_within source at (omega (arith, text.0)) in
    let twice : b ≡ 39 → slice_index source (at + 1) ≡ 39 = doubled b (slice_index source (at + 1)) (λ closes. absurd (false≢true (c.if-closes_string.ensures.1 closes))) in
    let more = content_more source (c.args.start + 1) content at b c.loop-content.invariant.so_far text refl twice in
    let step : c.if-byte-eq39.at ≡ width b =
    elim c.if-byte-eq39.branch [ then-byte-eq39 w ↦ w.at-is ∙ sym (width_two b w.if-byte-eq39.true) | else-byte-eq39 w ↦ w.at-is ∙ sym (width_one b w.if-byte-eq39.false) ] in
    let upper : at + c.if-byte-eq39.at ≤ length source =
    elim c.if-byte-eq39.branch [
      | then-byte-eq39 w ↦ omega (arith, w.at-is, byte_within source (at + 1) (omega (arith, twice w.if-byte-eq39.true)))
      | else-byte-eq39 w ↦ omega (arith, w.at-is)
    ] in
    record {
      upper = upper;
      so_far = rw (c.in_ok-push.ensures.items, step) more;
      few = rw c.in_ok-push.ensures.items (omega (arith, length_push content b, c.loop-content.content.ok.0));
    }
