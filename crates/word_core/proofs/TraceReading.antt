-- The lines of a trace are read back.
use Rattle.std.proofs.Common.{◌≡◌, ℕ, true, false, List, [], ◌∷◌, refl, sym, ap, subst, ◌∙◌, map}
use Rattle.std.specs.Prelude.{codes}
use Rattle.std.specs.Str.{bytes_eq}
use Rattle.std.specs.Str.Lines.{lines}
use Rattle.hex.proofs.HexLemmas.{decode_of-encode_lower}
use Rattle.value_core.specs.declared.format.Format.TheVariants.{Second}
use Rattle.value_bytes.specs.Spelling.{spelling}
use Rattle.value_bytes.proofs.Bytes.{spelling_is_bytes}
use Rattle.apply_core.specs.declared.reply.Failure.{Failure}
use Rattle.apply_core.specs.declared.reply.Failure.TheVariants.{Device, Memory, Damaged}
use Rattle.apply_core.specs.declared.reply.Reply.TheVariants.{Done, Refused, Failed}
use Rattle.word_core.specs.Ending.{failed}
use Rattle.word_core.specs.Words.{Word, words_text}
use Rattle.word_core.proofs.Written.{written_words}
use Rattle.word_core.specs.Text.{failure_word, lines_of, trace_words}
use Rattle.word_core.specs.TraceLaws.{HaveWords, TraceIsRead, PartIsRead, RepliesApart}
use Rattle.word_core.proofs.Plain.{each_word, line_first}
use Rattle.word_core.proofs.Safe.{EachLine, trace_safe}

lines_are : (all : List (List Word)) → EachLine all → lines (lines_of all) ≡ map words_text all
lines_are [] each = refl
lines_are (words ∷ all) each = line_first words (lines_of all) each.0 ∙ ap (λ others. words_text words ∷ others) (lines_are all each.1)

each_read : (all : List (List Word)) → EachLine all → HaveWords (map words_text all) all
each_read [] each = tt
each_read (words ∷ all) each = (written_words words (each_word words each.0), each_read all each.1)

pub trace_is_read : TraceIsRead
trace_is_read o opening events named contents told =
    let all = trace_words o opening events in
    let safe = trace_safe o opening events named contents told in
    subst (λ found. HaveWords found all) (sym (lines_are all safe)) (each_read all safe)

pub part_is_read : PartIsRead
part_is_read value is = decode_of-encode_lower (spelling value) (spelling_is_bytes Second value is)

apart : (a b : List ℕ) → bytes_eq a b ≡ false → bytes_eq a a ≡ true → a ≡ b → ⊥
apart a b differ self same = let is : bytes_eq a b ≡ true = subst (λ w. bytes_eq a w ≡ true) same self in cc

failures_apart : (first second : Failure) → failure_word first ≡ failure_word second → first ≡ second
failures_apart Device Device same = refl
failures_apart Device Memory same = absurd (apart (codes "device") (codes "memory") refl refl same)
failures_apart Device Damaged same = absurd (apart (codes "device") (codes "damaged") refl refl same)
failures_apart Memory Device same = absurd (apart (codes "memory") (codes "device") refl refl same)
failures_apart Memory Memory same = refl
failures_apart Memory Damaged same = absurd (apart (codes "memory") (codes "damaged") refl refl same)
failures_apart Damaged Device same = absurd (apart (codes "damaged") (codes "device") refl refl same)
failures_apart Damaged Memory same = absurd (apart (codes "damaged") (codes "memory") refl refl same)
failures_apart Damaged Damaged same = refl

failed_words : (a b : List ℕ) → failed a ≡ failed b → a ≡ b
failed_words a b same = cc

pub replies_apart : RepliesApart
replies_apart (Done a) (Done b) same = cc
replies_apart (Done a) (Refused b) same = absurd (cc)
replies_apart (Done a) (Failed b) same = absurd (cc)
replies_apart (Refused a) (Done b) same = absurd (cc)
replies_apart (Refused a) (Refused b) same = cc
replies_apart (Refused a) (Failed b) same = absurd (cc)
replies_apart (Failed a) (Done b) same = absurd (cc)
replies_apart (Failed a) (Refused b) same = absurd (cc)
replies_apart (Failed a) (Failed b) same = ap Failed (failures_apart a b (failed_words (failure_word a) (failure_word b) same))
