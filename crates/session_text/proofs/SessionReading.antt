-- What a line asks for is what its words ask for.
use Rattle.std.proofs.Common.{◌≡◌, ℕ, List, [], ◌∷◌, refl, sym, ap, ◌∙◌}
use Rattle.std.specs.Prelude.{Option, Some, None, Result, Ok, Err, IfOk}
use Rattle.value_core.specs.Spaces.{drop_spaces}
use Rattle.word_core.specs.Words.{Word, AreWords}
use Rattle.word_core.specs.Data.{at_end}
use Rattle.word_core.specs.Reads.{Reads}
use Rattle.word_core.proofs.Reading.{blank_words}
use Rattle.session_text.specs.declared.request.SessionRequest.{SessionRequest}
use Rattle.session_text.specs.declared.request.SessionRequest.TheVariants as request
use Rattle.session_text.specs.Requests as lines
use Rattle.session_text.specs.View.{request_view, IsReadOf}

-- what was read of the words of a line is what it asks for
read_found : (line : List ℕ) (found : Option SessionRequest) → Reads lines.request_of request_view line found → IsReadOf line found
read_found line None reads = λ q asks. let e : Some q ≡ None = sym asks.2 ∙ sym (reads.0 asks.0 asks.1) in cc
read_found line (Some request) reads = let has = reads.1 in (has.0, has.1, sym (reads.0 has.0 has.1))

pub read_of : {E : Type 0} (line : List ℕ) (found : Result (Option SessionRequest) E) → IfOk found (Reads lines.request_of request_view line) → IfOk found (IsReadOf line)
read_of line (Ok found) reads = read_found line found reads
read_of line (Err e) reads = tt

-- nothing stands behind `quit`, or something does
pub quit_read : (line : List ℕ) → drop_spaces line ≡ [] → Reads (λ words. at_end words lines.quits) request_view line (Some request.Quit)
quit_read line none = ((λ words are. ap (λ ws. at_end ws lines.quits) (sym (blank_words line words none are))), ([], none))

some_words : (line : List ℕ) (words : List Word) → (drop_spaces line ≡ [] → ⊥) → AreWords line words → None ≡ at_end words lines.quits
some_words line [] some are = absurd (some are)
some_words line (w ∷ more) some are = refl

pub no_quit : (line : List ℕ) → (drop_spaces line ≡ [] → ⊥) → Reads (λ words. at_end words lines.quits) request_view line None
no_quit line some = ((λ words are. some_words line words some are), tt)
