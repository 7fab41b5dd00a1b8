-- What is read of a reply.
use Rattle.std.proofs.Common.{◌≡◌, ℕ, List, [], ◌∷◌, sym, ap, ◌∙◌}
use Rattle.std.specs.Prelude.{Some, option_map}
use Rattle.value_core.specs.declared.datum.Datum.TheVariants.{Integer}
use Rattle.value_core.specs.Spaces.{drop_spaces}
use Rattle.word_core.specs.Words.{bare}
use Rattle.word_core.specs.Data.{◌>>=◌, integer_of}
use Rattle.word_core.specs.Ending.{done}
use Rattle.word_core.specs.Reads.{Reads}
use Rattle.word_core.proofs.Reading.{blank_words}
use Rattle.audit_core.specs.Said.{reply_by}
use Rattle.audit_core.specs.declared.told.ToldReply.TheVariants as told
use Rattle.audit_core.specs.View.{told_view}
use Rattle.audit_core.specs.Reads.{done_reply}

-- a call that was done, with nothing or one integer
pub nothing_told : (line : List ℕ) → drop_spaces line ≡ [] → Reads done_reply told_view line (Some told.Nothing)
nothing_told line none = ((λ words are. ap done_reply (sym (blank_words line words none are))), ([], none))

pub integer_told : (word line : List ℕ) (n : ℕ) → drop_spaces line ≡ [] → integer_of word ≡ Some n → Reads (λ words. done_reply (bare word ∷ words)) told_view line (Some (told.Integer n))
integer_told word line n none is = (
  (λ words are.
      ap (λ o. (option_map Integer o >>= λ datum. Some (done (Some datum))) >>= reply_by) (sym is)
      ∙ ap (λ ws. done_reply (bare word ∷ ws)) (sym (blank_words line words none are))),
  ([], none),
)
