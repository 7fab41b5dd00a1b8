-- What lines say that were written.
use Rattle.std.proofs.Common.{◌≡◌, ℕ, ◌<◌, ◌≤◌, true, false, List, [], ◌∷◌, length, refl, ap, ◌∙◌, arith, map}
use Rattle.std.specs.Prelude.{◌^◌, ◌==◌, All, Some, None, codes, decimal, nat_lt, nat_le, ◌&&◌, Bool}
use Rattle.std.specs.List.{list_all}
use Rattle.std.proofs.lemmas.Bool.{and_parts}
use Rattle.std.proofs.lemmas.Bool.Decides.{nat_tests}
use Rattle.std.proofs.lemmas.List.Sums.{AllPass-from_list_all}
use Rattle.std.proofs.lemmas.List.Elements.{All-cons, All-nil, All-head, All-tail}
use Rattle.path_tree.specs.Identifier.{IsName}
use Rattle.value_core.specs.declared.datum.Datum.{Datum}
use Rattle.value_core.specs.declared.kind.Kind.{Kind}
use Rattle.value_core.specs.Contents.{IsContents}
use Rattle.decl_core.specs.ObjectForm.{ObjectForm, OperationForm}
use Rattle.decl_core.specs.RefusalWord.{IsRefusalWord, IsLower}
use Rattle.apply_core.specs.declared.reply.Failure.TheVariants.{Device, Memory, Damaged}
use Rattle.apply_core.specs.declared.reply.Reply.{Reply}
use Rattle.apply_core.specs.declared.reply.Reply.TheVariants.{Done, Refused, Failed}
use Rattle.word_core.specs.Words.{Word, bare, words_text}
use Rattle.word_core.specs.Data.{◌>>=◌, integer_of, session_of, session_bytes, session_word, data_of, datum_word}
use Rattle.word_core.specs.Ending.{Ending, IsEnding, ending_of}
use Rattle.word_core.proofs.Written.{written_words, written_integer, written_session, written_ending}
use Rattle.word_core.proofs.Clear.{written_data}
use Rattle.word_core.specs.Events.{Called}
use Rattle.word_core.specs.TraceLaws.{HasNames, IsCallOf, IsReply, IsTold}
use Rattle.word_core.specs.Text.{call_started, call_ended, start_words, end_words, operation_name, reply_ending, reply_words}
use Rattle.word_core.proofs.Plain.{IsSafeByte, IsSafe, EachSafe, each_word, words_plain}
use Rattle.word_core.proofs.Safe.{trace_safe}
use Rattle.audit_core.specs.Said as audit
use Rattle.audit_core.specs.EpochSaid.{Said, Says, asks, a_start, an_end, a_cancel, a_name, said_of, asked_in, asked_of, end_in}
use Rattle.recover_core.specs.Lines.{IsLine}
use Rattle.live_core.specs.HostedLines.{cancel_words, name_words}

-- words without control bytes

-- bytes that are known pass a test that computes
abbrev is_safe : ℕ → Bool
is_safe b = nat_lt 39 b && nat_lt b 127

safe_byte : (b : ℕ) → is_safe b ≡ true → IsSafeByte b
safe_byte b passes = let parts = and_parts (nat_lt 39 b) (nat_lt b 127) passes in let low = parts.0 in let high = parts.1 in (grind (arith, nat_tests), grind (arith, nat_tests))

known : (bytes : List ℕ) → list_all is_safe bytes ≡ true → nat_lt 0 (length bytes) ≡ true → IsSafe bytes
known bytes pass some = record { some = grind (arith, nat_tests); each = λ k d inside. safe_byte _ (AllPass-from_list_all is_safe bytes pass k d inside) }

-- an object of these operations, and without parts
abbrev without_parts : ObjectForm → ObjectForm
without_parts o = record o { parts = [] }

names_without : (o : ObjectForm) → HasNames o → HasNames (without_parts o)
names_without o names = record { own = names.own; parts = All-nil (λ (p : List ℕ × Kind). IsName p.0); operations = names.operations }

start_safe : (o : ObjectForm) (c : Called) → HasNames o → IsCallOf o c → EachSafe (start_words o c)
start_safe o c names is =
    let p = without_parts o in
    let call : IsTold p (call_started c) = record { number = is.number; session = is.session; operation = is.operation; arguments = is.arguments } in
    (trace_safe p [] (call_started c ∷ []) (names_without o names) (All-nil IsContents) (All-cons (IsTold p) (call_started c) [] call (All-nil (IsTold p)))).1.0

end_safe : (o : ObjectForm) (number : ℕ) (reply : Reply) → HasNames o → number < 2 ^ 32 → IsReply reply → EachSafe (end_words number reply)
end_safe o number reply names few is =
    let p = without_parts o in
    (trace_safe p [] (call_ended number reply ∷ []) (names_without o names) (All-nil IsContents) (All-cons (IsTold p) (call_ended number reply) [] (few, is) (All-nil (IsTold p)))).1.0

name_safe : (name : List ℕ) → IsName name → IsSafe name
name_safe name is =
    let p : ObjectForm = record { name = name; parts = []; paths = []; operations = [] } in
    (trace_safe p [] [] (record { own = is; parts = All-nil (λ (q : List ℕ × Kind). IsName q.0); operations = All-nil (λ (f : OperationForm). IsName f.name) }) (All-nil IsContents) (All-nil (IsTold p))).0.1.0

number_safe : (o : ObjectForm) (number : ℕ) → HasNames o → number < 2 ^ 32 → IsSafe (decimal number)
number_safe o number names few = (end_safe o number (Done None) names few tt).1.0

behind_letter : (b : ℕ) (bytes : List ℕ) → IsSafeByte b → IsSafe bytes → IsSafe (b ∷ bytes)
behind_letter b bytes is safe = record { some = omega arith; each = All-cons IsSafeByte b bytes is safe.each }

session_safe : (o : ObjectForm) (session : ℕ) → HasNames o → session < 2 ^ 32 → IsSafe (session_bytes session)
session_safe o session names few = behind_letter 115 (decimal session) (omega arith, omega arith) (number_safe o session names few)

cancel_safe : (o : ObjectForm) (c : Called) → HasNames o → IsCallOf o c → EachSafe (cancel_words o c)
cancel_safe o c names is = (known (codes "cancel") refl refl, (start_safe o c names is).1)

named_safe : (o : ObjectForm) (session : ℕ) (name : List ℕ) → HasNames o → session < 2 ^ 32 → IsName name → EachSafe (name_words session name)
named_safe o session name names few is = (known (codes "name") refl refl, (session_safe o session names few, (name_safe name is, tt)))

-- a line of such words has no end of a line in it
line_is : (words : List Word) → EachSafe words → IsLine (words_text words)
line_is words each = λ k d inside. let h = words_plain words each k d inside in above _ h.0
  where
    above : (b : ℕ) → 32 ≤ b → (b == 10) ≡ false
    above b h = grind (arith, nat_tests)

-- a line that was written says this, and is one line
pub record Written (words : List Word) (said : Said) : Type 0 where
  pub line : IsLine (words_text words)
  pub says : Says (words_text words) said

written_so : (words : List Word) (said : Said) → EachSafe words → said_of words ≡ Some said → Written words said
written_so words said safe is = record { line = line_is words safe; says = (words, written_words words (each_word words safe), is) }

start_by : (n s name : List ℕ) (more : List Word) (number session : ℕ) (arguments : List Datum) → integer_of n ≡ Some number → session_of s ≡ Some session → data_of more ≡ Some arguments
    → audit.start_said (bare n ∷ bare s ∷ bare name ∷ more) ≡ Some (audit.a_start number session name arguments)
start_by n s name more number session arguments one two three =
    ap (λ x. x >>= λ number. session_of s >>= λ session. data_of more >>= λ arguments. Some (audit.a_start number session name arguments)) one
    ∙ ap (λ x. x >>= λ session. data_of more >>= λ arguments. Some (audit.a_start number session name arguments)) two
    ∙ ap (λ x. x >>= λ arguments. Some (audit.a_start number session name arguments)) three

asked_is : (o : ObjectForm) (c : Called) → IsCallOf o c → asked_of (bare (decimal c.number) ∷ session_word c.session ∷ bare (operation_name o c.operation) ∷ map datum_word c.arguments)
    ≡ Some (asks c.number c.session (operation_name o c.operation) c.arguments)
asked_is o c is = ap (λ x. x >>= asked_in)
    (start_by (decimal c.number) (session_bytes c.session) (operation_name o c.operation) (map datum_word c.arguments) c.number c.session c.arguments
    (written_integer c.number is.number).1 (written_session c.session is.session).1 (written_data c.arguments is.arguments).2)

pub start_written : (o : ObjectForm) (c : Called) → HasNames o → IsCallOf o c → Written (start_words o c) (a_start (asks c.number c.session (operation_name o c.operation) c.arguments))
start_written o c names is = written_so (start_words o c) (a_start (asks c.number c.session (operation_name o c.operation) c.arguments)) (start_safe o c names is)
    (ap (λ x. x >>= λ asked. Some (a_start asked)) (asked_is o c is))

pub cancel_written : (o : ObjectForm) (c : Called) → HasNames o → IsCallOf o c → Written (cancel_words o c) (a_cancel (asks c.number c.session (operation_name o c.operation) c.arguments))
cancel_written o c names is = written_so (cancel_words o c) (a_cancel (asks c.number c.session (operation_name o c.operation) c.arguments)) (cancel_safe o c names is)
    (ap (λ x. x >>= λ asked. Some (a_cancel asked)) (asked_is o c is))

pub name_written : (o : ObjectForm) (session : ℕ) (name : List ℕ) → HasNames o → session < 2 ^ 32 → IsName name → Written (name_words session name) (a_name session name)
name_written o session name names few is = written_so (name_words session name) (a_name session name) (named_safe o session name names few is)
    (ap (λ x. x >>= λ session. Some (a_name session name)) (written_session session few).1)

-- ends

end_of_asker : (n : List ℕ) (more : List Word) (number : ℕ) (ending : Ending) (reply : Reply) → integer_of n ≡ Some number → ending_of more ≡ Some ending → audit.reply_by ending ≡ Some reply
    → audit.end_said (bare n ∷ more) ≡ Some (audit.an_end number reply)
end_of_asker n more number ending reply one two three =
    ap (λ x. x >>= λ number. (ending_of more >>= audit.reply_by) >>= λ reply. Some (audit.an_end number reply)) one
    ∙ ap (λ x. (x >>= audit.reply_by) >>= λ reply. Some (audit.an_end number reply)) two
    ∙ ap (λ x. x >>= λ reply. Some (audit.an_end number reply)) three

lower_tests : (word : List ℕ) → All IsLower word → list_all audit.is_lower word ≡ true
lower_tests [] is = refl
lower_tests (b ∷ word) is =
    let h = All-head IsLower b word is in
    let low : nat_le 97 b ≡ true = grind (arith, nat_tests, h.0) in
    let high : nat_le b 122 ≡ true = grind (arith, nat_tests, h.1) in
    rw (low, high) (lower_tests word (All-tail IsLower b word is))

refusal_read : (word : List ℕ) → IsRefusalWord word → audit.refused_by word ≡ Some (Refused word)
refusal_read word is =
    let some : nat_lt 0 (length word) ≡ true = grind (arith, nat_tests, is.some) in
    let few : nat_le (length word) 16 ≡ true = grind (arith, nat_tests, is.few) in
    let lower : list_all audit.is_lower word ≡ true = lower_tests word is.lower in
    rw (some, few, lower) refl

reply_read : (reply : Reply) → IsReply reply → audit.reply_by (reply_ending reply) ≡ Some reply
reply_read (Done None) is = refl
reply_read (Done (Some datum)) is = refl
reply_read (Refused word) is = refusal_read word is
reply_read (Failed Device) is = refl
reply_read (Failed Memory) is = refl
reply_read (Failed Damaged) is = refl

-- how a call ended that replied so can be written
is_ending : (reply : Reply) → IsReply reply → EachSafe (reply_words reply) → IsEnding (reply_ending reply)
is_ending (Done None) is safe = tt
is_ending (Done (Some datum)) is safe = is
is_ending (Refused word) is safe = (each_word (reply_words (Refused word)) safe).1.0
is_ending (Failed failure) is safe = (each_word (reply_words (Failed failure)) safe).1.0

pub end_written : (o : ObjectForm) (number : ℕ) (reply : Reply) → HasNames o → number < 2 ^ 32 → IsReply reply → Written (end_words number reply) (an_end number reply)
end_written o number reply names few is =
    let safe = end_safe o number reply names few is in
    let ends : ending_of (reply_words reply) ≡ Some (reply_ending reply) = (written_ending (reply_ending reply) (is_ending reply is safe.1.1)).1 in
    written_so (end_words number reply) (an_end number reply) safe
    (ap (λ x. x >>= end_in) (end_of_asker (decimal number) (reply_words reply) number (reply_ending reply) reply (written_integer number few).1 ends (reply_read reply is)))
