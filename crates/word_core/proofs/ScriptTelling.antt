-- Words say what they tell.
use Rattle.std.proofs.Common.{◌≡◌, ℕ, Bool, true, false, ◌==◌, List, [], ◌∷◌, refl, sym, ap, ◌∙◌, subst, inl, inr, arith, if◌then◌else◌}
use Rattle.std.specs.Prelude.{Some, codes}
use Rattle.std.specs.Str.{bytes_eq}
use Rattle.std.proofs.lemmas.Slice.Eq.{bytes_eq-Decides}
use Rattle.path_tree.specs.Identifier.{IsIdentifier, IsLetter}
use Rattle.std.proofs.lemmas.Bool.Decides.{Decides-eqb, eqb_tells}
use Rattle.word_core.specs.Words.{Word, bare, quoted}
use Rattle.word_core.specs.Data.{integer_of, session_of, data_of, bare_of, only_bare, only_integer, at_end}
use Rattle.word_core.specs.Said.{Said, a_call, a_keyed_call, a_do, a_step, all_steps, a_finish, a_cancel, a_drop, a_resume, a_show, a_trace, call_said, call_by, named_said, digits_said, keyed_said, done_said, do_said, works_of, step_said, numbered, drop_said, resume_said, said_by, said_of}
use Rattle.word_core.specs.ScriptLaws.{AreNumbered, works_word, Tell, SaidExact}
use Rattle.word_core.specs.Identifier.{identifier_of}
use Rattle.word_core.proofs.Choices.{none_some, some_same, choose, found_by}
use Rattle.word_core.proofs.Identifiers.{identifier_found, identifier_read}

same : (v w : List ℕ) → bytes_eq v w ≡ true → v ≡ w
same v w is = (bytes_eq-Decides v w).0 is

bare_found : (words : List Word) (first : List ℕ × List Word) → bare_of words ≡ Some first → words ≡ bare first.0 ∷ first.1
bare_found [] first is = absurd (none_some first is)
bare_found (quoted text ∷ more) first is = absurd (none_some first is)
bare_found (bare b ∷ more) first is = ap (λ (x : List ℕ × List Word). bare x.0 ∷ x.1) (some_same (b, more) first is)

only_found : (words : List Word) (w : List ℕ) → only_bare words ≡ Some w → words ≡ bare w ∷ []
only_found [] w is = absurd (none_some w is)
only_found (quoted text ∷ more) w is = absurd (none_some w is)
only_found (bare b ∷ []) w is = ap (λ x. bare x ∷ []) (some_same b w is)
only_found (bare b ∷ other ∷ more) w is = absurd (none_some w is)

works_found : (word : List ℕ) (works : Bool) → works_of word ≡ Some works → word ≡ works_word works
works_found word works is = elim (choose (bytes_eq word (codes "ok")) _ _ works is) [
  | inl found ↦ same word (codes "ok") found.0 ∙ ap works_word (some_same true works found.1)
  | inr other ↦ elim (choose (bytes_eq word (codes "fail")) _ _ works other.1) [
    | inl found ↦ same word (codes "fail") found.0 ∙ ap works_word (some_same false works found.1)
    | inr none ↦ absurd (none_some works none.1)
  ]
]

-- the words behind a verb and a session
call_words : (verb v k : List ℕ) (words more others : List Word) → v ≡ verb → words ≡ bare k ∷ more → more ≡ others → (bare v ∷ words) ≡ bare verb ∷ bare k ∷ others
call_words verb v k words more others is first rest = ap (λ w. bare w ∷ words) is ∙ ap (λ ws. bare verb ∷ ws) (first ∙ ap (λ ws. bare k ∷ ws) rest)

named_tells : (k : List ℕ) (session : ℕ) (word : List ℕ) (words : List Word) (e : Said) → session_of k ≡ Some session → named_said session word words ≡ Some e → Tell e (bare (codes "call") ∷ bare k ∷ bare word ∷ words)
named_tells k session word words e known is =
    let name = found_by (identifier_of word) _ e is in
    let arguments = found_by (data_of words) _ e name.2 in
    let spelled = identifier_found word name.0 name.1 in
    subst (λ x. Tell x (bare (codes "call") ∷ bare k ∷ bare word ∷ words)) (some_same (a_call session name.0 arguments.0) e arguments.2)
    (k, words, ap (λ w. bare (codes "call") ∷ bare k ∷ bare w ∷ words) spelled.0, known, subst IsIdentifier spelled.0 spelled.1, arguments.1)

keyed_tells : (k digits : List ℕ) (session key : ℕ) (word : List ℕ) (words : List Word) (e : Said) → session_of k ≡ Some session → integer_of digits ≡ Some key → keyed_said session key word words ≡ Some e
    → Tell e (bare (codes "call") ∷ bare k ∷ bare (35 ∷ digits) ∷ bare word ∷ words)
keyed_tells k digits session key word words e known read is =
    let name = found_by (identifier_of word) _ e is in
    let arguments = found_by (data_of words) _ e name.2 in
    let spelled = identifier_found word name.0 name.1 in
    subst (λ x. Tell x (bare (codes "call") ∷ bare k ∷ bare (35 ∷ digits) ∷ bare word ∷ words)) (some_same (a_keyed_call session key name.0 arguments.0) e arguments.2)
    (k, digits, words, ap (λ w. bare (codes "call") ∷ bare k ∷ bare (35 ∷ digits) ∷ bare w ∷ words) spelled.0, known, read, subst IsIdentifier spelled.0 spelled.1, arguments.1)

digits_tell : (k : List ℕ) (session : ℕ) (digits : List ℕ) (words : List Word) (e : Said) → session_of k ≡ Some session → digits_said session digits words ≡ Some e → Tell e (bare (codes "call") ∷ bare k ∷ bare (35 ∷ digits) ∷ words)
digits_tell k session digits words e known is =
    let key = found_by (integer_of digits) _ e is in
    let first = found_by (bare_of words) (λ (x : List ℕ × List Word). keyed_said session key.0 x.0 x.1) e key.2 in
    subst (λ ws. Tell e (bare (codes "call") ∷ bare k ∷ bare (35 ∷ digits) ∷ ws)) (sym (bare_found words first.0 first.1)) (keyed_tells k digits session key.0 first.0.0 first.0.1 e known key.1 first.2)

by_tells : (k : List ℕ) (session : ℕ) (word : List ℕ) (words : List Word) (e : Said) → session_of k ≡ Some session → call_by session word words ≡ Some e → Tell e (bare (codes "call") ∷ bare k ∷ bare word ∷ words)
by_tells k session [] words e known is = absurd (none_some e is)
by_tells k session (b ∷ bytes) words e known is = elim (choose (b == 35) (digits_said session bytes words) (named_said session (b ∷ bytes) words) e is) [
  | inl found ↦ subst (λ x. Tell e (bare (codes "call") ∷ bare k ∷ bare (x ∷ bytes) ∷ words)) (sym ((Decides-eqb b 35).0 found.0)) (digits_tell k session bytes words e known found.1)
  | inr plain ↦ named_tells k session (b ∷ bytes) words e known plain.1
]

call_tells : (v : List ℕ) (words : List Word) (e : Said) → v ≡ codes "call" → call_said words ≡ Some e → Tell e (bare v ∷ words)
call_tells v words e verb is =
    let first = found_by (bare_of words) _ e is in
    let session = found_by (session_of first.0.0) _ e first.2 in
    let second = found_by (bare_of first.0.1) (λ (x : List ℕ × List Word). call_by session.0 x.0 x.1) e session.2 in
    subst (Tell e) (sym (call_words (codes "call") v first.0.0 words first.0.1 (bare second.0.0 ∷ second.0.1) verb (bare_found words first.0 first.1) (bare_found first.0.1 second.0 second.1)))
    (by_tells first.0.0 session.0 second.0.0 second.0.1 e session.1 second.2)

done_tells : (k : List ℕ) (session : ℕ) (word : List ℕ) (words : List Word) (e : Said) → session_of k ≡ Some session → done_said session word words ≡ Some e → Tell e (bare (codes "do") ∷ bare k ∷ bare word ∷ words)
done_tells k session word words e known is =
    let name = found_by (identifier_of word) _ e is in
    let arguments = found_by (data_of words) _ e name.2 in
    let spelled = identifier_found word name.0 name.1 in
    subst (λ x. Tell x (bare (codes "do") ∷ bare k ∷ bare word ∷ words)) (some_same (a_do session name.0 arguments.0) e arguments.2)
    (k, words, ap (λ w. bare (codes "do") ∷ bare k ∷ bare w ∷ words) spelled.0, known, subst IsIdentifier spelled.0 spelled.1, arguments.1)

do_tells : (v : List ℕ) (words : List Word) (e : Said) → v ≡ codes "do" → do_said words ≡ Some e → Tell e (bare v ∷ words)
do_tells v words e verb is =
    let first = found_by (bare_of words) _ e is in
    let session = found_by (session_of first.0.0) _ e first.2 in
    let second = found_by (bare_of first.0.1) (λ (x : List ℕ × List Word). done_said session.0 x.0 x.1) e session.2 in
    subst (Tell e) (sym (call_words (codes "do") v first.0.0 words first.0.1 (bare second.0.0 ∷ second.0.1) verb (bare_found words first.0 first.1) (bare_found first.0.1 second.0 second.1)))
    (done_tells first.0.0 session.0 second.0.0 second.0.1 e session.1 second.2)

step_tells : (v : List ℕ) (words : List Word) (e : Said) → v ≡ codes "step" → step_said words ≡ Some e → Tell e (bare v ∷ words)
step_tells v words e verb is =
    let first = found_by (bare_of words) _ e is in
    let number = found_by (integer_of first.0.0) _ e first.2 in
    let word = found_by (only_bare first.0.1) _ e number.2 in
    let works = found_by (works_of word.0) _ e word.2 in
    let behind : words ≡ bare first.0.0 ∷ bare (works_word works.0) ∷ [] =
    bare_found words first.0 first.1 ∙ ap (λ more. bare first.0.0 ∷ more) (only_found first.0.1 word.0 word.1 ∙ ap (λ w. bare w ∷ []) (works_found word.0 works.0 works.1)) in
    subst (λ x. Tell x (bare v ∷ words)) (some_same (a_step number.0 works.0) e works.2)
    (first.0.0, ap (λ w. bare w ∷ words) verb ∙ ap (λ more. bare (codes "step") ∷ more) behind, number.1)

numbered_found : (verb : List ℕ) (said : ℕ → Said) (v : List ℕ) (words : List Word) (e : Said) → v ≡ verb → numbered said words ≡ Some e
    → (number : ℕ) × AreNumbered verb number (bare v ∷ words) × (said number ≡ e)
numbered_found verb said v words e is found =
    let number = found_by (only_integer words) (λ n. Some (said n)) e found in
    let word = found_by (only_bare words) integer_of number.0 number.1 in
    (number.0, (word.0, ap (λ w. bare w ∷ words) is ∙ ap (λ more. bare verb ∷ more) (only_found words word.0 word.1), word.2), some_same (said number.0) e number.2)

drop_tells : (v : List ℕ) (words : List Word) (e : Said) → v ≡ codes "drop" → drop_said words ≡ Some e → Tell e (bare v ∷ words)
drop_tells v words e verb is =
    let word = found_by (only_bare words) _ e is in
    let session = found_by (session_of word.0) _ e word.2 in
    subst (λ x. Tell x (bare v ∷ words)) (some_same (a_drop session.0) e session.2)
    (word.0, ap (λ w. bare w ∷ words) verb ∙ ap (λ more. bare (codes "drop") ∷ more) (only_found words word.0 word.1), session.1)

resume_tells : (v : List ℕ) (words : List Word) (e : Said) → v ≡ codes "resume" → resume_said words ≡ Some e → Tell e (bare v ∷ words)
resume_tells v words e verb is =
    let word = found_by (only_bare words) _ e is in
    let session = found_by (session_of word.0) _ e word.2 in
    subst (λ x. Tell x (bare v ∷ words)) (some_same (a_resume session.0) e session.2)
    (word.0, ap (λ w. bare w ∷ words) verb ∙ ap (λ more. bare (codes "resume") ∷ more) (only_found words word.0 word.1), session.1)

end_found : {A : Type 0} (words : List Word) (x e : A) → at_end words x ≡ Some e → (words ≡ []) × (x ≡ e)
end_found [] x e is = (refl, some_same x e is)
end_found (word ∷ more) x e is = absurd (none_some e is)

alone_tells : (verb : List ℕ) (said : Said) (v : List ℕ) (words : List Word) (e : Said) → v ≡ verb → at_end words said ≡ Some e → ((bare v ∷ words) ≡ bare verb ∷ []) × (said ≡ e)
alone_tells verb said v words e is found =
    let end = end_found words said e found in (ap (λ w. bare w ∷ words) is ∙ ap (λ more. bare verb ∷ more) end.0, end.1)

verb_tells : (v : List ℕ) (words : List Word) (e : Said) → said_by v words ≡ Some e → Tell e (bare v ∷ words)
verb_tells v words e is = elim (choose (bytes_eq v (codes "call")) _ _ e is) [
  | inl found ↦ call_tells v words e (same v (codes "call") found.0) found.1
  | inr later ↦ elim (choose (bytes_eq v (codes "do")) _ _ e later.1) [
    | inl found ↦ do_tells v words e (same v (codes "do") found.0) found.1
    | inr later ↦ elim (choose (bytes_eq v (codes "step")) _ _ e later.1) [
      | inl found ↦ step_tells v words e (same v (codes "step") found.0) found.1
      | inr later ↦ elim (choose (bytes_eq v (codes "steps")) _ _ e later.1) [
        | inl found ↦ let it = numbered_found (codes "steps") all_steps v words e (same v (codes "steps") found.0) found.1 in subst (λ x. Tell x (bare v ∷ words)) it.2 it.1
        | inr later ↦ elim (choose (bytes_eq v (codes "finish")) _ _ e later.1) [
          | inl found ↦ let it = numbered_found (codes "finish") a_finish v words e (same v (codes "finish") found.0) found.1 in subst (λ x. Tell x (bare v ∷ words)) it.2 it.1
          | inr later ↦ elim (choose (bytes_eq v (codes "cancel")) _ _ e later.1) [
            | inl found ↦ let it = numbered_found (codes "cancel") a_cancel v words e (same v (codes "cancel") found.0) found.1 in subst (λ x. Tell x (bare v ∷ words)) it.2 it.1
            | inr later ↦ elim (choose (bytes_eq v (codes "drop")) _ _ e later.1) [
              | inl found ↦ drop_tells v words e (same v (codes "drop") found.0) found.1
              | inr later ↦ elim (choose (bytes_eq v (codes "resume")) _ _ e later.1) [
                | inl found ↦ resume_tells v words e (same v (codes "resume") found.0) found.1
                | inr later ↦ elim (choose (bytes_eq v (codes "show")) _ _ e later.1) [
                  | inl found ↦ let it = alone_tells (codes "show") a_show v words e (same v (codes "show") found.0) found.1 in subst (λ x. Tell x (bare v ∷ words)) it.1 it.0
                  | inr later ↦ elim (choose (bytes_eq v (codes "trace")) _ _ e later.1) [
                    | inl found ↦ let it = alone_tells (codes "trace") a_trace v words e (same v (codes "trace") found.0) found.1 in subst (λ x. Tell x (bare v ∷ words)) it.1 it.0
                    | inr none ↦ absurd (none_some e none.1)
                  ]
                ]
              ]
            ]
          ]
        ]
      ]
    ]
  ]
]

tells : (words : List Word) (e : Said) → said_of words ≡ Some e → Tell e words
tells [] e is = absurd (none_some e is)
tells (quoted text ∷ more) e is = absurd (none_some e is)
tells (bare v ∷ more) e is = verb_tells v more e is

said_step : (n : List ℕ) (number : ℕ) (works : Bool) → integer_of n ≡ Some number → said_of (bare (codes "step") ∷ bare n ∷ bare (works_word works) ∷ []) ≡ Some (a_step number works)
said_step n number true is = rw is refl
said_step n number false is = rw is refl

letter_no_hash : (b : ℕ) → IsLetter b → (b == 35) ≡ false
letter_no_hash b is = elim (eqb_tells b 35) [ inl x ↦ absurd (no_letter b is x.1) | inr x ↦ x.0 ]
  where
    no_letter : (b : ℕ) → IsLetter b → b ≡ 35 → ⊥
    no_letter b (inl low) e = omega (arith, low, e)
    no_letter b (inr high) e = omega (arith, high, e)

-- an identifier begins with no `#`
call_plain : (session : ℕ) (bytes : List ℕ) (words : List Word) → IsIdentifier bytes → call_by session bytes words ≡ named_said session bytes words
call_plain session [] words is = absurd is
call_plain session (b ∷ bytes) words is = ap (λ x. if x then digits_said session bytes words else named_said session (b ∷ bytes) words) (letter_no_hash b is.0)

said : (words : List Word) (e : Said) → Tell e words → said_of words ≡ Some e
said words (a_call session name arguments) is = rw is.2 (rw is.3 (call_plain session name is.1 is.4 ∙ rw (identifier_read name is.4) (rw is.5 refl)))
said words (a_keyed_call session key name arguments) is = rw is.3 (rw is.4 (rw is.5 (rw (identifier_read name is.6) (rw is.7 refl))))
said words (a_do session name arguments) is = rw is.2 (rw is.3 (rw (identifier_read name is.4) (rw is.5 refl)))
said words (a_step number works) is = rw is.1 (said_step is.0 number works is.2)
said words (all_steps number) is = rw is.1 (rw is.2 refl)
said words (a_finish number) is = rw is.1 (rw is.2 refl)
said words (a_cancel number) is = rw is.1 (rw is.2 refl)
said words (a_drop session) is = rw is.1 (rw is.2 refl)
said words (a_resume session) is = rw is.1 (rw is.2 refl)
said words a_show is = rw is refl
said words a_trace is = rw is refl

pub said_exact : SaidExact
said_exact words e = (tells words e, said words e)
