-- Words ask for what they are the words of.
use Rattle.std.proofs.Common.{◌≡◌, ℕ, true, false, ◌==◌, List, [], ◌∷◌, Option, None, refl, ap, sym, ◌∙◌, subst, inl, inr, if◌then◌else◌, arith}
use Rattle.std.proofs.lemmas.Bool.Decides.{Decides-eqb, eqb_tells}
use Rattle.value_core.specs.declared.datum.Datum.{Datum}
use Rattle.path_tree.specs.Identifier.{IsIdentifier, IsLetter}
use Rattle.session_text.specs.Reserved.{is_reserved}
use Rattle.std.specs.Prelude.{Some, codes}
use Rattle.std.specs.Str.{bytes_eq}
use Rattle.std.proofs.lemmas.Slice.Eq.{bytes_eq-Decides}
use Rattle.word_core.specs.Words.{Word, bare, quoted}
use Rattle.word_core.specs.Data.{◌>>=◌, integer_of, data_of, bare_of, only_bare, only_integer, at_end}
use Rattle.word_core.proofs.Choices.{none_some, some_same, choose, found_by}
use Rattle.session_text.specs.Requests.{Request, opens, calls, cancels, quits, name_of, free_name_of, client_behind, as_behind, open_behind, open_named, call_behind, keyed_behind, digits_behind, call_by, open_request, call_request, cancel_request, request_by, request_of}
use Rattle.session_text.specs.Laws.{Ask, RequestExact, Spells}
use Rattle.session_text.proofs.Names.{name_found, name_spelled}

same : (v w : List ℕ) → bytes_eq v w ≡ true → v ≡ w
same v w is = (bytes_eq-Decides v w).0 is

bare_found : (words : List Word) (first : List ℕ × List Word) → bare_of words ≡ Some first → words ≡ bare first.0 ∷ first.1
bare_found [] first is = absurd (none_some first is)
bare_found (quoted text ∷ more) first is = absurd (none_some first is)
bare_found (bare b ∷ more) first is = ap (λ (x : List ℕ × List Word). bare x.0 ∷ x.1) (some_same (b, more) first is)

only_found : (words : List Word) (w : List ℕ) → only_bare words ≡ Some w → words ≡ bare w ∷ []
only_found [] w is = absurd (none_some w is)
only_found (quoted text ∷ more) w is = absurd (none_some w is)
only_found (bare b ∷ []) w is = ap (λ x. bare x ∷ []) (some_same b w is)
only_found (bare b ∷ other ∷ more) w is = absurd (none_some w is)

-- the words behind a verb
behind : (verb v : List ℕ) (words more : List Word) → v ≡ verb → words ≡ more → (bare v ∷ words) ≡ bare verb ∷ more
behind verb v words more is are = ap (λ w. bare w ∷ words) is ∙ ap (λ ws. bare verb ∷ ws) are

free_found : (bytes name : List ℕ) → free_name_of bytes ≡ Some name → Spells bytes name × (is_reserved bytes ≡ false)
free_found bytes name is = elim (choose (is_reserved bytes) None (name_of bytes) name is) [
  | inl none ↦ absurd (none_some name none.1)
  | inr found ↦ (name_found bytes name found.1, found.0)
]

client_asks : (bytes name : List ℕ) (words : List Word) (q : Request) → Spells bytes name → client_behind name words ≡ Some q → Ask q (bare (codes "open") ∷ bare bytes ∷ bare (codes "as") ∷ words)
client_asks bytes name words q spells is =
    let own = found_by (only_bare words) (λ word. free_name_of word >>= λ client. Some (opens name (Some client))) q is in
    let client = found_by (free_name_of own.0) (λ c. Some (opens name (Some c))) q own.2 in
    let free = free_found own.0 client.0 client.1 in
    subst (λ x. Ask x (bare (codes "open") ∷ bare bytes ∷ bare (codes "as") ∷ words)) (some_same (opens name (Some client.0)) q client.2)
    (bytes, own.0, ap (λ ws. bare (codes "open") ∷ bare bytes ∷ bare (codes "as") ∷ ws) (only_found words own.0 own.1), spells, free.0, free.1)

named_asks : (bytes name : List ℕ) (words : List Word) (q : Request) → Spells bytes name → open_behind name words ≡ Some q → Ask q (bare (codes "open") ∷ bare bytes ∷ words)
named_asks bytes name [] q spells is = subst (λ x. Ask x (bare (codes "open") ∷ bare bytes ∷ [])) (some_same (opens name None) q is) (bytes, refl, spells)
named_asks bytes name (word ∷ more) q spells is =
    let first = found_by (bare_of (word ∷ more)) (λ (x : List ℕ × List Word). as_behind name x.0 x.1) q is in
    elim (choose (bytes_eq first.0.0 (codes "as")) (client_behind name first.0.1) None q first.2) [
      | inl found ↦ subst (λ ws. Ask q (bare (codes "open") ∷ bare bytes ∷ ws)) (sym (bare_found (word ∷ more) first.0 first.1 ∙ ap (λ w. bare w ∷ first.0.1) (same first.0.0 (codes "as") found.0)))
          (client_asks bytes name first.0.1 q spells found.1)
      | inr none ↦ absurd (none_some q none.1)
    ]

open_asks : (v : List ℕ) (words : List Word) (q : Request) → v ≡ codes "open" → open_request words ≡ Some q → Ask q (bare v ∷ words)
open_asks v words q verb is =
    let first = found_by (bare_of words) (λ (x : List ℕ × List Word). open_named x.0 x.1) q is in
    let name = found_by (name_of first.0.0) (λ n. open_behind n first.0.1) q first.2 in
    subst (Ask q) (sym (behind (codes "open") v words (bare first.0.0 ∷ first.0.1) verb (bare_found words first.0 first.1)))
    (named_asks first.0.0 name.0 first.0.1 q (name_found first.0.0 name.0 name.1) name.2)

-- what a call asks for
behind_asks : (key : Option ℕ) (op : List ℕ) (words : List Word) (q : Request) → call_behind key op words ≡ Some q → (name : List ℕ) × (arguments : List Datum) × (calls key name arguments ≡ q) × Spells op name × (data_of words ≡ Some arguments)
behind_asks key op words q is =
    let name = found_by (name_of op) (λ n. data_of words >>= λ arguments. Some (calls key n arguments)) q is in
    let arguments = found_by (data_of words) (λ a. Some (calls key name.0 a)) q name.2 in
    (name.0, arguments.0, some_same (calls key name.0 arguments.0) q arguments.2, name_found op name.0 name.1, arguments.1)

keyed_asks : (digits : List ℕ) (words : List Word) (q : Request) → digits_behind digits words ≡ Some q → Ask q (bare (codes "call") ∷ bare (35 ∷ digits) ∷ words)
keyed_asks digits words q is =
    let key = found_by (integer_of digits) (λ k. keyed_behind k words) q is in
    let first = found_by (bare_of words) (λ (x : List ℕ × List Word). call_behind (Some key.0) x.0 x.1) q key.2 in
    let call = behind_asks (Some key.0) first.0.0 first.0.1 q first.2 in
    subst (λ x. Ask x (bare (codes "call") ∷ bare (35 ∷ digits) ∷ words)) call.2
    (digits, first.0.0, first.0.1, ap (λ ws. bare (codes "call") ∷ bare (35 ∷ digits) ∷ ws) (bare_found words first.0 first.1), key.1, call.3, call.4)

by_asks : (word : List ℕ) (words : List Word) (q : Request) → call_by word words ≡ Some q → Ask q (bare (codes "call") ∷ bare word ∷ words)
by_asks [] words q is = absurd (none_some q is)
by_asks (b ∷ bytes) words q is = elim (choose (b == 35) (digits_behind bytes words) (call_behind None (b ∷ bytes) words) q is) [
  | inl found ↦ subst (λ x. Ask q (bare (codes "call") ∷ bare (x ∷ bytes) ∷ words)) (sym ((Decides-eqb b 35).0 found.0)) (keyed_asks bytes words q found.1)
  | inr plain ↦ let call = behind_asks None (b ∷ bytes) words q plain.1 in
      subst (λ x. Ask x (bare (codes "call") ∷ bare (b ∷ bytes) ∷ words)) call.2 (b ∷ bytes, words, refl, call.3, call.4)
]

call_asks : (v : List ℕ) (words : List Word) (q : Request) → v ≡ codes "call" → call_request words ≡ Some q → Ask q (bare v ∷ words)
call_asks v words q verb is =
    let first = found_by (bare_of words) (λ (x : List ℕ × List Word). call_by x.0 x.1) q is in
    subst (Ask q) (sym (behind (codes "call") v words (bare first.0.0 ∷ first.0.1) verb (bare_found words first.0 first.1))) (by_asks first.0.0 first.0.1 q first.2)

cancel_asks : (v : List ℕ) (words : List Word) (q : Request) → v ≡ codes "cancel" → cancel_request words ≡ Some q → Ask q (bare v ∷ words)
cancel_asks v words q verb is =
    let number = found_by (only_integer words) (λ n. Some (cancels n)) q is in
    let word = found_by (only_bare words) integer_of number.0 number.1 in
    subst (λ x. Ask x (bare v ∷ words)) (some_same (cancels number.0) q number.2)
    (word.0, behind (codes "cancel") v words (bare word.0 ∷ []) verb (only_found words word.0 word.1), word.2)

end_found : (words : List Word) (x q : Request) → at_end words x ≡ Some q → (words ≡ []) × (x ≡ q)
end_found [] x q is = (refl, some_same x q is)
end_found (word ∷ more) x q is = absurd (none_some q is)

quit_asks : (v : List ℕ) (words : List Word) (q : Request) → v ≡ codes "quit" → at_end words quits ≡ Some q → Ask q (bare v ∷ words)
quit_asks v words q verb is =
    let end = end_found words quits q is in
    subst (λ x. Ask x (bare v ∷ words)) end.1 (behind (codes "quit") v words [] verb end.0)

verb_asks : (v : List ℕ) (words : List Word) (q : Request) → request_by v words ≡ Some q → Ask q (bare v ∷ words)
verb_asks v words q is = elim (choose (bytes_eq v (codes "open")) _ _ q is) [
  | inl found ↦ open_asks v words q (same v (codes "open") found.0) found.1
  | inr later ↦ elim (choose (bytes_eq v (codes "call")) _ _ q later.1) [
    | inl found ↦ call_asks v words q (same v (codes "call") found.0) found.1
    | inr later ↦ elim (choose (bytes_eq v (codes "cancel")) _ _ q later.1) [
      | inl found ↦ cancel_asks v words q (same v (codes "cancel") found.0) found.1
      | inr later ↦ elim (choose (bytes_eq v (codes "quit")) _ _ q later.1) [
        | inl found ↦ quit_asks v words q (same v (codes "quit") found.0) found.1
        | inr none ↦ absurd (none_some q none.1)
      ]
    ]
  ]
]

asks : (words : List Word) (q : Request) → request_of words ≡ Some q → Ask q words
asks [] q is = absurd (none_some q is)
asks (quoted text ∷ more) q is = absurd (none_some q is)
asks (bare v ∷ more) q is = verb_asks v more q is

letter_no_hash : (b : ℕ) → IsLetter b → (b == 35) ≡ false
letter_no_hash b is = elim (eqb_tells b 35) [ inl x ↦ absurd (no_letter b is x.1) | inr x ↦ x.0 ]
  where
    no_letter : (b : ℕ) → IsLetter b → b ≡ 35 → ⊥
    no_letter b (inl low) e = omega (arith, low, e)
    no_letter b (inr high) e = omega (arith, high, e)

-- an identifier begins with no `#`
call_plain : (bytes : List ℕ) (words : List Word) → IsIdentifier bytes → call_by bytes words ≡ call_behind None bytes words
call_plain [] words is = absurd is
call_plain (b ∷ bytes) words is = ap (λ x. if x then digits_behind bytes words else call_behind None (b ∷ bytes) words) (letter_no_hash b is.0)

asked : (words : List Word) (q : Request) → Ask q words → request_of words ≡ Some q
asked words (opens name None) is = rw is.1 (rw (name_spelled is.0 name is.2) refl)
asked words (opens name (Some client)) is = rw is.2 (rw (name_spelled is.0 name is.3) (rw is.5 (rw (name_spelled is.1 client is.4) refl)))
asked words (calls None name arguments) is = rw is.2 (call_plain is.0 is.1 is.3.0 ∙ rw (name_spelled is.0 name is.3) (rw is.4 refl))
asked words (calls (Some key) name arguments) is = rw is.3 (rw is.4 (rw (name_spelled is.1 name is.5) (rw is.6 refl)))
asked words (cancels number) is = rw is.1 (rw is.2 refl)
asked words quits is = rw is refl

pub request_exact : RequestExact
request_exact words q = (asks words q, asked words q)
