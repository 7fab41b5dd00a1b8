-- A call that waits or runs has not finished.
use Rattle.std.proofs.Common.{◌≡◌, ◌≢◌, ℕ, ◌<◌, inl, inr, true, false, ◌||◌, ◌==◌, List, [], ◌∷◌, Some, refl, sym, ◌∙◌, ap, subst, arith}
use Rattle.std.specs.Prelude.{unwrap_or}
use Rattle.std.specs.List.{list_any}
use Rattle.std.proofs.lemmas.Bool.Decides.{eqb_tells}
use Rattle.page_core.specs.Lists.{Every, Among}
use Rattle.page_core.specs.ObjectCalls.{AcceptedCall, WaitingCall, RunningCall, Noted}
use Rattle.board_core.specs.Board.{Board, call_at}
use Rattle.board_core.specs.Sound.{IsNoted, IsRunningIn, IsSound, IsWaitingIn}
use Rattle.board_core.specs.Answers.{waits_in, runs_in}

pub every_among : {X : Type 0} (P : X → Type 0) (xs : List X) (x : X) → Every P xs → Among x xs → P x
every_among P [] x all here = absurd here
every_among P (y ∷ ys) x all (inl same) = subst P same all.0
every_among P (y ∷ ys) x all (inr later) = every_among P ys x all.1 later

-- one of this number is there
pub number_found : {X : Type 0} (number : X → ℕ) (n : ℕ) (xs : List X) → list_any (λ x. number x == n) xs ≡ true → (x : X) × Among x xs × (number x ≡ n)
number_found number n [] is = absurd cc
number_found number n (x ∷ xs) is = elim (eqb_tells (number x) n) [
  | inl same ↦ (x, inl refl, same.1)
  | inr other ↦ (let later = number_found number n xs (sym (ap (λ b. b || list_any (λ y. number y == n) xs) other.0) ∙ is) in (later.0, inr later.1, later.2))
]

-- none of this number is there
pub none_unended : (entries : List Noted) (n : ℕ) → list_any (λ (e : Noted). e.number == n) entries ≡ false → Every (λ (e : Noted). e.number ≢ n) entries
none_unended [] n is = tt
none_unended (e ∷ entries) n is = elim (eqb_tells e.number n) [
  | inl same ↦ absurd (let both = sym (ap (λ b. b || list_any (λ (d : Noted). d.number == n) entries) same.0) ∙ is in cc)
  | inr other ↦ (other.1, none_unended entries n (sym (ap (λ b. b || list_any (λ (d : Noted). d.number == n) entries) other.0) ∙ is))
]

-- the entries of a call's session are earlier than it, so none is its own
none_own : (calls : List AcceptedCall) (n : ℕ) (call : AcceptedCall) (entries : List Noted) → call_at calls n ≡ Some call → Every (IsNoted calls) entries
    → Every (λ (e : Noted). e.session ≡ call.session → e.number < n) entries → Every (λ (e : Noted). e.number ≢ n) entries
none_own calls n call [] there noted earlier = tt
none_own calls n call (e ∷ entries) there noted earlier = (differs, none_own calls n call entries there noted.1 earlier.1)
  where
    differs : e.number ≡ n → ⊥
    differs same =
        let is : Some noted.0.call ≡ Some call = sym noted.0.there ∙ ap (call_at calls) same ∙ there in
        let less : e.number < n = earlier.0 (noted.0.session ∙ ap (λ o. (unwrap_or o call).session) is) in
        omega (arith, less, same)

pub waits_unended : (b : Board) (n : ℕ) → IsSound b → waits_in b n ≡ true → Every (λ (e : Noted). e.number ≢ n) b.history
waits_unended b n sound is =
    let found = number_found (λ (w : WaitingCall). w.number) n b.waiting is in
    let w : WaitingCall = found.0 in
    let there : call_at b.calls n ≡ Some w.call = subst (λ m. call_at b.calls m ≡ Some w.call) found.2 (every_among (IsWaitingIn b) b.waiting w sound.counted.waits found.1).call in
    none_own b.calls n w.call b.history there sound.told.noted (sound.told.later n w.call.session (inl (w, found.1, found.2, refl)))

pub runs_unended : (b : Board) (n : ℕ) → IsSound b → runs_in b n ≡ true → Every (λ (e : Noted). e.number ≢ n) b.history
runs_unended b n sound is =
    let found = number_found (λ (r : RunningCall). r.number) n b.running is in
    let r : RunningCall = found.0 in
    let there : call_at b.calls n ≡ Some r.call = subst (λ m. call_at b.calls m ≡ Some r.call) found.2 (every_among (IsRunningIn b) b.running r sound.counted.runs found.1).call in
    none_own b.calls n r.call b.history there sound.told.noted (sound.told.later n r.call.session (inr (r, found.1, found.2, refl)))
