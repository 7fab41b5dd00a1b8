-- The keys of calls: the rank of each, from 1, among the accepted calls of its session.
use Rattle.std.specs.Prelude.{◌≡◌, ◌≢◌, ◌↔◌, ℕ, ◌+◌, ◌-◌, ◌<◌, ◌==◌, false, List, [], ◌∷◌, ◌++◌, length, take}
use Rattle.std.specs.Prelude.{slice_set, Some}
use Rattle.std.specs.List.{filter}
use Rattle.page_core.specs.Lists.{EachPair}
use Rattle.page_core.specs.ObjectCalls.{AcceptedCall, Noted}
use Rattle.board_core.specs.Board.{Board, call_at}
use Rattle.board_core.specs.Sound.{IsSound}

-- how many of these calls a session made
abbrev pub count_by : ℕ → List AcceptedCall → ℕ
count_by session calls = length (filter (λ (c : AcceptedCall). c.session == session) calls)

-- The call of this number is of this session, and this is its key: its rank among the session's accepted calls,
-- cancelled ones included.
pub record HasKey (calls : List AcceptedCall) (session key n : ℕ) : Type 0 where
  pub call : AcceptedCall
  pub there : call_at calls n ≡ Some call
  pub caller : call.session ≡ session
  pub rank : count_by session (take n calls) ≡ key

-- the key that a session's next call gets
abbrev pub next_key : List AcceptedCall → ℕ → ℕ
next_key calls session = count_by session calls + 1

-- Keys are exact: a session has one call of each key below its next one, and none of another key; later calls have
-- greater keys; one call more leaves the keys of the others, and has its session's next one.
pub record KeysAreExact : Type 0 where
  pub below : (calls : List AcceptedCall) (session key n : ℕ) → HasKey calls session key n →
      (0 < key) × (key < next_key calls session)
  pub one : (calls : List AcceptedCall) (session key m n : ℕ) → HasKey calls session key m →
      HasKey calls session key n → m ≡ n
  pub each : (calls : List AcceptedCall) (session key : ℕ) → 0 < key → key < next_key calls session →
      (n : ℕ) × HasKey calls session key n
  pub in_order : (calls : List AcceptedCall) (session j k m n : ℕ) → HasKey calls session j m →
      HasKey calls session k n → (m < n) ↔ (j < k)
  pub stays : (calls : List AcceptedCall) (call : AcceptedCall) (session key n : ℕ) → HasKey calls session key n →
      HasKey (calls ++ call ∷ []) session key n
  pub joins : (calls : List AcceptedCall) (call : AcceptedCall) →
      HasKey (calls ++ call ∷ []) call.session (next_key calls call.session) (length calls + 1)

-- the key of the call that an entry is of
abbrev pub key_of : List AcceptedCall → Noted → ℕ
key_of calls e = count_by e.session (take e.number calls)

-- Each session and key stands in the history at most once.
abbrev pub KeysStandOnce : Type 0
KeysStandOnce =
    (b : Board) → IsSound b → EachPair (λ (e f : Noted). e.session ≡ f.session → key_of b.calls e ≢ key_of b.calls f)
    b.history

-- a session is back: it no longer counts as one that has left
unfoldable pub resumed : Board → ℕ → Board
resumed b session = record b { gone = slice_set b.gone (session - 1) false }
