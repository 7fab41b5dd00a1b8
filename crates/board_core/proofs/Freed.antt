-- What is needed, and what is picked.
use Rattle.std.proofs.Common.{ℕ, inl, inr, false, List, [], ◌∷◌, ◌++◌, sym, ◌∙◌, subst}
use Rattle.device_core.specs.declared.hand.Stamp.{Stamp}
use Rattle.page_core.specs.Lists.{Every}
use Rattle.page_core.specs.ObjectCalls.{WaitingCall, RunningCall, read_pins}
use Rattle.board_core.specs.Board.{Board, Admits, rests, starts, started}
use Rattle.board_core.specs.Free.{IsIn, IsRead, IsNeeded, Picks, no_more, needed, again, one_more}
use Rattle.board_core.specs.Sound.{IsPinned}
use Rattle.board_core.specs.Laws.{NeededIsPublished, PublishedArePicked}
use Rattle.board_core.proofs.Kept.{kept_at}
use Rattle.page_core.proofs.Lists.{Every-snoc, Every-among, among_snoc, among_at}

-- what is picked is not needed
pub picks_none : (Needed : ℕ → Type 0) (picked stamps all : List Stamp) → Every (λ s. Needed s.number → ⊥) picked → Picks Needed picked stamps all → Every (λ s. Needed s.number → ⊥) all
picks_none Needed picked [] all none no_more = none
picks_none Needed picked (s ∷ rest) all none (needed _ is more) = picks_none Needed picked rest all none more
picks_none Needed picked (s ∷ rest) all none (again _ is more) = picks_none Needed picked rest all none more
picks_none Needed picked (s ∷ rest) all none (one_more _ not_needed new more) = picks_none Needed (picked ++ s ∷ []) rest all (Every-snoc (λ s. Needed s.number → ⊥) picked s none not_needed) more

-- what a running call reads by pins that are published is published
pub read_is_in : (pins : List (List Stamp)) (number : ℕ) (r : RunningCall) → IsPinned pins r → IsRead number r → IsIn number pins
read_is_in pins number r pinned h = (h.pages, among_at pins h.p h.pages (pinned h.p h.reads ∙ h.there), h.same)

-- a call that starts takes published pins
start_pinned : (pins : List (List Stamp)) (w : WaitingCall) → IsPinned pins (record { number = w.number; call = w.call; pins = read_pins w.call.operation pins; taken = false })
start_pinned pins w p reads = sym (kept_at w.call.operation pins p reads)

-- so what it reads is published
start_needs : (b : Board) (w : WaitingCall) (number : ℕ) → IsNeeded (started b w).pins (started b w).running number → IsNeeded b.pins b.running number
unfolding started
start_needs b w number (inl published) = inl published
start_needs b w number (inr reads) =
    elim (among_snoc b.running _ reads.0 reads.1) [
      | inl runs ↦ inr (reads.0, runs, reads.2)
      | inr same ↦ inl (read_is_in b.pins number reads.0 (subst (IsPinned b.pins) same (start_pinned b.pins w)) reads.2)
    ]

-- so admission needs nothing that was not needed
pub admission_needs : (b after : Board) (number : ℕ) → Admits b after → IsNeeded after.pins after.running number → IsNeeded b.pins b.running number
admission_needs b after number (rests r) h = h
admission_needs b after number (starts w next more) h = start_needs b w number (admission_needs (started b w) after number more h)

pub needed_is_published : NeededIsPublished
needed_is_published b sound number (inl published) = published
needed_is_published b sound number (inr reads) =
    read_is_in b.pins number reads.0 (Every-among (IsPinned b.pins) b.running reads.0 sound.pinned.pinned reads.1) reads.2

pub picks_same : (P Q : ℕ → Type 0) (to : (n : ℕ) → P n → Q n) (from : (n : ℕ) → Q n → P n) (picked stamps all : List Stamp) → Picks P picked stamps all → Picks Q picked stamps all
picks_same P Q to from picked [] all no_more = no_more
picks_same P Q to from picked (s ∷ rest) all (needed _ is more) = needed s (to s.number is) (picks_same P Q to from picked rest all more)
picks_same P Q to from picked (s ∷ rest) all (again _ is more) = again s is (picks_same P Q to from picked rest all more)
picks_same P Q to from picked (s ∷ rest) all (one_more _ none new more) = one_more s (λ h. none (from s.number h)) new (picks_same P Q to from (picked ++ s ∷ []) rest all more)

pub published_are_picked : PublishedArePicked
published_are_picked b sound stamps all picks =
    picks_same (λ number. IsIn number b.pins) (IsNeeded b.pins b.running) (λ n is. inl is) (λ n h. needed_is_published b sound n h) [] stamps all picks
