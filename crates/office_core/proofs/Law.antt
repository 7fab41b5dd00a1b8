-- What receipts and slips say of a closed desk.
use Rattle.std.proofs.Common.{false, ◌≡◌, ◌∙◌, ap, sym, subst, refl, ℕ, suc, ◌+◌, ◌-◌, arith, List, [], ◌∷◌, Some}
use Rattle.std.specs.Prelude.{slice_get}
use Rattle.std.proofs.lemmas.Option.{same_Some}
use Rattle.device_core.specs.Device.{Assignment}
use Rattle.page_core.specs.PartPins.{PartPin}
use Rattle.apply_core.specs.declared.reply.Reply.{Reply}
use Rattle.apply_core.specs.declared.reply.Reply.TheVariants as replies
use Rattle.page_core.specs.Outcomes.{outcome_reply, outcome_news, if_done}
use Rattle.board_core.specs.declared.receipt.Receipt.{Receipt}
use Rattle.page_core.specs.Lists.{Every}
use Rattle.page_core.specs.ObjectCalls.{Noted, RunningCall}
use Rattle.board_core.specs.Board.{entry_of}
use Rattle.board_core.specs.Chain.{IsTrueEntry}
use Rattle.board_core.specs.Sound.{kinds_of}
use Rattle.page_core.proofs.Lists.{Every-among}
use Rattle.board_core.proofs.BoardLaws.{truth_is_noted}
use Rattle.board_core.proofs.Law.{chained_are_legal}
use Rattle.office_core.specs.Slips.{Told, told_of, IsEntryTold, StandsIn, IsTrueTold}
use Rattle.office_core.specs.Closing.{Stands}
use Rattle.office_core.specs.Receipts.{IsTrueReceipt, ReceiptsAreLegal, SlipsAreLegal}

-- the call of an entry, as it ran by these pins
abbrev as_ran : Noted → List PartPin → RunningCall
as_ran e pins = record { number = e.number; call = record { session = e.session; op = 0; operation = e.operation; arguments = e.arguments }; pins = pins; taken = false }

-- what is kept of the new pins is kept again
again : (reply : Reply) (news : List PartPin) → if_done reply (if_done reply news) ≡ if_done reply news
again (replies.Done value) news = refl
again (replies.Refused word) news = refl
again (replies.Failed failure) news = refl

-- the entry that is made of what is told is the entry
entry_is : (e : Noted) (t : Told) → IsEntryTold t e → entry_of (as_ran e t.call.pins) t.reply t.news ≡ e
entry_is e t is =
    λ i. record {
      number = e.number;
      session = e.session;
      operation = e.operation;
      arguments = e.arguments;
      reply = sym is.reply i;
      pins = sym is.pins i;
      news = sym is.news i;
    }

-- where what is told is true, so is the entry
entry_true : (a : Assignment) (e : Noted) (t : Told) → IsEntryTold t e → IsTrueTold a t → IsTrueEntry a e
entry_true a e t is holds =
    subst (IsTrueEntry a) (entry_is e t is)
    (truth_is_noted a t.call (as_ran e t.call.pins) t.reply t.news (record { number = is.number; operation = is.operation; arguments = is.arguments; pins = refl }) holds)

-- each item has it, where the item at each place has it
every_place : {X : Type 0} (P : X → Type 0) (xs : List X) → ((k : ℕ) (x : X) → slice_get xs k ≡ Some x → P x) → Every P xs
every_place P [] at = tt
every_place P (x ∷ xs) at = (at 0 x refl, every_place P xs (λ k y is. at (suc k) y is))

-- the entry at a place is the one that is told of it
told_true : (a : Assignment) (history : List Noted) (k : ℕ) (e : Noted) (t : Told) → slice_get history k ≡ Some e → t.place ≡ k + 1 → StandsIn history t → IsTrueTold a t → IsTrueEntry a e
told_true a history k e t at place stands holds =
    let same : t.place - 1 ≡ k = omega (arith, place) in
    let is : stands.1.0 ≡ e = same_Some stands.1.0 e (sym stands.1.1 ∙ ap (slice_get history) same ∙ at) in
    entry_true a e t (subst (IsEntryTold t) is stands.1.2) holds

-- what a receipt tells stands where it stands
told_stands : (history : List Noted) (r : Receipt) → Stands history r → StandsIn history (told_of r)
told_stands history r (some, (e, at, is)) = (
  some,
  (
    e,
    at,
    record {
      number = is.number;
      session = is.session;
      operation = is.operation;
      arguments = is.arguments;
      reply = is.reply;
      pins = is.pins;
      news = is.news ∙ sym (again (outcome_reply r.noted.outcome) (outcome_news r.noted.outcome));
    },
  ),
)

pub receipts_are_legal : ReceiptsAreLegal
receipts_are_legal a b receipts contents sound stand have hold shows =
    let true_one : (k : ℕ) (e : Noted) → slice_get b.history k ≡ Some e → IsTrueEntry a e =
    λ k e at.
    let r = have k e at in
    let stands = told_stands b.history r.0 (Every-among (Stands b.history) receipts r.0 stand r.1) in
    told_true a b.history k e (told_of r.0) at r.2 stands (Every-among (IsTrueReceipt a) receipts r.0 hold r.1) in
    chained_are_legal a (kinds_of b.object) b.opening b.pins b.history contents sound.pinned.entries sound.pinned.chained shows (every_place (IsTrueEntry a) b.history true_one)

pub slips_are_legal : SlipsAreLegal
slips_are_legal a b slips contents sound stand have hold shows =
    let true_one : (k : ℕ) (e : Noted) → slice_get b.history k ≡ Some e → IsTrueEntry a e =
    λ k e at.
    let t = have k e at in
    told_true a b.history k e t.0 at t.2 (Every-among (StandsIn b.history) slips t.0 stand t.1) (Every-among (IsTrueTold a) slips t.0 hold t.1) in
    chained_are_legal a (kinds_of b.object) b.opening b.pins b.history contents sound.pinned.entries sound.pinned.chained shows (every_place (IsTrueEntry a) b.history true_one)
