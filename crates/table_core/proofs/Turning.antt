-- Turns.
use Rattle.std.proofs.Common.{◌≡◌, ◌∙◌, ap, sym, subst, refl, arith, ℕ, zero, suc, ◌+◌, inl, inr, List, [], ◌∷◌, ◌++◌, append_assoc, append-nil, true≢false, not}
use Rattle.std.specs.Prelude.{Bool, true, false, Option, Some, None, Result, Ok, Err, IfOk}
use Rattle.std.specs.declared.alloc.AllocError.{AllocError}
use Rattle.std.proofs.lemmas.Option.{same_Some}
use Rattle.value_core.specs.Runs.{NoLineFeed}
use Rattle.word_core.specs.Reads.{Reads}
use Rattle.keep_loop.specs.Posts.{Tells, Does}
use Rattle.keep_loop.specs.declared.post.Post.{Post}
use Rattle.keep_loop.specs.Turns.Asked.{Heard, Noted}
use Rattle.keep_loop.specs.declared.served.LineEnd.{LineEnd}
use Rattle.keep_loop.specs.declared.served.Note.{Note}
use Rattle.guest_core.specs.declared.answer.SubmitFault.TheVariants as faults
use Rattle.session_text.specs.declared.line.ReplyLine.TheVariants as lines
use Rattle.session_text.specs.Lines.{line_text}
use Rattle.client_core.specs.declared.ask.Ask.{Ask}
use Rattle.client_core.specs.declared.ask.Ask.TheVariants as asks
use Rattle.client_core.specs.declared.client.OpenObject.{OpenObject}
use Rattle.client_core.specs.declared.clients.ClientPlaces.{ClientPlaces}
use Rattle.client_core.specs.Asks.{Asks}
use Rattle.client_core.specs.Held.{is_some, waits_of}
use Rattle.client_core.specs.declared.ask.Sight.{Sight}
use Rattle.client_core.specs.Inside.{inside_in}
use Rattle.client_core.specs.Numbers.{cancel_in}
use Rattle.live_core.specs.Scene.{Scene}
use Rattle.client_core.specs.Custody.{Custodies}
use Rattle.client_core.specs.State.{State, change, comer, holding, held_at, opened_at, waits_at, who_at, peers_of}
use Rattle.client_core.specs.Deeds.{Texts, Deed, Nothing, OnlyTold, Then}
use Rattle.client_core.specs.Asked.{AnswersCancel, AnswersInside, Heeds, Goes}
use Rattle.client_core.specs.Gone.{Settles}
use Rattle.client_core.specs.Turns.{IsIdle, HearsLine, HearsLast, HearsAt, TakesLine, GoesOn, EndsAsk, EndsHeld, Withdraws, WithdrawsAt, Leaves, LeavesIf, AsksAgain, HasNameAt, EndsFor, EndsForIf, Comes, IfHere, AllLeave, Notes, place_of}
use Rattle.client_core.specs.Turns.HearsLine.{does, cancels, sees, puts_off, holds, refuses}
use Rattle.client_core.specs.Turns.GoesOn.{rests, does as does_more}
use Rattle.client_core.specs.Turns.EndsHeld.{all, quits, goes_on}
use Rattle.table_core.specs.Brings.{Brings, Continues, EndsSome}
use Rattle.table_core.specs.Moves.{Gives}
use Rattle.table_core.specs.Seen.{seen, state_of}
use Rattle.table_core.specs.declared.table.Table.{Table}
use Rattle.table_core.proofs.Bringing.{plainly, brings_as, brings_none, brings_then, continues_by}
use Rattle.table_core.proofs.Entering.{peers_are}
use Rattle.table_core.proofs.Telling.{tells_none, tells_then}

-- a line is done
pub line_done : (a b : Post) (old new : State) (place : ℕ) (line : List ℕ) (is_whole is_open : Bool) (asked : Result Ask AllocError) → IsIdle old place →
    is_open ≡ is_some (opened_at old place) → IfOk asked (Asks is_open is_whole line) → Brings (Heeds place asked) a old b new →
    Brings (HearsLine place line is_whole) a old b new
line_done a b old new place text is_whole is_open asked idle is_opened asks brings =
    brings_as (Heeds place asked) (HearsLine place text is_whole) a b old new
    (λ said added is. does idle asked (subst (λ o. IfOk asked (Asks o is_whole text)) is_opened asks) is) brings

pub line_cancels : (a b : Post) (old new : State) (place told : ℕ) (text : List ℕ) (is_whole : Bool) → (IsIdle old place → ⊥) → is_whole ≡ true →
    Reads cancel_in (λ n. n) text (Some told) → Brings (AnswersCancel place told) a old b new → Brings (HearsLine place text is_whole) a old b new
line_cancels a b old new place told text is_whole busy whole reads brings =
    brings_as (AnswersCancel place told) (HearsLine place text is_whole) a b old new (λ said added is. cancels busy whole told reads is) brings

pub line_held : (custody : Custodies) (a : Post) (objects : List Scene) (old new : ClientPlaces) (place : ℕ) (text : List ℕ) (is_whole : Bool) → (IsIdle (state_of custody objects old) place → ⊥) →
    peers_of new ≡ change (peers_of old) place (holding text is_whole) → Brings (HearsLine place text is_whole) a (state_of custody objects old) a (state_of custody objects new)
line_held custody a objects old new place text is_whole busy peers =
    subst (λ (s : State). Brings (HearsLine place text is_whole) a (state_of custody objects old) a s)
    (sym (peers_are custody objects new (change (peers_of old) place (holding text is_whole)) peers))
    (record { said = []; added = []; tells = tells_none a; is = holds busy })

pub line_refused : (custody : Custodies) (a b : Post) (objects : List Scene) (old mid : ClientPlaces) (new : State) (place : ℕ) (text : List ℕ) (is_whole : Bool) →
    (IsIdle (state_of custody objects old) place → ⊥) → peers_of mid ≡ peers_of old →
    Brings (OnlyTold place (line_text (lines.Unsubmitted faults.Memory))) a (state_of custody objects mid) b new →
    Brings (HearsLine place text is_whole) a (state_of custody objects old) b new
line_refused custody a b objects old mid new place text is_whole busy same brings =
    brings_as (OnlyTold place (line_text (lines.Unsubmitted faults.Memory))) (HearsLine place text is_whole) a b (state_of custody objects old) new
    (λ said added is. refuses busy is)
    (subst (λ (s : State). Brings (OnlyTold place (line_text (lines.Unsubmitted faults.Memory))) a s b new) (peers_are custody objects mid (peers_of old) same) brings)

pub line_sees : (a b : Post) (old new : State) (place : ℕ) (inside : Sight) (text : List ℕ) (is_whole : Bool) → (IsIdle old place → ⊥) → is_whole ≡ true →
    Reads inside_in (λ i. i) text (Some inside) → Brings (AnswersInside place inside) a old b new → Brings (HearsLine place text is_whole) a old b new
line_sees a b old new place inside text is_whole busy whole reads brings =
    brings_as (AnswersInside place inside) (HearsLine place text is_whole) a b old new (λ said added is. sees busy whole inside reads is) brings

pub line_put_off : (custody : Custodies) (a : Post) (objects : List Scene) (old new : ClientPlaces) (place : ℕ) (text : List ℕ) (is_whole : Bool) (inside : Sight) →
    Asks (is_some (opened_at (state_of custody objects old) place)) is_whole text (asks.Inside inside) →
    peers_of new ≡ change (peers_of old) place (holding text is_whole) → Brings (HearsLine place text is_whole) a (state_of custody objects old) a (state_of custody objects new)
line_put_off custody a objects old new place text is_whole inside ask peers =
    subst (λ (s : State). Brings (HearsLine place text is_whole) a (state_of custody objects old) a s)
    (sym (peers_are custody objects new (change (peers_of old) place (holding text is_whole)) peers))
    (record { said = []; added = []; tells = tells_none a; is = puts_off inside ask })

pub line_off_refused : (custody : Custodies) (a b : Post) (objects : List Scene) (old mid : ClientPlaces) (new : State) (place : ℕ) (text : List ℕ) (is_whole : Bool) (inside : Sight) →
    IsIdle (state_of custody objects old) place → Asks (is_some (opened_at (state_of custody objects old) place)) is_whole text (asks.Inside inside) →
    peers_of mid ≡ peers_of old → Brings (OnlyTold place (line_text (lines.Unsubmitted faults.Memory))) a (state_of custody objects mid) b new →
    Brings (HearsLine place text is_whole) a (state_of custody objects old) b new
line_off_refused custody a b objects old mid new place text is_whole inside idle ask same brings =
    brings_as (OnlyTold place (line_text (lines.Unsubmitted faults.Memory))) (HearsLine place text is_whole) a b (state_of custody objects old) new
    (λ said added is. does idle (Ok (asks.Inside inside)) ask (inr (plainly place (lines.Unsubmitted faults.Memory) (state_of custody objects old) new said added tt is)))
    (subst (λ (s : State). Brings (OnlyTold place (line_text (lines.Unsubmitted faults.Memory))) a s b new) (peers_are custody objects mid (peers_of old) same) brings)

-- the next held line is done
pub goes_by : (a b : Post) (old mid new : State) (place : ℕ) (asked : Result Ask AllocError) → waits_at old place ≡ false → TakesLine place asked old mid →
    Brings (Heeds place asked) a mid b new → Continues a old b new
goes_by a b old mid new place asked idle takes brings = continues_by a b old new (record {
  said = brings.said;
  added = brings.added;
  tells = brings.tells;
  is = subst (λ l. GoesOn old l brings.added new) (append-nil brings.said)
      (subst (λ l. GoesOn old (brings.said ++ []) l new) (append-nil brings.added) (does_more mid new brings.said brings.added [] [] place asked idle takes brings.is rests));
})

-- the same is seen
pub goes_same : (custody : Custodies) (a b : Post) (objects : List Scene) (old mid : ClientPlaces) (new : State) → peers_of mid ≡ peers_of old → Continues a (state_of custody objects mid) b new →
    Continues a (state_of custody objects old) b new
goes_same custody a b objects old mid new same goes = subst (λ (s : State). Continues a s b new) (peers_are custody objects mid (peers_of old) same) goes

pub goes_still : (custody : Custodies) (a : Post) (objects : List Scene) (old new : ClientPlaces) → peers_of new ≡ peers_of old → Continues a (state_of custody objects old) a (state_of custody objects new)
goes_still custody a objects old new same p first so =
    subst (λ (s : State). Brings GoesOn p first a s) (sym (peers_are custody objects new (peers_of old) same)) so

-- held lines of one that has left
pub ends_more : (a b : Post) (old mid new : State) (place : ℕ) (asked : Result Ask AllocError) → (asked ≡ Ok asks.Quit → ⊥) → TakesLine place asked old mid →
    Brings (EndsAsk place asked) a mid b new → EndsSome place a old b new
ends_more a b old mid new place asked other takes brings = record {
  said = brings.said;
  added = brings.added;
  tells = brings.tells;
  more = λ further_said further last later. goes_on mid new brings.said brings.added further_said further asked other takes brings.is later;
}

pub ends_last : (a b : Post) (old mid new : State) (place : ℕ) (asked : Result Ask AllocError) → asked ≡ Ok asks.Quit → TakesLine place asked old mid →
    Brings (EndsAsk place asked) a mid b new → Brings (EndsHeld place) a old b new
ends_last a b old mid new place asked is takes brings =
    brings_from brings.said brings.added brings.tells
    (quits mid (subst (λ (r : Result Ask AllocError). TakesLine place r old mid) is takes)
    (subst (λ (r : Result Ask AllocError). EndsAsk place r mid brings.said brings.added new) is brings.is))
  where
    brings_from : (said added : Texts) → Tells a b said added → EndsHeld place old said added new → Brings (EndsHeld place) a old b new
    brings_from said added tells is = record { said = said; added = added; tells = tells; is = is }

pub ends_none : (custody : Custodies) (a : Post) (objects : List Scene) (old new : ClientPlaces) (place : ℕ) → NoLineFeed (held_at (state_of custody objects old) place) → peers_of new ≡ peers_of old →
    Brings (EndsHeld place) a (state_of custody objects old) a (state_of custody objects new)
ends_none custody a objects old new place none same =
    subst (λ (s : State). Brings (EndsHeld place) a (state_of custody objects old) a s) (sym (peers_are custody objects new (peers_of old) same))
    (record { said = []; added = []; tells = tells_none a; is = all none })

pub some_then_all : (a b c : Post) (old mid new : State) (place : ℕ) → EndsSome place a old b mid → Brings (EndsHeld place) b mid c new → Brings (EndsHeld place) a old c new
some_then_all a b c old mid new place some rest = record {
  said = some.said ++ rest.said;
  added = some.added ++ rest.added;
  tells = tells_then a b c some.said rest.said some.added rest.added some.tells rest.tells;
  is = some.more rest.said rest.added new rest.is;
}

pub some_then : (a b c : Post) (old mid new : State) (place : ℕ) → EndsSome place a old b mid → EndsSome place b mid c new → EndsSome place a old c new
some_then a b c old mid new place one two = record {
  said = one.said ++ two.said;
  added = one.added ++ two.added;
  tells = tells_then a b c one.said two.said one.added two.added one.tells two.tells;
  more = λ more_said further last later.
      subst (λ l. EndsHeld place old l ((one.added ++ two.added) ++ further) last) (sym (append_assoc one.said two.said more_said))
      (subst (λ l. EndsHeld place old (one.said ++ (two.said ++ more_said)) l last) (sym (append_assoc one.added two.added further))
      (one.more (two.said ++ more_said) (two.added ++ further) last (two.more more_said further last later)));
}

pub some_none : (a : Post) (s : State) (place : ℕ) → EndsSome place a s a s
some_none a s place = record { said = []; added = []; tells = tells_none a; more = λ more_said further last later. later }

-- one leaves
pub leaves_by : (a b c : Post) (old one two new : State) (place : ℕ) → Brings (WithdrawsAt place) a old b one → Brings (EndsHeld place) b one c two →
    Goes place two [] [] new → Brings (Leaves place) a old c new
leaves_by a b c old one two new place first second goes =
    brings_then (WithdrawsAt place) (Then (EndsHeld place) (Goes place)) a b c old one new first
    (brings_then (EndsHeld place) (Goes place) b c c one two new second (record { said = []; added = []; tells = tells_none c; is = goes }))

none_waits : (o : Option OpenObject) → None ≡ o → waits_of o ≡ false
none_waits o is = subst (λ (x : Option OpenObject). waits_of x ≡ false) is refl

pub withdraws_nobody : (a : Post) (s : State) (place : ℕ) → None ≡ opened_at s place → Brings (WithdrawsAt place) a s a s
withdraws_nobody a s place none = record {
  said = [];
  added = [];
  tells = tells_none a;
  is = inr (none_waits (opened_at s place) none, record { told = refl; lines = refl; left = refl });
}

pub withdraws_idle : (a : Post) (s : State) (place : ℕ) (opened : OpenObject) → Some opened ≡ opened_at s place → opened.waits ≡ false → Brings (WithdrawsAt place) a s a s
withdraws_idle a s place opened by idle = record {
  said = [];
  added = [];
  tells = tells_none a;
  is = inr (subst (λ (x : Option OpenObject). waits_of x ≡ false) by idle, record { told = refl; lines = refl; left = refl });
}

pub withdraws_at : (a b : Post) (old new : State) (place : ℕ) (opened : OpenObject) → Some opened ≡ opened_at old place → opened.waits ≡ true →
    Brings (Withdraws opened.object opened.session) a old b new → Brings (WithdrawsAt place) a old b new
withdraws_at a b old new place opened by waits brings =
    brings_as (Withdraws opened.object opened.session) (WithdrawsAt place) a b old new (λ said added is. inl (opened, sym by, waits, is)) brings

pub nobody_leaves : (a : Post) (s : State) (place : ℕ) → None ≡ who_at s place → Brings (LeavesIf place) a s a s
nobody_leaves a s place none =
    record { said = []; added = []; tells = tells_none a; is = inr (sym none, record { told = refl; lines = refl; left = refl }) }

pub one_leaves : (a b : Post) (old new : State) (place who : ℕ) → Some who ≡ who_at old place → Brings (Leaves place) a old b new → Brings (LeavesIf place) a old b new
one_leaves a b old new place who here brings =
    brings_as (Leaves place) (LeavesIf place) a b old new (λ said added is. inl (who, sym here, is)) brings

-- it does not ask again
pub not_again : (s : State) (place : ℕ) (opened : OpenObject) → Some opened ≡ opened_at s place → (opened.waits ≡ true → HasNameAt s.objects opened.object opened.session → ⊥) → AsksAgain s place → ⊥
not_again s place opened is none (o, by, waits, has) =
    let same : o ≡ opened = same_Some o opened (sym by ∙ sym is) in
    none (subst (λ (x : OpenObject). x.waits ≡ true) same waits) (subst (λ (x : OpenObject). HasNameAt s.objects x.object x.session) same has)

-- one that asks again goes without a word
pub ends_again : (a : Post) (old new : State) (place : ℕ) → AsksAgain old place → Goes place old [] [] new → Brings (EndsFor place) a old a new
ends_again a old new place again goes = record { said = []; added = []; tells = tells_none a; is = inl (again, goes) }

pub ends_other : (a b : Post) (old new : State) (place : ℕ) → (AsksAgain old place → ⊥) → Brings (Leaves place) a old b new → Brings (EndsFor place) a old b new
ends_other a b old new place other brings = brings_as (Leaves place) (EndsFor place) a b old new (λ said added is. inr (other, is)) brings

pub nobody_ends : (a : Post) (s : State) (place : ℕ) → None ≡ who_at s place → Brings (EndsForIf place) a s a s
nobody_ends a s place none =
    record { said = []; added = []; tells = tells_none a; is = inr (sym none, record { told = refl; lines = refl; left = refl }) }

pub one_ends : (a b : Post) (old new : State) (place who : ℕ) → Some who ≡ who_at old place → Brings (EndsFor place) a old b new → Brings (EndsForIf place) a old b new
one_ends a b old new place who here brings =
    brings_as (EndsFor place) (EndsForIf place) a b old new (λ said added is. inl (who, sym here, is)) brings

-- all end
pub all_none : (a : Post) (s : State) → Brings (AllLeave zero) a s a s
all_none a s = brings_none a s

pub all_more : (a b c : Post) (old mid new : State) (n : ℕ) → Brings (AllLeave n) a old b mid → Brings (EndsForIf n) b mid c new → Brings (AllLeave (n + 1)) a old c new
all_more a b c old mid new n before one =
    subst (λ k. Brings (AllLeave k) a old c new) (let e : suc n ≡ n + 1 = omega arith in e) (brings_then (AllLeave n) (EndsForIf n) a b c old mid new before one)

-- nobody is there
pub not_here : (a : Post) (s : State) (who : ℕ) (deed : ℕ → Deed) → (who_at s (place_of s who) ≡ Some who → ⊥) → Brings (IfHere who deed) a s a s
not_here a s who deed none = record { said = []; added = []; tells = tells_none a; is = inr (none, record { told = refl; lines = refl; left = refl }) }

pub is_here : (a b : Post) (old new : State) (who place : ℕ) (deed : ℕ → Deed) → place ≡ place_of old who → who_at old place ≡ Some who →
    Brings (deed place) a old b new → Brings (IfHere who deed) a old b new
is_here a b old new who place deed is here brings =
    brings_as (deed place) (IfHere who deed) a b old new
    (λ said added d. inl (subst (λ p. who_at old p ≡ Some who) is here, subst (λ p. deed p old said added new) is d)) brings

pub hears_then : (a b c : Post) (old mid new : State) (first : Deed) → Brings first a old b mid → Brings Settles b mid c new → Brings (Then first Settles) a old c new
hears_then a b c old mid new first one goes = brings_then first Settles a b c old mid new one goes

pub way_is_free : (a : Post) (s : State) (who : ℕ) → who_at s (place_of s who) ≡ None → Brings (LeavesIf (place_of s who)) a s a s
way_is_free a s who none = nobody_leaves a s (place_of s who) (sym none)

pub way_is_made : (a b : Post) (old new : State) (who place : ℕ) → place ≡ place_of old who → (other : ℕ) × (who_at old place ≡ Some other) →
    Brings (Leaves place) a old b new → Brings (LeavesIf (place_of old who)) a old b new
way_is_made a b old new who place is here brings =
    subst (λ p. Brings (LeavesIf p) a old b new) is (one_leaves a b old new place here.0 (sym here.1) brings)

pub joins_by : (custody : Custodies) (a b : Post) (old : State) (objects : List Scene) (mid new : ClientPlaces) (who : ℕ) → Brings (LeavesIf (place_of old who)) a old b (state_of custody objects mid) →
    peers_of new ≡ change (peers_of mid) (place_of (state_of custody objects mid) who) (λ p. comer who) →
    Brings (Then (LeavesIf (place_of old who)) (Comes who)) a old b (state_of custody objects new)
joins_by custody a b old objects mid new who way peers =
    brings_then (LeavesIf (place_of old who)) (Comes who) a b b old (state_of custody objects mid) (state_of custody objects new) way (record {
      said = [];
      added = [];
      tells = tells_none b;
      is = (refl, refl, peers_are custody objects new (change (peers_of mid) (place_of (state_of custody objects mid) who) (λ p. comer who)) peers);
    })

pub nothing_by : (a : Post) (old new : State) → new ≡ old → Brings Nothing a old a new
nothing_by a old new is = record { said = []; added = []; tells = tells_none a; is = record { told = refl; lines = refl; left = is } }

-- the last line
pub last_none : (a : Post) (s : State) (place : ℕ) (text : List ℕ) → text ≡ [] → Brings (HearsLast place text) a s a s
last_none a s place text is = subst (λ (l : List ℕ). Brings (HearsLast place l) a s a s) (sym is) (brings_none a s)

pub last_some : (a b : Post) (old new : State) (place : ℕ) (text : List ℕ) → (text ≡ [] → ⊥) → Brings (HearsLine place text false) a old b new →
    Brings (HearsLast place text) a old b new
last_some a b old new place [] some brings = absurd (some refl)
last_some a b old new place (c ∷ text) some brings = brings

abbrev ok_of : Result Bool AllocError → Bool
ok_of (Ok b) = b
ok_of (Err e) = false

pub same_ok : (b c : Bool) → ◌≡◌ {A = Result Bool AllocError} (Ok b) (Ok c) → b ≡ c
same_ok b c is = ap ok_of is

abbrev pub ok_bool : Bool → Result Bool AllocError
ok_bool b = Ok b

pub not_true : (b : Bool) → not b ≡ true → b ≡ false
not_true true is = absurd (true≢false (sym is))
not_true false is = refl

pub not_false : (b : Bool) → not b ≡ false → b ≡ true
not_false true is = refl
not_false false is = absurd (true≢false is)

-- what a turn came to
pub heard : (old new : Table) (a b : Post) (who : ℕ) (text : List ℕ) (end : LineEnd) →
    Brings (IfHere who (λ (place : ℕ). Then (HearsAt place text end) Settles)) a (seen old) b (seen new) → Does Gives old (Heard who text end) new a b
heard old new a b who text end brings = record { said = brings.said; added = brings.added; step = brings.is; tells = brings.tells }

pub noted : (old new : Table) (a b : Post) (note : Note) → Brings (Then (Notes note) Settles) a (seen old) b (seen new) → Does Gives old (Noted note) new a b
noted old new a b note brings = record { said = brings.said; added = brings.added; step = brings.is; tells = brings.tells }
