-- One that opens an object, and one that goes.
use Rattle.std.proofs.Common.{◌≡◌, ◌∙◌, ap, sym, subst, refl, ℕ, inl, inr, List, [], ◌∷◌, ◌++◌, append-nil, true≢false}
use Rattle.std.specs.Prelude.{true, false, Option, Some, None, Ok, slice_get, slice_set}
use Rattle.std.proofs.lemmas.Option.{same_Some}
use Rattle.keep_loop.specs.Posts.{Tells}
use Rattle.keep_loop.specs.declared.post.Post.{Post}
use Rattle.session_text.specs.declared.line.ReplyLine.{ReplyLine}
use Rattle.session_text.specs.Lines.{bye_text, line_text, opened_text}
use Rattle.client_core.specs.declared.client.OpenObject.{OpenObject}
use Rattle.client_core.specs.declared.clients.ClientPlaces.{ClientPlaces}
use Rattle.client_core.specs.Held.{is_some}
use Rattle.guest_core.specs.declared.guests.Entered.{Entered}
use Rattle.live_core.specs.HostedLines.{entered_lines}
use Rattle.live_core.specs.Scene.{Scene, with_guests}
use Rattle.client_core.specs.Custody.{Custodies, IsFreeOf}
use Rattle.client_core.specs.State.{Peer, State, change, changed, nobody, opening, opened_at, peers_of, told_to}
use Rattle.client_core.specs.Deeds.{Texts, OnlyTold}
use Rattle.client_core.specs.Refusals.{IsRefusal}
use Rattle.client_core.specs.Asked.{IsRefused, OpensBare, Opens, HasNoSession, Goes, Quits}
use Rattle.table_core.specs.Brings.{Brings}
use Rattle.table_core.specs.Objects.{IsNamed, HasEntered, LeavesAt}
use Rattle.table_core.specs.Parts.{TellsOpened, Stays, HasCome, LeavesOf}
use Rattle.table_core.specs.Seen.{state_of}
use Rattle.table_core.proofs.Bringing.{brings_as, refuses}
use Rattle.table_core.proofs.Telling.{tells_none, tells_then}

-- a state of these objects and places
abbrev pub of : Custodies → List Scene → List Peer → State
of custody objects peers = record { objects = objects; peers = peers; custody = custody }

pub peers_are : (custody : Custodies) (objects : List Scene) (clients : ClientPlaces) (peers : List Peer) → peers_of clients ≡ peers → state_of custody objects clients ≡ of custody objects peers
peers_are custody objects clients peers is = ap (λ ps. of custody objects ps) is

pub objects_are : (custody : Custodies) (old new : List Scene) (peers : List Peer) → new ≡ old → of custody new peers ≡ of custody old peers
objects_are custody old new peers is = ap (λ os. of custody os peers) is

-- the one at a place is told that an object is opened for it
pub opened_for : (custody : Custodies) (a b : Post) (objects : List Scene) (old new : ClientPlaces) (place : ℕ) (text : List ℕ) (opened : OpenObject) →
    Tells a b (told_to (peers_of old) place text) [] → peers_of new ≡ change (peers_of old) place (opening opened) →
    Brings (TellsOpened place text opened) a (state_of custody objects old) b (state_of custody objects new)
opened_for custody a b objects old new place text opened tells is = record {
  said = told_to (peers_of old) place text;
  added = [];
  tells = tells;
  is = record { told = refl; lines = refl; left = peers_are custody objects new (change (peers_of old) place (opening opened)) is };
}

abbrev bare : ℕ → OpenObject
bare at = record { object = at; session = 0; is_named = false; waits = false; calls = 0; told = 0 }

pub opens_bare : (a b : Post) (old new : State) (place at : ℕ) (name : List ℕ) → IsNamed old.objects at name →
    Brings (TellsOpened place (opened_text name None) (record { object = at; session = 0; is_named = false; waits = false; calls = 0; told = 0 })) a old b new →
    Brings (OpensBare place name) a old b new
opens_bare a b old new place at name named brings =
    brings_as (TellsOpened place (opened_text name None) (bare at)) (OpensBare place name) a b old new
    (λ said added t. record { at = at; object = named.object; there = named.there; named = named.named; told = t.told; lines = t.lines; left = t.left }) brings

pub opens_refused : (a b : Post) (old new : State) (place : ℕ) (name : List ℕ) (client : Option (List ℕ)) → Brings (IsRefused place) a old b new →
    Brings (Opens place name client) a old b new
opens_refused a b old new place name None brings = brings_as (IsRefused place) (Opens place name None) a b old new (λ said added is. inr is) brings
opens_refused a b old new place name (Some client) brings = brings_as (IsRefused place) (Opens place name (Some client)) a b old new (λ said added is. inr is) brings

pub opens_plain : (a b : Post) (old new : State) (place : ℕ) (name : List ℕ) → Brings (OpensBare place name) a old b new → Brings (Opens place name None) a old b new
opens_plain a b old new place name brings = brings_as (OpensBare place name) (Opens place name None) a b old new (λ said added is. inl is) brings

-- it stays as it was, and then it is refused
pub refused_behind : (a b c : Post) (old mid new : State) (place : ℕ) (line : ReplyLine) → IsRefusal line → Stays a old b mid →
    Brings (OnlyTold place (line_text line)) b mid c new → Brings (IsRefused place) a old c new
refused_behind a b c old mid new place line is stays brings =
    subst (λ (s : State). Brings (IsRefused place) a s c new) stays.left (behind a b c mid new place stays.tells (refuses b c mid new place line is brings))
  where
    behind : (a b c : Post) (mid new : State) (place : ℕ) → Tells a b [] [] → Brings (IsRefused place) b mid c new → Brings (IsRefused place) a mid c new
    behind a b c mid new place quiet brings =
        record { said = brings.said; added = brings.added; tells = tells_then a b c [] brings.said [] brings.added quiet brings.tells; is = brings.is }

pub enter_refused : (a b c : Post) (old mid new : State) (place : ℕ) (name client : List ℕ) (line : ReplyLine) → IsRefusal line → Stays a old b mid →
    Brings (OnlyTold place (line_text line)) b mid c new → Brings (Opens place name (Some client)) a old c new
enter_refused a b c old mid new place name client line is stays brings =
    opens_refused a c old new place name (Some client) (refused_behind a b c old mid new place line is stays brings)

-- a client has come, and then the object is opened for it
pub opens_as : (a b c : Post) (old mid new : State) (place at : ℕ) (name client : List ℕ) (entered : Entered) → IsNamed old.objects at name →
    HasCome at client entered a old b mid →
    Brings (TellsOpened place (opened_text name (Some entered.next))
    (record { object = at; session = entered.session; is_named = true; waits = false; calls = 0; told = 0 })) b mid c new →
    Brings (Opens place name (Some client)) a old c new
opens_as a b c old mid new place at name client entered named come brings =
    let same : named.object ≡ come.object = same_Some named.object come.object (sym named.there ∙ come.there) in
    record {
      said = brings.said;
      added = (at, entered_lines client (Ok entered)) ∷ brings.added;
      tells = tells_then a b c [] brings.said ((at, entered_lines client (Ok entered)) ∷ []) brings.added come.adds.tells brings.tells;
      is = inl (record {
        at = at;
        object = come.object;
        there = come.there;
        named = subst (λ (o : Scene). o.hall.object.name ≡ name) same named.named;
        now = come.now;
        entered = entered;
        guests = come.guests;
        is_name = come.is_name;
        enters = come.enters;
        told = brings.is.told ∙ ap (λ (s : State). told_to s.peers place (opened_text name (Some entered.next))) come.adds.left;
        lines = ap (λ l. (at, entered_lines client (Ok entered)) ∷ l) brings.is.lines;
        left = brings.is.left ∙ ap (λ (s : State). changed s place (opening (seat at entered))) come.adds.left;
      });
    }
  where
    seat : ℕ → Entered → OpenObject
    seat at entered = record { object = at; session = entered.session; is_named = true; waits = false; calls = 0; told = 0 }

pub comes_none : (custody : Custodies) (a : Post) (old new : List Scene) (peers : List Peer) → new ≡ old → Stays a (of custody old peers) a (of custody new peers)
comes_none custody a old new peers is = record { tells = tells_none a; left = objects_are custody old new peers is }

pub comes_in : (custody : Custodies) (a b : Post) (old new : List Scene) (peers : List Peer) (at now : ℕ) (client line bytes : List ℕ) (entered : Entered) →
    HasEntered old at client now entered line new → bytes ≡ line → Tells a b [] ((at, bytes) ∷ []) → HasCome at client entered a (of custody old peers) b (of custody new peers)
comes_in custody a b old new peers at now client line bytes entered has is tells = record {
  object = has.object;
  there = has.there;
  now = now;
  guests = has.guests;
  is_name = has.is_name;
  enters = has.enters;
  adds = record {
    tells = subst (λ (l : List ℕ). Tells a b [] ((at, l) ∷ [])) (is ∙ has.told) tells;
    left = objects_are custody (slice_set old at (with_guests has.object has.guests)) new peers has.left;
  };
}

none_some : (o : OpenObject) → None ≡ Some o → ⊥
none_some o is = true≢false (sym (ap (λ (x : Option OpenObject). is_some x) is))

-- no object was opened, or no session was given
pub no_session : (s : State) (place : ℕ) → None ≡ opened_at s place → HasNoSession s place
no_session s place none opened is ne = absurd (none_some opened (none ∙ is))

pub zero_session : (s : State) (place : ℕ) (opened : OpenObject) → Some opened ≡ opened_at s place → opened.session ≡ 0 → HasNoSession s place
zero_session s place opened by zero other is ne = absurd (ne (ap (λ (o : OpenObject). o.session) (sym (same_Some opened other (by ∙ is))) ∙ zero))

pub leaves_of : (custody kept : Custodies) (old new : List Scene) (peers : List Peer) (place session now : ℕ) (opened : OpenObject) → Some opened ≡ opened_at (of custody old peers) place →
    kept ≡ custody → IsFreeOf (slice_get custody opened.object) opened.is_named opened.session →
    LeavesAt old opened.object opened.session now new → LeavesOf place (of custody old peers) (of kept new peers)
leaves_of custody kept old new peers place session now opened by same free (inl has) = inl (record {
  opened = opened;
  by = sym by;
  object = has.object;
  there = has.there;
  free = free;
  now = now;
  was_here = has.was_here;
  guests = has.guests;
  leaves = has.leaves;
  left = ap (λ (c : Custodies). of c new peers) same
      ∙ objects_are custody (slice_set old opened.object (with_guests has.object has.guests)) new peers has.left;
})
leaves_of custody kept old new peers place session now opened by same free (inr none) =
    inr (
      inl (λ other is ne. subst (λ (o : OpenObject). slice_get old o.object ≡ None) (same_Some opened other (by ∙ is)) none.0),
      ap (λ (c : Custodies). of c new peers) same ∙ objects_are custody old new peers none.1,
    )

-- it stays as it is
pub leaves_none : (s : State) (place : ℕ) → HasNoSession s place → LeavesOf place s s
leaves_none s place none = inr (inl none, refl)

pub goes_from : (old mid : State) (clients : ClientPlaces) (place : ℕ) → LeavesOf place old mid →
    peers_of clients ≡ change mid.peers place (λ p. nobody) → Goes place old [] [] (state_of mid.custody mid.objects clients)
goes_from old mid clients place leaves is = (refl, refl, (mid, leaves, peers_are mid.custody mid.objects clients (change mid.peers place (λ p. nobody)) is))

pub quits_by : (a b c : Post) (old mid new : State) (place : ℕ) → Brings (OnlyTold place bye_text) a old b mid → Tells b c [] [] → Goes place mid [] [] new →
    Brings (Quits place) a old c new
quits_by a b c old mid new place brings quiet goes = record {
  said = brings.said ++ [];
  added = brings.added ++ [];
  tells = tells_then a b c brings.said [] brings.added [] brings.tells quiet;
  is = record {
    told = append-nil brings.said ∙ brings.is.told;
    goes = subst (λ (l : Texts). Goes place old [] l new) (sym (append-nil brings.added ∙ brings.is.lines))
        (subst (λ (s : State). Goes place s [] [] new) brings.is.left goes);
  };
}
