-- Calls that are made.
use Rattle.std.proofs.Common.{◌≡◌, ◌∙◌, ap, sym, subst, refl, arith, ℕ, zero, suc, inl, inr, List, [], ◌∷◌, ◌++◌, true≢false}
use Rattle.std.specs.Prelude.{false, Option, Some, None, Result, Ok, Err, IfSome, OnErr, length, slice_get, slice_set}
use Rattle.keep_loop.specs.Posts.{Tells}
use Rattle.keep_loop.specs.declared.post.Post.{Post}
use Rattle.value_core.specs.declared.datum.Datum.{Datum}
use Rattle.decl_core.specs.ObjectMap.{object_of}
use Rattle.word_core.specs.Text.{operation_name}
use Rattle.session_text.specs.declared.line.ReplyLine.{ReplyLine}
use Rattle.session_text.specs.Lines.{accepted_text, ended_text, line_text}
use Rattle.client_core.specs.declared.client.OpenObject.{OpenObject}
use Rattle.client_core.specs.declared.clients.ClientPlaces.{ClientPlaces}
use Rattle.client_core.specs.Held.{is_some}
use Rattle.live_core.specs.declared.call.Ran.{Ran}
use Rattle.live_core.specs.declared.live.Taken.{Taken}
use Rattle.live_core.specs.Lines.{all_lines}
use Rattle.guest_core.specs.declared.seats.SeatHolder.TheVariants.{Nameless}
use Rattle.guest_core.specs.Guests.{with_seat}
use Rattle.live_core.specs.declared.hosted.KeyState.{KeyState}
use Rattle.live_core.specs.declared.hosted.KeyState.TheVariants as keys
use Rattle.live_core.specs.Keys.{Says}
use Rattle.live_core.specs.Scene.{Scene, told_of, with_guests}
use Rattle.client_core.specs.Custody.{Custodies}
use Rattle.client_core.specs.State.{Peer, State, change, changed, counted, opening, waiting, opened_at, peers_of, session_by, told_to}
use Rattle.client_core.specs.Deeds.{Texts, OnlyTold}
use Rattle.client_core.specs.Refusals.{IsRefusal}
use Rattle.client_core.specs.Asked.{IsRefused, Sits, Waits, Ends, AllEnd, AnswersCall, keyed_text}
use Rattle.client_core.proofs.Doing.{ends_keeps, all_end_keeps}
use Rattle.table_core.specs.Brings.{Brings}
use Rattle.table_core.specs.Objects.{HasOperation, SeatsAt, HasCalled}
use Rattle.table_core.specs.Parts.{Stays, HasMade, TellsTaken, TellsAll, SubmitsOr, MakesCall, AsksCall, UnderKey}
use Rattle.table_core.specs.Seen.{state_of}
use Rattle.table_core.proofs.Bringing.{brings_as, plainly}
use Rattle.table_core.proofs.Entering.{of, peers_are, objects_are}
use Rattle.table_core.proofs.Telling.{tells_none, tells_then}

-- it is refused
pub call_refused : (a b : Post) (old new : State) (place : ℕ) (key : Option ℕ) (name : List ℕ) (arguments : List Datum) (line : ReplyLine) → IsRefusal line →
    Brings (OnlyTold place (line_text line)) a old b new → Brings (AnswersCall place key name arguments) a old b new
call_refused a b old new place key name arguments line is brings =
    brings_as (OnlyTold place (line_text line)) (AnswersCall place key name arguments) a b old new (λ said added only. inr (inr (inl (plainly place line old new said added is only)))) brings

refuses_one : (old new : State) (said added : Texts) (place : ℕ) (key : Option ℕ) (name : List ℕ) (arguments : List Datum) (opened : OpenObject) →
    opened_at old place ≡ Some opened → (seat : OpenObject) (mid : State) → Sits place old opened seat mid → IsRefused place mid said added new →
    AnswersCall place key name arguments old said added new
refuses_one old new said added place key name arguments opened by seat mid (inl same) refused =
    inr (inr (inl (subst (λ (s : State). IsRefused place s said added new) same.1 refused)))
refuses_one old new said added place key name arguments opened by seat mid (inr gets) refused =
    inr (inr (inr (inl (record { opened = opened; by = by; seat = seat; mid = mid; gets = gets; refused = refused }))))

named_as : (object : Scene) (operation : Option ℕ) (asked : ℕ) (name : List ℕ) → operation ≡ Some asked →
    IfSome operation (λ o. operation_name (object_of object.hall.object) o ≡ name) → operation_name (object_of object.hall.object) asked ≡ name
named_as object operation asked name is named = subst (λ (o : Option ℕ). IfSome o (λ n. operation_name (object_of object.hall.object) n ≡ name)) is named

makes_plain : (old new : State) (said added : Texts) (place : ℕ) (operation : Option ℕ) (name : List ℕ) (arguments : List Datum) (opened : OpenObject) →
    opened_at old place ≡ Some opened → HasOperation old.objects opened.object operation name → AsksCall place opened operation arguments old said added new →
    AnswersCall place None name arguments old said added new
makes_plain old new said added place operation name arguments opened by has (inl (may, inl m)) = inl (record {
  opened = opened;
  by = by;
  object = has.object;
  there = has.there;
  operation = m.asked;
  named = named_as has.object operation m.asked name m.operation_is has.named;
  fresh = tt;
  may = may m.asked m.operation_is;
  seat = m.seat;
  mid = m.mid;
  sits = m.sits;
  submits = m.submits;
})
makes_plain old new said added place operation name arguments opened by has (inl (may, inr r)) =
    refuses_one old new said added place None name arguments opened by r.seat r.mid r.sits r.refused
makes_plain old new said added place operation name arguments opened by has (inr ((asked, is, may_not), inl only)) = inr (inr (inr (inr (record {
  opened = opened;
  by = by;
  object = has.object;
  there = has.there;
  operation = asked;
  named = named_as has.object operation asked name is has.named;
  fresh = tt;
  may_not = may_not;
  only = only;
}))))
makes_plain old new said added place operation name arguments opened by has (inr (not, inr refused)) = inr (inr (inl refused))

-- a call without a key is made, or refused
pub call_plain : (a b : Post) (old new : State) (place : ℕ) (operation : Option ℕ) (name : List ℕ) (arguments : List Datum) (opened : OpenObject) →
    Some opened ≡ opened_at old place → HasOperation old.objects opened.object operation name →
    Brings (AsksCall place opened operation arguments) a old b new → Brings (AnswersCall place None name arguments) a old b new
call_plain a b old new place operation name arguments opened by has brings =
    brings_as (AsksCall place opened operation arguments) (AnswersCall place None name arguments) a b old new
    (λ said added is. makes_plain old new said added place operation name arguments opened (sym by) has is) brings

makes_under : (old new : State) (said added : Texts) (place key : ℕ) (operation : Option ℕ) (name : List ℕ) (arguments : List Datum) (opened : OpenObject) →
    opened_at old place ≡ Some opened → HasOperation old.objects opened.object operation name →
    UnderKey place opened key operation arguments old said added new → AnswersCall place (Some key) name arguments old said added new
makes_under old new said added place key operation name arguments opened by has (inl (says, inl (may, inl m))) = inl (record {
  opened = opened;
  by = by;
  object = has.object;
  there = has.there;
  operation = m.asked;
  named = named_as has.object operation m.asked name m.operation_is has.named;
  fresh = subst (λ (o : Option ℕ). Says has.object (session_by opened) opened.calls key o arguments keys.New) m.operation_is (says has.object has.there);
  may = may m.asked m.operation_is;
  seat = m.seat;
  mid = m.mid;
  sits = m.sits;
  submits = m.submits;
})
makes_under old new said added place key operation name arguments opened by has (inl (says, inl (may, inr r))) =
    refuses_one old new said added place (Some key) name arguments opened by r.seat r.mid r.sits r.refused
makes_under old new said added place key operation name arguments opened by has (inl (says, inr ((asked, is, may_not), inl only))) = inr (inr (inr (inr (record {
  opened = opened;
  by = by;
  object = has.object;
  there = has.there;
  operation = asked;
  named = named_as has.object operation asked name is has.named;
  fresh = subst (λ (o : Option ℕ). Says has.object (session_by opened) opened.calls key o arguments keys.New) is (says has.object has.there);
  may_not = may_not;
  only = only;
}))))
makes_under old new said added place key operation name arguments opened by has (inl (says, inr (not, inr refused))) = inr (inr (inl refused))
makes_under old new said added place key operation name arguments opened by has (inr (inl (keyed, says, old_one, only))) = inr (inl (record {
  opened = opened;
  by = by;
  object = has.object;
  there = has.there;
  operation = operation;
  named = has.named;
  keyed = keyed;
  says = says has.object has.there;
  is_old = old_one;
  only = only;
}))
makes_under old new said added place key operation name arguments opened by has (inr (inr refused)) = inr (inr (inl refused))

-- a call under a key is made, or told again, or refused
pub call_keyed : (a b : Post) (old new : State) (place key : ℕ) (operation : Option ℕ) (name : List ℕ) (arguments : List Datum) (opened : OpenObject) →
    Some opened ≡ opened_at old place → HasOperation old.objects opened.object operation name →
    Brings (UnderKey place opened key operation arguments) a old b new → Brings (AnswersCall place (Some key) name arguments) a old b new
call_keyed a b old new place key operation name arguments opened by has brings =
    brings_as (UnderKey place opened key operation arguments) (AnswersCall place (Some key) name arguments) a b old new
    (λ said added is. makes_under old new said added place key operation name arguments opened (sym by) has is) brings

pub key_refused : (a b : Post) (old new : State) (place key : ℕ) (opened : OpenObject) (operation : Option ℕ) (arguments : List Datum) (line : ReplyLine) → IsRefusal line →
    Brings (OnlyTold place (line_text line)) a old b new → Brings (UnderKey place opened key operation arguments) a old b new
key_refused a b old new place key opened operation arguments line is brings =
    brings_as (OnlyTold place (line_text line)) (UnderKey place opened key operation arguments) a b old new (λ said added only. inr (inr (plainly place line old new said added is only))) brings

says_of : (objects : List Scene) (opened : OpenObject) (key : ℕ) (session : Option ℕ) (operation : Option ℕ) (arguments : List Datum) (keyed said : KeyState) →
    session ≡ session_by opened →
    ((object : Scene) → slice_get objects opened.object ≡ Some object → Says object session opened.calls key operation arguments keyed) → keyed ≡ said →
    (object : Scene) → slice_get objects opened.object ≡ Some object → Says object (session_by opened) opened.calls key operation arguments said
says_of objects opened key session operation arguments keyed said same says is object there =
    subst (λ (k : KeyState). Says object (session_by opened) opened.calls key operation arguments k) is
    (subst (λ (s : Option ℕ). Says object s opened.calls key operation arguments keyed) same (says object there))

pub key_new : (a b : Post) (old new : State) (place key : ℕ) (opened : OpenObject) (session : Option ℕ) (operation : Option ℕ) (arguments : List Datum) (keyed : KeyState) →
    session ≡ session_by opened →
    ((object : Scene) → slice_get old.objects opened.object ≡ Some object → Says object session opened.calls key operation arguments keyed) → keyed ≡ keys.New →
    Brings (AsksCall place opened operation arguments) a old b new → Brings (UnderKey place opened key operation arguments) a old b new
key_new a b old new place key opened session operation arguments keyed same says is brings =
    brings_as (AsksCall place opened operation arguments) (UnderKey place opened key operation arguments) a b old new
    (λ said added m. inl (says_of old.objects opened key session operation arguments keyed keys.New same says is, m)) brings

pub key_old : (a b : Post) (old new : State) (place key : ℕ) (opened : OpenObject) (session : Option ℕ) (operation : Option ℕ) (arguments : List Datum) (keyed : KeyState) →
    session ≡ session_by opened →
    ((object : Scene) → slice_get old.objects opened.object ≡ Some object → Says object session opened.calls key operation arguments keyed) →
    (keyed ≡ keys.New → ⊥) → Brings (OnlyTold place (keyed_text keyed)) a old b new → Brings (UnderKey place opened key operation arguments) a old b new
key_old a b old new place key opened session operation arguments keyed same says other brings =
    brings_as (OnlyTold place (keyed_text keyed)) (UnderKey place opened key operation arguments) a b old new
    (λ said added only. inr (inl (keyed, says_of old.objects opened key session operation arguments keyed keyed same says refl, other, only))) brings

-- behind a session that got its number
pub makes_refused : (a b c : Post) (old mid new : State) (place : ℕ) (opened seat : OpenObject) (operation : Option ℕ) (arguments : List Datum) →
    Tells a b [] [] → Sits place old opened seat mid → Brings (IsRefused place) b mid c new →
    Brings (MakesCall place opened operation arguments) a old c new
makes_refused a b c old mid new place opened seat operation arguments quiet sits brings = record {
  said = brings.said;
  added = brings.added;
  tells = tells_then a b c [] brings.said [] brings.added quiet brings.tells;
  is = inr (record { seat = seat; mid = mid; sits = sits; refused = brings.is });
}

submits_as : (old mid new : State) (said added : Texts) (place : ℕ) (opened seat : OpenObject) (operation : Option ℕ) (asked : ℕ) (arguments : List Datum) →
    Sits place old opened seat mid → operation ≡ Some asked → SubmitsOr place seat asked arguments mid said added new →
    MakesCall place opened operation arguments old said added new
submits_as old mid new said added place opened seat operation asked arguments sits is (inl s) =
    inl (record { seat = seat; mid = mid; sits = sits; asked = asked; operation_is = is; submits = s })
submits_as old mid new said added place opened seat operation asked arguments sits is (inr r) =
    inr (record { seat = seat; mid = mid; sits = sits; refused = r })

pub makes_it : (a b c : Post) (old mid new : State) (place : ℕ) (opened seat : OpenObject) (operation : Option ℕ) (asked : ℕ) (arguments : List Datum) →
    Tells a b [] [] → Sits place old opened seat mid → operation ≡ Some asked → Brings (SubmitsOr place seat asked arguments) b mid c new →
    Brings (MakesCall place opened operation arguments) a old c new
makes_it a b c old mid new place opened seat operation asked arguments quiet sits is brings = record {
  said = brings.said;
  added = brings.added;
  tells = tells_then a b c [] brings.said [] brings.added quiet brings.tells;
  is = submits_as old mid new brings.said brings.added place opened seat operation asked arguments sits is brings.is;
}

-- a session stays the same
pub sits_same : (place : ℕ) (old mid new : State) (opened seat : OpenObject) → Sits place old opened seat mid → new ≡ mid → Sits place old opened seat new
sits_same place old mid new opened seat sits same = subst (λ (s : State). Sits place old opened seat s) (sym same) sits

pub sits_from : (place : ℕ) (old mid new : State) (opened seat : OpenObject) → mid ≡ old → Sits place mid opened seat new → Sits place old opened seat new
sits_from place old mid new opened seat same sits = subst (λ (s : State). Sits place s opened seat new) same sits

pub gets_number : (custody : Custodies) (old new : List Scene) (clients clients_new : ClientPlaces) (place session : ℕ) (opened : OpenObject) → opened.session ≡ 0 →
    SeatsAt old opened.object session new → peers_of clients_new ≡ change (peers_of clients) place (opening (record opened { session = session })) →
    Sits place (state_of custody old clients) opened (record opened { session = session }) (state_of custody new clients_new)
gets_number custody old new clients clients_new place session opened unseated seats is = inr (record {
  none = unseated;
  object = seats.object;
  there = seats.there;
  session = session;
  free = seats.free;
  seat_is = refl;
  left = peers_are custody new clients_new (change (peers_of clients) place (opening (record opened { session = session }))) is
      ∙ objects_are custody (slice_set old opened.object (with_guests seats.object (with_seat seats.object.guests session Nameless))) new
      (change (peers_of clients) place (opening (record opened { session = session }))) seats.left;
})

pub err_sits : {A E : Type 0} (r : Result A E) (place : ℕ) (old : State) (opened seat : OpenObject) (new : State) → Sits place old opened seat new →
    OnErr r ((s : OpenObject) × Sits place old opened s new)
err_sits (Ok a) place old opened seat new sits = tt
err_sits (Err e) place old opened seat new sits = (seat, sits)

-- a call was made
pub makes_at : (custody : Custodies) (a b : Post) (old new : List Scene) (peers : List Peer) (seat : OpenObject) (operation : ℕ) (arguments : List Datum) (taken : Taken)
    (line bytes : List ℕ) → HasCalled old seat.object seat.session operation arguments taken line new → bytes ≡ line →
    Tells a b [] ((seat.object, bytes) ∷ []) → HasMade seat operation arguments taken a (of custody old peers) b (of custody new peers)
makes_at custody a b old new peers seat operation arguments taken line bytes has is tells = record {
  object = has.before;
  there = has.there;
  after = has.after;
  does = has.does;
  adds = record {
    tells = subst (λ (l : List ℕ). Tells a b [] ((seat.object, l) ∷ [])) (is ∙ has.told) tells;
    left = objects_are custody (slice_set old seat.object has.after) new peers has.left;
  };
}

pub submit_refused : (a b c : Post) (old mid new : State) (place : ℕ) (seat : OpenObject) (operation : ℕ) (arguments : List Datum) (line : ReplyLine) → IsRefusal line →
    Stays a old b mid → Brings (OnlyTold place (line_text line)) b mid c new → Brings (SubmitsOr place seat operation arguments) a old c new
submit_refused a b c old mid new place seat operation arguments line is stays brings =
    subst (λ (s : State). Brings (SubmitsOr place seat operation arguments) a s c new) stays.left (record {
      said = brings.said;
      added = brings.added;
      tells = tells_then a b c [] brings.said [] brings.added stays.tells brings.tells;
      is = inr (plainly place line mid new brings.said brings.added is brings.is);
    })

none_there : (x : Scene) → None ≡ Some x → ⊥
none_there x is = true≢false (sym (ap (λ (o : Option Scene). is_some o) is))

pub set_there : (xs : List Scene) (k : ℕ) (x y : Scene) → slice_get xs k ≡ Some x → slice_get (slice_set xs k y) k ≡ Some y
set_there [] k x y there = absurd (none_there x there)
set_there (z ∷ xs) zero x y there = refl
set_there (z ∷ xs) (suc k) x y there = set_there xs k x y there

pub submit_taken : (a b c : Post) (old mid new : State) (place : ℕ) (seat : OpenObject) (operation : ℕ) (arguments : List Datum) (taken : Taken) →
    HasMade seat operation arguments taken a old b mid →
    ((object : Scene) → slice_get mid.objects seat.object ≡ Some object → Brings (TellsAll place seat taken object) b mid c new) →
    Brings (SubmitsOr place seat operation arguments) a old c new
submit_taken a b c old mid new place seat operation arguments taken made tells =
    let there : slice_get mid.objects seat.object ≡ Some made.after =
    ap (λ (s : State). slice_get s.objects seat.object) made.adds.left ∙ set_there old.objects seat.object made.object made.after made.there in
    let brings : Brings (TellsAll place seat taken made.after) b mid c new = tells made.after there in
    let line : List ℕ = all_lines (object_of made.object.hall.object) taken.ran.items in
    record {
      said = brings.said;
      added = (seat.object, line) ∷ brings.added;
      tells = tells_then a b c [] brings.said ((seat.object, line) ∷ []) brings.added made.adds.tells brings.tells;
      is = inl (record {
        before = made.object;
        there = made.there;
        taken = taken;
        after = made.after;
        does = made.does;
        ended = brings.is.tells.ended;
        told = brings.is.tells.told ∙ ap (λ (s : State). told_to s.peers place (accepted_text (told_of made.after taken.number)) ++ brings.is.tells.ended) made.adds.left;
        lines = ap (λ l. (seat.object, line) ∷ l) brings.is.tells.lines;
        ends = subst (λ (s : State). AllEnd seat.object made.after taken.ran.items (changed s place (opening (counted (told_of made.after taken.number) seat))) brings.is.tells.ended [] brings.is.mid) made.adds.left brings.is.tells.ends;
        mid = brings.is.mid;
        follows = brings.is.follows;
      });
    }

-- it is told, and all that ran
pub taken_by : (custody : Custodies) (a b c : Post) (objects : List Scene) (old mid : ClientPlaces) (new : State) (place told : ℕ) (seat : OpenObject) (taken : Taken) (object : Scene) →
    told ≡ told_of object taken.number → Tells a b (told_to (peers_of old) place (accepted_text told)) [] →
    peers_of mid ≡ change (peers_of old) place (opening (counted told seat)) →
    Brings (AllEnd seat.object object taken.ran.items) b (state_of custody objects mid) c new → Brings (TellsTaken place seat taken object) a (state_of custody objects old) c new
taken_by custody a b c objects old mid new place told seat taken object is tells peers brings =
    let none : brings.added ≡ [] = (all_end_keeps seat.object object taken.ran.items (state_of custody objects mid) new brings.said brings.added brings.is).1 in
    let text : List ℕ → Texts = λ l. told_to (peers_of old) place l in
    record {
      said = text (accepted_text told) ++ brings.said;
      added = brings.added;
      tells = tells_then a b c (text (accepted_text told)) brings.said [] brings.added tells brings.tells;
      is = record {
        ended = brings.said;
        told = ap (λ n. text (accepted_text n) ++ brings.said) is;
        lines = none;
        ends = subst (λ (l : Texts). AllEnd seat.object object taken.ran.items (of custody objects (change (peers_of old) place (opening (counted (told_of object taken.number) seat)))) brings.said l new) none
            (subst (λ (s : State). AllEnd seat.object object taken.ran.items s brings.said brings.added new)
            (peers_are custody objects mid (change (peers_of old) place (opening (counted (told_of object taken.number) seat))) (peers ∙ ap (λ n. change (peers_of old) place (opening (counted n seat))) is)) brings.is);
      };
    }

no_length : (n : ℕ) → suc n ≡ 0 → ⊥
no_length n is = omega (arith, is)

pub none_end : (a : Post) (s : State) (at : ℕ) (object : Scene) (all : List Ran) → length all ≡ 0 → Brings (AllEnd at object all) a s a s
none_end a s at object [] is = record { said = []; added = []; tells = tells_none a; is = record { told = refl; lines = refl; left = refl } }
none_end a s at object (r ∷ all) is = absurd (no_length (length all) is)

pub one_ends : (a b c : Post) (old mid new : State) (at : ℕ) (object : Scene) (all : List Ran) (r : Ran) (rest : List Ran) → all ≡ r ∷ rest →
    Brings (Ends at r.call.session (told_of object r.call.number) (ended_text (told_of object r.call.number) r.reply)) a old b mid → Brings (AllEnd at object rest) b mid c new →
    Brings (AllEnd at object all) a old c new
one_ends a b c old mid new at object all r rest is one more =
    let none : one.added ≡ [] =
    (ends_keeps at r.call.session (told_of object r.call.number) (ended_text (told_of object r.call.number) r.reply) old mid one.said one.added one.is).1 in
    let first : Ends at r.call.session (told_of object r.call.number) (ended_text (told_of object r.call.number) r.reply) old one.said [] mid =
    subst (λ (l : Texts). Ends at r.call.session (told_of object r.call.number) (ended_text (told_of object r.call.number) r.reply) old one.said l mid) none one.is in
    subst (λ (l : List Ran). Brings (AllEnd at object l) a old c new) (sym is) (record {
      said = one.said ++ more.said;
      added = more.added;
      tells = subst (λ (l : Texts). Tells a c (one.said ++ more.said) (l ++ more.added)) none
          (tells_then a b c one.said more.said one.added more.added one.tells more.tells);
      is = (mid, one.said, more.said, refl, first, more.is);
    })

-- the one whose call has ended is told so, and waits no more; or nobody
pub ends_at : (custody : Custodies) (a b : Post) (objects : List Scene) (old new : ClientPlaces) (at session number place : ℕ) (text shown : List ℕ) →
    ((kept : Custodies) (os : List Scene) → Waits at session number (state_of kept os old) place) → shown ≡ text → Tells a b (told_to (peers_of old) place shown) [] →
    peers_of new ≡ change (peers_of old) place (waiting false) → Brings (Ends at session number text) a (state_of custody objects old) b (state_of custody objects new)
ends_at custody a b objects old new at session number place text shown waits is tells peers = record {
  said = told_to (peers_of old) place text;
  added = [];
  tells = subst (λ l. Tells a b (told_to (peers_of old) place l) []) is tells;
  is = inl (
    place,
    record {
      waits = waits custody objects;
      told = refl;
      lines = refl;
      left = peers_are custody objects new (change (peers_of old) place (waiting false)) peers;
    },
  );
}

pub ends_nowhere : (custody : Custodies) (a : Post) (objects : List Scene) (old : ClientPlaces) (at session number : ℕ) (text : List ℕ) →
    ((kept : Custodies) (os : List Scene) (place : ℕ) → Waits at session number (state_of kept os old) place → ⊥) → Brings (Ends at session number text) a (state_of custody objects old) a (state_of custody objects old)
ends_nowhere custody a objects old at session number text none = record {
  said = [];
  added = [];
  tells = tells_none a;
  is = inr (none custody objects, record { told = refl; lines = refl; left = refl });
}

pub ends_nowhere_as : (custody : Custodies) (a : Post) (objects : List Scene) (old : ClientPlaces) (at session found number told : ℕ) (text : List ℕ) → found ≡ session → told ≡ number →
    ((kept : Custodies) (os : List Scene) (place : ℕ) → Waits at found told (state_of kept os old) place → ⊥) →
    Brings (Ends at session number text) a (state_of custody objects old) a (state_of custody objects old)
ends_nowhere_as custody a objects old at session found number told text one two none =
    subst (λ n. Brings (Ends at n number text) a (state_of custody objects old) a (state_of custody objects old)) one
    (subst (λ n. Brings (Ends at found n text) a (state_of custody objects old) a (state_of custody objects old)) two (ends_nowhere custody a objects old at found told text none))
