-- What a crash may leave of a file that keeps each call.
use Rattle.std.proofs.Common.{◌≡◌, ◌⊎◌, Vec, Option, None, Some, set, get_or, ◌+◌, inl, inr, ⊎_elim, ℕ, zero, suc, ◌≤◌, List, [], ◌∷◌, ◌++◌, length, take, refl, sym, ◌∙◌, ap, subst, arith, length-append}
use Rattle.std.proofs.Math.Seq.{take-length}
use Rattle.std.proofs.lemmas.List.{take-append-le}
use Rattle.std.specs.declared.alloc.Global.{Global}
use Rattle.keep_loop.specs.Device.{IsTorn, Writes, with_bytes, Elapses}
use Rattle.keep_loop.proofs.Lines.{torn_old, torn_new, length-with_bytes}
use Rattle.crash_trial.specs.declared.device.Happened.{Happened}
use Rattle.crash_trial.specs.declared.device.Happened.TheVariants.{Wrote, Stored, Replaced, Refused}
use Rattle.crash_trial.specs.Kept.{read_behind, Leaves, MayLeave, LeftSince}

-- one call more
pub elapses : (file : List ℕ) (happened : List Happened) (h : Happened) →
    Elapses (length happened) (length (happened ++ h ∷ [])) (LeftSince file happened) (LeftSince file (happened ++ h ∷ []))
    (MayLeave file (happened ++ h ∷ []))
elapses file happened h = record {
  later = omega (arith, length-append happened (h ∷ []));
  nothing_else = nothing_else;
  keeps = λ t c le past. record {
    moment = past.moment;
    since = past.since;
    been = omega (arith, past.been, length-append happened (h ∷ []));
    left = subst (λ (l : List Happened). MayLeave file l c) (sym (take-append-le past.moment happened (h ∷ []) past.been)) past.left;
  };
}
  where
    nothing_else : (t : ℕ) (c : List ℕ) → t ≤ length happened → LeftSince file (happened ++ h ∷ []) t c → LeftSince file happened t c ⊎ MayLeave file (happened ++ h ∷ []) c
    nothing_else t c le since = ⊎_elim before now (split since.moment (length happened))
      where
        split : (n m : ℕ) → (n ≤ m) ⊎ (suc m ≤ n)
        split zero m = inl (omega arith)
        split (suc n) zero = inr (omega arith)
        split (suc n) (suc m) = ⊎_elim (λ le. inl (omega (arith, le))) (λ ge. inr (omega (arith, ge))) (split n m)

        before : since.moment ≤ length happened → LeftSince file happened t c ⊎ MayLeave file (happened ++ h ∷ []) c
        before le = inl (record {
          moment = since.moment;
          since = since.since;
          been = le;
          left = subst (λ (l : List Happened). MayLeave file l c) (take-append-le since.moment happened (h ∷ []) le) since.left;
        })

        now : suc (length happened) ≤ since.moment → LeftSince file happened t c ⊎ MayLeave file (happened ++ h ∷ []) c
        now ge = let all : since.moment ≡ length (happened ++ h ∷ []) = omega (arith, ge, since.been, length-append happened (h ∷ [])) in
            inr (subst (λ (l : List Happened). MayLeave file l c) (ap (λ (n : ℕ). take n (happened ++ h ∷ [])) all ∙ take-length (happened ++ h ∷ [])) since.left)

pub elapses_to : (file : List ℕ) (happened later : List Happened) (h : Happened) → later ≡ happened ++ h ∷ [] →
    Elapses (length happened) (length later) (LeftSince file happened) (LeftSince file later) (MayLeave file later)
elapses_to file happened later h same =
    subst (λ (l : List Happened). Elapses (length happened) (length l) (LeftSince file happened) (LeftSince file l) (MayLeave file l)) (sym same) (elapses file happened h)

pub elapses_same : (file : List ℕ) (happened : List Happened) →
    Elapses (length happened) (length happened) (LeftSince file happened) (LeftSince file happened) (MayLeave file happened)
elapses_same file happened = record { later = omega arith; nothing_else = λ t c le left. inl left; keeps = λ t c le left. left }

pub read_wrote : (file : List ℕ) (happened : List Happened) (at : ℕ) (bytes : Vec ℕ Global) →
    read_behind file (happened ++ Wrote at bytes ∷ []) ≡ with_bytes at bytes.items (read_behind file happened)
read_wrote file [] at bytes = refl
read_wrote file (Wrote a b ∷ happened) at bytes = read_wrote (with_bytes a b.items file) happened at bytes
read_wrote file (Stored ∷ happened) at bytes = read_wrote file happened at bytes
read_wrote file (Replaced b ∷ happened) at bytes = read_wrote b.items happened at bytes
read_wrote file (Refused ∷ happened) at bytes = read_wrote file happened at bytes

pub read_stored : (file : List ℕ) (happened : List Happened) → read_behind file (happened ++ Stored ∷ []) ≡ read_behind file happened
read_stored file [] = refl
read_stored file (Wrote a b ∷ happened) = read_stored (with_bytes a b.items file) happened
read_stored file (Stored ∷ happened) = read_stored file happened
read_stored file (Replaced b ∷ happened) = read_stored b.items happened
read_stored file (Refused ∷ happened) = read_stored file happened

pub read_refused : (file : List ℕ) (happened : List Happened) → read_behind file (happened ++ Refused ∷ []) ≡ read_behind file happened
read_refused file [] = refl
read_refused file (Wrote a b ∷ happened) = read_refused (with_bytes a b.items file) happened
read_refused file (Stored ∷ happened) = read_refused file happened
read_refused file (Replaced b ∷ happened) = read_refused b.items happened
read_refused file (Refused ∷ happened) = read_refused file happened

pub read_replaced : (file : List ℕ) (happened : List Happened) (bytes : Vec ℕ Global) →
    read_behind file (happened ++ Replaced bytes ∷ []) ≡ bytes.items
read_replaced file [] bytes = refl
read_replaced file (Wrote a b ∷ happened) bytes = read_replaced (with_bytes a b.items file) happened bytes
read_replaced file (Stored ∷ happened) bytes = read_replaced file happened bytes
read_replaced file (Replaced b ∷ happened) bytes = read_replaced b.items happened bytes
read_replaced file (Refused ∷ happened) bytes = read_replaced file happened bytes

leaves_wrote : (file left : List ℕ) (happened : List Happened) (at : ℕ) (bytes : Vec ℕ Global) (c : List ℕ) →
    Leaves file left (happened ++ Wrote at bytes ∷ []) c → (d : List ℕ) × Leaves file left happened d × IsTorn d (with_bytes at bytes.items d) c
leaves_wrote file left [] at bytes c (fits, torn, is, same) = (left, refl, subst (IsTorn left (with_bytes at bytes.items left)) (sym same) is)
leaves_wrote file left (Wrote a b ∷ happened) at bytes c (fits, torn, is, rest) =
    let found = leaves_wrote (with_bytes a b.items file) torn happened at bytes c rest in (found.0, (fits, torn, is, found.1), found.2)
leaves_wrote file left (Stored ∷ happened) at bytes c left_is = leaves_wrote file file happened at bytes c left_is
leaves_wrote file left (Replaced b ∷ happened) at bytes c left_is = leaves_wrote b.items b.items happened at bytes c left_is
leaves_wrote file left (Refused ∷ happened) at bytes c left_is = leaves_wrote file left happened at bytes c left_is

leaves_stored : (file left : List ℕ) (happened : List Happened) (c : List ℕ) → Leaves file left (happened ++ Stored ∷ []) c → c ≡ read_behind file happened
leaves_stored file left [] c is = is
leaves_stored file left (Wrote a b ∷ happened) c (fits, torn, is, rest) = leaves_stored (with_bytes a b.items file) torn happened c rest
leaves_stored file left (Stored ∷ happened) c is = leaves_stored file file happened c is
leaves_stored file left (Replaced b ∷ happened) c is = leaves_stored b.items b.items happened c is
leaves_stored file left (Refused ∷ happened) c is = leaves_stored file left happened c is

leaves_replaced : (file left : List ℕ) (happened : List Happened) (bytes : Vec ℕ Global) (c : List ℕ) → Leaves file left (happened ++ Replaced bytes ∷ []) c → c ≡ bytes.items
leaves_replaced file left [] bytes c is = is
leaves_replaced file left (Wrote a b ∷ happened) bytes c (fits, torn, is, rest) = leaves_replaced (with_bytes a b.items file) torn happened bytes c rest
leaves_replaced file left (Stored ∷ happened) bytes c is = leaves_replaced file file happened bytes c is
leaves_replaced file left (Replaced b ∷ happened) bytes c is = leaves_replaced b.items b.items happened bytes c is
leaves_replaced file left (Refused ∷ happened) bytes c is = leaves_replaced file left happened bytes c is

leaves_refused : (file left : List ℕ) (happened : List Happened) (c : List ℕ) → Leaves file left (happened ++ Refused ∷ []) c → Leaves file left happened c
leaves_refused file left [] c is = is
leaves_refused file left (Wrote a b ∷ happened) c (fits, torn, is, rest) = (fits, torn, is, leaves_refused (with_bytes a b.items file) torn happened c rest)
leaves_refused file left (Stored ∷ happened) c is = leaves_refused file file happened c is
leaves_refused file left (Replaced b ∷ happened) c is = leaves_refused b.items b.items happened c is
leaves_refused file left (Refused ∷ happened) c is = leaves_refused file left happened c is

-- two that are the same have the same in them
pub in_some : {a b : List ℕ} → Some a ≡ Some b → a ≡ b
in_some same = ap (λ o. value_of o) same
  where
    value_of : Option (List ℕ) → List ℕ
    value_of None = []
    value_of (Some x) = x

-- one byte more is as it was
pub torn_back : (old new c : List ℕ) (i d : ℕ) → IsTorn old new c → IsTorn old new (set c i (get_or old i d))
torn_back [] [] [] i d torn = tt
torn_back [] [] (is ∷ c) i d torn = absurd torn
torn_back [] (b ∷ new) c i d torn = absurd torn
torn_back (a ∷ old) [] c i d torn = absurd torn
torn_back (a ∷ old) (b ∷ new) [] i d torn = absurd torn
torn_back (a ∷ old) (b ∷ new) (is ∷ c) zero d torn = (inl refl, torn.1)
torn_back (a ∷ old) (b ∷ new) (is ∷ c) (suc i) d torn = (torn.0, torn_back old new c i d torn.1)

torn_length : (old new c : List ℕ) → IsTorn old new c → length c ≡ length old
torn_length [] [] [] torn = refl
torn_length [] [] (is ∷ c) torn = absurd torn
torn_length [] (b ∷ new) c torn = absurd torn
torn_length (a ∷ old) [] c torn = absurd torn
torn_length (a ∷ old) (b ∷ new) [] torn = absurd torn
torn_length (a ∷ old) (b ∷ new) (is ∷ c) torn = ap suc (torn_length old new c torn.1)

leaves_length : (file left : List ℕ) (happened : List Happened) (c : List ℕ) → length left ≡ length file → Leaves file left happened c →
    length c ≡ length (read_behind file happened)
leaves_length file left [] c same is = ap length is ∙ same
leaves_length file left (Wrote a b ∷ happened) c same (fits, torn, is, rest) =
    leaves_length (with_bytes a b.items file) torn happened c
    (torn_length left (with_bytes a b.items left) torn is ∙ same ∙ length-with_bytes a b.items file fits) rest
leaves_length file left (Stored ∷ happened) c same is = leaves_length file file happened c refl is
leaves_length file left (Replaced b ∷ happened) c same is = leaves_length b.items b.items happened c refl is
leaves_length file left (Refused ∷ happened) c same is = leaves_length file left happened c same is

may_length : (file : List ℕ) (happened : List Happened) (c : List ℕ) → MayLeave file happened c → length c ≡ length (read_behind file happened)
may_length file happened c (inl read) = ap length read
may_length file happened c (inr torn) = leaves_length file file happened c refl torn

-- what a crash leaves behind one call more
pub may_wrote : (file : List ℕ) (happened later : List Happened) (at : ℕ) (bytes : Vec ℕ Global) → later ≡ happened ++ Wrote at bytes ∷ [] →
    at + length bytes.items ≤ length (read_behind file happened) → Writes at bytes.items (MayLeave file happened) (MayLeave file later)
may_wrote file happened later at bytes same fits c left = of (subst (λ (l : List Happened). MayLeave file l c) same left)
  where
    of : MayLeave file (happened ++ Wrote at bytes ∷ []) c → (d : List ℕ) × MayLeave file happened d × IsTorn d (with_bytes at bytes.items d) c
    of (inl read) =
        let was = read_behind file happened in (
          was,
          inl refl,
          subst (IsTorn was (with_bytes at bytes.items was)) (sym (read ∙ read_wrote file happened at bytes))
              (torn_new was (with_bytes at bytes.items was) (length-with_bytes at bytes.items was fits)),
        )
    of (inr torn) = let found = leaves_wrote file file happened at bytes c torn in (found.0, inr found.1, found.2)

-- nothing was written: as a write that left each byte as it was
pub may_not_write : (file : List ℕ) (happened later : List Happened) (at : ℕ) (bytes : List ℕ) → later ≡ happened →
    at + length bytes ≤ length (read_behind file happened) → Writes at bytes (MayLeave file happened) (MayLeave file later)
may_not_write file happened later at bytes same fits c left =
    let before = subst (λ (l : List Happened). MayLeave file l c) same left in
    (c, before, torn_old c (with_bytes at bytes c) (length-with_bytes at bytes c (omega (arith, fits, may_length file happened c before))))

pub may_stored : (file : List ℕ) (happened later : List Happened) → later ≡ happened ++ Stored ∷ [] → (c : List ℕ) → MayLeave file later c → c ≡ read_behind file happened
may_stored file happened later same c left = of (subst (λ (l : List Happened). MayLeave file l c) same left)
  where
    of : MayLeave file (happened ++ Stored ∷ []) c → c ≡ read_behind file happened
    of (inl read) = read ∙ read_stored file happened
    of (inr torn) = leaves_stored file file happened c torn

pub may_replaced : (file : List ℕ) (happened later : List Happened) (bytes : Vec ℕ Global) → later ≡ happened ++ Replaced bytes ∷ [] → (c : List ℕ) → MayLeave file later c → c ≡ bytes.items
may_replaced file happened later bytes same c left = of (subst (λ (l : List Happened). MayLeave file l c) same left)
  where
    of : MayLeave file (happened ++ Replaced bytes ∷ []) c → c ≡ bytes.items
    of (inl read) = read ∙ read_replaced file happened bytes
    of (inr torn) = leaves_replaced file file happened bytes c torn

-- the file could not be begun anew: it is as it was
pub may_refused : (file : List ℕ) (happened later : List Happened) → later ≡ happened ++ Refused ∷ [] → (c : List ℕ) → MayLeave file later c → MayLeave file happened c
may_refused file happened later same c left = of (subst (λ (l : List Happened). MayLeave file l c) same left)
  where
    of : MayLeave file (happened ++ Refused ∷ []) c → MayLeave file happened c
    of (inl read) = inl (read ∙ read_refused file happened)
    of (inr torn) = inr (leaves_refused file file happened c torn)
