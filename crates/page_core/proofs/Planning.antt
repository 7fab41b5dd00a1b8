-- Plans for a part, page by page.
use Rattle.std.proofs.Common.{◌≡◌, ◌≢◌, ℕ, ◌+◌, ◌<◌, min, List, [], ◌∷◌, ◌++◌, length, map, take, drop, refl, sym, ap, ◌∙◌, subst, arith, append_assoc, length-append}
use Rattle.std.specs.Prelude.{Result, Ok, Err, OnOk}
use Rattle.std.specs.declared.alloc.AllocError.{AllocError}
use Rattle.std.specs.List.{concat}
use Rattle.std.specs.Prelude.{Bool, true, false, ◌==◌}
use Rattle.std.proofs.lemmas.Bool.{eqb-true, eqb-false}
use Rattle.std.proofs.lemmas.List.{append-nil, length_push}
use Rattle.device_core.specs.declared.hand.Stamp.{Stamp}
use Rattle.page_core.specs.declared.plan.PageWrite.{PageWrite}
use Rattle.page_core.specs.Bytes.{AreCutBy, split_by}
use Rattle.page_core.specs.Cut.{AreFull, lengths}
use Rattle.page_core.specs.Plans.{Plans, ends, keeps, replaces, adds, IsPlan}

-- what holds where a call went well
pub ok_then : {P Q : Type 0} (r : Result (Unit {0}) AllocError) → (P → Q) → OnOk r P → OnOk r Q
ok_then (Ok u) f h = f h
ok_then (Err e) f h = tt

-- a length that was tested is none, or there is a byte
pub is_none : (n : ℕ) (b : Bool) → b ≡ (n == 0) → b ≡ true → n ≡ 0
is_none n b is so = eqb-true n 0 (sym is ∙ so)

pub is_some : (n : ℕ) (b : Bool) → b ≡ (n == 0) → b ≡ false → 0 < n
is_some n b is so =
    let other : n ≡ 0 → ⊥ = eqb-false n 0 (sym is ∙ so) in
    omega (arith, other)

-- no bytes have no pages
pub cut_none : (size : ℕ) (after : List ℕ) → length after ≡ 0 → AreCutBy size after []
cut_none size [] is = record { whole = refl; full = tt }
cut_none size (x ∷ xs) is = absurd (omega (arith, is))

-- the first page of some is not empty
first_long : (size : ℕ) (page : List ℕ) (pages : List (List ℕ)) → 0 < size → AreFull size (map length (page ∷ pages)) → 0 < length page
first_long size page [] long full = full.0.0
first_long size page (next ∷ more) long full = omega (arith, long, full.0)

-- one page more in front
pub cut_more : (size : ℕ) (after page rest : List ℕ) (pages : List (List ℕ)) → 0 < size → 0 < length after → after ≡ page ++ rest → length page ≡ min size (length after) → AreCutBy size rest pages → AreCutBy size after (page ∷ pages)
cut_more size after page rest [] long some is len cut = record {
  whole = ap (λ r. page ++ r) cut.whole ∙ sym is;
  full = ((omega (arith, len, long, some), omega (arith, len)), tt);
}
cut_more size after page rest (next ∷ more) long some is len cut = record {
  whole = ap (λ r. page ++ r) cut.whole ∙ sym is;
  full = (full, cut.full);
} where
  behind : 0 < length rest
  behind = omega (arith, first_long size next more long cut.full, ap length cut.whole, length-append next (concat more))

  full : length page ≡ size
  full = omega (arith, len, behind, ap length is, length-append page rest)

module _ (size : ℕ) (before after page rest : List ℕ) (long : 0 < size) (some : 0 < length after) (is : after ≡ page ++ rest) (len : length page ≡ min size (length after)) where
  -- a page that is as it was
  pub plan_keeps : (stamp : Stamp) (olds : List Stamp) (was later : List ℕ) (stamps stamps1 stamps2 : List Stamp) (writes writes2 : List PageWrite) (gone gone2 : List Stamp)
      → was ≡ take stamp.len before → later ≡ drop stamp.len before → was ≡ page → stamps1 ≡ stamps ++ stamp ∷ []
      → IsPlan size olds later rest stamps1 stamps2 writes writes2 gone gone2 → IsPlan size (stamp ∷ olds) before after stamps stamps2 writes writes2 gone gone2
  plan_keeps stamp olds was later stamps stamps1 stamps2 writes writes2 gone gone2 was_is later_is same stamps_is p = record {
    pages = page ∷ p.pages;
    cut = cut_more size after page rest p.pages long some is len p.cut;
    more_stamps = stamp ∷ p.more_stamps;
    more_writes = p.more_writes;
    more_gone = p.more_gone;
    stamps_are = p.stamps_are ∙ ap (λ (s : List Stamp). s ++ p.more_stamps) stamps_is ∙ append_assoc stamps (stamp ∷ []) p.more_stamps;
    writes_are = p.writes_are;
    gone_are = p.gone_are;
    plans = plans;
  } where
    there : length stamps1 ≡ length stamps + 1
    there = omega (arith, ap length stamps_is, length_push stamps stamp)

    plans : Plans (length stamps) (stamp ∷ olds) (split_by (lengths (stamp ∷ olds)) before) (page ∷ p.pages) (stamp ∷ p.more_stamps) p.more_writes p.more_gone
    plans = subst (λ b. Plans (length stamps) (stamp ∷ olds) (b ∷ split_by (lengths olds) (drop stamp.len before)) (page ∷ p.pages) (stamp ∷ p.more_stamps) p.more_writes p.more_gone) (sym same ∙ was_is)
        (subst (λ l. Plans (length stamps) (stamp ∷ olds) (page ∷ split_by (lengths olds) l) (page ∷ p.pages) (stamp ∷ p.more_stamps) p.more_writes p.more_gone) later_is
        (keeps stamp page (subst (λ n. Plans n olds (split_by (lengths olds) later) p.pages p.more_stamps p.more_writes p.more_gone) there p.plans)))

  -- a page that differs
  pub plan_replaces : (stamp new : Stamp) (olds : List Stamp) (was later : List ℕ) (write : PageWrite) (stamps stamps1 stamps2 : List Stamp) (writes writes1 writes2 : List PageWrite) (gone gone1 gone2 : List Stamp)
      → was ≡ take stamp.len before → later ≡ drop stamp.len before → was ≢ page → write.place ≡ length stamps → write.bytes ≡ page
      → stamps1 ≡ stamps ++ new ∷ [] → writes1 ≡ writes ++ write ∷ [] → gone1 ≡ gone ++ stamp ∷ []
      → IsPlan size olds later rest stamps1 stamps2 writes1 writes2 gone1 gone2 → IsPlan size (stamp ∷ olds) before after stamps stamps2 writes writes2 gone gone2
  plan_replaces stamp new olds was later write stamps stamps1 stamps2 writes writes1 writes2 gone gone1 gone2 was_is later_is other place bytes stamps_is writes_is gone_is p = record {
    pages = page ∷ p.pages;
    cut = cut_more size after page rest p.pages long some is len p.cut;
    more_stamps = new ∷ p.more_stamps;
    more_writes = write ∷ p.more_writes;
    more_gone = stamp ∷ p.more_gone;
    stamps_are = p.stamps_are ∙ ap (λ (s : List Stamp). s ++ p.more_stamps) stamps_is ∙ append_assoc stamps (new ∷ []) p.more_stamps;
    writes_are = p.writes_are ∙ ap (λ (s : List PageWrite). s ++ p.more_writes) writes_is ∙ append_assoc writes (write ∷ []) p.more_writes;
    gone_are = p.gone_are ∙ ap (λ (s : List Stamp). s ++ p.more_gone) gone_is ∙ append_assoc gone (stamp ∷ []) p.more_gone;
    plans = plans;
  } where
    there : length stamps1 ≡ length stamps + 1
    there = omega (arith, ap length stamps_is, length_push stamps new)

    plans : Plans (length stamps) (stamp ∷ olds) (split_by (lengths (stamp ∷ olds)) before) (page ∷ p.pages) (new ∷ p.more_stamps) (write ∷ p.more_writes) (stamp ∷ p.more_gone)
    plans = subst (λ b. Plans (length stamps) (stamp ∷ olds) (b ∷ split_by (lengths olds) (drop stamp.len before)) (page ∷ p.pages) (new ∷ p.more_stamps) (write ∷ p.more_writes) (stamp ∷ p.more_gone)) was_is
        (subst (λ l. Plans (length stamps) (stamp ∷ olds) (was ∷ split_by (lengths olds) l) (page ∷ p.pages) (new ∷ p.more_stamps) (write ∷ p.more_writes) (stamp ∷ p.more_gone)) later_is
        (replaces stamp new was page write p.more_writes other place bytes (subst (λ n. Plans n olds (split_by (lengths olds) later) p.pages p.more_stamps p.more_writes p.more_gone) there p.plans)))

  -- a page where there was none
  pub plan_adds : (new : Stamp) (write : PageWrite) (stamps stamps1 stamps2 : List Stamp) (writes writes1 writes2 : List PageWrite) (gone gone2 : List Stamp)
      → write.place ≡ length stamps → write.bytes ≡ page → stamps1 ≡ stamps ++ new ∷ [] → writes1 ≡ writes ++ write ∷ []
      → IsPlan size [] before rest stamps1 stamps2 writes1 writes2 gone gone2 → IsPlan size [] before after stamps stamps2 writes writes2 gone gone2
  plan_adds new write stamps stamps1 stamps2 writes writes1 writes2 gone gone2 place bytes stamps_is writes_is p = record {
    pages = page ∷ p.pages;
    cut = cut_more size after page rest p.pages long some is len p.cut;
    more_stamps = new ∷ p.more_stamps;
    more_writes = write ∷ p.more_writes;
    more_gone = p.more_gone;
    stamps_are = p.stamps_are ∙ ap (λ (s : List Stamp). s ++ p.more_stamps) stamps_is ∙ append_assoc stamps (new ∷ []) p.more_stamps;
    writes_are = p.writes_are ∙ ap (λ (s : List PageWrite). s ++ p.more_writes) writes_is ∙ append_assoc writes (write ∷ []) p.more_writes;
    gone_are = p.gone_are;
    plans = adds new page write p.more_writes place bytes (subst (λ n. Plans n [] [] p.pages p.more_stamps p.more_writes p.more_gone) there p.plans);
  } where
    there : length stamps1 ≡ length stamps + 1
    there = omega (arith, ap length stamps_is, length_push stamps new)

-- no further page
pub plan_ends : (size : ℕ) (olds : List Stamp) (before after : List ℕ) (stamps : List Stamp) (writes : List PageWrite) (gone gone2 : List Stamp) → length after ≡ 0 → gone2 ≡ gone ++ olds → IsPlan size olds before after stamps stamps writes writes gone gone2
plan_ends size olds before after stamps writes gone gone2 none is = record {
  pages = [];
  cut = cut_none size after none;
  more_stamps = [];
  more_writes = [];
  more_gone = olds;
  stamps_are = sym (append-nil stamps);
  writes_are = sym (append-nil writes);
  gone_are = is;
  plans = ends;
}
