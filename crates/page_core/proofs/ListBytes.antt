-- The bytes of page lists, page by page.
use Rattle.std.proofs.Common.{◌≡◌, ℕ, List, [], ◌∷◌, ◌++◌, length, take, drop, Option, Some, None, refl, sym, ap, ◌∙◌, subst, arith, length-take}
use Rattle.std.specs.List.{concat}
use Rattle.std.proofs.lemmas.List.{take_all, take_at, drop_at}
use Rattle.device_core.specs.declared.hand.Stamp.{Stamp}
use Rattle.device_core.specs.Device.{Assignment, Holds, bytes_of, front_of}
use Rattle.page_core.specs.Cut.{lengths}
use Rattle.page_core.specs.Bytes.{one_behind, list_bytes, AreWhole, IsPage, ArePages, split_by}

pub some_same : {X : Type 0} {x y : X} → Some x ≡ Some y → x ≡ y
some_same {X} {x} e = ap (λ o. get_else x o) e where
  get_else : X → Option X → X
  get_else d None = d
  get_else d (Some x) = x

-- what was sealed is a page
pub holds_page : (a : Assignment) (stamp : Stamp) (bytes : List ℕ) → Holds a stamp bytes → IsPage a stamp bytes
holds_page a stamp bytes holds = record {
  whole = record { file = bytes; assigned = holds.assigned; long = omega (arith, holds.len) };
  there = ap (front_of stamp.len) holds.assigned ∙ ap Some (take_all stamp.len bytes (omega (arith, holds.len)));
}

-- the bytes of a page are as many as its stamp says
pub page_long : (a : Assignment) (stamp : Stamp) (bytes : List ℕ) → IsPage a stamp bytes → length bytes ≡ stamp.len
page_long a stamp bytes page =
    let is : take stamp.len page.whole.file ≡ bytes = some_same (sym (ap (front_of stamp.len) page.whole.assigned) ∙ page.there) in
    omega (arith, ap length (sym is), length-take stamp.len page.whole.file, page.whole.long)

-- pages, one behind the other, are the bytes of their list, and the list is whole
pub pages_bytes : (a : Assignment) (stamps : List Stamp) (pages : List (List ℕ)) → ArePages a stamps pages → (list_bytes a stamps ≡ Some (concat pages)) × AreWhole a stamps
pages_bytes a [] [] are = (refl, tt)
pages_bytes a [] (bytes ∷ rest) are = absurd are
pages_bytes a (stamp ∷ more) [] are = absurd are
pages_bytes a (stamp ∷ more) (bytes ∷ rest) are =
    let behind = pages_bytes a more rest are.1 in
    (ap (λ o. one_behind o (list_bytes a more)) are.0.there ∙ ap (one_behind (Some bytes)) behind.0, (are.0.whole, behind.1))

-- one page more in front
pub page_more : (a : Assignment) (pages more : List Stamp) (page : Stamp) (bytes rest : List ℕ) → pages ≡ page ∷ more → IsPage a page bytes → (list_bytes a more ≡ Some rest) × AreWhole a more → (list_bytes a pages ≡ Some (bytes ++ rest)) × AreWhole a pages
page_more a pages more page bytes rest first is behind =
    subst (λ (l : List Stamp). (list_bytes a l ≡ Some (bytes ++ rest)) × AreWhole a l) (sym first)
    (ap (λ o. one_behind o (list_bytes a more)) is.there ∙ ap (one_behind (Some bytes)) behind.0, (is.whole, behind.1))

-- the bytes of a whole list, cut by the lengths of its stamps, are its pages
pub are_split : (a : Assignment) (stamps : List Stamp) (bytes : List ℕ) → list_bytes a stamps ≡ Some bytes → AreWhole a stamps → ArePages a stamps (split_by (lengths stamps) bytes)
are_split a [] bytes there whole = tt
are_split a (stamp ∷ more) bytes there whole = front (bytes_of a stamp) (list_bytes a more) refl refl there (λ r is. are_split a more r is whole.1) where
  front : (first rest : Option (List ℕ)) → bytes_of a stamp ≡ first → list_bytes a more ≡ rest → one_behind (bytes_of a stamp) (list_bytes a more) ≡ Some bytes
      → ((r : List ℕ) → list_bytes a more ≡ Some r → ArePages a more (split_by (lengths more) r)) → IsPage a stamp (take stamp.len bytes) × ArePages a more (split_by (lengths more) (drop stamp.len bytes))
  front None rest first_is rest_is is behind = absurd (let e : None ≡ Some bytes = sym (ap (λ o. one_behind o (list_bytes a more)) first_is) ∙ is in cc)
  front (Some b) None first_is rest_is is behind = absurd (let e : None ≡ Some bytes = sym (ap (one_behind (Some b)) rest_is) ∙ sym (ap (λ o. one_behind o (list_bytes a more)) first_is) ∙ is in cc)
  front (Some b) (Some r) first_is rest_is is behind =
      let all : b ++ r ≡ bytes = some_same (sym (ap (one_behind (Some b)) rest_is) ∙ sym (ap (λ o. one_behind o (list_bytes a more)) first_is) ∙ is) in
      let page : IsPage a stamp b = record { whole = whole.0; there = first_is } in
      let long : length b ≡ stamp.len = page_long a stamp b page in
      let head : take stamp.len bytes ≡ b = subst (λ x. take stamp.len x ≡ b) all (take_at b r stamp.len long) in
      let tail : drop stamp.len bytes ≡ r = subst (λ x. drop stamp.len x ≡ r) all (drop_at b r stamp.len long) in
      (subst (IsPage a stamp) (sym head) page, subst (λ x. ArePages a more (split_by (lengths more) x)) (sym tail) (behind r rest_is))
