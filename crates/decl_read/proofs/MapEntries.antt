-- What a map's look-ups say of the list of its objects, where each stands under its name.
use Rattle.std.proofs.Common.{◌≡◌, ℕ, Bool, true, false, cond, ◌||◌, List, [], ◌∷◌, ◌++◌, Option, None, Some, bytes_eq, is_some, refl, sym, ap, ◌∙◌, subst, true≢false}
use Rattle.std.specs.Cmp.Lexicographic.{nat_list_eq_equiv}
use Rattle.std.specs.Map.{keys_of, values_of, lookup}
use Rattle.indexmap.specs.IndexMap.{IndexMap, keys, insert_entry}
use Rattle.indexmap.proofs.CallerLemmas.{insert_entry-new}
use Rattle.decl_core.specs.declared.object.Object.{Object}
use Rattle.token_read.specs.Names.{is_among}
use Rattle.decl_core.specs.ObjectMap.{AreNamed, object_names}

module _ {X : Type 0} (bytes : List ℕ) where
  -- a look-up finds a name exactly where it is among the keys
  pub is_some_is_among : (es : List (List ℕ × X)) → is_some (lookup (bytes_eq bytes) es) ≡ is_among (keys_of es) bytes
  is_some_is_among [] = refl
  is_some_is_among (e ∷ es) =
      ap (λ b. is_some (cond b (Some e.1) (lookup (bytes_eq bytes) es))) (nat_list_eq_equiv.symm bytes e.0) ∙ by (bytes_eq e.0 bytes) (is_some_is_among es)
    where
      by : (b : Bool) → is_some (lookup (bytes_eq bytes) es) ≡ is_among (keys_of es) bytes → is_some (cond b (Some e.1) (lookup (bytes_eq bytes) es)) ≡ (b || is_among (keys_of es) bytes)
      by true rest = refl
      by false rest = rest

  -- so a look-up of another name finds nothing
  lookup_absent : (es : List (List ℕ × X)) → is_among (keys_of es) bytes ≡ false → lookup (bytes_eq bytes) es ≡ None
  lookup_absent es h = by (lookup (bytes_eq bytes) es) (is_some_is_among es ∙ h)
    where
      by : (r : Option X) → is_some r ≡ false → r ≡ None
      by None e = refl
      by (Some x) e = absurd (true≢false e)

-- a value of a new name goes last
insert_new : {X S : Type 0} (m : IndexMap (List ℕ) X S) (key bytes : List ℕ) (x : X) → key ≡ bytes → is_among (keys m) bytes ≡ false → insert_entry bytes_eq m.entries key x ≡ m.entries ++ (bytes, x) ∷ []
insert_new m key bytes x same h = ap (λ k. insert_entry bytes_eq m.entries k x) same ∙ insert_entry-new bytes_eq m bytes x (lookup_absent bytes m.entries h)

-- one more object under its name
named_push : (es : List (List ℕ × Object)) (x : Object) → AreNamed es → AreNamed (es ++ (x.name, x) ∷ [])
named_push [] x h = (refl, tt)
named_push (e ∷ es) x h = (h.0, named_push es x h.1)

-- the keys are the names
keys_are_names : (es : List (List ℕ × Object)) → AreNamed es → keys_of es ≡ object_names (values_of es)
keys_are_names [] h = refl
keys_are_names (e ∷ es) h = λ i. h.0 i ∷ keys_are_names es h.1 i

-- an entry at the end is an object at the end
values_push : (es : List (List ℕ × Object)) (k : List ℕ) (x : Object) → values_of (es ++ (k, x) ∷ []) ≡ values_of es ++ x ∷ []
values_push [] k x = refl
values_push (e ∷ es) k x = ap (λ l. e.1 ∷ l) (values_push es k x)

-- a look-up finds a name exactly where an object has it
pub has_named : (bytes : List ℕ) (es : List (List ℕ × Object)) (objects : List Object) → AreNamed es → values_of es ≡ objects → is_some (lookup (bytes_eq bytes) es) ≡ is_among (object_names objects) bytes
has_named bytes es objects named seen = is_some_is_among bytes es ∙ ap (λ ks. is_among ks bytes) (keys_are_names es named ∙ ap object_names seen)

-- an object of a new name goes last, and each still stands under its name
pub add_named : {S : Type 0} (m : IndexMap (List ℕ) Object S) (objects : List Object) (key : List ℕ) (x : Object) (es : List (List ℕ × Object)) →
    AreNamed m.entries → values_of m.entries ≡ objects → key ≡ x.name → is_among (object_names objects) x.name ≡ false →
    es ≡ insert_entry bytes_eq m.entries key x → AreNamed es × (values_of es ≡ objects ++ x ∷ [])
add_named m objects key x es named seen same absent put =
    let keys_seen = keys_are_names m.entries named ∙ ap object_names seen in
    let added = put ∙ insert_new m key x.name x same (ap (λ ks. is_among ks x.name) keys_seen ∙ absent) in
    (subst AreNamed (sym added) (named_push m.entries x named), ap values_of added ∙ values_push m.entries x.name x ∙ ap (λ l. l ++ x ∷ []) seen)
