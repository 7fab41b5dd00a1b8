-- Posts that are told to.
use Rattle.std.proofs.Common.{◌∙◌, ap, sym, subst, refl, ℕ, ◌<◌, List, [], ◌++◌, append_assoc}
use Rattle.std.proofs.lemmas.List.{append-nil}
use Rattle.keep_loop.specs.Posts.{Tells, owed_to}
use Rattle.keep_loop.specs.Texts.{text_at, to}
use Rattle.keep_loop.specs.declared.post.Post.{Post}
use Rattle.client_core.proofs.Moving.{to_more}

-- nothing is told
pub tells_none : (post : Post) → Tells post post [] []
tells_none post = record {
  places = refl;
  journals = refl;
  here = λ c. refl;
  hears = λ c is. is;
  owed = λ c is. sym (append-nil (owed_to post.places.items c));
  lines = λ j is. sym (append-nil (text_at post.lines.items j));
}

-- one thing is told, and then another
pub tells_then : (a b c : Post) (said more added further : List (ℕ × List ℕ)) → Tells a b said added → Tells b c more further →
    Tells a c (said ++ more) (added ++ further)
tells_then a b c said more added further one two = record {
  places = two.places ∙ one.places;
  journals = two.journals ∙ one.journals;
  here = λ k. two.here k ∙ one.here k;
  hears = λ k is. one.hears k (two.hears k is);
  owed = λ k is.
      two.owed k (one.here k ∙ is) ∙ ap (λ (l : List ℕ). l ++ to k more) (one.owed k is) ∙ append_assoc (owed_to a.places.items k) (to k said) (to k more)
      ∙ ap (λ (l : List ℕ). owed_to a.places.items k ++ l) (sym (to_more k said more));
  lines = λ j is.
      two.lines j (subst (λ n. j < n) (sym one.journals) is) ∙ ap (λ (l : List ℕ). l ++ to j further) (one.lines j is)
      ∙ append_assoc (text_at a.lines.items j) (to j added) (to j further)
      ∙ ap (λ (l : List ℕ). text_at a.lines.items j ++ l) (sym (to_more j added further));
}
