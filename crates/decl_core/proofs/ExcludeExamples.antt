-- Which operations some paths separate. The operations are a, b and c, with numbers 0, 1 and 2.
use Rattle.std.proofs.Common.{◌≡◌, ℕ, inl, inr, refl, sym, subst}
use Rattle.path_tree.specs.Path.{Path, name, list, sequence, bound, burst, two}
use Rattle.decl_core.specs.Separates.{IsNodeAt, itself, in_list, in_sequence, in_bound, in_burst, in_last_but_one, in_last, MeetOpenly, Separates, IsSeparated}

-- 1:(a, b)
abbrev mutex : Path
mutex = bound 1 (list (two (name 0) (name 1)))

pub mutex_both : Separates mutex 0 0 1
mutex_both = (list (two (name 0) (name 1)), itself, inr (inr (inl (refl, refl))))

pub mutex_itself : Separates mutex 0 0 0
mutex_itself = (list (two (name 0) (name 1)), itself, inl (refl, refl))

-- a; 1:(b, c), whose bound is its node 2
abbrev later : Path
later = sequence (two (name 0) (bound 1 (list (two (name 1) (name 2)))))

pub later_both : Separates later 2 1 2
later_both = (list (two (name 1) (name 2)), in_sequence (in_last {k = 0} itself), inr (inr (inl (refl, refl))))

-- 1:([a], b)
abbrev readers : Path
readers = list (two (burst (name 0)) (name 1))

pub readers_writer : Separates (bound 1 readers) 0 0 1
readers_writer = (readers, itself, inr (inr (inl (refl, refl))))

pub writer_itself : Separates (bound 1 readers) 0 1 1
writer_itself = (readers, itself, inr (inl (refl, refl)))

one_bound : {k : ℕ} {content : Path} → IsNodeAt (bound 1 readers) k (bound 1 content) → readers ≡ content
one_bound itself = refl
one_bound (in_bound (in_list (in_last_but_one (in_burst r)))) = elim r [ ]
one_bound (in_bound (in_list (in_last r))) = elim r [ ]

not_open : MeetOpenly readers 0 0 → ⊥
not_open (inl in_readers) = in_readers
not_open (inr (inl in_writer)) = absurd cc
not_open (inr (inr (inl apart))) = absurd cc
not_open (inr (inr (inr apart))) = absurd cc

-- two readers may meet
pub readers_meet : IsSeparated (bound 1 readers) 0 0 → ⊥
readers_meet s = not_open (subst (λ x. MeetOpenly x 0 0) (sym (one_bound s.1.1)) s.1.2)
