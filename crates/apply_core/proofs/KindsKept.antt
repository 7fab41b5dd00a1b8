-- A part that keeps its kind.
use Rattle.std.proofs.Common.{◌≡◌, ℕ, List, map, slice_set, get_or, ap, ◌∙◌}
use Rattle.std.proofs.Math.Seq.{map-set_same}
use Rattle.value_core.specs.Contents.{Contents, kind_of}

-- where one part is replaced by a value of its kind, each part is of the kind that it was of
pub kinds_kept : (parts : List Contents) (p : ℕ) (value before : Contents) → before ≡ get_or parts p before → kind_of value ≡ kind_of before → map kind_of (slice_set parts p value) ≡ map kind_of parts
kinds_kept parts p value before there same = map-set_same kind_of parts p value before (same ∙ ap kind_of there)
