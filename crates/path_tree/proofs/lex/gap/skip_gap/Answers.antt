use Rattle.std.proofs.Common.{slice_index, subst, arith, refl}
use Rattle.path_tree.specs.Gap.{IsBlank, none}
use Rattle.path_tree.proofs.Gaps.{blank_positive, gap_blank, gap_comment}
use Rattle.path_tree.proofs.Slices.{byte_within}
use Rattle.path_tree.proofs.lex.gap.skip_gap.Goals as goal

pub loop-at-init : goal.loop-at-init
loop-at-init c = record { upper = c.requires; so_far = none }

pub loop-at-preserved-then-is_blank : goal.loop-at-preserved-then-is_blank
loop-at-preserved-then-is_blank c =
    let blank = subst IsBlank c.byte_at.ensures (c.if-is_blank.ensures.0 refl) in
    record { upper = omega (arith, byte_within c.args.source.now c.loop-at.at (blank_positive (slice_index c.args.source.now c.loop-at.at) blank)); so_far = gap_blank c.loop-at.invariant.so_far blank }

pub loop-at-preserved : goal.loop-at-preserved
loop-at-preserved c = record { upper = c.in-Some.ensures.1; so_far = gap_comment c.loop-at.invariant.so_far c.in-Some.ensures.2 }
