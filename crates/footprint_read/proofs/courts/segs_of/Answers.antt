use Rattle.std.proofs.Common.{◌≡◌, ◌∙◌, refl, ap, sym, ℕ, ◌+◌, ◌<◌, Bool, true, false, cond, List, [], ◌∷◌, ◌++◌, append_assoc, length, slice_index_or, drop, Option, None, Some}
use Rattle.std.proofs.lemmas.List.{drop_more}
use Rattle.geo_seg.specs.declared.points.Seg.{Seg}
use Rattle.part_read.specs.There.{both, after}
use Rattle.footprint_read.specs.declared.sides.RawSegment.{RawSegment}
use Rattle.footprint_read.specs.Courtyards.{is_long, seg_of, segs_of}
use Rattle.footprint_read.proofs.courts.segs_of.Goals as goal

-- what lines give of which the first is long or not
abbrev with_first : Bool → Option Seg → Option (List Seg) → Option (List Seg)
with_first long seg rest = cond long (both (λ s ss. s ∷ ss) seg rest) rest

from_first : (lines : List RawSegment) (i : ℕ) (d : RawSegment) (old : List Seg) → i < length lines
    → after old (segs_of (drop i lines)) ≡ after old (with_first (is_long (slice_index_or lines i d)) (seg_of (slice_index_or lines i d)) (segs_of (drop (i + 1) lines)))
from_first lines i d old less = ap (λ (ls : List RawSegment). after old (segs_of ls)) (drop_more lines i d less)

skipped : (lines : List RawSegment) (i : ℕ) (d : RawSegment) (old : List Seg) → i < length lines → is_long (slice_index_or lines i d) ≡ false → after old (segs_of (drop (i + 1) lines)) ≡ after old (segs_of (drop i lines))
skipped lines i d old less short =
    sym (from_first lines i d old less
    ∙ ap (λ (b : Bool). after old (with_first b (seg_of (slice_index_or lines i d)) (segs_of (drop (i + 1) lines)))) short)

-- one more line of those that lie on the board
one_on : (old : List Seg) (s : Seg) (rest : Option (List Seg)) → after (old ++ s ∷ []) rest ≡ after old (both (λ x xs. x ∷ xs) (Some s) rest)
one_on old s None = refl
one_on old s (Some ss) = ap (λ (xs : List Seg). Some xs) (append_assoc old (s ∷ []) ss)

taken : (lines : List RawSegment) (i : ℕ) (d : RawSegment) (old new : List Seg) (s : Seg) → i < length lines → is_long (slice_index_or lines i d) ≡ true → seg_of (slice_index_or lines i d) ≡ Some s → new ≡ old ++ s ∷ []
    → after new (segs_of (drop (i + 1) lines)) ≡ after old (segs_of (drop i lines))
taken lines i d old new s less long there more =
    let rest : Option (List Seg) = segs_of (drop (i + 1) lines) in
    ap (λ (xs : List Seg). after xs rest) more ∙ one_on old s rest
    ∙ ap (λ (o : Option Seg). after old (both (λ x xs. x ∷ xs) o rest)) (sym there)
    ∙ sym (from_first lines i d old less
    ∙ ap (λ (b : Bool). after old (with_first b (seg_of (slice_index_or lines i d)) rest)) long)

pub loop-line-preserved-then-not-is_long : goal.loop-line-preserved-then-not-is_long
loop-line-preserved-then-not-is_long c =
    skipped c.args.lines.now c.loop-line.line-index _ c.loop-line.segs.items c.loop-line-test.true (sym c.is_long.ensures ∙ c.if-not-is_long.true) ∙ c.loop-line.invariant

pub loop-line-preserved : goal.loop-line-preserved
loop-line-preserved c =
    taken c.args.lines.now c.loop-line.line-index _ c.loop-line.segs.items c.push.new.self.items c.in-Some.seg c.loop-line-test.true (sym c.is_long.ensures ∙ c.if-not-is_long.false) (sym c.seg_of.ensures ∙ c.in-Some.is)
    c.in_ok-push.ensures.items
    ∙ c.loop-line.invariant
