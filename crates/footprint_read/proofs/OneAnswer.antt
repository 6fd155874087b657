-- A list says one thing, since lines have one list of outlines.
use Rattle.std.proofs.Common.{◌≡◌, ◌∙◌, refl, ap, sym, subst, ℕ, Bool, true, false, ◌⊎◌, inl, inr, List, ◌++◌, map, None, Some, Result, Ok, Err}
use Rattle.sexpr_read.specs.Tree.{Tree, parts}
use Rattle.geo_seg.specs.declared.points.Point.{Point}
use Rattle.geo_seg.specs.declared.points.Seg.{Seg}
use Rattle.board_errors.specs.declared.errors.BoardError.{BoardError}
use Rattle.one_item.specs.declared.parts.Part.{Part}
use Rattle.one_item.specs.declared.item.Item.{Item}
use Rattle.board_items.specs.Boards.{PlainBoard}
use Rattle.part_read.specs.declared.placements.Placement.{Placement}
use Rattle.courtyard.specs.declared.ends.LineEnd.{LineEnd}
use Rattle.courtyard.specs.Ends.{IsJoined}
use Rattle.courtyard.specs.ClosedOutlines.{AreChained, corners}
use Rattle.courtyard.proofs.Unique.{one_list}
use Rattle.pad_read.specs.declared.head.Head.{Head}
use Rattle.footprint_read.specs.declared.sides.CourtSide.{CourtSide}
use Rattle.footprint_read.specs.declared.contents.Contents.{Contents}
use Rattle.footprint_read.specs.declared.courts.Court.{Court}
use Rattle.footprint_read.specs.declared.courts.Court.TheVariants.{Unchecked, Parts, Off}
use Rattle.footprint_read.specs.Courtyards.{is_closed, segs_of, figure_parts, outline_part, HasParts, IsCheckedSide, IsCourt}
use Rattle.footprint_read.specs.FootHead.{head_of}
use Rattle.footprint_read.specs.FootprintOf.{finished, contents_of, SaysOf, SaysInside, SaysWithHead, FootprintSays}
use Rattle.footprint_read.proofs.Closed.{closed_joined}

same_some : {A : Type 0} {x y : A} → Some x ≡ Some y → x ≡ y
same_some h = cc

-- ---- one courtyard

same_segs : (side : CourtSide) (r s : List Seg) → segs_of side.lines ≡ Some r → segs_of side.lines ≡ Some s → r ≡ s
same_segs side r s h k = same_some (sym h ∙ k)

one_chain : (segs : List Seg) (p q : List (List Point)) → ((e : LineEnd) → IsJoined segs e) → AreChained segs p → AreChained segs q → p ≡ q
one_chain segs p q joined h k =
    h.polygons ∙ ap (λ (os : List (List LineEnd)). map (corners segs) os) (one_list segs joined h.all k.all h.outlines k.outlines) ∙ sym k.polygons

same_parts : (placement : Placement) (side : CourtSide) (p q : List Part) → is_closed side.lines ≡ true → HasParts placement side p → HasParts placement side q → p ≡ q
same_parts placement side p q closed h k =
    let drawn : h.drawn ≡ k.drawn = same_some (sym h.of_figures ∙ k.of_figures) in
    let segs : h.segs ≡ k.segs = same_segs side h.segs k.segs h.of_lines k.of_lines in
    let chained : AreChained h.segs k.polys = subst (λ (s : List Seg). AreChained s k.polys) (sym segs) k.chained in
    let polys : h.polys ≡ k.polys = one_chain h.segs h.polys k.polys (closed_joined side.lines h.segs closed h.of_lines) h.chained chained in
    h.all ∙ ap (λ (d : List Part). d ++ map outline_part h.polys) drawn ∙ ap (λ (ps : List (List Point)). k.drawn ++ map outline_part ps) polys ∙ sym k.all

never : {b : Bool} → b ≡ true → b ≡ false → ⊥
never h k = let e : true ≡ false = sym h ∙ k in absurd cc

not_both : (side : CourtSide) → (side.curved ≡ true) ⊎ (is_closed side.lines ≡ false) → IsCheckedSide side → ⊥
not_both side (inl h) k = never h k.0
not_both side (inr h) k = never k.1 h

not_off : (placement : Placement) (side : CourtSide) (parts : List Part) → HasParts placement side parts → (figure_parts placement side.drawings ≡ None) ⊎ (segs_of side.lines ≡ None) → ⊥
not_off placement side parts h (inl k) = let e : None ≡ Some h.drawn = sym k ∙ h.of_figures in absurd cc
not_off placement side parts h (inr k) = let e : None ≡ Some h.segs = sym k ∙ h.of_lines in absurd cc

one_court : (placement : Placement) (side : CourtSide) (c d : Court) → IsCourt placement side c → IsCourt placement side d → c ≡ d
one_court placement side Unchecked Unchecked h k = refl
one_court placement side Unchecked (Parts q) h k = absurd (not_both side h k.0)
one_court placement side Unchecked Off h k = absurd (not_both side h k.0)
one_court placement side (Parts p) Unchecked h k = absurd (not_both side k h.0)
one_court placement side (Parts p) (Parts q) h k = ap (λ (ps : List Part). Parts ps) (same_parts placement side p q h.0.1 h.1 k.1)
one_court placement side (Parts p) Off h k = absurd (not_off placement side p h.1 k.1)
one_court placement side Off Unchecked h k = absurd (not_both side k h.0)
one_court placement side Off (Parts q) h k = absurd (not_off placement side q k.1 h.1)
one_court placement side Off Off h k = refl

-- ---- one answer

one_of : (board : PlainBoard) (unit : ℕ) (head : Head) (tree : Tree) (contents : Contents) (a b : Result (List Item) BoardError) → SaysOf board unit head tree contents a → SaysOf board unit head tree contents b → a ≡ b
one_of board unit head tree contents a b h k =
    let front = one_court head.placement contents.front h.front k.front h.of_front k.of_front in
    let back = one_court head.placement contents.back h.back k.back h.of_back k.of_back in
    h.same
    ∙ ap (λ (c : Court). finished board unit head tree contents.given c h.back) front
    ∙ ap (λ (c : Court). finished board unit head tree contents.given k.front c) back
    ∙ sym k.same

one_inside : (board : PlainBoard) (unit : ℕ) (head : Head) (tree : Tree) (r : Result Contents BoardError) (a b : Result (List Item) BoardError) → SaysInside board unit head tree r a → SaysInside board unit head tree r b → a ≡ b
one_inside board unit head tree (Err e) a b h k = h ∙ sym k
one_inside board unit head tree (Ok contents) a b h k = one_of board unit head tree contents a b h k

one_with : (board : PlainBoard) (unit : ℕ) (tree : Tree) (r : Result Head BoardError) (a b : Result (List Item) BoardError) → SaysWithHead board unit tree r a → SaysWithHead board unit tree r b → a ≡ b
one_with board unit tree (Err e) a b h k = h ∙ sym k
one_with board unit tree (Ok head) a b h k = one_inside board unit head tree (contents_of board unit head tree) a b h k

pub one_answer : (board : PlainBoard) (unit : ℕ) (tree : Tree) (a b : Result (List Item) BoardError) → FootprintSays board unit tree a → FootprintSays board unit tree b → a ≡ b
one_answer board unit tree a b h k = one_with board unit tree (head_of board.copper tree) a b h k
