-- What is carried is known by what it was.
use Rattle.std.proofs.Common.{◌≡◌, ◌∙◌, refl, ap, subst, ℕ, ◌≤◌, ℤ, pos, neg_ℤ, unsigned_abs, ◌+ℤ◌, ◌*ℤ◌, ◌≤ℤ◌, Bool, true, false, ◌&&◌, List, Option, None, Some, Result, Ok, Err, inl, inr, arith}
use Rattle.std.specs.Int.Signed.{le_z}
use Rattle.std.proofs.Math.Dec.{T_prop}
use Rattle.std.proofs.lemmas.Int.{ints}
use Rattle.int_algebra.proofs.Tested.{front, back, le_by_test}
use Rattle.exact_dec.specs.DecimalAnswers.{is_far}
use Rattle.geo_seg.specs.declared.shapes.Shape.{Shape}
use Rattle.plain_types.specs.Lengths.{IsLength, IsLengthIfSome}
use Rattle.board_errors.specs.declared.errors.BoardError.{BoardError}
use Rattle.copper_layers.specs.declared.set.LayerSet.{LayerSet}
use Rattle.one_item.specs.declared.parts.Part.{Part}
use Rattle.one_item.specs.declared.item.Hole.{Hole}
use Rattle.one_item.specs.declared.item.What.{What}
use Rattle.one_item.specs.declared.item.Item.{Item}
use Rattle.one_item.specs.Measures.{HasLengths}
use Rattle.one_item.specs.Positions.{is_near}
use Rattle.part_read.specs.declared.numbers.RawPoint.{RawPoint}
use Rattle.list_read.specs.FirstRefusals.{◌>>=◌, needed}
use Rattle.part_read.specs.OnBoard.{tested, fits_board}
use Rattle.roundtrip_lists.specs.Translated.{Shift}
use Rattle.roundtrip_lists.specs.Agreeing.{Agrees}
use Rattle.roundtrip_lists.specs.Moved.{moved_raw_point, IsMovedRawPoint}
use Rattle.roundtrip_lists.specs.Carried.{shift_of, IfAccepted}

-- ---- items by their fields

≤ℤ_prop : (a b : ℤ) → IsProp (a ≤ℤ b)
≤ℤ_prop a b = hlevel (T_prop (le_z a b))

IsLength-prop : (n : ℤ) → IsProp (IsLength n)
IsLength-prop n = hlevel (≤ℤ_prop (pos 0) n, ≤ℤ_prop n (pos 500000000))

some_prop : (n : Option ℤ) → IsProp (IsLengthIfSome n)
some_prop n = hlevel IsLength-prop

HasLengths-prop : (what : What) → IsProp (HasLengths what)
HasLengths-prop what = hlevel IsLength-prop

module _ (name : List ℕ) (unit net : ℕ) (x y : ℤ) (copper : List Part) (hole : Option Hole) where
  abbrev made : (local : Option ℤ) (what : What) → IsLengthIfSome local → HasLengths what → Item
  made local what l w = record { name = name; unit = unit; net = net; x = x; y = y; copper = copper; hole = hole; local = local; what = what; local_in_range = l; what_in_range = w }

  last_fields : (local other : Option ℤ) (what that : What) (l : IsLengthIfSome local) (w : HasLengths what) (k : IsLengthIfSome other) (v : HasLengths that) → local ≡ other → what ≡ that
      → made local what l w ≡ made other that k v
  last_fields local other what that l w k v e f =
      subst (λ (o : Option ℤ). (k : IsLengthIfSome o) → made local what l w ≡ made o that k v) e
      (λ k. subst (λ (t : What). (v : HasLengths t) → made local what l w ≡ made local t k v) f
      (λ v. ap (λ (m : IsLengthIfSome local). made local what m w) (some_prop local l k) ∙ ap (λ (m : HasLengths what). made local what k m) (HasLengths-prop what w v)) v) k

pub one_item : (a b : Item) → a.name ≡ b.name → a.unit ≡ b.unit → a.net ≡ b.net → a.x ≡ b.x → a.y ≡ b.y → a.copper ≡ b.copper → a.hole ≡ b.hole → a.local ≡ b.local → a.what ≡ b.what → a ≡ b
one_item a b en eu et ex ey ec eh el ew =
    ap (λ (n : List ℕ). made n a.unit a.net a.x a.y a.copper a.hole a.local a.what a.local_in_range a.what_in_range) en
    ∙ ap (λ (n : ℕ). made b.name n a.net a.x a.y a.copper a.hole a.local a.what a.local_in_range a.what_in_range) eu
    ∙ ap (λ (n : ℕ). made b.name b.unit n a.x a.y a.copper a.hole a.local a.what a.local_in_range a.what_in_range) et
    ∙ ap (λ (n : ℤ). made b.name b.unit b.net n a.y a.copper a.hole a.local a.what a.local_in_range a.what_in_range) ex
    ∙ ap (λ (n : ℤ). made b.name b.unit b.net b.x n a.copper a.hole a.local a.what a.local_in_range a.what_in_range) ey
    ∙ ap (λ (n : List Part). made b.name b.unit b.net b.x b.y n a.hole a.local a.what a.local_in_range a.what_in_range) ec
    ∙ ap (λ (n : Option Hole). made b.name b.unit b.net b.x b.y b.copper n a.local a.what a.local_in_range a.what_in_range) eh
    ∙ last_fields b.name b.unit b.net b.x b.y b.copper b.hole a.local b.local a.what b.what a.local_in_range a.what_in_range b.local_in_range b.what_in_range el ew

-- ---- holes by their fields

abbrev made_hole : Shape → LayerSet → Bool → (least : ℤ) → IsLength least → Hole
made_hole shape layers plated least range = record { shape = shape; layers = layers; plated = plated; least = least; least_in_range = range }

pub one_hole : (h k : Hole) → h.shape ≡ k.shape → h.layers ≡ k.layers → h.plated ≡ k.plated → h.least ≡ k.least → h ≡ k
one_hole h k es el ep en =
    ap (λ (s : Shape). made_hole s h.layers h.plated h.least h.least_in_range) es
    ∙ ap (λ (l : LayerSet). made_hole k.shape l h.plated h.least h.least_in_range) el
    ∙ ap (λ (b : Bool). made_hole k.shape k.layers b h.least h.least_in_range) ep
    ∙ subst (λ (n : ℤ). (v : IsLength n) → made_hole k.shape k.layers k.plated h.least h.least_in_range ≡ made_hole k.shape k.layers k.plated n v) en
    (λ v. ap (λ (m : IsLength h.least). made_hole k.shape k.layers k.plated h.least m) (IsLength-prop h.least h.least_in_range v)) k.least_in_range

-- ---- answers

pub leads_bind : {A B C D : Type 0} (R : A → B → Type 0) (Q : C → Result D BoardError → Type 0) (a : Result A BoardError) (b : Result B BoardError) (f : A → Result C BoardError) (g : B → Result D BoardError)
    → Agrees R a b → ((x : A) (y : B) → R x y → IfAccepted Q (f x) (g y)) → IfAccepted Q (a >>= f) (b >>= g)
leads_bind R Q (Ok x) (Ok y) f g h k = k x y h
leads_bind R Q (Ok x) (Err e) f g h k = absurd h
leads_bind R Q (Err e) b f g h k = tt

pub leads_tested : {A B : Type 0} (Q : A → Result B BoardError → Type 0) (e : BoardError) (test : Bool) (make : test ≡ true → A) (answer : Result B BoardError) → ((h : test ≡ true) → Q (make h) answer)
    → IfAccepted Q (needed e (tested test make)) answer
leads_tested Q e true make answer h = h refl
leads_tested Q e false make answer h = tt

-- ---- points that are carried on a board

pub passes_le : (a b : ℤ) → a ≤ℤ b → le_z a b ≡ true
passes_le a b h = grind (arith, ints)

both_pass : (a b : Bool) → a ≡ true → b ≡ true → a && b ≡ true
both_pass true true h k = refl
both_pass true false h k = cc
both_pass false b h k = cc

near_is : (z : ℤ) → unsigned_abs z ≤ 500000000 → is_near z ≡ true
near_is z h =
    let low : neg_ℤ (pos 500000000) ≤ℤ z = omega (arith, ints, h) in
    let high : z ≤ℤ pos 500000000 = omega (arith, ints, h) in
    both_pass (le_z (neg_ℤ (pos 500000000)) z) (le_z z (pos 500000000)) (passes_le (neg_ℤ (pos 500000000)) z low) (passes_le z (pos 500000000) high)

pub near_within : (z : ℤ) → is_near z ≡ true → unsigned_abs z ≤ 500000000
near_within z h =
    let low = le_by_test (neg_ℤ (pos 500000000)) z (front _ _ h) in
    let high = le_by_test z (pos 500000000) (back _ _ h) in
    within z low high
  where
    within : (z : ℤ) → neg_ℤ (pos 500000000) ≤ℤ z → z ≤ℤ pos 500000000 → unsigned_abs z ≤ 500000000
    within z low high = omega (arith, ints)

-- a point that is the double of a moved number is on the board
pub half_near : (p z w : ℤ) → unsigned_abs p ≤ 1000000000 → p ≡ (pos 2 *ℤ z) +ℤ (pos 2 *ℤ w) → is_near (z +ℤ w) ≡ true
half_near p z w h e = near_is (z +ℤ w) (omega (arith, ints, h, e))

pub far_is : (z : ℤ) → is_far z ≡ true → is_near z ≡ true → ⊥
far_is z f n = let k = near_within z n in grind (arith, ints)

pub settled : (d : Option Shift) (s t : RawPoint) → IsMovedRawPoint d s t → is_near (s.x +ℤ (shift_of d).dx) ≡ true → is_near (s.y +ℤ (shift_of d).dy) ≡ true → t ≡ moved_raw_point (shift_of d) s
settled None s t h a b =
    let x : s.x ≡ s.x +ℤ pos 0 = omega (arith, ints) in
    let y : s.y ≡ s.y +ℤ pos 0 = omega (arith, ints) in
    h ∙ ap (λ (z : ℤ). let r : RawPoint = record { x = z; y = s.y } in r) x ∙ ap (λ (z : ℤ). let r : RawPoint = record { x = s.x +ℤ pos 0; y = z } in r) y
settled (Some d) s t (inl h) a b = h
settled (Some d) s t (inr (same, inl far)) a b = absurd (far_is (s.x +ℤ d.dx) far a)
settled (Some d) s t (inr (same, inr far)) a b = absurd (far_is (s.y +ℤ d.dy) far b)

pub fits_moved : (s : RawPoint) → is_near s.x ≡ true → is_near s.y ≡ true → fits_board s ≡ true
fits_moved s a b = both_pass (is_near s.x) (is_near s.y) a b

pub two_pass : (a b : Bool) → a ≡ true → b ≡ true → a && b ≡ true
two_pass a b h k = both_pass a b h k
