-- The marks of units through a command.
use Rattle.std.proofs.Common.{zero, ◌≡◌, ◌≢◌, ◌∙◌, refl, sym, ap, subst, ℕ, suc, ◌+◌, ◌<◌, arith, ℤ, ◌+ℤ◌, Bool, true, false, ◌||◌, cond, List, [], ◌∷◌, ◌++◌, length, Option, None, Some, option_map}
use Rattle.std.specs.Prelude.{nat_eq, slice_set, find, bytes_eq}
use Rattle.std.proofs.lemmas.List.{get_or-set_same, get_or-set_other}
use Rattle.std.proofs.lemmas.Bool.{eqb-true, eq-eqb}
use Rattle.std.proofs.lemmas.Int.{ints}
use Rattle.board_items.specs.declared.found.Found.TheVariants.{Shared, Inside, Unit as OneUnit}
use Rattle.one_item.specs.declared.item.Item.{Item}
use Rattle.board_items.specs.Boards.{PlainBoard, IsSound, UnitsBelow}
use Rattle.board_items.specs.Units.{first_named, is_shared, is_footprint_named_otherwise, found_by, found_of}
use Rattle.roundtrip_lists.specs.Translated.{Shift}
use Rattle.roundtrip_boards.specs.TextChanges.{IsNamed, takes_out, shifts}
use Rattle.roundtrip_boards.specs.WrittenBoard.{Draft, with_change, is_gone, plus, summed, shift_of_unit}
use Rattle.board_write.specs.declared.marks.Mark.{Mark}
use Rattle.board_write.specs.declared.marks.Mark.TheVariants.{Stays, Gone}
use Rattle.board_write.specs.Marks.{PlainMark, stays, gone, moves, plain_mark, mark_at, mark_by, AreMarks, moved_on, IsMarkedOn, IsShortShift}

-- ---- a name stands for a unit that is there

named_by : (o : Option ℕ) (name : List ℕ) (items : List (ℕ × Item)) (u : ℕ) → found_by o name items ≡ OneUnit u → o ≡ Some u
named_by None name items u e = absurd cc
named_by (Some v) name items u e = by_tests (is_shared v name items) (is_footprint_named_otherwise v name items) e
  where
    by_tests : (a b : Bool) → cond a Shared (cond b Inside (OneUnit v)) ≡ OneUnit u → Some v ≡ Some u
    by_tests true b e = absurd cc
    by_tests false true e = absurd cc
    by_tests false false e = let same : v ≡ u = cc in ap (λ n. Some n) same

first_below : (n : ℕ) (name : List ℕ) (xs : List (ℕ × Item)) (u : ℕ) → UnitsBelow n xs → first_named name xs ≡ Some u → u < n
first_below n name [] u h e = absurd cc
first_below n name (x ∷ xs) u h e = by_name (bytes_eq x.1.name name) (first_below n name xs u h.1) e
  where
    by_name : (b : Bool) → (first_named name xs ≡ Some u → u < n) → option_map (λ (y : ℕ × Item). y.1.unit) (cond b (Some x) (find (λ (y : ℕ × Item). bytes_eq y.1.name name) xs)) ≡ Some u → u < n
    by_name true later k = let same : x.1.unit ≡ u = cc in let low = h.0 in omega (arith, same, low)
    by_name false later k = later k

found_below : (n : ℕ) (name : List ℕ) (items : List (ℕ × Item)) (u : ℕ) → UnitsBelow n items → found_of name items ≡ OneUnit u → u < n
found_below n [] items u h e = absurd cc
found_below n (b ∷ bytes) items u h e = first_below n (b ∷ bytes) items u h (named_by (first_named (b ∷ bytes) items) (b ∷ bytes) items u e)

pub unit_below : (board : PlainBoard) (u : ℕ) → IsSound board → IsNamed board u → u < board.next_unit
unit_below board u sound (name, e) = found_below board.next_unit name board.items u sound.units e

-- ---- units that are taken out and moved

other_unit : (a b : ℕ) → a ≢ b → nat_eq a b ≡ false
other_unit a b h = by_test (nat_eq a b) refl
  where
    by_test : (t : Bool) → nat_eq a b ≡ t → nat_eq a b ≡ false
    by_test true e = absurd (h (eqb-true a b e))
    by_test false e = e

pub marks_gone : (draft : Draft) (marks : List Mark) (u : ℕ) → u < length marks → AreMarks draft marks → AreMarks (with_change draft (takes_out u)) (slice_set marks u Gone)
marks_gone draft marks u low are v = by_test (nat_eq v u) refl
  where
    by_test : (t : Bool) → nat_eq v u ≡ t → plain_mark (mark_at (slice_set marks u Gone) v) ≡ mark_by (t || is_gone draft v) (shift_of_unit draft v)
    by_test true e =
        let same : u ≡ v = sym (eqb-true v u e) in
        subst (λ (n : ℕ). plain_mark (mark_at (slice_set marks u Gone) n) ≡ gone) same (ap plain_mark (get_or-set_same marks u Gone Stays low))
    by_test false e =
        ap plain_mark (get_or-set_other marks u v Gone Stays (λ k. let c : true ≡ false = sym (eq-eqb v u k) ∙ e in cc)) ∙ are v

with_plus : (a b c : ℤ) → a +ℤ (b +ℤ c) ≡ (a +ℤ b) +ℤ c
with_plus a b c = omega (arith, ints)

-- a shift more, behind the others
abbrev after : Option Shift → Shift → Shift
after None by = by
after (Some s) by = record { dx = s.dx +ℤ by.dx; dy = s.dy +ℤ by.dy }

plus_after : (m : Shift) (o : Option Shift) (by : Shift) → plus m (Some (after o by)) ≡ Some (after (plus m o) by)
plus_after m None by = refl
plus_after m (Some s) by =
    ap (λ (z : ℤ). let o : Option Shift = Some (record { dx = z; dy = m.dy +ℤ (s.dy +ℤ by.dy) }) in o) (with_plus m.dx s.dx by.dx)
    ∙ ap (λ (z : ℤ). let o : Option Shift = Some (record { dx = (m.dx +ℤ s.dx) +ℤ by.dx; dy = z }) in o) (with_plus m.dy s.dy by.dy)

summed_own : (u : ℕ) (ms : List (ℕ × Shift)) (by : Shift) → summed u (ms ++ (u, by) ∷ []) ≡ Some (after (summed u ms) by)
summed_own u [] by = let e : nat_eq u u ≡ true = eq-eqb u u refl in rw e refl
summed_own u (m ∷ ms) by = by_unit (nat_eq m.0 u) (summed_own u ms by)
  where
    by_unit : (b : Bool) → summed u (ms ++ (u, by) ∷ []) ≡ Some (after (summed u ms) by)
        → cond b (plus m.1 (summed u (ms ++ (u, by) ∷ []))) (summed u (ms ++ (u, by) ∷ [])) ≡ Some (after (cond b (plus m.1 (summed u ms)) (summed u ms)) by)
    by_unit true h = ap (plus m.1) h ∙ plus_after m.1 (summed u ms) by
    by_unit false h = h

summed_other : (u v : ℕ) (ms : List (ℕ × Shift)) (by : Shift) → v ≢ u → summed u (ms ++ (v, by) ∷ []) ≡ summed u ms
summed_other u v [] by apart = let e = other_unit v u apart in rw e refl
summed_other u v (m ∷ ms) by apart = ap (λ (o : Option Shift). cond (nat_eq m.0 u) (plus m.1 o) o) (summed_other u v ms by apart)

mark_after : (g : Bool) (o : Option Shift) (by : Shift) → moved_on by.dx by.dy (mark_by g o) ≡ mark_by g (Some (after o by))
mark_after true o by = refl
mark_after false None by = refl
mark_after false (Some s) by = refl

pub marks_moved : (draft : Draft) (old new : List Mark) (u : ℕ) (by : Shift) → u < length old → IsMarkedOn by.dx by.dy u old new → AreMarks draft old → AreMarks (with_change draft (shifts u by)) new
marks_moved draft old new u by low (mark, is, made) are v = by_test (nat_eq v u) refl
  where
    by_test : (t : Bool) → nat_eq v u ≡ t → plain_mark (mark_at new v) ≡ mark_by (is_gone draft v) (summed v (draft.moves ++ (u, by) ∷ []))
    by_test true e =
        let same : u ≡ v = sym (eqb-true v u e) in
        subst (λ (n : ℕ). plain_mark (mark_at new n) ≡ mark_by (is_gone draft n) (summed n (draft.moves ++ (u, by) ∷ []))) same
        (ap (λ (l : List Mark). plain_mark (mark_at l u)) made ∙ ap plain_mark (get_or-set_same old u mark Stays low) ∙ is ∙ ap (moved_on by.dx by.dy) (are u)
        ∙ mark_after (is_gone draft u) (summed u draft.moves) by ∙ ap (mark_by (is_gone draft u)) (sym (summed_own u draft.moves by)))
    by_test false e =
        let apart : v ≢ u = λ k. let c : true ≡ false = sym (eq-eqb v u k) ∙ e in cc in
        ap (λ (l : List Mark). plain_mark (mark_at l v)) made ∙ ap plain_mark (get_or-set_other old u v mark Stays apart) ∙ are v
        ∙ ap (mark_by (is_gone draft v)) (sym (summed_other v u draft.moves by (λ k. apart (sym k))))

-- ---- one mark more, of a unit that stays

pub one_more : (marks : List Mark) (v : ℕ) → mark_at (marks ++ Stays ∷ []) v ≡ mark_at marks v
one_more [] zero = refl
one_more [] (suc v) = refl
one_more (m ∷ ms) zero = refl
one_more (m ∷ ms) (suc v) = one_more ms v

pub no_marks : (n v : ℕ) (marks : List Mark) → ((k : ℕ) → mark_at marks k ≡ Stays) → plain_mark (mark_at marks v) ≡ stays
no_marks n v marks h = ap plain_mark (h v)

-- ---- how far units were moved

pub short_more : (many : ℕ) (mark : PlainMark) → IsShortShift many mark → IsShortShift (many + 1) mark
short_more many stays h = tt
short_more many gone h = tt
short_more many (moves by) h = let a = h.0 in let b = h.1 in (omega (arith, a), omega (arith, b))
