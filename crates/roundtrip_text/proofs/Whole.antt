-- The whole text of one list, of which parts are left out, rewritten, and added.
use Rattle.std.proofs.Common.{◌≡◌, ◌∙◌, refl, sym, ap, subst, ℕ, suc, max, ◌+◌, ◌-◌, ◌<◌, ◌≤◌, arith, Bool, true, false, List, [], ◌∷◌, ◌++◌, length, take, append_assoc, append-nil, IsUtf8}
use Rattle.std.specs.Prelude.{slice_range}
use Rattle.std.proofs.Common.{take_all}
use Rattle.std.proofs.lemmas.Str.{IsUtf8-append, IsUtf8-nil}
use Rattle.sexpr_read.specs.declared.place.Span.{Span}
use Rattle.sexpr_read.specs.declared.bytes.ByteClass.TheVariants.{Open, Close}
use Rattle.sexpr_read.specs.ByteClasses.{sign_of}
use Rattle.sexpr_read.specs.Tree.{Forest, none, atom, list, branch, levels_in}
use Rattle.sexpr_read.specs.Spelling.{SpellsForest, Spells}
use Rattle.sexpr_read.proofs.CellLemmas.{join}
use Rattle.sexpr_read.proofs.Joined.{levels_in-join}
use Rattle.sexpr_read.proofs.Unique.{atom_ordered, forest_ordered}
use Rattle.roundtrip_text.specs.Pieces.{IsBlank, written, IsWordEnd, MayFollow, WritesForest, SameTrees}
use Rattle.roundtrip_text.specs.RewrittenText.{text_rewritten, IsRespelled, Disposition, stays, leaves, becomes, list_by, edited, edited_whole, spaced, AreAtoms, insides, inside_by, insides_after, deepest, IsFit, AreFit, FirstIsThere, first_disposition, later}
use Rattle.roundtrip_text.specs.Edited.{SpellsEdited}
use Rattle.roundtrip_text.specs.Utf8.{AreUtf8, BecomesUtf8, BecomeUtf8}
use Rattle.roundtrip_text.proofs.Cutting.{slice_split, slice_none, slice_of_byte, byte_at, open_byte, close_byte, cut_gap, cut_forest}
use Rattle.roundtrip_text.proofs.Setting.{set_forest, all_apart}
use Rattle.roundtrip_text.proofs.Writing.{text_rewritten_writes, spaced_writes, spaced_apart}
use Rattle.roundtrip_text.proofs.Editing.{list_slice, glue_gap, head_stays}
use Rattle.roundtrip_text.proofs.Utf8.{utf8_apart, utf8_joined, blank_utf8, written_utf8, low_utf8}

-- ---- one behind another

may_follow : (q : Bool) (rest ys : List ℕ) → MayFollow q rest → IsWordEnd ys → MayFollow q (rest ++ ys)
may_follow false rest ys h k = all_apart rest ys h k
may_follow true rest ys h k = tt

pub writes_join : (f g : Forest) (xs ys : List ℕ) → IsWordEnd ys → WritesForest xs f → WritesForest ys g → WritesForest (xs ++ ys) (join f g)
writes_join none g xs ys apart h k = glue_gap xs ys g h k
writes_join (atom s q c others) g xs ys apart (gap, rest, joined, blank, is, follow, h) k =
    (gap, rest ++ ys, ap (λ l. l ++ ys) joined ∙ simp append_assoc, blank, is, may_follow q rest ys follow apart, writes_join others g rest ys apart h k)
writes_join (list s inside others) g xs ys apart (gap, within, rest, joined, blank, h, w) k =
    (gap, within, rest ++ ys, ap (λ l. l ++ ys) joined ∙ simp append_assoc, blank, h, writes_join others g rest ys apart w k)

-- ---- levels

pub same_levels : (f g : Forest) → SameTrees f g → levels_in f ≡ levels_in g
same_levels none none h = refl
same_levels none (atom t r d rest) h = absurd h
same_levels none (list t within rest) h = absurd h
same_levels (atom s q c others) none h = absurd h
same_levels (atom s q c others) (atom t r d rest) h = same_levels others rest h.2
same_levels (atom s q c others) (list t within rest) h = absurd h
same_levels (list s inside others) none h = absurd h
same_levels (list s inside others) (atom t r d rest) h = absurd h
same_levels (list s inside others) (list t within rest) h = let a = same_levels inside within h.0 in let b = same_levels others rest h.1 in omega (arith, a, b)

pub respelled_levels : (f g : Forest) → IsRespelled f g → levels_in f ≡ levels_in g
respelled_levels none none h = refl
respelled_levels none (atom t r d rest) h = absurd h
respelled_levels none (list t within rest) h = absurd h
respelled_levels (atom s q c others) none h = absurd h
respelled_levels (atom s q c others) (atom t r d rest) h = respelled_levels others rest h.3
respelled_levels (atom s q c others) (list t within rest) h = absurd h
respelled_levels (list s inside others) none h = absurd h
respelled_levels (list s inside others) (atom t r d rest) h = absurd h
respelled_levels (list s inside others) (list t within rest) h = let a = respelled_levels inside within h.1 in let b = respelled_levels others rest h.2 in omega (arith, a, b)

pub deepest_inside : (f : Forest) → levels_in f ≡ deepest (insides f)
deepest_inside none = refl
deepest_inside (atom s q c others) = deepest_inside others
deepest_inside (list s inside others) = let h = deepest_inside others in omega (arith, h)

deepest-append : (xs ys : List Forest) → deepest (xs ++ ys) ≡ max (deepest xs) (deepest ys)
deepest-append [] ys = omega arith
deepest-append (x ∷ xs) ys = let h = deepest-append xs ys in omega (arith, h)

by_disposition : (inside : Forest) (becoming : Disposition) → IsFit inside becoming → deepest (inside_by inside becoming) ≤ suc (levels_in inside)
by_disposition inside stays h = omega arith
by_disposition inside leaves h = omega arith
by_disposition inside (becomes other) h = let k = respelled_levels inside other h in omega (arith, k)

deepest_after : (dispositions : List Disposition) (f : Forest) → AreFit dispositions f → deepest (insides_after dispositions f) ≤ levels_in f
deepest_after dispositions none h = omega arith
deepest_after dispositions (atom s q c others) h = deepest_after dispositions others h
deepest_after dispositions (list s inside others) h =
    let a = by_disposition inside (first_disposition dispositions) h.0 in
    let b = deepest_after (later dispositions) others h.1 in
    let c = deepest-append (inside_by inside (first_disposition dispositions)) (insides_after (later dispositions) others) in
    omega (arith, a, b, c)

-- ---- UTF-8

module _ (t : List ℕ) where
  list_utf8 : (s : Span) (inside : Forest) (becoming : Disposition) (close : ℕ) → suc s.at ≤ close → s.end ≡ suc close → s.end ≤ length t
      → sign_of t s.at ≡ Open → sign_of t close ≡ Close → SpellsForest (sign_of t) t (suc s.at) close inside → IsFit inside becoming → AreUtf8 inside → BecomesUtf8 becoming → IsUtf8 (list_by t s becoming)
  list_utf8 s inside stays close o e h opens closes k fit u v =
      subst IsUtf8 (sym (list_slice t s inside close o e h opens closes))
      (IsUtf8-append (40 ∷ []) (slice_range t (suc s.at) close ++ 41 ∷ []) (low_utf8 40 (omega arith))
      (IsUtf8-append (slice_range t (suc s.at) close) (41 ∷ []) (utf8_joined (slice_range t (suc s.at) close) inside (cut_forest t (suc s.at) close inside (omega arith) k) u) (low_utf8 41 (omega arith))))
  list_utf8 s inside leaves close o e h opens closes k fit u v = IsUtf8-nil
  list_utf8 s inside (becomes other) close o e h opens closes k fit u v =
      let first : suc s.at ≡ s.at + 1 = omega arith in
      let last : close ≡ s.end - 1 = omega arith in
      let inner : IsUtf8 (text_rewritten t (s.at + 1) (s.end - 1) other) =
      subst (λ z. IsUtf8 (text_rewritten t z (s.end - 1) other)) first (subst (λ z. IsUtf8 (text_rewritten t (suc s.at) z other)) last
      (utf8_joined (text_rewritten t (suc s.at) close other) other (text_rewritten_writes t inside other (suc s.at) close (omega arith) k fit) v)) in
      IsUtf8-append (40 ∷ []) (text_rewritten t (s.at + 1) (s.end - 1) other ++ 41 ∷ []) (low_utf8 40 (omega arith)) (IsUtf8-append (text_rewritten t (s.at + 1) (s.end - 1) other) (41 ∷ []) inner (low_utf8 41 (omega arith)))

  edited_utf8 : (f : Forest) (dispositions : List Disposition) (from to : ℕ) → to ≤ length t → SpellsForest (sign_of t) t from to f → AreFit dispositions f → AreUtf8 f → BecomeUtf8 dispositions f → IsUtf8 (edited t from to dispositions f)
  edited_utf8 none dispositions from to h k fit u v = blank_utf8 (slice_range t from to) (cut_gap t from to h k)
  edited_utf8 (atom s q c others) dispositions from to h k fit u v =
      let o : s.end ≤ to = forest_ordered (sign_of t) t others s.end to k.2 in
      let low : s.at < s.end = atom_ordered (sign_of t) t s q c k.1 in
      IsUtf8-append (slice_range t from s.at) (written q c ++ edited t s.end to dispositions others) (blank_utf8 (slice_range t from s.at) (cut_gap t from s.at (omega arith) k.0))
      (IsUtf8-append (written q c) (edited t s.end to dispositions others) (written_utf8 q c u.0) (edited_utf8 others dispositions s.end to h k.2 fit u.1 v))
  edited_utf8 (list s inside others) dispositions from to h k fit u v =
      let o : s.end ≤ to = forest_ordered (sign_of t) t others s.end to k.3 in
      let w : suc s.at ≤ k.2.0 = forest_ordered (sign_of t) t inside (suc s.at) k.2.0 k.2.2 in
      let e : s.end ≡ suc k.2.0 = k.2.1 in
      IsUtf8-append (slice_range t from s.at) (list_by t s (first_disposition dispositions) ++ edited t s.end to (later dispositions) others) (blank_utf8 (slice_range t from s.at) (cut_gap t from s.at (omega arith) k.0))
      (IsUtf8-append (list_by t s (first_disposition dispositions)) (edited t s.end to (later dispositions) others)
      (list_utf8 s inside (first_disposition dispositions) k.2.0 w e (omega arith) k.1 k.2.3 k.2.2 fit.0 u.0 v.0) (edited_utf8 others (later dispositions) s.end to h k.3 fit.1 u.1 v.1))

-- ---- the whole

from_zero : (bytes : List ℕ) (g : Forest) → SpellsForest (sign_of bytes) bytes 0 (0 + length bytes) g → SpellsForest (sign_of bytes) bytes 0 (length bytes) g
from_zero bytes g h = let z : 0 + length bytes ≡ length bytes = omega arith in subst (λ n. SpellsForest (sign_of bytes) bytes 0 n g) z h

insides-join : (f g : Forest) → insides (join f g) ≡ insides f ++ insides g
insides-join none g = refl
insides-join (atom s q c others) g = insides-join others g
insides-join (list s inside others) g = ap (λ l. inside ∷ l) (insides-join others g)

pub take_all_of : (t : List ℕ) → slice_range t 0 (length t) ≡ t
take_all_of t = let z : length t - 0 ≡ length t = omega arith in ap (λ n. take n t) z ∙ take_all (length t) t (omega arith)

-- what spells one list alike spells one list
finish : (bytes : List ℕ) (q : Bool) (c : List ℕ) (lists : List Forest) (s h : Span) (kept : Forest) (g : Forest) → SameTrees (list s (atom h q c kept) none) g
    → SpellsForest (sign_of bytes) bytes 0 (length bytes) g → IsUtf8 bytes → insides kept ≡ lists → suc (levels_in kept) ≤ 64 → SpellsEdited bytes q c lists
unfolding Spells
finish bytes q c lists s h kept none same k u are low = absurd same
finish bytes q c lists s h kept (atom t r d rest) same k u are low = absurd same
finish bytes q c lists s h kept (list t within none) same k u are low = record {
  where_it_is = t;
  head_is = h;
  forest = within;
  spelled = (u, k);
  shallow = subst (λ n. suc n ≤ 64) (same_levels (atom h q c kept) within same.0) low;
  kept = kept;
  same = same.0;
  are = are;
}
finish bytes q c lists s h kept (list t within (atom v r d rest)) same k u are low = absurd same.1
finish bytes q c lists s h kept (list t within (list v d rest)) same k u are low = absurd same.1

module _ (t : List ℕ) (s : Span) (dispositions : List Disposition) (h : Span) (q : Bool) (c : List ℕ) (others added : Forest)
    (spelled : Spells t (branch s (atom h q c others))) (shallow : suc (levels_in others) ≤ 64)
    (fit : AreFit dispositions others) (first : FirstIsThere dispositions others) (utf8 : BecomeUtf8 dispositions others)
    (atoms : AreAtoms added) (added_utf8 : AreUtf8 added) (added_shallow : suc (levels_in added) ≤ 64) where
  abbrev inside : Forest
  inside = atom h q c others

  parts : IsUtf8 t × SpellsForest (sign_of t) t 0 (length t) (list s inside none)
  unfolding Spells
  parts = spelled

  pub whole_edited : SpellsEdited (edited_whole t s dispositions inside added) q c (insides_after dispositions others ++ insides added)
  unfolding Spells
  whole_edited =
      let k = parts.1 in
      let close : ℕ = k.2.0 in
      let e : s.end ≡ suc close = k.2.1 in
      let o : suc s.at ≤ close = forest_ordered (sign_of t) t inside (suc s.at) close k.2.2 in
      let ends : s.end ≤ length t = k.3.ordered in
      let at1 : s.at + 1 ≡ suc s.at = omega arith in
      let end1 : s.end - 1 ≡ close = omega arith in
      let gap : IsBlank (slice_range t 0 s.at) = cut_gap t 0 s.at (omega arith) k.0 in
      let opening : slice_range t s.at (suc s.at) ≡ 40 ∷ [] =
      slice_of_byte t s.at (suc s.at) 40 (omega arith) (omega arith) (byte_at t s.at Open 40 k.1 open_byte) ∙ ap (λ l. 40 ∷ l) (slice_none t (suc s.at)) in
      let prefix : slice_range t 0 (s.at + 1) ≡ slice_range t 0 s.at ++ 40 ∷ [] =
      ap (λ z. slice_range t 0 z) at1 ∙ slice_split t 0 s.at (suc s.at) (omega arith) (omega arith) ∙ ap (λ l. slice_range t 0 s.at ++ l) opening in
      let last : slice_range t (s.end - 1) (length t) ≡ 41 ∷ slice_range t (suc close) (length t) =
      ap (λ z. slice_range t z (length t)) end1 ∙ slice_of_byte t close (length t) 41 (omega arith) (omega arith) (byte_at t close Close 41 k.2.3 close_byte) in
      let rest : IsBlank (slice_range t (suc close) (length t)) = subst (λ z. IsBlank (slice_range t z (length t))) e (cut_gap t s.end (length t) (omega arith) k.3) in
      let body : SpellsForest (sign_of t) t (s.at + 1) (s.end - 1) inside =
      subst (λ z. SpellsForest (sign_of t) t z (s.end - 1) inside) (sym at1) (subst (λ z. SpellsForest (sign_of t) t (suc s.at) z inside) (sym end1) k.2.2) in
      let edits : List ℕ = edited t (s.at + 1) (s.end - 1) dispositions inside in
      let head = head_stays t dispositions h q c others (s.at + 1) (s.end - 1) (omega arith) body fit first in
      let behind : WritesForest (spaced false added) added = spaced_writes false added atoms in
      let all : Forest = atom h q c (join head.0 added) in
      let inner : WritesForest (edits ++ spaced false added) all = writes_join (atom h q c head.0) added edits (spaced false added) (spaced_apart added) head.1 behind in
      let made : List ℕ = edited_whole t s dispositions inside added in
      let shape : made ≡ slice_range t 0 s.at ++ (40 ∷ ((edits ++ spaced false added) ++ (41 ∷ slice_range t (suc close) (length t)))) =
      ap (λ l. l ++ (edits ++ (spaced false added ++ slice_range t (s.end - 1) (length t)))) prefix
      ∙ ap (λ l. (slice_range t 0 s.at ++ 40 ∷ []) ++ (edits ++ (spaced false added ++ l))) last
      ∙ simp append_assoc in
      let outer : WritesForest made (list s all none) = (slice_range t 0 s.at, edits ++ spaced false added, slice_range t (suc close) (length t), shape, gap, inner, rest) in
      let start : made ++ [] ≡ made = append-nil made in
      let set = set_forest (list s all none) made made [] 0 (record { prefix = []; long = refl; joined = sym start }) tt outer in
      let body_utf8 = utf8_apart (slice_range t (suc s.at) close) inside (cut_forest t (suc s.at) close inside (omega arith) k.2.2)
      (let p = utf8_apart (slice_range t 0 (length t)) (list s inside none) (cut_forest t 0 (length t) (list s inside none) (omega arith) k)
      (subst IsUtf8 (sym (take_all_of t)) parts.0) in utf8_joined (slice_range t (suc s.at) close) inside (cut_forest t (suc s.at) close inside (omega arith) k.2.2) p.0) in
      let edits_utf8 : IsUtf8 edits = edited_utf8 t inside dispositions (s.at + 1) (s.end - 1) (omega arith) body fit body_utf8 utf8 in
      let behind_utf8 : IsUtf8 (spaced false added) = utf8_joined (spaced false added) added behind added_utf8 in
      let last_utf8 : IsUtf8 (41 ∷ slice_range t (suc close) (length t)) = IsUtf8-append (41 ∷ []) (slice_range t (suc close) (length t)) (low_utf8 41 (omega arith)) (blank_utf8 (slice_range t (suc close) (length t)) rest) in
      let inner_utf8 = IsUtf8-append (edits ++ spaced false added) (41 ∷ slice_range t (suc close) (length t)) (IsUtf8-append edits (spaced false added) edits_utf8 behind_utf8) last_utf8 in
      let made_utf8 : IsUtf8 made = subst IsUtf8 (sym shape)
      (IsUtf8-append (slice_range t 0 s.at) (40 ∷ ((edits ++ spaced false added) ++ (41 ∷ slice_range t (suc close) (length t)))) (blank_utf8 (slice_range t 0 s.at) gap)
      (IsUtf8-append (40 ∷ []) ((edits ++ spaced false added) ++ (41 ∷ slice_range t (suc close) (length t))) (low_utf8 40 (omega arith)) inner_utf8)) in
      let kept_low : levels_in head.0 ≤ levels_in others = subst (λ n. n ≤ levels_in others) (sym (deepest_inside head.0 ∙ ap deepest head.2)) (deepest_after dispositions others fit) in
      let both_low : suc (levels_in (join head.0 added)) ≤ 64 = (let j = levels_in-join head.0 added in omega (arith, j, kept_low, shallow, added_shallow)) in
      finish made q c (insides_after dispositions others ++ insides added) s h (join head.0 added) set.forest set.same (from_zero made set.forest set.spelled) made_utf8 (insides-join head.0 added ∙ ap (λ l. l ++ insides added) head.2) both_low
