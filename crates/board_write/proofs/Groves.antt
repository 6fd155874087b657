-- Trees side by side, and their heads.
use Rattle.std.proofs.Common.{◌≡◌, ◌∙◌, refl, sym, ap, ℕ, ◌<◌, ◌≤◌, arith, true, false, List, ◌∷◌, codes, Option, None, Some, ℤ}
use Rattle.exact_dec.specs.Computed.{mm_cut_answer}
use Rattle.sexpr_read.specs.Tree.{Forest, none, atom, list, Tree, leaf, branch, trees, parts, value, is_list, levels, levels_in}
use Rattle.list_read.specs.ListHeads.{first_is, has_head}
use Rattle.roundtrip_lists.specs.Translated.{Shift, is_place_head, both, moved_by, place_moved}
use Rattle.board_write.specs.declared.distance.Distance.{Distance}
use Rattle.board_write.specs.declared.places.Moving.TheVariants.{Nothing, First, All}
use Rattle.board_write.specs.Marks.{plain_shift}
use Rattle.board_write.specs.Settings.{grove, inside, own_place, behind, unit_moving}
use Rattle.board_write.specs.MovedPlaces.{atom_moved, as_atom}

pub grove_trees : (f : Forest) → grove (trees f) ≡ f
grove_trees none = refl
grove_trees (atom s q c others) = ap (atom s q c) (grove_trees others)
grove_trees (list s i others) = ap (list s i) (grove_trees others)

pub grove_parts : (t : Tree) → grove (parts t) ≡ inside t
grove_parts (leaf s q c) = refl
grove_parts (branch s i) = grove_trees i

-- ---- how deep they are

pub deep_first : (t : Tree) (ts : List Tree) → levels t ≤ levels_in (grove (t ∷ ts))
deep_first (leaf s q c) ts = omega arith
deep_first (branch s i) ts = omega arith

pub deep_later : (t : Tree) (ts : List Tree) → levels_in (grove ts) ≤ levels_in (grove (t ∷ ts))
deep_later (leaf s q c) ts = omega arith
deep_later (branch s i) ts = omega arith

pub deep_inside : (t : Tree) → is_list t ≡ true → levels_in (inside t) < levels t
deep_inside (leaf s q c) h = absurd cc
deep_inside (branch s i) h = omega arith

-- ---- heads

pub head_is : (word : List ℕ) (t : Tree) → has_head word t ≡ first_is (trees (inside t)) word
unfolding has_head
head_is word (leaf s q c) = refl
head_is word (branch s i) = refl

pub unit_first : (by : Distance) (t : Tree) → has_head (codes "footprint") t ≡ true → First by ≡ unit_moving by (inside t)
unit_first by t h = let e : first_is (trees (inside t)) (codes "footprint") ≡ true = sym (head_is (codes "footprint") t) ∙ h in rw e refl

pub unit_all : (by : Distance) (t : Tree) → has_head (codes "footprint") t ≡ false → All by ≡ unit_moving by (inside t)
unit_all by t h = let e : first_is (trees (inside t)) (codes "footprint") ≡ false = sym (head_is (codes "footprint") t) ∙ h in rw e refl

pub own_at : (by : Distance) (t : Tree) → has_head (codes "at") t ≡ true → place_moved (plain_shift by) (inside t) ≡ own_place (First by) (inside t)
own_at by t h = let e : first_is (trees (inside t)) (codes "at") ≡ true = sym (head_is (codes "at") t) ∙ h in rw e refl

pub own_other : (by : Distance) (t : Tree) → has_head (codes "at") t ≡ false → None ≡ own_place (First by) (inside t)
own_other by t h = let e : first_is (trees (inside t)) (codes "at") ≡ false = sym (head_is (codes "at") t) ∙ h in rw e refl

pub behind_at : (by : Distance) (t : Tree) → has_head (codes "at") t ≡ true → Nothing ≡ behind (First by) (inside t)
behind_at by t h = let e : first_is (trees (inside t)) (codes "at") ≡ true = sym (head_is (codes "at") t) ∙ h in rw e refl

pub behind_other : (by : Distance) (t : Tree) → has_head (codes "at") t ≡ false → First by ≡ behind (First by) (inside t)
behind_other by t h = let e : first_is (trees (inside t)) (codes "at") ≡ false = sym (head_is (codes "at") t) ∙ h in rw e refl

-- ---- places

both_none : (o : Option ℤ) → both o None ≡ None
both_none None = refl
both_none (Some n) = refl

place_three : (d : Shift) (h x y : Tree) (rest : List Tree) → is_place_head (value h) ≡ true → place_moved d (grove (h ∷ x ∷ y ∷ rest)) ≡ both (atom_moved d.dx x) (atom_moved d.dy y)
place_three d (branch s i) x y rest e = absurd cc
place_three d (leaf s q c) (leaf t r x) (leaf u p y) rest e = rw e refl
place_three d (leaf s q c) (leaf t r x) (branch u i) rest e = rw e (sym (both_none (moved_by d.dx (mm_cut_answer x))))
place_three d (leaf s q c) (branch t i) y rest e = rw e refl

atoms_stand : (a b : ℤ) (n m : ℤ) (h x y : Tree) (rest : List Tree) → is_place_head (value h) ≡ true → atom_moved a x ≡ Some n → atom_moved b y ≡ Some m
    → grove (h ∷ x ∷ y ∷ rest) ≡ as_atom h (as_atom x (as_atom y (grove rest)))
atoms_stand a b n m (branch s i) x y rest e k l = absurd cc
atoms_stand a b n m (leaf s q c) (branch t i) y rest e k l = absurd cc
atoms_stand a b n m (leaf s q c) (leaf t r x) (branch u i) rest e k l = absurd cc
atoms_stand a b n m (leaf s q c) (leaf t r x) (leaf u p y) rest e k l = refl

pub inside_is : (t : Tree) (ts : List Tree) → parts t ≡ ts → inside t ≡ grove ts
inside_is t ts e = sym (grove_parts t) ∙ ap grove e

-- the place of a list that begins with these three
pub moved_is : (d : Shift) (t h x y : Tree) (rest : List Tree) → parts t ≡ h ∷ x ∷ y ∷ rest → is_place_head (value h) ≡ true → place_moved d (inside t) ≡ both (atom_moved d.dx x) (atom_moved d.dy y)
moved_is d t h x y rest e k = ap (place_moved d) (inside_is t (h ∷ x ∷ y ∷ rest) e) ∙ place_three d h x y rest k

pub stands_is : (a b n m : ℤ) (t h x y : Tree) (rest : List Tree) → parts t ≡ h ∷ x ∷ y ∷ rest → is_place_head (value h) ≡ true → atom_moved a x ≡ Some n → atom_moved b y ≡ Some m
    → inside t ≡ as_atom h (as_atom x (as_atom y (grove rest)))
stands_is a b n m t h x y rest e k l o = inside_is t (h ∷ x ∷ y ∷ rest) e ∙ atoms_stand a b n m h x y rest k l o
