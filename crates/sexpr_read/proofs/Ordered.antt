-- What a text spells stands in order in it.
use Rattle.std.proofs.Common.{◌≡◌, ℕ, suc, ◌+◌, ◌-◌, ◌≤◌, ◌<◌, Bool, true, false, List, length, arith}
use Rattle.sexpr_read.specs.declared.place.Span.{Span}
use Rattle.sexpr_read.specs.declared.bytes.ByteClass.{ByteClass}
use Rattle.sexpr_read.specs.ByteClasses.{sign_of}
use Rattle.sexpr_read.specs.Comments.{shown}
use Rattle.sexpr_read.specs.Tree.{Forest, none, atom, list, Tree, leaf, branch, span}
use Rattle.sexpr_read.specs.Spelling.{IsAtom, SpellsForest, Spells, SpellsAll}
use Rattle.sexpr_read.specs.TreePlaces.{IsSlice, StandBetween, PartsStandBetween}
use Rattle.sexpr_read.proofs.Unique.{atom_ordered, string_ordered, forest_ordered}

module _ (sign : ℕ → ByteClass) (text : List ℕ) where
  atom_slice : (s : Span) (q : Bool) (bytes : List ℕ) → IsAtom sign text s q bytes → IsSlice text s q bytes
  atom_slice s false bytes h = h.1
  atom_slice s true bytes h = (string_ordered sign text s.at s.end h.0, h.1)

  pub forest_between : (f : Forest) (a b : ℕ) → SpellsForest sign text a b f → StandBetween text a b f
  forest_between none a b h = h.ordered
  forest_between (atom s q bytes others) a b h =
      (h.0.ordered, atom_ordered sign text s q bytes h.1, atom_slice s q bytes h.1, forest_between others s.end b h.2)
  forest_between (list s inside others) a b h =
      let first : s.at + 1 ≡ suc s.at = omega arith in
      let last : s.end - 1 ≡ h.2.0 = omega (arith, h.2.1) in
      let fore : s.at < s.end = omega (arith, forest_ordered sign text inside (suc s.at) h.2.0 h.2.2, h.2.1) in
      (h.0.ordered, fore, rw (first, last) (forest_between inside (suc s.at) h.2.0 h.2.2), forest_between others s.end b h.3)

pub one_in_order : (text : List ℕ) (t : Tree) → Spells text t
    → ((span t).end ≤ length text) × PartsStandBetween text ((span t).at + 1) ((span t).end - 1) t
unfolding Spells
one_in_order text (leaf s q bytes) h = absurd h
one_in_order text (branch s inside) h =
    let all = forest_between (sign_of text) text (list s inside none) 0 (length text) h.1 in (all.3, all.2)

pub forms_in_order : (text : List ℕ) (t : Tree) → SpellsAll text t → PartsStandBetween text 0 (length text) t
unfolding SpellsAll
forms_in_order text (leaf s q bytes) h = absurd h
forms_in_order text (branch s inside) h = forest_between (shown text) text inside 0 (length text) h.2
