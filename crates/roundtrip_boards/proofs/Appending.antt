-- The lists that were added may be written.
use Rattle.std.proofs.Common.{◌≡◌, ap, subst, ℕ, Bool, true, false, cond, List, [], ◌∷◌, ◌++◌, Option, None, Some}
use Rattle.std.specs.Prelude.{⊤}
use Rattle.sexpr_read.specs.Tree.{Forest, none, atom, list, Tree, leaf, branch, trees, parts}
use Rattle.sexpr_read.specs.Spelling.{SpellsAll}
use Rattle.one_item.specs.declared.item.Item.{Item}
use Rattle.board_items.specs.Boards.{PlainBoard}
use Rattle.roundtrip_text.specs.RewrittenText.{IsRespelled, AreAtoms}
use Rattle.roundtrip_text.specs.Utf8.{AreUtf8}
use Rattle.roundtrip_text.proofs.Forms.{forms_atoms}
use Rattle.roundtrip_lists.specs.Translated.{Shift}
use Rattle.roundtrip_boards.specs.TextChanges.{Change, unchanged, takes_out, shifts, appends, IsListIn, Changes, ChangeAll}
use Rattle.roundtrip_boards.specs.WrittenBoard.{Draft, Added, is_gone, shift_of_unit, moved_unit, moved_if, with_list, with_change, with_changes, inside_of, span_of, added_one, added_trees}
use Rattle.roundtrip_boards.proofs.Fitting.{unit_fits, unit_text}

-- ---- each of them may be

abbrev pub MayStand : Forest → Type 0
MayStand f = AreAtoms f × AreUtf8 f

abbrev pub AllMayStand : List Added → Type 0
AllMayStand [] = ⊤
AllMayStand (a ∷ more) = MayStand (inside_of a.tree) × AllMayStand more

all_append : (xs ys : List Added) → AllMayStand xs → AllMayStand ys → AllMayStand (xs ++ ys)
all_append [] ys h k = k
all_append (x ∷ xs) ys h k = (h.0, all_append xs ys h.1 k)

abbrev first_of : Tree → List Tree → Tree
first_of t [] = t
first_of t (x ∷ xs) = x

clash : {t : Tree} → [] ≡ t ∷ [] → ⊥
clash e = let c = e in cc

one_stands : (f : Forest) (t : Tree) → trees f ≡ t ∷ [] → AreAtoms f → AreUtf8 f → MayStand (inside_of t)
one_stands none t e a u = absurd (clash e)
one_stands (atom s q c back) t e a u = subst (λ (x : Tree). MayStand (inside_of x)) (ap (first_of t) e) (tt, tt)
one_stands (list s inside back) t e a u = subst (λ (x : Tree). MayStand (inside_of x)) (ap (first_of t) e) (a.0, u.0)

added_stands : (text : List ℕ) (t : Tree) → IsListIn text t → MayStand (inside_of t)
added_stands text t (forms, spelled, alone) = by_forms forms spelled alone
  where
    by_forms : (forms : Tree) → SpellsAll text forms → parts forms ≡ t ∷ [] → MayStand (inside_of t)
    by_forms (leaf s q c) spelled alone = absurd (clash alone)
    by_forms (branch s f) spelled alone = let k = forms_atoms text s f spelled in one_stands f t alone k.0 k.1

-- ---- through all commands

list_stands : (draft : Draft) (t : Tree) (items : List Item) → AllMayStand draft.added → MayStand (inside_of t) → AllMayStand (with_list draft t items).added
list_stands draft t [] h k = all_append draft.added (record { unit = None; tree = t } ∷ []) h (k, tt)
list_stands draft t (i ∷ is) h k = all_append draft.added (record { unit = Some draft.next_unit; tree = t } ∷ []) h (k, tt)

change_stands : (draft : Draft) (board new : PlainBoard) (change : Change) → Changes board change new → AllMayStand draft.added → AllMayStand (with_change draft change).added
change_stands draft board new unchanged one h = h
change_stands draft board new (takes_out unit) one h = h
change_stands draft board new (shifts unit by) one h = h
change_stands draft board new (appends t items) ((text, is, says), e) h = list_stands draft t items h (added_stands text t is)

pub changes_stand : (changes : List Change) (draft : Draft) (board last : PlainBoard) → ChangeAll board changes last → AllMayStand draft.added → AllMayStand (with_changes draft changes).added
changes_stand [] draft board last all h = h
changes_stand (change ∷ changes) draft board last (new, one, rest) h = changes_stand changes (with_change draft change) new last rest (change_stands draft board new change one h)

-- ---- and as they then are

respelled_atoms : (f g : Forest) → IsRespelled f g → AreAtoms g
respelled_atoms none none h = tt
respelled_atoms none (atom t r d rest) h = absurd h
respelled_atoms none (list t within rest) h = absurd h
respelled_atoms (atom s q c back) none h = absurd h
respelled_atoms (atom s q c back) (atom t r d rest) h = (h.2, respelled_atoms back rest h.3)
respelled_atoms (atom s q c back) (list t within rest) h = absurd h
respelled_atoms (list s inside back) none h = absurd h
respelled_atoms (list s inside back) (atom t r d rest) h = absurd h
respelled_atoms (list s inside back) (list t within rest) h = (respelled_atoms inside within h.1, respelled_atoms back rest h.2)

moved_stands : (by : Option Shift) (f : Forest) → MayStand f → MayStand (moved_if by f)
moved_stands None f h = h
moved_stands (Some by) f h = (respelled_atoms f (moved_unit by f) (unit_fits by f h.0), unit_text by f h.1)

one_added : (draft : Draft) (t : Tree) (unit : Option ℕ) (more : Forest) → MayStand (inside_of t) → MayStand more → MayStand (added_one draft t unit more)
one_added draft t None more h k = ((h.0, k.0), (h.1, k.1))
one_added draft t (Some unit) more h k = by_gone (is_gone draft unit)
  where
    by_gone : (b : Bool) → MayStand (cond b more (list (span_of t) (moved_if (shift_of_unit draft unit) (inside_of t)) more))
    by_gone true = k
    by_gone false = let m = moved_stands (shift_of_unit draft unit) (inside_of t) h in ((m.0, k.0), (m.1, k.1))

pub added_stand : (draft : Draft) (added : List Added) → AllMayStand added → AreAtoms (added_trees draft added) × AreUtf8 (added_trees draft added)
added_stand draft [] h = (tt, tt)
added_stand draft (a ∷ more) h = one_added draft a.tree a.unit (added_trees draft more) h.0 (added_stand draft more h.1)
