-- The lists that were added stand at most as deep as a board may have them.
use Rattle.std.proofs.Common.{◌≡◌, refl, sym, ap, subst, ℕ, suc, ◌≤◌, arith, Bool, true, false, cond, List, [], ◌∷◌, ◌++◌, All, Option, None, Some, Result, Ok, Err}
use Rattle.std.specs.Prelude.{⊤}
use Rattle.std.proofs.lemmas.List.Elements.{All-head, All-tail}
use Rattle.sexpr_read.specs.Tree.{Forest, none, atom, list, Tree, leaf, branch, trees, parts, levels_in, levels}
use Rattle.sexpr_read.specs.Spelling.{SpellsAll}
use Rattle.one_item.specs.declared.item.Item.{Item}
use Rattle.edit_script.specs.Commands.{PlainCommand, add, delete, move, rules, again}
use Rattle.edit_script.specs.Fits.{IsShallow, IsShallowIfAdded, AreShallow}
use Rattle.board_edits.specs.declared.refusal.Refusal.{Refusal}
use Rattle.board_edits.specs.Operations.{PlainOperation, nothing, append, put_back, take_out, shift}
use Rattle.roundtrip_text.specs.RewrittenText.{AreAtoms}
use Rattle.roundtrip_text.proofs.Whole.{respelled_levels}
use Rattle.roundtrip_lists.specs.Translated.{Shift}
use Rattle.roundtrip_boards.specs.TextChanges.{Change, unchanged, takes_out, shifts, appends, IsListIn, IsListOf, IsChangeBy, IsChange, AreChanges}
use Rattle.roundtrip_boards.specs.WrittenBoard.{Draft, Added, is_gone, shift_of_unit, moved_unit, moved_if, with_list, with_change, with_changes, inside_of, span_of, added_one, added_trees}
use Rattle.roundtrip_boards.proofs.Fitting.{unit_fits}

-- ---- each list that is added

-- what stands in the list has at most 62 levels, so that the list has 63
abbrev pub IsLow : Tree → Type 0
IsLow t = suc (suc (levels_in (inside_of t))) ≤ 64

abbrev first_of : Tree → List Tree → Tree
first_of t [] = t
first_of t (x ∷ xs) = x

clash : {t : Tree} → [] ≡ t ∷ [] → ⊥
clash e = let c = e in cc

one_low : (f : Forest) (t : Tree) → trees f ≡ t ∷ [] → suc (levels_in f) ≤ 64 → IsLow t
one_low none t e low = absurd (clash e)
one_low (atom s q c back) t e low = subst IsLow (ap (first_of t) e) (omega arith)
one_low (list s inside back) t e low = subst IsLow (ap (first_of t) e) (omega (arith, low))

list_low : (text : List ℕ) (t : Tree) → IsShallow text → IsListIn text t → IsLow t
list_low text t shallow (forms, spelled, alone) = by_forms forms spelled alone (shallow forms spelled)
  where
    by_forms : (forms : Tree) → SpellsAll text forms → parts forms ≡ t ∷ [] → levels forms ≤ 64 → IsLow t
    by_forms (leaf s q c) spelled alone low = absurd (clash alone)
    by_forms (branch s f) spelled alone low = one_low f t alone low

-- ---- of all changes

abbrev pub ChangeIsLow : Change → Type 0
ChangeIsLow (appends t items) = IsLow t
ChangeIsLow change = ⊤

abbrev pub AreLow : List Change → Type 0
AreLow [] = ⊤
AreLow (change ∷ changes) = ChangeIsLow change × AreLow changes

by_command : (command : PlainCommand) (t : Tree) → IsShallowIfAdded command → IsListOf command t → IsLow t
by_command (add text at) t shallow is = list_low text t shallow is
by_command (delete name at) t shallow is = absurd is
by_command (move name dx dy at) t shallow is = absurd is
by_command (rules text at) t shallow is = absurd is
by_command (again at) t shallow is = absurd is

by_operation : (command : PlainCommand) (operation : PlainOperation) (change : Change) → IsShallowIfAdded command → IsChangeBy command operation change → ChangeIsLow change
by_operation command nothing change shallow is = subst ChangeIsLow (sym is) tt
by_operation command (append items) change shallow (t, of, is) = subst ChangeIsLow (sym is) (by_command command t shallow of)
by_operation command (put_back items) change shallow is = absurd is
by_operation command (take_out unit) change shallow is = subst ChangeIsLow (sym is) tt
by_operation command (shift unit dx dy) change shallow is = subst ChangeIsLow (sym is) tt

change_low : (command : PlainCommand) (answer : Result PlainOperation Refusal) (change : Change) → IsShallowIfAdded command → IsChange command answer change → ChangeIsLow change
change_low command (Ok operation) change shallow is = by_operation command operation change shallow is
change_low command (Err why) change shallow is = subst ChangeIsLow (sym is) tt

pub changes_low : (commands : List PlainCommand) (answers : List (Result PlainOperation Refusal)) (changes : List Change) → AreShallow commands → AreChanges commands answers changes → AreLow changes
changes_low [] [] changes shallow is = subst AreLow (sym is) tt
changes_low [] (answer ∷ answers) changes shallow is = absurd is
changes_low (command ∷ commands) [] changes shallow is = absurd is
changes_low (command ∷ commands) (answer ∷ answers) [] shallow is = absurd is
changes_low (command ∷ commands) (answer ∷ answers) (change ∷ changes) shallow is = (
  change_low command answer change (All-head IsShallowIfAdded command commands shallow) is.0,
  changes_low commands answers changes (All-tail IsShallowIfAdded command commands shallow) is.1,
)

-- ---- through all of them

abbrev pub AllLow : List Added → Type 0
AllLow [] = ⊤
AllLow (a ∷ more) = IsLow a.tree × AllLow more

all_append : (xs ys : List Added) → AllLow xs → AllLow ys → AllLow (xs ++ ys)
all_append [] ys h k = k
all_append (x ∷ xs) ys h k = (h.0, all_append xs ys h.1 k)

with_low : (draft : Draft) (t : Tree) (items : List Item) → AllLow draft.added → IsLow t → AllLow (with_list draft t items).added
with_low draft t [] h k = all_append draft.added (record { unit = None; tree = t } ∷ []) h (k, tt)
with_low draft t (i ∷ is) h k = all_append draft.added (record { unit = Some draft.next_unit; tree = t } ∷ []) h (k, tt)

step_low : (draft : Draft) (change : Change) → ChangeIsLow change → AllLow draft.added → AllLow (with_change draft change).added
step_low draft unchanged low h = h
step_low draft (takes_out unit) low h = h
step_low draft (shifts unit by) low h = h
step_low draft (appends t items) low h = with_low draft t items h low

pub draft_low : (changes : List Change) (draft : Draft) → AreLow changes → AllLow draft.added → AllLow (with_changes draft changes).added
draft_low [] draft low h = h
draft_low (change ∷ changes) draft low h = draft_low changes (with_change draft change) low.1 (step_low draft change low.0 h)

-- ---- and as they then are

-- each may be written
abbrev pub AllAtoms : List Added → Type 0
AllAtoms [] = ⊤
AllAtoms (a ∷ more) = AreAtoms (inside_of a.tree) × AllAtoms more

moved_low : (o : Option Shift) (f : Forest) → AreAtoms f → levels_in (moved_if o f) ≡ levels_in f
moved_low None f h = refl
moved_low (Some by) f h = sym (respelled_levels f (moved_unit by f) (unit_fits by f h))

one_added : (draft : Draft) (t : Tree) (unit : Option ℕ) (more : Forest) → AreAtoms (inside_of t) → IsLow t → suc (levels_in more) ≤ 64 → suc (levels_in (added_one draft t unit more)) ≤ 64
one_added draft t None more atoms low h = omega (arith, low, h)
one_added draft t (Some unit) more atoms low h = by_gone (is_gone draft unit)
  where
    by_gone : (b : Bool) → suc (levels_in (cond b more (list (span_of t) (moved_if (shift_of_unit draft unit) (inside_of t)) more))) ≤ 64
    by_gone true = h
    by_gone false = let same = moved_low (shift_of_unit draft unit) (inside_of t) atoms in omega (arith, low, h, same)

pub added_low : (draft : Draft) (added : List Added) → AllAtoms added → AllLow added → suc (levels_in (added_trees draft added)) ≤ 64
added_low draft [] atoms low = omega arith
added_low draft (a ∷ more) atoms low = one_added draft a.tree a.unit (added_trees draft more) atoms.0 low.0 (added_low draft more atoms.1 low.1)
