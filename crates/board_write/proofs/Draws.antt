-- What becomes of lists, by marks and by a draft of the changes.
use Rattle.std.proofs.Common.{◌≡◌, ◌∙◌, refl, ap, ℕ, Bool, true, false, cond, List, [], ◌∷◌, map, codes, Option, None, Some}
use Rattle.sexpr_read.specs.Tree.{Forest, none, list, Tree, leaf, branch, trees, span}
use Rattle.list_read.specs.ListHeads.{first_is}
use Rattle.roundtrip_text.specs.RewrittenText.{leaves, becomes}
use Rattle.roundtrip_lists.specs.Translated.{Shift}
use Rattle.roundtrip_lists.specs.Moving.{moved}
use Rattle.roundtrip_boards.specs.WrittenBoard.{Draft, is_gone, shift_of_unit, first_at, moved_unit, moved_if, disposition_by, unit_disposition, inside_of, span_of, added_one, added_trees}
use Rattle.board_write.specs.declared.distance.Distance.{Distance}
use Rattle.board_write.specs.declared.marks.Mark.{Mark}
use Rattle.board_write.specs.declared.marks.Mark.TheVariants.{Stays, Gone, Moved}
use Rattle.board_write.specs.declared.places.Moving.TheVariants.{First, All}
use Rattle.board_write.specs.declared.edit_state.AddedList.{AddedList}
use Rattle.board_write.specs.Marks.{plain_shift, plain_mark, mark_at, mark_of_unit, mark_by, mark_in, AreMarks}
use Rattle.board_write.specs.Settings.{inside, updated, unit_moving}
use Rattle.board_write.specs.Dispositions.{mark_disposition, one_list, plain_added, one_by, added_by}

unit_updated : (by : Distance) (f : Forest) → updated (unit_moving by f) f ≡ moved_unit (plain_shift by) f
unit_updated by f = by_head (first_is (trees f) (codes "footprint"))
  where
    by_head : (b : Bool) → updated (cond b (First by) (All by)) f ≡ cond b (first_at (plain_shift by) f) (moved (plain_shift by) f)
    by_head true = refl
    by_head false = refl

pub mark_is_disposition : (draft : Draft) (m : Mark) (u : ℕ) (f : Forest) → plain_mark m ≡ mark_in draft u → mark_disposition m f ≡ unit_disposition draft f (Some u)
mark_is_disposition draft m u f e = by_draft m (is_gone draft u) (shift_of_unit draft u) e
  where
    by_draft : (m : Mark) (g : Bool) (o : Option Shift) → plain_mark m ≡ mark_by g o → mark_disposition m f ≡ cond g leaves (disposition_by o f)
    by_draft Stays true o e = absurd cc
    by_draft Stays false None e = refl
    by_draft Stays false (Some by) e = absurd cc
    by_draft Gone true o e = refl
    by_draft Gone false None e = absurd cc
    by_draft Gone false (Some by) e = absurd cc
    by_draft (Moved by) true o e = absurd cc
    by_draft (Moved by) false None e = absurd cc
    by_draft (Moved by) false (Some other) e =
        let same : plain_shift by ≡ other = cc in ap (λ (g : Forest). becomes g) (unit_updated by f ∙ ap (λ (s : Shift). moved_unit s f) same)

as_it_is : (t : Tree) (others : Forest) → list (span t) (inside t) others ≡ list (span_of t) (inside_of t) others
as_it_is (leaf s q c) others = refl
as_it_is (branch s i) others = refl

as_moved : (t : Tree) (by : Distance) (others : Forest) → list (span t) (updated (unit_moving by (inside t)) (inside t)) others ≡ list (span_of t) (moved_unit (plain_shift by) (inside_of t)) others
as_moved (leaf s q c) by others = ap (λ (g : Forest). list s g others) (unit_updated by none)
as_moved (branch s i) by others = ap (λ (g : Forest). list s g others) (unit_updated by i)

one_added : (draft : Draft) (marks : List Mark) (unit : Option ℕ) (t : Tree) (others : Forest) → AreMarks draft marks → one_by (mark_of_unit marks unit) t others ≡ added_one draft t unit others
one_added draft marks None t others are = as_it_is t others
one_added draft marks (Some u) t others are = by_draft (mark_at marks u) (is_gone draft u) (shift_of_unit draft u) (are u)
  where
    by_draft : (m : Mark) (g : Bool) (o : Option Shift) → plain_mark m ≡ mark_by g o → one_by m t others ≡ cond g others (list (span_of t) (moved_if o (inside_of t)) others)
    by_draft Stays true o e = absurd cc
    by_draft Stays false None e = as_it_is t others
    by_draft Stays false (Some by) e = absurd cc
    by_draft Gone true o e = refl
    by_draft Gone false None e = absurd cc
    by_draft Gone false (Some by) e = absurd cc
    by_draft (Moved by) true o e = absurd cc
    by_draft (Moved by) false None e = absurd cc
    by_draft (Moved by) false (Some other) e =
        let same : plain_shift by ≡ other = cc in as_moved t by others ∙ ap (λ (s : Shift). list (span_of t) (moved_unit s (inside_of t)) others) same

pub all_added : (draft : Draft) (marks : List Mark) (added : List AddedList) → AreMarks draft marks → added_by marks added ≡ added_trees draft (map plain_added added)
all_added draft marks [] are = refl
all_added draft marks (a ∷ more) are =
    ap (one_by (mark_of_unit marks a.unit) (one_list a)) (all_added draft marks more are) ∙ one_added draft marks a.unit (one_list a) (added_trees draft (map plain_added more)) are
