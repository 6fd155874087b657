-- What has been read up to a place: the trees that stand whole, and the lists that are still open.
use Rattle.std.proofs.Common.{◌≡◌, ℕ, zero, suc, ◌+◌, ◌-◌, ◌≤◌, ◌<◌, true, false, Bool, List, [], ◌∷◌, ◌++◌, length, get_or, refl, sym, ◌∙◌, ap, arith, length-append, append_assoc, append-nil, zero-add}
use Rattle.std.proofs.Math.Seq.{get_or-append_seam, set-append_seam}
use Rattle.std.specs.Prelude.{slice_set, slice_index_or}
use Rattle.sexpr_read.specs.declared.place.Span.{Span}
use Rattle.sexpr_read.specs.declared.arena.Cell.{Cell}
use Rattle.sexpr_read.specs.declared.bytes.ByteClass.TheVariants.{Open, Close}
use Rattle.sexpr_read.specs.Comments.{signs}
use Rattle.sexpr_read.specs.Tree.{Forest, none, atom, list, levels_in}
use Rattle.sexpr_read.specs.TreeKinds.{no_cell}
use Rattle.sexpr_read.specs.Spelling.{IsSpaceBetween, IsAtom, IsWord, IsString, SpellsForest}
use Rattle.sexpr_read.specs.TreeRefusals.{outside}
use Rattle.sexpr_read.specs.ForestCells.{cells_of}
use Rattle.sexpr_read.specs.ReaderProgress.{Stands, outer_levels, TreesAreRead}
use Rattle.sexpr_read.proofs.Machine.{IsInner, over_gap, over_word, over_string, over_open, over_close}
use Rattle.sexpr_read.proofs.CellLemmas.{join, cells_of-join}
use Rattle.sexpr_read.proofs.Joined.{no_gap, spelled_join, spelled_gap, levels_in-join}

-- a list that is open: the trees before it in the list around it, and the place of its bracket
pub record Level : Type 0 where
  pub before : Forest
  pub at : ℕ

-- the cells of open lists and of the trees before them, the innermost list first in `outer`
abbrev pub open_cells : List Level → List Cell
open_cells [] = []
open_cells (l ∷ outer) = (open_cells outer ++ cells_of l.before) ++ record { at = l.at; end = 0; inside = length (open_cells outer) } ∷ []

-- where the trees of the innermost list begin
abbrev pub start : ℕ → List Level → ℕ
start from [] = from
start from (l ∷ outer) = suc l.at

abbrev pub AreOpen : Bool → List ℕ → ℕ → List Level → Type 0
AreOpen one text from [] = Unit {0}
AreOpen one text from (l ∷ outer) =
    SpellsForest (signs one text) text (start from outer) l.at l.before × (signs one text l.at ≡ Open)
    × (length outer + outer_levels one + levels_in l.before ≤ 64) × AreOpen one text from outer

pub record Reading (one : Bool) (text : List ℕ) (from p depth innermost : ℕ) (cells : List Cell) : Type 0 where
  pub outer : List Level
  pub now : Forest
  pub are_open : AreOpen one text from outer
  pub spelled : SpellsForest (signs one text) text (start from outer) p now
  pub kept : cells ≡ open_cells outer ++ cells_of now
  pub linked : innermost ≡ length (open_cells outer)
  pub deep : depth ≡ length outer + outer_levels one
  pub shallow : depth + levels_in now ≤ 64
  pub stands : Stands one (signs one text) p (outside depth)
  pub few : length cells ≤ p

is_inner : (one : Bool) (n d : ℕ) → d ≡ n + outer_levels one → IsInner one d
is_inner one n (suc d) e = tt
is_inner false n zero e = refl
is_inner true n zero e = absurd (omega (arith, e))

pub reading_start : (one : Bool) (text : List ℕ) (from : ℕ) → Stands one (signs one text) from (outside (outer_levels one))
    → Reading one text from from (outer_levels one) 0 []
reading_start one text from here = record {
  outer = [];
  now = none;
  are_open = tt;
  spelled = no_gap (signs one text) from;
  kept = refl;
  linked = refl;
  deep = omega arith;
  shallow = few_levels one;
  stands = here;
  few = omega arith;
}
  where
    few_levels : (one : Bool) → outer_levels one + 0 ≤ 64
    few_levels true = omega arith
    few_levels false = omega arith

pub reading_gap : (one : Bool) (text : List ℕ) (from p q depth innermost : ℕ) (cells : List Cell)
    → IsSpaceBetween (signs one text) p q → Reading one text from p depth innermost cells → Reading one text from q depth innermost cells
reading_gap one text from p q depth innermost cells gap r = record {
  outer = r.outer;
  now = r.now;
  are_open = r.are_open;
  spelled = spelled_gap (signs one text) text r.now (start from r.outer) p q r.spelled gap;
  kept = r.kept;
  linked = r.linked;
  deep = r.deep;
  shallow = r.shallow;
  stands = over_gap one (signs one text) p q depth gap r.stands;
  few = omega (arith, r.few, gap.ordered);
}

reading_atom : (one : Bool) (text : List ℕ) (from p depth innermost end : ℕ) (q : Bool) (bytes : List ℕ) (cells : List Cell)
    → p < end → IsAtom (signs one text) text (record { at = p; end = end }) q bytes
    → (IsInner one depth → Stands one (signs one text) p (outside depth) → Stands one (signs one text) end (outside depth))
    → Reading one text from p depth innermost cells
    → Reading one text from end depth innermost (cells ++ record { at = p; end = end; inside = 0 } ∷ [])
reading_atom one text from p depth innermost end q bytes cells fore is over r =
    let s : Span = record { at = p; end = end } in
    let last : Forest = atom s q bytes none in
    let c : Cell = record { at = p; end = end; inside = 0 } in
    record {
      outer = r.outer;
      now = join r.now last;
      are_open = r.are_open;
      spelled = spelled_join (signs one text) text r.now last (start from r.outer) p end r.spelled (no_gap (signs one text) p, is, no_gap (signs one text) end);
      kept = ap (λ x. x ++ c ∷ []) r.kept ∙ append_assoc (open_cells r.outer) (cells_of r.now) (c ∷ [])
          ∙ ap (λ x. open_cells r.outer ++ x) (sym (cells_of-join r.now last));
      linked = r.linked;
      deep = r.deep;
      shallow = omega (arith, r.shallow, levels_in-join r.now last);
      stands = over (is_inner one (length r.outer) depth r.deep) r.stands;
      few = omega (arith, r.few, length-append cells (c ∷ []));
    }

pub reading_word : (one : Bool) (text : List ℕ) (from p depth innermost end : ℕ) (cells : List Cell)
    → IsWord (signs one text) p end → Reading one text from p depth innermost cells
    → Reading one text from end depth innermost (cells ++ record { at = p; end = end; inside = 0 } ∷ [])
reading_word one text from p depth innermost end cells w r =
    reading_atom one text from p depth innermost end false _ cells w.ordered (w, refl)
    (λ inner here. over_word one (signs one text) p end depth inner w here) r

pub reading_string : (one : Bool) (text : List ℕ) (from p depth innermost end : ℕ) (cells : List Cell)
    → p < end → IsString (signs one text) p end → Reading one text from p depth innermost cells
    → Reading one text from end depth innermost (cells ++ record { at = p; end = end; inside = 0 } ∷ [])
reading_string one text from p depth innermost end cells fore s r =
    reading_atom one text from p depth innermost end true _ cells fore (s, refl)
    (λ inner here. over_string one (signs one text) p end depth inner s here) r

pub reading_open : (one : Bool) (text : List ℕ) (from p depth innermost : ℕ) (cells : List Cell)
    → signs one text p ≡ Open → depth < 64 → Reading one text from p depth innermost cells
    → Reading one text from (suc p) (suc depth) (length cells + 1) (cells ++ record { at = p; end = 0; inside = innermost } ∷ [])
reading_open one text from p depth innermost cells e low r =
    let l : Level = record { before = r.now; at = p } in
    let c : Cell = record { at = p; end = 0; inside = innermost } in
    let whole : cells ++ c ∷ [] ≡ open_cells (l ∷ r.outer) =
    ap (λ x. x ++ c ∷ []) r.kept
    ∙ ap (λ n. (open_cells r.outer ++ cells_of r.now) ++ record { at = p; end = 0; inside = n } ∷ []) r.linked in
    record {
      outer = l ∷ r.outer;
      now = none;
      are_open = (r.spelled, e, omega (arith, r.shallow, r.deep), r.are_open);
      spelled = no_gap (signs one text) (suc p);
      kept = whole ∙ sym (append-nil (open_cells (l ∷ r.outer)));
      linked = sym (length-append cells (c ∷ [])) ∙ ap length whole;
      deep = omega (arith, r.deep);
      shallow = omega arith;
      stands = over_open one (signs one text) p depth (is_inner one (length r.outer) depth r.deep) low e r.stands;
      few = omega (arith, r.few, length-append cells (c ∷ []));
    }

-- the cell of a list, once its closing bracket is found
abbrev pub closed : List Cell → ℕ → ℕ → List Cell
closed cells innermost end = slice_set cells (innermost - 1) (record {
  at = (slice_index_or cells (innermost - 1) no_cell).at;
  end = end;
  inside = length cells - innermost;
})

-- what closing the innermost list leaves
pub record Closes (one : Bool) (text : List ℕ) (from p depth innermost : ℕ) (cells : List Cell) : Type 0 where
  pub held : innermost ≤ length cells
  pub deep : 0 < depth
  pub after : Reading one text from (suc p) (depth - 1) (slice_index_or cells (innermost - 1) no_cell).inside (closed cells innermost (suc p))

close_level : (one : Bool) (text : List ℕ) (from p depth innermost : ℕ) (cells : List Cell) (l : Level) (outer : List Level) (now : Forest)
    → signs one text p ≡ Close → AreOpen one text from (l ∷ outer) → SpellsForest (signs one text) text (suc l.at) p now
    → cells ≡ open_cells (l ∷ outer) ++ cells_of now → innermost ≡ length (open_cells (l ∷ outer)) → depth ≡ suc (length outer) + outer_levels one
    → depth + levels_in now ≤ 64 → Stands one (signs one text) p (outside depth) → length cells ≤ p
    → Closes one text from p depth innermost cells
close_level one text from p depth innermost cells l outer now e are_open spelled kept linked deep shallow here few =
    let prefix : List Cell = open_cells outer ++ cells_of l.before in
    let c : Cell = record { at = l.at; end = 0; inside = length (open_cells outer) } in
    let s : Span = record { at = l.at; end = suc p } in
    let one_list : Forest = list s now none in
    let w : Cell = record { at = l.at; end = suc p; inside = length (cells_of now) } in
    let counted : innermost ≡ length prefix + 1 = linked ∙ length-append prefix (c ∷ []) in
    let place : innermost - 1 ≡ length prefix = omega arith in
    let whole : cells ≡ prefix ++ c ∷ cells_of now = kept ∙ append_assoc prefix (c ∷ []) (cells_of now) in
    let size : length cells ≡ length prefix + suc (length (cells_of now)) = ap length whole ∙ length-append prefix (c ∷ cells_of now) in
    let found : slice_index_or cells (innermost - 1) no_cell ≡ c =
    ap (λ i. get_or cells i no_cell) place ∙ ap (λ x. get_or x (length prefix) no_cell) whole ∙ get_or-append_seam prefix c (cells_of now) no_cell in
    let inner : length cells - innermost ≡ length (cells_of now) = omega arith in
    let made : ℕ → ℕ → Cell = λ x y. record { at = x; end = suc p; inside = y } in
    let v : Cell = made (slice_index_or cells (innermost - 1) no_cell).at (length cells - innermost) in
    let cell_is : v ≡ w = ap (λ (x : Cell). made x.at (length cells - innermost)) found ∙ ap (made l.at) inner in
    let written : closed cells innermost (suc p) ≡ prefix ++ w ∷ cells_of now =
    ap (λ i. slice_set cells i v) place ∙ ap (slice_set cells (length prefix)) cell_is
    ∙ ap (λ x. slice_set x (length prefix) w) whole ∙ set-append_seam prefix c (cells_of now) w in
    let d : ℕ = length outer + outer_levels one in
    let less : depth - 1 ≡ d = omega arith in
    let was : depth ≡ suc d = omega arith in
    let stands : Stands one (signs one text) (suc p) (outside d) = over_close one (signs one text) p d e (rw was at here) in
    record {
      held = omega arith;
      deep = omega arith;
      after = record {
        outer = outer;
        now = join l.before one_list;
        are_open = are_open.3;
        spelled = spelled_join (signs one text) text l.before one_list (start from outer) l.at (suc p) are_open.0
            (no_gap (signs one text) l.at, are_open.1, (p, refl, spelled, e), no_gap (signs one text) (suc p));
        kept = written ∙ append_assoc (open_cells outer) (cells_of l.before) (w ∷ cells_of now)
            ∙ ap (λ x. open_cells outer ++ x) (ap (λ x. cells_of l.before ++ w ∷ x) (sym (append-nil (cells_of now))) ∙ sym (cells_of-join l.before one_list));
        linked = ap (λ (x : Cell). x.inside) found;
        deep = less;
        shallow = omega (arith, levels_in-join l.before one_list, are_open.2);
        stands = rw less stands;
        few = omega (arith, ap length written, length-append prefix (w ∷ cells_of now));
      };
    }

reading_close_by : (one : Bool) (text : List ℕ) (from p depth innermost : ℕ) (cells : List Cell) (outer : List Level) (now : Forest)
    → signs one text p ≡ Close → 0 < innermost → AreOpen one text from outer → SpellsForest (signs one text) text (start from outer) p now
    → cells ≡ open_cells outer ++ cells_of now → innermost ≡ length (open_cells outer) → depth ≡ length outer + outer_levels one
    → depth + levels_in now ≤ 64 → Stands one (signs one text) p (outside depth) → length cells ≤ p
    → Closes one text from p depth innermost cells
reading_close_by one text from p depth innermost cells [] now e some are_open spelled kept linked deep shallow here few = absurd (omega arith)
reading_close_by one text from p depth innermost cells (l ∷ outer) now e some are_open spelled kept linked deep shallow here few =
    close_level one text from p depth innermost cells l outer now e are_open spelled kept linked deep shallow here few

pub reading_close : (one : Bool) (text : List ℕ) (from p depth innermost : ℕ) (cells : List Cell)
    → signs one text p ≡ Close → 0 < innermost → Reading one text from p depth innermost cells
    → Closes one text from p depth innermost cells
reading_close one text from p depth innermost cells e some r =
    reading_close_by one text from p depth innermost cells r.outer r.now e some r.are_open r.spelled r.kept r.linked r.deep r.shallow r.stands r.few

no_open : (one : Bool) (text : List ℕ) (from p depth innermost : ℕ) (cells : List Cell) (outer : List Level)
    → innermost ≡ 0 → innermost ≡ length (open_cells outer) → outer ≡ []
no_open one text from p depth innermost cells [] z linked = refl
no_open one text from p depth innermost cells (l ∷ outer) z linked =
    absurd (omega (arith, linked, z, length-append (open_cells outer ++ cells_of l.before) (record { at = l.at; end = 0; inside = length (open_cells outer) } ∷ [])))

-- where no list is open all is read
pub reading_done : (one : Bool) (text : List ℕ) (from p depth innermost : ℕ) (cells : List Cell)
    → innermost ≡ 0 → p ≤ length text → (p < length text → signs one text p ≡ Close) → Reading one text from p depth innermost cells
    → TreesAreRead one text from p cells
reading_done one text from p depth innermost cells z within ends r =
    let none_open = no_open one text from p depth innermost cells r.outer z r.linked in
    let level : depth ≡ outer_levels one = r.deep ∙ ap (λ (x : List Level). length x + outer_levels one) none_open ∙ zero-add (outer_levels one) in
    record {
      forest = r.now;
      spelled = rw none_open at r.spelled;
      kept = r.kept ∙ ap (λ x. open_cells x ++ cells_of r.now) none_open;
      shallow = omega (arith, r.shallow, level);
      within = within;
      ends = ends;
      stands = rw level at r.stands;
    }

pub reading_inner : (one : Bool) (text : List ℕ) (from p depth innermost : ℕ) (cells : List Cell) → Reading one text from p depth innermost cells
    → IsInner one depth
reading_inner one text from p depth innermost cells r = is_inner one (length r.outer) depth r.deep

some_open : (one : Bool) (text : List ℕ) (from innermost : ℕ) (outer : List Level) → 0 < innermost → innermost ≡ length (open_cells outer) → 0 < length outer
some_open one text from innermost [] some linked = absurd (omega arith)
some_open one text from innermost (l ∷ outer) some linked = omega arith

-- where a list is open there is a level
pub reading_deep : (one : Bool) (text : List ℕ) (from p depth innermost : ℕ) (cells : List Cell) → Reading one text from p depth innermost cells
    → 0 < innermost → 0 < depth
reading_deep one text from p depth innermost cells r some = omega (arith, some_open one text from innermost r.outer some r.linked, r.deep)

pub positive : (n : ℕ) → (n ≡ 0 → ⊥) → 0 < n
positive zero h = absurd (h refl)
positive (suc n) h = omega arith
