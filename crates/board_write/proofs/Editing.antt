-- The text of a board whose lists have their dispositions.
use Rattle.std.proofs.Common.{◌≡◌, ◌∙◌, refl, sym, ap, subst, ℕ, ◌+◌, ◌-◌, Bool, true, false, Bor, List, [], ◌∷◌, ◌++◌, append_assoc, length}
use Rattle.std.specs.Prelude.{slice_range}
use Rattle.sexpr_read.specs.declared.place.Span.{Span}
use Rattle.sexpr_read.specs.Tree.{Forest, none, atom, list, Tree, leaf, branch, span, is_list, parts}
use Rattle.roundtrip_text.specs.Pieces.{written}
use Rattle.roundtrip_text.specs.RewrittenText.{text_rewritten, Disposition, becomes, list_by, edited, spaced, edited_whole}
use Rattle.board_write.specs.declared.marks.Mark.{Mark}
use Rattle.board_write.specs.declared.marks.Mark.TheVariants.{Stays, Gone, Moved}
use Rattle.board_write.specs.declared.setting.Setting.TheVariants.{AsInText, Spaced}
use Rattle.board_write.specs.declared.places.Moving.{Moving}
use Rattle.board_write.specs.declared.edit_state.AddedList.{AddedList}
use Rattle.board_write.specs.Marks.{mark_of_unit}
use Rattle.board_write.specs.Settings.{grove, inside, set_down, updated, list_down, unit_moving, moving_by}
use Rattle.board_write.specs.Opened.{atom_down}
use Rattle.board_write.specs.Dispositions.{mark_disposition, mark_here, spans_behind, marks_behind, dispositions_by, one_list, one_by, added_by, one_down}
use Rattle.board_write.proofs.Groves.{grove_parts}
use Rattle.board_write.proofs.Prefixes.{more}

-- trees that stand as in their text, and trees with spaces
text_down : (text : Bor (List ℕ)) (from to : ℕ) (first : Bool) (f : Forest) → set_down (AsInText text) from to first f ≡ text_rewritten text.now from to f
text_down text from to first none = refl
text_down text from to first (atom s q c others) = ap (λ (l : List ℕ). slice_range text.now from s.at ++ (written q c ++ l)) (text_down text s.end to false others)
text_down text from to first (list s i others) =
    ap (λ (l : List ℕ). slice_range text.now from s.at ++ (40 ∷ (l ++ (41 ∷ set_down (AsInText text) s.end to false others)))) (text_down text (s.at + 1) (s.end - 1) true i)
    ∙ ap (λ (l : List ℕ). slice_range text.now from s.at ++ (40 ∷ (text_rewritten text.now (s.at + 1) (s.end - 1) i ++ (41 ∷ l)))) (text_down text s.end to false others)

spaced_down : (from to : ℕ) (first : Bool) (f : Forest) → set_down Spaced from to first f ≡ spaced first f
spaced_down from to first none = refl
spaced_down from to true (atom s q c others) = ap (λ (l : List ℕ). written q c ++ l) (spaced_down s.end to false others)
spaced_down from to false (atom s q c others) = ap (λ (l : List ℕ). 32 ∷ (written q c ++ l)) (spaced_down s.end to false others)
spaced_down from to true (list s i others) =
    ap (λ (l : List ℕ). 40 ∷ (l ++ (41 ∷ set_down Spaced s.end to false others))) (spaced_down (s.at + 1) (s.end - 1) true i)
    ∙ ap (λ (l : List ℕ). 40 ∷ (spaced true i ++ (41 ∷ l))) (spaced_down s.end to false others)
spaced_down from to false (list s i others) =
    ap (λ (l : List ℕ). 32 ∷ (40 ∷ (l ++ (41 ∷ set_down Spaced s.end to false others)))) (spaced_down (s.at + 1) (s.end - 1) true i)
    ∙ ap (λ (l : List ℕ). 32 ∷ (40 ∷ (spaced true i ++ (41 ∷ l)))) (spaced_down s.end to false others)

-- a list of the board that was moved
pub moved_text : (text : Bor (List ℕ)) (s : Span) (f : Forest) → list_down (AsInText text) s f ≡ list_by text.now s (becomes f)
moved_text text s f = ap (λ (l : List ℕ). 40 ∷ (l ++ 41 ∷ [])) (text_down text (s.at + 1) (s.end - 1) true f)

-- an added list
spaced_list : (s : Span) (f : Forest) → (32 ∷ list_down Spaced s f) ≡ spaced false (list s f none)
spaced_list s f = ap (λ (l : List ℕ). 32 ∷ (40 ∷ (l ++ 41 ∷ []))) (spaced_down (s.at + 1) (s.end - 1) true f)

pub added_text : (mark : Mark) (t : Tree) → (mark ≡ Gone → ⊥) → (32 ∷ list_down Spaced (span t) (updated (moving_by mark (inside t)) (inside t))) ≡ spaced false (one_by mark t none)
added_text Stays t there = spaced_list (span t) (inside t)
added_text Gone t there = absurd (there refl)
added_text (Moved by) t there = spaced_list (span t) (updated (unit_moving by (inside t)) (inside t))

pub added_piece : (mark : Mark) (t : Tree) (old : List ℕ) {spaced_one now : List ℕ} (moving : Moving) → (mark ≡ Gone → ⊥) → moving ≡ moving_by mark (inside t) → spaced_one ≡ old ++ 32 ∷ [] → now ≡ spaced_one ++ list_down Spaced (span t) (updated moving (inside t))
    → now ≡ old ++ spaced false (one_by mark t none)
added_piece mark t old {spaced_one} {now} moving there same e k =
    k ∙ more old (32 ∷ []) e (list_down Spaced (span t) (updated moving (inside t)))
    ∙ ap (λ (m : Moving). old ++ (32 ∷ list_down Spaced (span t) (updated m (inside t)))) same
    ∙ ap (λ (l : List ℕ). old ++ l) (added_text mark t there)

-- ---- one list after another

edited_atom : (text : List ℕ) (from to : ℕ) (marks : List Mark) (spans : List Span) (t : Tree) (ts : List Tree) → is_list t ≡ false
    → edited text from to (dispositions_by marks spans (t ∷ ts)) (grove (t ∷ ts)) ≡ slice_range text from (span t).at ++ (atom_down t ++ edited text (span t).end to (dispositions_by marks spans ts) (grove ts))
edited_atom text from to marks spans (leaf s q c) ts h = refl
edited_atom text from to marks spans (branch s i) ts h = absurd cc

edited_list : (text : List ℕ) (from to : ℕ) (marks : List Mark) (spans : List Span) (t : Tree) (ts : List Tree) → is_list t ≡ true
    → edited text from to (dispositions_by marks spans (t ∷ ts)) (grove (t ∷ ts))
    ≡ slice_range text from (span t).at ++ (list_by text (span t) (mark_disposition (mark_here marks spans (span t)) (inside t)) ++ edited text (span t).end to (dispositions_by (marks_behind marks spans (span t)) (spans_behind spans (span t)) ts) (grove ts))
edited_list text from to marks spans (leaf s q c) ts h = absurd cc
edited_list text from to marks spans (branch s i) ts h = refl

module _ (text : List ℕ) (from to : ℕ) (marks : List Mark) (spans : List Span) (t : Tree) (left ts : List Tree) (was all : List ℕ) (s : Span)
    (steps : left ≡ t ∷ ts) (same : s ≡ span t) (holds : was ++ edited text from to (dispositions_by marks spans left) (grove left) ≡ all) where
  begun : was ++ edited text from to (dispositions_by marks spans (t ∷ ts)) (grove (t ∷ ts)) ≡ all
  begun = ap (λ (l : List Tree). was ++ edited text from to (dispositions_by marks spans l) (grove l)) (sym steps) ∙ holds

  pub past_atom : (gapped now : List ℕ) → is_list t ≡ false → gapped ≡ was ++ slice_range text from s.at → now ≡ gapped ++ atom_down t
      → now ++ edited text s.end to (dispositions_by marks spans ts) (grove ts) ≡ all
  past_atom gapped now h g a =
      subst (λ (z : Span). gapped ≡ was ++ slice_range text from z.at → now ++ edited text z.end to (dispositions_by marks spans ts) (grove ts) ≡ all) (sym same)
      (λ k.
      more gapped (atom_down t) a (edited text (span t).end to (dispositions_by marks spans ts) (grove ts))
      ∙ more was (slice_range text from (span t).at) k (atom_down t ++ edited text (span t).end to (dispositions_by marks spans ts) (grove ts))
      ∙ ap (λ (l : List ℕ). was ++ l) (sym (edited_atom text from to marks spans t ts h)) ∙ begun)
      g

  pub past_list : (gapped now : List ℕ) (mark : Mark) (marks_left : List Mark) (spans_left : List Span) → is_list t ≡ true → gapped ≡ was ++ slice_range text from s.at
      → mark ≡ mark_here marks spans s → now ≡ gapped ++ list_by text (span t) (mark_disposition mark (inside t)) → marks_left ≡ marks_behind marks spans s → spans_left ≡ spans_behind spans s
      → now ++ edited text s.end to (dispositions_by marks_left spans_left ts) (grove ts) ≡ all
  past_list gapped now mark marks_left spans_left h g m a ml sl =
      let end_text : List Mark → List Span → List ℕ = λ ms ss. edited text (span t).end to (dispositions_by ms ss ts) (grove ts) in
      subst (λ (z : Span). gapped ≡ was ++ slice_range text from z.at → mark ≡ mark_here marks spans z → marks_left ≡ marks_behind marks spans z → spans_left ≡ spans_behind spans z
      → now ++ edited text z.end to (dispositions_by marks_left spans_left ts) (grove ts) ≡ all) (sym same)
      (λ k n ml sl.
      ap (λ (ms : List Mark). now ++ end_text ms spans_left) ml
      ∙ ap (λ (ss : List Span). now ++ end_text (marks_behind marks spans (span t)) ss) sl
      ∙ more gapped (list_by text (span t) (mark_disposition mark (inside t))) a (end_text (marks_behind marks spans (span t)) (spans_behind spans (span t)))
      ∙ more was (slice_range text from (span t).at) k (list_by text (span t) (mark_disposition mark (inside t)) ++ end_text (marks_behind marks spans (span t)) (spans_behind spans (span t)))
      ∙ ap (λ (x : Mark). was ++ (slice_range text from (span t).at ++ (list_by text (span t) (mark_disposition x (inside t)) ++ end_text (marks_behind marks spans (span t)) (spans_behind spans (span t))))) n
      ∙ ap (λ (l : List ℕ). was ++ l) (sym (edited_list text from to marks spans t ts h)) ∙ begun)
      g m ml sl

pub past_all : (text : List ℕ) (from to : ℕ) (marks : List Mark) (spans : List Span) (left : List Tree) (was now all : List ℕ) → left ≡ [] → was ++ edited text from to (dispositions_by marks spans left) (grove left) ≡ all
    → now ≡ was ++ slice_range text from to → now ≡ all
past_all text from to marks spans left was now all none_left holds e =
    e ∙ ap (λ (l : List Tree). was ++ edited text from to (dispositions_by marks spans l) (grove l)) (sym none_left) ∙ holds

-- ---- added lists, one after another

spaced_one : (mark : Mark) (t : Tree) (others : Forest) → spaced false (one_by mark t others) ≡ spaced false (one_by mark t none) ++ spaced false others
spaced_one Gone t others = refl
spaced_one Stays t others = ap (λ (l : List ℕ). 32 ∷ (40 ∷ l)) (sym (append_assoc (spaced true (inside t)) (41 ∷ []) (spaced false others)))
spaced_one (Moved by) t others =
    ap (λ (l : List ℕ). 32 ∷ (40 ∷ l)) (sym (append_assoc (spaced true (updated (unit_moving by (inside t)) (inside t))) (41 ∷ []) (spaced false others)))

pub past_added : (marks : List Mark) (added : AddedList) (left later : List AddedList) (was now all : List ℕ) → left ≡ added ∷ later → was ++ spaced false (added_by marks left) ≡ all → now ≡ was ++ one_down marks added
    → now ++ spaced false (added_by marks later) ≡ all
past_added marks added left later was now all steps holds e =
    more was (one_down marks added) e (spaced false (added_by marks later))
    ∙ ap (λ (l : List ℕ). was ++ l) (sym (spaced_one (mark_of_unit marks added.unit) (one_list added) (added_by marks later)))
    ∙ ap (λ (l : List AddedList). was ++ spaced false (added_by marks l)) (sym steps)
    ∙ holds

-- ---- the whole

pub whole_text : (text : List ℕ) (s : Span) (dispositions : List Disposition) (f added : Forest) (prefix inner with_added all : List ℕ) → prefix ≡ [] ++ slice_range text 0 (s.at + 1)
    → inner ≡ prefix ++ edited text (s.at + 1) (s.end - 1) dispositions f → with_added ≡ inner ++ spaced false added → all ≡ with_added ++ slice_range text (s.end - 1) (length text)
    → all ≡ edited_whole text s dispositions f added
whole_text text s dispositions f added prefix inner with_added all a b c d =
    let end : List ℕ = slice_range text (s.end - 1) (length text) in
    d ∙ more inner (spaced false added) c end ∙ more prefix (edited text (s.at + 1) (s.end - 1) dispositions f) b (spaced false added ++ end)
    ∙ more [] (slice_range text 0 (s.at + 1)) a (edited text (s.at + 1) (s.end - 1) dispositions f ++ (spaced false added ++ end))

pub begun_all : (text : List ℕ) (root : Tree) (s : Span) (marks : List Mark) (spans : List Span) (left : List Tree) (old : List ℕ) → s ≡ span root → left ≡ parts root
    → old ++ edited text (s.at + 1) ((span root).end - 1) (dispositions_by marks spans left) (grove left) ≡ old ++ edited text ((span root).at + 1) ((span root).end - 1) (dispositions_by marks spans (parts root)) (inside root)
begun_all text root s marks spans left old same given =
    ap (λ (z : Span). old ++ edited text (z.at + 1) ((span root).end - 1) (dispositions_by marks spans left) (grove left)) same
    ∙ ap (λ (l : List Tree). old ++ edited text ((span root).at + 1) ((span root).end - 1) (dispositions_by marks spans l) (grove l)) given
    ∙ ap (λ (f : Forest). old ++ edited text ((span root).at + 1) ((span root).end - 1) (dispositions_by marks spans (parts root)) f) (grove_parts root)
