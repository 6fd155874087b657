-- The walk over the parts of a list: what is found so far, completed by what is left, is what all gives.
use Rattle.std.proofs.Common.{◌≡◌, ◌∙◌, refl, sym, ap, subst, ℕ, zero, suc, ◌+◌, ◌<◌, arith, add-one, List, [], ◌∷◌, ◌++◌, length, take, drop, map, get_or, set, find, Option, None, Some, option_map, Bool, true, false}
use Rattle.std.proofs.lemmas.List.{set-get_or, map-set, length-map, get_or_default}
use Rattle.sexpr_read.specs.declared.view.Node.{Node}
use Rattle.sexpr_read.specs.Tree.{Tree, parts}
use Rattle.sexpr_read.specs.TreeViews.{tree_of}
use Rattle.list_read.specs.declared.elements.Wanted.{Wanted}
use Rattle.list_read.specs.declared.elements.Wanted.TheVariants.{Head, Name}
use Rattle.list_read.specs.ListHeads.{has_head}
use Rattle.list_read.specs.NamedElements.{is_naming, element, naming}
use Rattle.list_read.specs.Wanted.{found_in}
use Rattle.list_read.specs.ListWalk.{is_wanted_first, is_new, noted_one, noted}

-- ---- one part, noted for those below k

abbrev pub noted_below : Tree → Tree → ℕ → List Wanted → List (Option Tree) → List (Option Tree)
noted_below part first k ws fs = noted part first (take k ws) (take k fs) ++ drop k fs

next_noted : (part first : Tree) (k : ℕ) (ws : List Wanted) (fs : List (Option Tree)) (w : Wanted) → k < length ws → length ws ≡ length fs → w ≡ get_or ws k w
    → noted_below part first (suc k) ws fs ≡ set (noted_below part first k ws fs) k (noted_one part first w (get_or (noted_below part first k ws fs) k None))
next_noted part first k [] fs w lt e is = absurd (omega arith)
next_noted part first k (v ∷ ws) [] w lt e is = absurd (omega arith)
next_noted part first zero (v ∷ ws) (f ∷ fs) w lt e is = ap (λ (u : Wanted). noted_one part first u f ∷ fs) (sym is)
next_noted part first (suc k) (v ∷ ws) (f ∷ fs) w lt e is =
    ap (λ (l : List (Option Tree)). noted_one part first v f ∷ l) (next_noted part first k ws fs w (omega arith) (omega arith) is)

-- the part is noted where it is the first that is wanted, and else all stays
pub note_it : (part first : Tree) (k : ℕ) (ws : List Wanted) (fs xs : List (Option Tree)) (w : Wanted) → k < length ws → length ws ≡ length fs → w ≡ get_or ws k w
    → xs ≡ noted_below part first k ws fs → is_new (get_or xs k None) w first ≡ true → set xs k (Some part) ≡ noted_below part first (k + 1) ws fs
note_it part first k ws fs xs w lt e is so new =
    let step = rw (← so) at (next_noted part first k ws fs w lt e is) in
    sym (subst (λ (n : ℕ). noted_below part first n ws fs ≡ set xs k (Some part)) (sym (add-one k)) (rw new at step))

pub keep_it : (part first : Tree) (k : ℕ) (ws : List Wanted) (fs xs : List (Option Tree)) (w : Wanted) → k < length ws → length ws ≡ length fs → w ≡ get_or ws k w
    → xs ≡ noted_below part first k ws fs → is_new (get_or xs k None) w first ≡ false → xs ≡ noted_below part first (k + 1) ws fs
keep_it part first k ws fs xs w lt e is so old =
    let step = rw (← so) at (next_noted part first k ws fs w lt e is) in
    let same : set xs k (get_or xs k None) ≡ xs = set-get_or xs k None in
    sym (subst (λ (n : ℕ). noted_below part first n ws fs ≡ xs) (sym (add-one k)) ((rw old at step) ∙ same))

-- what stands at a place, as a tree
pub mapped_at : (fs : List (Option Node)) (k : ℕ) (r : Option Node) → k < length fs → r ≡ get_or fs k r → get_or (map (option_map tree_of) fs) k None ≡ option_map tree_of r
mapped_at [] k r lt e = absurd (omega arith)
mapped_at (f ∷ fs) zero r lt e = ap (option_map tree_of) (sym e)
mapped_at (f ∷ fs) (suc k) r lt e = mapped_at fs k r (omega arith) e

module _ (part : Node) (first : Tree) (k : ℕ) (ws : List Wanted) (before found : List (Option Node)) (r : Option Node) (d : Wanted) (new : Bool)
    (lt : k < length ws) (same : length ws ≡ length before) (inside : k < length found) (is : r ≡ get_or found k r)
    (so : map (option_map tree_of) found ≡ noted_below (tree_of part) first k ws (map (option_map tree_of) before))
    (asked : new ≡ is_new (option_map tree_of (get_or found k r)) (get_or ws k d) first) where
  told : is_new (get_or (map (option_map tree_of) found) k None) (get_or ws k d) first ≡ new
  told =
      ap (λ (o : Option Tree). is_new o (get_or ws k d) first) (mapped_at found k r inside is ∙ ap (option_map tree_of) is) ∙ sym asked

  trees_same : length ws ≡ length (map (option_map tree_of) before)
  trees_same = same ∙ sym (length-map before (option_map tree_of))

  pub note_here : new ≡ true → map (option_map tree_of) (set found k (Some part)) ≡ noted_below (tree_of part) first (k + 1) ws (map (option_map tree_of) before)
  note_here h =
      map-set (option_map tree_of) found k (Some part)
      ∙ note_it (tree_of part) first k ws (map (option_map tree_of) before) (map (option_map tree_of) found) (get_or ws k d) lt trees_same (get_or_default ws k d (get_or ws k d) lt) so (told ∙ h)

  pub keep_here : new ≡ false → map (option_map tree_of) found ≡ noted_below (tree_of part) first (k + 1) ws (map (option_map tree_of) before)
  keep_here h =
      keep_it (tree_of part) first k ws (map (option_map tree_of) before) (map (option_map tree_of) found) (get_or ws k d) lt trees_same (get_or_default ws k d (get_or ws k d) lt) so (told ∙ h)

-- ---- all parts

-- whether a part is the one
abbrev is_wanted : Wanted → Tree → Bool
is_wanted (Head word) tree = has_head word.now tree
is_wanted Name tree = is_naming tree

-- what is found, or else the first among these trees
abbrev pub completed_one : List Tree → Wanted → Option Tree → Option Tree
completed_one ts w (Some t) = Some t
completed_one ts w None = find (is_wanted w) ts

abbrev pub completed : List Tree → List Wanted → List (Option Tree) → List (Option Tree)
completed ts (w ∷ ws) (f ∷ fs) = completed_one ts w f ∷ completed ts ws fs
completed ts ws fs = []

found_first : (tree : Tree) (w : Wanted) → find (is_wanted w) (parts tree) ≡ found_in tree w
unfolding element naming
found_first tree (Head word) = refl
found_first tree Name = refl

-- at the start nothing is found
pub completed_none : (tree : Tree) (ws : List Wanted) (fs : List (Option Node)) → length ws ≡ length fs → ((k : ℕ) → k < length fs → get_or fs k None ≡ None)
    → completed (parts tree) ws (map (option_map tree_of) fs) ≡ map (found_in tree) ws
completed_none tree [] fs e none = refl
completed_none tree (w ∷ ws) [] e none = absurd (omega (arith, e))
completed_none tree (w ∷ ws) (f ∷ fs) e none =
    let first : f ≡ None = none 0 (omega arith) in
    rw first (ap (λ (o : Option Tree). o ∷ completed (parts tree) ws (map (option_map tree_of) fs)) (found_first tree w)
    ∙ ap (λ (l : List (Option Tree)). found_in tree w ∷ l) (completed_none tree ws fs (omega (arith, e)) (λ k lt. none (suc k) (omega arith))))

-- a list is the one exactly where its first part says so
wanted_first : (w : Wanted) (t first : Tree) (rest : List Tree) → parts t ≡ first ∷ rest → is_wanted w t ≡ is_wanted_first w first
unfolding has_head is_naming
wanted_first (Head word) t first rest e = rw e refl
wanted_first Name t first rest e = rw e refl

-- an atom and the empty list are none
wanted_none : (w : Wanted) (t : Tree) → parts t ≡ [] → is_wanted w t ≡ false
unfolding has_head is_naming
wanted_none (Head word) t e = rw e refl
wanted_none Name t e = rw e refl

one_more : (t first : Tree) (ts rest : List Tree) (w : Wanted) (f : Option Tree) → parts t ≡ first ∷ rest → completed_one ts w (noted_one t first w f) ≡ completed_one (t ∷ ts) w f
one_more t first ts rest w (Some found) e = refl
one_more t first ts rest w None e = by (is_wanted w t) (is_wanted_first w first) (wanted_first w t first rest e) refl refl
  where
    by : (a b : Bool) → a ≡ b → is_wanted w t ≡ a → is_wanted_first w first ≡ b → completed_one ts w (noted_one t first w None) ≡ completed_one (t ∷ ts) w None
    by true true same h k = rw (h, k) refl
    by false false same h k = rw (h, k) refl
    by true false same h k = absurd cc
    by false true same h k = absurd cc

-- a part is noted
pub completed_more : (t first : Tree) (ts rest : List Tree) (ws : List Wanted) (fs : List (Option Tree)) → parts t ≡ first ∷ rest
    → completed ts ws (noted t first ws fs) ≡ completed (t ∷ ts) ws fs
completed_more t first ts rest [] fs e = refl
completed_more t first ts rest (w ∷ ws) [] e = refl
completed_more t first ts rest (w ∷ ws) (f ∷ fs) e =
    ap (λ (o : Option Tree). o ∷ completed ts ws (noted t first ws fs)) (one_more t first ts rest w f e) ∙ ap (λ (l : List (Option Tree)). completed_one (t ∷ ts) w f ∷ l) (completed_more t first ts rest ws fs e)

one_passed : (t : Tree) (ts : List Tree) (w : Wanted) (f : Option Tree) → parts t ≡ [] → completed_one ts w f ≡ completed_one (t ∷ ts) w f
one_passed t ts w (Some found) e = refl
one_passed t ts w None e = rw (wanted_none w t e) refl

-- or passed over
pub completed_passed : (t : Tree) (ts : List Tree) (ws : List Wanted) (fs : List (Option Tree)) → parts t ≡ [] → completed ts ws fs ≡ completed (t ∷ ts) ws fs
completed_passed t ts [] fs e = refl
completed_passed t ts (w ∷ ws) [] e = refl
completed_passed t ts (w ∷ ws) (f ∷ fs) e =
    ap (λ (o : Option Tree). o ∷ completed ts ws fs) (one_passed t ts w f e) ∙ ap (λ (l : List (Option Tree)). completed_one (t ∷ ts) w f ∷ l) (completed_passed t ts ws fs e)

one_all : (w : Wanted) (f : Option Tree) → completed_one [] w f ≡ f
one_all w (Some found) = refl
one_all w None = refl

-- at the end nothing is left
pub completed_all : (ws : List Wanted) (fs : List (Option Tree)) → length ws ≡ length fs → completed [] ws fs ≡ fs
completed_all [] [] e = refl
completed_all [] (f ∷ fs) e = absurd (omega (arith, e))
completed_all (w ∷ ws) [] e = absurd (omega (arith, e))
completed_all (w ∷ ws) (f ∷ fs) e =
    ap (λ (o : Option Tree). o ∷ completed [] ws fs) (one_all w f) ∙ ap (λ (l : List (Option Tree)). f ∷ l) (completed_all ws fs (omega (arith, e)))
