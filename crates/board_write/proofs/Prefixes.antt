-- The front of a list that is set down.
use Rattle.std.proofs.Common.{◌≡◌, ◌∙◌, refl, sym, ap, subst, ℕ, ◌+◌, ◌≤◌, ℤ, arith, true, List, [], ◌∷◌, ◌++◌, append_assoc, Option, None, Some, Result, Ok, Err}
use Rattle.std.specs.Prelude.{OnOk, IfOk}
use Rattle.sexpr_read.specs.declared.place.Span.{Span}
use Rattle.sexpr_read.specs.Tree.{Forest, Tree, span, parts, levels_in}
use Rattle.sexpr_read.specs.declared.view.Children.{Children}
use Rattle.sexpr_read.specs.TreeViews.{tree_of, trees_left}
use Rattle.roundtrip_lists.specs.Moving.{put_if, put_numbers}
use Rattle.board_write.specs.declared.setting.Setting.{Setting}
use Rattle.board_write.specs.declared.setting.Left.{Left}
use Rattle.board_write.specs.declared.places.Place.{Place}
use Rattle.board_write.specs.declared.places.Moving.{Moving}
use Rattle.board_write.specs.declared.places.Moving.TheVariants.{Nothing, First, All}
use Rattle.board_write.specs.Settings.{grove, inside, set_down, updated, own_place, within, updated_inside}
use Rattle.board_write.specs.MovedPlaces.{as_atom, list_numbers, StandsIn}
use Rattle.board_write.specs.Opened.{placed, IsPlaced, IsListOpened}
use Rattle.board_write.proofs.Groves.{grove_parts}

-- what follows where a call came about
pub on_ok : {T E A B : Type 0} (r : Result T E) → (A → B) → OnOk r A → OnOk r B
on_ok (Ok x) f h = f h
on_ok (Err e) f h = tt

-- a piece more
pub more : (old piece : List ℕ) {new : List ℕ} → new ≡ old ++ piece → (rest : List ℕ) → new ++ rest ≡ old ++ (piece ++ rest)
more old piece {new} e rest = ap (λ (l : List ℕ). l ++ rest) e ∙ append_assoc old piece rest

-- a list of which no place of its own is moved
same_inside : (moving : Moving) (f : Forest) → None ≡ own_place moving f → updated (within moving) f ≡ updated_inside moving f
same_inside moving f e = ap (λ (o : Option (ℤ × ℤ)). put_if o (updated (within moving) f)) e

pub prefix_plain : (setting : Setting) (moving : Moving) (tree : Tree) (old new : List ℕ) (ts : List Tree) → new ≡ old ++ 40 ∷ [] → ts ≡ parts tree → None ≡ own_place moving (inside tree) → (to : ℕ)
    → new ++ set_down setting ((span tree).at + 1) to true (updated (within moving) (grove ts)) ≡ old ++ (40 ∷ set_down setting ((span tree).at + 1) to true (updated_inside moving (inside tree)))
prefix_plain setting moving tree old new ts e given own to =
    more old (40 ∷ []) e (set_down setting ((span tree).at + 1) to true (updated (within moving) (grove ts)))
    ∙ ap (λ (f : Forest). old ++ (40 ∷ set_down setting ((span tree).at + 1) to true f))
    (ap (λ (us : List Tree). updated (within moving) (grove us)) given ∙ ap (updated (within moving)) (grove_parts tree) ∙ same_inside moving (inside tree) own)

pub less_plain : (tree : Tree) (ts : List Tree) → ts ≡ parts tree → levels_in (grove ts) ≤ levels_in (inside tree)
less_plain tree ts given = let e : levels_in (grove ts) ≡ levels_in (inside tree) = ap (λ (us : List Tree). levels_in (grove us)) given ∙ ap levels_in (grove_parts tree) in omega (arith, e)

-- one of which the place is moved
within_atom : (moving : Moving) (t : Tree) (f : Forest) → updated (within moving) (as_atom t f) ≡ as_atom t (updated (within moving) f)
within_atom Nothing t f = refl
within_atom (First by) t f = refl
within_atom (All by) t f = refl

placed_inside : (moving : Moving) (tree : Tree) (place : Place) → StandsIn (inside tree) place → Some (list_numbers place) ≡ own_place moving (inside tree)
    → placed place (updated (within moving) (grove (trees_left place.rest))) ≡ updated_inside moving (inside tree)
placed_inside moving tree place stands own =
    let h = tree_of place.head in
    let x = tree_of place.x.atom in
    let y = tree_of place.y.atom in
    let rest = grove (trees_left place.rest) in
    let w : Forest → Forest = updated (within moving) in
    let three : w (as_atom h (as_atom x (as_atom y rest))) ≡ as_atom h (as_atom x (as_atom y (w rest))) =
    within_atom moving h (as_atom x (as_atom y rest)) ∙ ap (as_atom h) (within_atom moving x (as_atom y rest)) ∙ ap (λ (f : Forest). as_atom h (as_atom x f)) (within_atom moving y rest) in
    ap (put_numbers (list_numbers place)) (sym three) ∙ ap (λ (f : Forest). put_numbers (list_numbers place) (w f)) (sym stands.is) ∙ ap (λ (o : Option (ℤ × ℤ)). put_if o (w (inside tree))) own

pub prefix_placed : (setting : Setting) (moving : Moving) (tree : Tree) (old new after : List ℕ) (place : Place) (left : Left) → new ≡ old ++ 40 ∷ [] → StandsIn (inside tree) place → Some (list_numbers place) ≡ own_place moving (inside tree)
    → IsPlaced setting ((span tree).at + 1) place new after left → IsListOpened setting moving tree old after left
prefix_placed setting moving tree old new after place left e stands own (rest, text) = record {
  text = λ to.
      ap (λ (children : Children). after ++ set_down setting left.from to left.is_first (updated (within moving) (grove (trees_left children)))) rest
      ∙ text to (updated (within moving) (grove (trees_left place.rest)))
      ∙ more old (40 ∷ []) e (set_down setting ((span tree).at + 1) to true (placed place (updated (within moving) (grove (trees_left place.rest)))))
      ∙ ap (λ (f : Forest). old ++ (40 ∷ set_down setting ((span tree).at + 1) to true f)) (placed_inside moving tree place stands own);
  less =
      let same : levels_in (grove (trees_left left.parts)) ≡ levels_in (grove (trees_left place.rest)) = ap (λ (children : Children). levels_in (grove (trees_left children))) rest in
      let deep : levels_in (inside tree) ≡ levels_in (grove (trees_left place.rest)) = ap levels_in stands.is in
      omega (arith, same, deep);
}

-- what follows of what a call gives
pub if_ok : {T E : Type 0} {P Q : T → Type 0} (r : Result T E) → ((x : T) → P x → Q x) → IfOk r P → IfOk r Q
if_ok (Ok x) f h = f x h
if_ok (Err e) f h = tt

pub prefix_whole : (setting : Setting) (moving : Moving) (tree : Tree) (s : Span) (old after : List ℕ) (place : Place) (left : Left) {new : List ℕ} → s ≡ span tree → new ≡ old ++ 40 ∷ [] → StandsIn (inside tree) place
    → Some (list_numbers place) ≡ own_place moving (inside tree) → IsPlaced setting (s.at + 1) place new after left → IsListOpened setting moving tree old after left
prefix_whole setting moving tree s old after place left {new} same e stands own placed_it =
    prefix_placed setting moving tree old new after place left e stands own (subst (λ (z : Span). IsPlaced setting (z.at + 1) place new after left) same placed_it)

pub prefix_opened : (setting : Setting) (moving : Moving) (tree : Tree) (s : Span) (old new : List ℕ) (children : Children) → s ≡ span tree → new ≡ old ++ 40 ∷ [] → trees_left children ≡ parts tree → None ≡ own_place moving (inside tree)
    → IsListOpened setting moving tree old new (record { from = s.at + 1; is_first = true; parts = children })
prefix_opened setting moving tree s old new children same e given own = record {
  text = λ to.
      subst (λ (z : Span). new ++ set_down setting (z.at + 1) to true (updated (within moving) (grove (trees_left children))) ≡ old ++ (40 ∷ set_down setting ((span tree).at + 1) to true (updated_inside moving (inside tree)))) (sym same)
      (prefix_plain setting moving tree old new (trees_left children) e given own to);
  less = less_plain tree (trees_left children) given;
}
