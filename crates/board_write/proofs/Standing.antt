-- The place of a list, as it was taken apart.
use Rattle.std.proofs.Common.{◌≡◌, ◌∙◌, sym, ap, subst, ◌+◌, ◌≤◌, ℤ, ◌+ℤ◌, true, ◌∷◌, Option, None, Some, unsigned_abs, IfSome, option_map, pos, negsuc, FitsSigned, arith}
use Rattle.std.proofs.lemmas.Int.{ints, to_z-of_z}
use mir.Syntax.{w64, w128}
use Rattle.int_algebra.proofs.Scalars.{passed_wide}
use Rattle.sexpr_read.specs.declared.view.Node.{Node}
use Rattle.sexpr_read.specs.declared.view.Children.{Children}
use Rattle.sexpr_read.specs.Tree.{Tree, parts, value}
use Rattle.sexpr_read.specs.TreeViews.{tree_of, trees_left}
use Rattle.roundtrip_lists.specs.Translated.{is_place_head}
use Rattle.board_write.specs.Marks.{PlainMark, moves, IsHeld}
use Rattle.board_write.specs.declared.places.Number.{Number}
use Rattle.board_write.specs.declared.places.Place.{Place}
use Rattle.board_write.specs.Settings.{grove, inside}
use Rattle.board_write.specs.MovedPlaces.{atom_moved, as_atom, StandsIn}
use Rattle.board_write.proofs.Groves.{stands_is}

-- a shift's distance, as it is passed to a call
pub wide : (z : ℤ) → unsigned_abs z ≤ 39614081247908796759917199360 → passed_wide z ≡ z
wide z h = to_z-of_z w128 z (fits z h)
  where
    fits : (z : ℤ) → unsigned_abs z ≤ 39614081247908796759917199360 → FitsSigned w128 z
    fits (pos n) h = record { sfits = omega (arith, ints) }
    fits (negsuc n) h = record { sfits = omega (arith, ints) }

abbrev nm : Number → ℤ
nm number = number.nm

module _ (t : Tree) (h x y : Node) (rest : Children) (a b : ℤ) (ox oy : Option Number) (e : parts t ≡ tree_of h ∷ tree_of x ∷ tree_of y ∷ trees_left rest) (k : is_place_head (value (tree_of h)) ≡ true)
    (mx : option_map nm ox ≡ atom_moved a (tree_of x)) (ax : IfSome ox (λ n. tree_of n.atom ≡ tree_of x)) (nx : IfSome ox (λ n. unsigned_abs n.nm ≤ 1000000000000))
    (my : option_map nm oy ≡ atom_moved b (tree_of y)) (ay : IfSome oy (λ n. tree_of n.atom ≡ tree_of y)) (ny : IfSome oy (λ n. unsigned_abs n.nm ≤ 1000000000000)) where
  pub stand_by : (r : Option Place) → IfSome r (λ p. (ox ≡ Some p.x) × (oy ≡ Some p.y) × (p.head ≡ h) × (p.rest ≡ rest)) → IfSome r (StandsIn (inside t))
  stand_by None g = tt
  stand_by (Some p) (gx, gy, gh, gr) =
      let isx : tree_of p.x.atom ≡ tree_of x = subst (λ (o : Option Number). IfSome o (λ n. tree_of n.atom ≡ tree_of x)) gx ax in
      let isy : tree_of p.y.atom ≡ tree_of y = subst (λ (o : Option Number). IfSome o (λ n. tree_of n.atom ≡ tree_of y)) gy ay in
      let at_x : atom_moved a (tree_of x) ≡ Some p.x.nm = sym mx ∙ ap (option_map nm) gx in
      let at_y : atom_moved b (tree_of y) ≡ Some p.y.nm = sym my ∙ ap (option_map nm) gy in
      record {
        is =
            stands_is a b p.x.nm p.y.nm t (tree_of h) (tree_of x) (tree_of y) (trees_left rest) e k at_x at_y
            ∙ ap (λ (n : Node). as_atom (tree_of n) (as_atom (tree_of x) (as_atom (tree_of y) (grove (trees_left rest))))) (sym gh)
            ∙ ap (λ (z : Tree). as_atom (tree_of p.head) (as_atom z (as_atom (tree_of y) (grove (trees_left rest))))) (sym isx)
            ∙ ap (λ (z : Tree). as_atom (tree_of p.head) (as_atom (tree_of p.x.atom) (as_atom z (grove (trees_left rest))))) (sym isy)
            ∙ ap (λ (c : Children). as_atom (tree_of p.head) (as_atom (tree_of p.x.atom) (as_atom (tree_of p.y.atom) (grove (trees_left c))))) (sym gr);
        near_x = subst (λ (o : Option Number). IfSome o (λ n. unsigned_abs n.nm ≤ 1000000000000)) gx nx;
        near_y = subst (λ (o : Option Number). IfSome o (λ n. unsigned_abs n.nm ≤ 1000000000000)) gy ny;
      }

-- a number of 64 bits
pub held : (z : ℤ) → FitsSigned w64 z → IsHeld z
held (pos n) h = omega (arith, ints, h.sfits)
held (negsuc n) h = omega (arith, ints, h.sfits)

-- ---- shifts that are summed

pub moves_same : (a b c d : ℤ) → a ≡ c → b ≡ d → (let m : PlainMark = moves (record { dx = a; dy = b }) in m) ≡ moves (record { dx = c; dy = d })
moves_same a b c d x y = ap (λ (z : ℤ). let m : PlainMark = moves (record { dx = z; dy = b }) in m) x ∙ ap (λ (z : ℤ). let m : PlainMark = moves (record { dx = c; dy = z }) in m) y

pub sum_passed : (b r d : ℤ) → unsigned_abs b ≤ 39614081238685424723062423552 → unsigned_abs d ≤ 9223372036854775808 → r ≡ d → passed_wide (passed_wide b +ℤ passed_wide r) ≡ b +ℤ d
sum_passed b r d h k e =
    let small : unsigned_abs r ≤ 39614081247908796759917199360 = subst (λ (z : ℤ). unsigned_abs z ≤ 39614081247908796759917199360) (sym e) (omega (arith, k)) in
    let each : passed_wide b +ℤ passed_wide r ≡ b +ℤ d = ap (λ (z : ℤ). z +ℤ passed_wide r) (wide b (omega (arith, h))) ∙ ap (λ (z : ℤ). b +ℤ z) (wide r small ∙ e) in
    let sum = abs_sum b d in
    ap passed_wide each ∙ wide (b +ℤ d) (omega (arith, sum, h, k))
  where
    abs_sum : (a b : ℤ) → unsigned_abs (a +ℤ b) ≤ unsigned_abs a + unsigned_abs b
    abs_sum (pos m) (pos n) = omega (arith, ints)
    abs_sum (pos m) (negsuc n) = omega (arith, ints)
    abs_sum (negsuc m) (pos n) = omega (arith, ints)
    abs_sum (negsuc m) (negsuc n) = omega (arith, ints)
