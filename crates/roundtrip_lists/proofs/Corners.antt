-- The corners of lists equal up to translation are moved.
use Rattle.std.proofs.Common.{◌≡◌, refl, sym, ap, subst, suc, Bool, true, false, not, ◌&&◌, cond, List, [], ◌∷◌, length, codes, Option, Result, Ok, Err}
use Rattle.std.specs.Prelude.{nat_le}
use Rattle.std.specs.List.{AllZip}
use Rattle.sexpr_read.specs.declared.place.Span.{Span}
use Rattle.sexpr_read.specs.Tree.{Forest, none, atom, list, Tree, branch, trees, parts}
use Rattle.board_errors.specs.declared.errors.BoardError.{BoardError}
use Rattle.board_errors.specs.declared.errors.BoardError.TheVariants.{Missing, Arc}
use Rattle.part_read.specs.declared.numbers.RawPoint.{RawPoint}
use Rattle.list_read.specs.FirstRefusals.{◌>>=◌}
use Rattle.list_read.specs.ListHeads.{place, has_head}
use Rattle.part_read.specs.BoardNumbers.{raw_point_at}
use Rattle.part_read.specs.Drawings.{raw_points_among, enough, corners_in, corners_of}
use Rattle.roundtrip_lists.specs.Translated.{Shift, Translated, TranslatedTrees}
use Rattle.roundtrip_lists.specs.Agreeing.{Agrees, TranslatedParts, forest_in}
use Rattle.roundtrip_lists.specs.Moved.{IsMovedRawPoint}
use Rattle.roundtrip_lists.proofs.Elements.{agrees_bind, heads_translated, inside_by_head}
use Rattle.roundtrip_lists.proofs.Numbers.{needed_translated}
use Rattle.roundtrip_lists.proofs.RawPoints.{raw_point_at_translated}
use Rattle.roundtrip_lists.specs.Drawn.{AreCorners}
use Rattle.roundtrip_lists.proofs.Steps.{agrees_check, parts_are}

module _ (d : Option Shift) (curved : Bool) where
  abbrev RawPoints : List RawPoint → List RawPoint → Type 0
  RawPoints ss ts = AllZip (IsMovedRawPoint d) ss ts

  abbrev raw_points_by : Bool → Bool → Tree → Result (List RawPoint) BoardError → Result (List RawPoint) BoardError
  raw_points_by corner arc t rest = cond corner (raw_point_at t >>= λ raw_point. (rest >>= λ raw_points. Ok (raw_point ∷ raw_points))) (cond (arc && not curved) (Err (Arc (place t))) rest)

  passed : (b : Bool) (e f : BoardError) (rest others : Result (List RawPoint) BoardError) → Agrees RawPoints rest others → Agrees RawPoints (cond b (Err e) rest) (cond b (Err f) others)
  passed true e f rest others h = tt
  passed false e f rest others h = h

  one_part : (t u : Tree) (corner arc : Bool) (rest others : Result (List RawPoint) BoardError) → TranslatedTrees d t u → has_head (codes "xy") t ≡ corner → Agrees RawPoints rest others
      → Agrees RawPoints (raw_points_by corner arc t rest) (raw_points_by corner arc u others)
  one_part t u true arc rest others h e k =
      agrees_bind (IsMovedRawPoint d) RawPoints (raw_point_at t) (raw_point_at u) _ _ (raw_point_at_translated d (codes "xy") refl t u h e) (λ s s' m. agrees_bind RawPoints RawPoints rest others _ _ k (λ ss ss' l. (m, l)))
  one_part t u false arc rest others h e k = passed (arc && not curved) (Arc (place t)) (Arc (place u)) rest others k

  pub raw_points_translated : (f g : Forest) → Translated d f g → Agrees RawPoints (raw_points_among curved (trees f)) (raw_points_among curved (trees g))
  unfolding has_head
  raw_points_translated none none h = tt
  raw_points_translated none (atom t r e rest) h = absurd h
  raw_points_translated none (list t within rest) h = absurd h
  raw_points_translated (atom s q c others) none h = absurd h
  raw_points_translated (atom s q c others) (atom t r e rest) h = raw_points_translated others rest h.2
  raw_points_translated (atom s q c others) (list t within rest) h = absurd h
  raw_points_translated (list s inside others) none h = absurd h
  raw_points_translated (list s inside others) (atom t r e rest) h = absurd h
  raw_points_translated (list s inside others) (list t within rest) h =
      let one = branch s inside in
      let two = branch t within in
      subst (λ (b : Bool). Agrees RawPoints (raw_points_by (has_head (codes "xy") one) (has_head (codes "arc") one) one (raw_points_among curved (trees others))) (raw_points_by b (has_head (codes "arc") two) two (raw_points_among curved (trees rest))))
      (heads_translated d one two (codes "xy") h.0)
      (subst (λ (b : Bool). Agrees RawPoints (raw_points_by (has_head (codes "xy") one) (has_head (codes "arc") one) one (raw_points_among curved (trees others))) (raw_points_by (has_head (codes "xy") one) b two (raw_points_among curved (trees rest))))
      (heads_translated d one two (codes "arc") h.0)
      (one_part one two (has_head (codes "xy") one) (has_head (codes "arc") one) (raw_points_among curved (trees others)) (raw_points_among curved (trees rest)) h.0 refl (raw_points_translated others rest h.1)))

  pub parts_translated : (t u : Tree) → TranslatedParts d t u → Agrees RawPoints (raw_points_among curved (parts t)) (raw_points_among curved (parts u))
  parts_translated t u h =
      subst (λ (l : List Tree). Agrees RawPoints (raw_points_among curved l) (raw_points_among curved (parts u))) (sym (parts_are t))
      (subst (λ (l : List Tree). Agrees RawPoints (raw_points_among curved (trees (forest_in t))) (raw_points_among curved l)) (sym (parts_are u)) (raw_points_translated (forest_in t) (forest_in u) h))

as_long : (d : Option Shift) (ss ts : List RawPoint) → AllZip (IsMovedRawPoint d) ss ts → length ts ≡ length ss
as_long d [] [] h = refl
as_long d [] (t ∷ ts) h = absurd h
as_long d (s ∷ ss) [] h = absurd h
as_long d (s ∷ ss) (t ∷ ts) h = ap suc (as_long d ss ts h.1)

pub enough_translated : (d : Option Shift) (t u : Tree) (ss ts : List RawPoint) → AllZip (IsMovedRawPoint d) ss ts → Agrees (AreCorners d) (enough t ss) (enough u ts)
enough_translated d t u ss ts h =
    agrees_check (AreCorners d) (nat_le 3 (length ss)) (nat_le 3 (length ts)) (Missing (place t)) (Missing (place u)) (λ z. Ok ss) (λ z. Ok ts) (ap (nat_le 3) (as_long d ss ts h)) (λ e. record { each = h; enough = e })

pub corners_in_translated : (d : Option Shift) (t u : Tree) → TranslatedParts d t u → Agrees (AreCorners d) (corners_in t) (corners_in u)
unfolding corners_in
corners_in_translated d t u h =
    agrees_bind (AllZip (IsMovedRawPoint d)) (AreCorners d) (raw_points_among false (parts t)) (raw_points_among false (parts u)) (enough t) (enough u) (parts_translated d false t u h) (λ ss ts k. enough_translated d t u ss ts k)

pub corners_translated : (d : Option Shift) (i j : Forest) (s r : Span) → Translated d i j → Agrees (AreCorners d) (corners_of (branch s i)) (corners_of (branch r j))
corners_translated d i j s r h =
    needed_translated (AreCorners d) d (codes "pts") corners_in corners_in (branch s i) (branch r j) i j s r h (λ x y k e. corners_in_translated d x y (inside_by_head d x y (codes "pts") k e refl))
