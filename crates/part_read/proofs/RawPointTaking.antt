-- What one part more gives the raw points of an outline, case by case.
use Rattle.std.proofs.Common.{◌≡◌, ◌∙◌, refl, ap, sym, List, [], ◌∷◌, ◌++◌, append_assoc, Bool, ◌&&◌, not, true, false, Result, Ok, Err, codes}
use Rattle.sexpr_read.specs.Tree.{Tree}
use Rattle.board_errors.specs.declared.errors.BoardError.{BoardError}
use Rattle.board_errors.specs.declared.errors.BoardError.TheVariants.{Arc}
use Rattle.list_read.specs.FirstRefusals.{◌>>=◌}
use Rattle.list_read.specs.ListHeads.{place, has_head}
use Rattle.part_read.specs.declared.numbers.RawPoint.{RawPoint}
use Rattle.part_read.specs.Lists.{before}
use Rattle.part_read.specs.BoardNumbers.{raw_point_at}
use Rattle.part_read.specs.Drawings.{raw_points_among}

before_one : (old : List RawPoint) (raw_point : RawPoint) (r : Result (List RawPoint) BoardError) → before old (r >>= λ raw_points. Ok (raw_point ∷ raw_points)) ≡ before (old ++ raw_point ∷ []) r
before_one old raw_point (Ok raw_points) = ap (λ (ss : List RawPoint). Ok ss) (sym (append_assoc old (raw_point ∷ []) raw_points))
before_one old raw_point (Err e) = refl

module _ (curved : Bool) (t : Tree) (rest : List Tree) where
  pub raw_point_taken : (old new : List RawPoint) (raw_point : RawPoint) → has_head (codes "xy") t ≡ true → raw_point_at t ≡ Ok raw_point → new ≡ old ++ raw_point ∷ []
      → before old (raw_points_among curved (t ∷ rest)) ≡ before new (raw_points_among curved rest)
  raw_point_taken old new raw_point head at more =
      rw (head, at) (before_one old raw_point (raw_points_among curved rest) ∙ ap (λ (ss : List RawPoint). before ss (raw_points_among curved rest)) (sym more))

  pub raw_point_refused : (e : BoardError) → has_head (codes "xy") t ≡ true → raw_point_at t ≡ Err e → raw_points_among curved (t ∷ rest) ≡ Err e
  raw_point_refused e head at = rw (head, at) refl

  pub arc_refused : has_head (codes "xy") t ≡ false → has_head (codes "arc") t && not curved ≡ true → raw_points_among curved (t ∷ rest) ≡ Err (Arc (place t))
  arc_refused head arc = rw (head, arc) refl

  pub passed_over : has_head (codes "xy") t ≡ false → has_head (codes "arc") t && not curved ≡ false → raw_points_among curved (t ∷ rest) ≡ raw_points_among curved rest
  passed_over head arc = rw (head, arc) refl
