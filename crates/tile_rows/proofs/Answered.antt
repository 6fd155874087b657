-- The answers of workers, in the order of the numbers, beside what the numbers stand for.
use Rattle.std.proofs.Common.{◌≡◌, ℕ, suc, ◌<◌, List, [], ◌∷◌, length, get_or, sym, subst, arith}
use Rattle.std.specs.List.{AllZip}
use Rattle.pair_check.specs.PlainRow.{PlainRow}
use Rattle.tile_pool.specs.NumberedValues.{AreAnswers}
use Rattle.tile_rows.specs.declared.work.Tiles.{Tiles}
use Rattle.tile_rows.specs.Work.{AreRowsOf, AreRowsAt}

pub zip_answers : {X : Type 0} (R : ℕ → X → Type 0) (tiles : List ℕ) (answers : List X) → length answers ≡ length tiles → ((k : ℕ) (d : X) → k < length tiles → R (get_or tiles k 0) (get_or answers k d)) → AllZip R tiles answers
zip_answers R [] [] long each = tt
zip_answers R [] (y ∷ ys) long each = absurd (omega (arith, long))
zip_answers R (x ∷ xs) [] long each = absurd (omega (arith, long))
zip_answers R (x ∷ xs) (y ∷ ys) long each = (each 0 y (omega arith), zip_answers R xs ys (omega (arith, long)) (λ k d l. each (suc k) d (omega (arith, l))))

-- what workers answer to the tiles that are asked are the rows of those tiles
pub rows_answered : (asked work : Tiles) → asked ≡ work → (batches : List (List PlainRow)) → AreAnswers (AreRowsAt asked) (length work.tiles.now) batches → AllZip (AreRowsOf work) work.tiles.now batches
rows_answered asked work e batches is =
    subst (λ (given : Tiles). AllZip (AreRowsOf given) given.tiles.now batches) e
    (zip_answers (AreRowsOf asked) asked.tiles.now batches (subst (λ (given : Tiles). length batches ≡ length given.tiles.now) (sym e) is.long)
    (λ k batch below. is.each k batch (subst (λ (given : Tiles). k < length given.tiles.now) e below)))

-- the same of lists that are the same
pub zip_alike : {X : Type 0} (R : List ℕ → ℕ → X → Type 0) (changed changes tiles others : List ℕ) (answers rows : List X) → changed ≡ changes → tiles ≡ others → answers ≡ rows → AllZip (R changed) tiles answers → AllZip (R changes) others rows
zip_alike {X} R changed changes tiles others answers rows e f h z =
    subst (λ (cs : List ℕ). AllZip (R cs) others rows) e (subst (λ (ts : List ℕ). AllZip (R changed) ts rows) f (subst (λ (xs : List X). AllZip (R changed) tiles xs) h z))
