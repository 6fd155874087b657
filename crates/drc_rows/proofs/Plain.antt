-- Names whose bytes all stand for themselves.
use Rattle.std.proofs.Common.{◌≡◌, ℕ, suc, ◌+◌, ◌-◌, ◌≤◌, List, [], ◌∷◌, ◌++◌, length, get_or, take, drop, ap, subst, ◌∙◌, refl, arith, Bool, true, false, nat_lt}
use Rattle.std.proofs.lemmas.Bool.Decides.{nat_tests}
use Rattle.std.proofs.lemmas.List.{get_or-take, get_or-drop}
use Rattle.drc_rows.specs.Buffer.{escaped, escaped_byte, AreOwn}

-- byte by byte
pub own_all : (name : List ℕ) → AreOwn name 0 (length name) → escaped name ≡ name
own_all [] own = refl
own_all (c ∷ cs) own =
    let first : escaped_byte c ≡ c ∷ [] = own 0 (omega arith) (omega arith) in
    let rest : AreOwn cs 0 (length cs) = λ k from to. own (suc k) (omega arith) (omega arith) in
    ap (λ l. l ++ escaped cs) first ∙ ap (λ l. c ∷ l) (own_all cs rest)

-- two parts that meet, and the second reaches far enough
pub own_both : (name : List ℕ) (from middle start reach to : ℕ) → start ≤ middle → to ≤ reach → AreOwn name from middle → AreOwn name start reach → AreOwn name from to
own_both name from middle start reach to meet far left right k low high = by (nat_lt k middle) refl
  where
    by : (b : Bool) → nat_lt k middle ≡ b → escaped_byte (get_or name k 0) ≡ get_or name k 0 ∷ []
    by true h = left k low (grind (arith, nat_tests, h))
    by false h = right k (grind (arith, nat_tests, h)) (omega arith)

-- a part, by itself
pub own_part : (name : List ℕ) (at count size : ℕ) → size ≡ count → AreOwn (take size (drop at name)) 0 count → AreOwn name at (at + count)
own_part name at count size is own k low high =
    let back : at + (k - at) ≡ k = omega arith in
    let same : get_or (take size (drop at name)) (k - at) 0 ≡ get_or name k 0 = get_or-take size (drop at name) (k - at) 0 (omega arith) ∙ (get_or-drop at name (k - at) 0 ∙ ap (λ j. get_or name j 0) back) in
    subst (λ (x : ℕ). escaped_byte x ≡ x ∷ []) same (own (k - at) (omega arith) (omega arith))
