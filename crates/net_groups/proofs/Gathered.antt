-- The parts of all nets, from works that were found.
use Rattle.std.proofs.Common.{◌≡◌, ◌≢◌, refl, sym, ap, subst, ◌∙◌, ℕ, suc, zero, ◌<◌, cond, not, nat_eq, List, [], ◌∷◌, ◌++◌, length, get_or, map, filter, append-nil, Some, IfSome, arith, eq-eqb}
use Rattle.std.specs.List.{AllZip}
use Rattle.std.proofs.lemmas.Bool.{ne_eqb}
use Rattle.board_items.specs.Boards.{PlainBoard}
use Rattle.net_groups.specs.NetParts.{PlainNetPart}
use Rattle.net_groups.specs.declared.works.Work.{Work}
use Rattle.net_groups.specs.NetParts.{IsNetPart, real_nets}
use Rattle.net_groups.specs.Works.{AreFound}

-- of these nets the numbers that are not 0
abbrev pub real : List (ℕ × List ℕ) → List ℕ
real nets = filter (λ net. not (nat_eq net 0)) (map (λ entry. entry.0) nets)

abbrev pub nets_of : List Work → List ℕ
nets_of works = map (λ work. work.net) works

-- the works are those of all nets but those that are left
abbrev pub AreWorksSoFar : PlainBoard → List (ℕ × List ℕ) → List Work → Type 0
AreWorksSoFar board left works = real_nets board ≡ nets_of works ++ real left

nets_push : (works : List Work) (work : Work) (rest : List ℕ) → nets_of (works ++ work ∷ []) ++ rest ≡ nets_of works ++ work.net ∷ rest
nets_push [] work rest = refl
nets_push (w ∷ ws) work rest = ap (λ ns. w.net ∷ ns) (nets_push ws work rest)

module _ (board : PlainBoard) (left : List (ℕ × List ℕ)) (entry : ℕ × List ℕ) (rest : List (ℕ × List ℕ)) (same : left ≡ entry ∷ rest) (works : List Work) (h : AreWorksSoFar board left works) where
  next : AreWorksSoFar board (entry ∷ rest) works
  next = subst (λ nets. AreWorksSoFar board nets works) same h

  -- it is no net
  pub work_less : entry.0 ≡ 0 → AreWorksSoFar board rest works
  work_less zero_net = next ∙ ap (λ b. nets_of works ++ cond (not b) (entry.0 ∷ real rest) (real rest)) (eq-eqb entry.0 0 zero_net)

  pub work_more : entry.0 ≢ 0 → (work : Work) → work.net ≡ entry.0 → AreWorksSoFar board rest (works ++ work ∷ [])
  work_more some work its =
      next ∙ (ap (λ b. nets_of works ++ cond (not b) (entry.0 ∷ real rest) (real rest)) (ne_eqb entry.0 0 some) ∙ (ap (λ n. nets_of works ++ n ∷ real rest) (sym its) ∙ sym (nets_push works work (real rest))))

-- all of them
pub work_all : (board : PlainBoard) (left : List (ℕ × List ℕ)) (works : List Work) → left ≡ [] → AreWorksSoFar board left works → nets_of works ≡ real_nets board
work_all board left works none h = sym (h ∙ (ap (λ nets. nets_of works ++ real nets) none ∙ append-nil (nets_of works)))

-- ---- lists side by side

pub zip_push : {X Y : Type 0} (R : X → Y → Type 0) (xs : List X) (ys : List Y) (x : X) (y : Y) → AllZip R xs ys → R x y → AllZip R (xs ++ x ∷ []) (ys ++ y ∷ [])
zip_push R [] [] x y z r = (r, tt)
zip_push R [] (b ∷ ys) x y z r = absurd z
zip_push R (a ∷ xs) [] x y z r = absurd z
zip_push R (a ∷ xs) (b ∷ ys) x y z r = (z.0, zip_push R xs ys x y z.1 r)

pub zip_of : {X Y : Type 0} (R : X → Y → Type 0) (xs : List X) (ys : List Y) → length ys ≡ length xs → ((j : ℕ) (d : X) (e : Y) → j < length xs → R (get_or xs j d) (get_or ys j e)) → AllZip R xs ys
zip_of R [] [] long each = tt
zip_of R [] (y ∷ ys) long each = absurd (omega arith)
zip_of R (x ∷ xs) [] long each = absurd (omega arith)
zip_of R (x ∷ xs) (y ∷ ys) long each = (each 0 x y (omega arith), zip_of R xs ys (omega arith) (λ j d e lt. each (suc j) d e (omega arith)))

-- a work is found again with its part, or without one
abbrev IsSameWork : PlainBoard → Work → Work → Type 0
IsSameWork board work after = IfSome after.part (IsNetPart board work.net)

joined : (board : PlainBoard) (works after : List Work) (parts : List PlainNetPart) → AllZip (IsSameWork board) works after → AllZip (λ (work : Work) (part : PlainNetPart). work.part ≡ Some part) after parts → AllZip (IsNetPart board) (nets_of works) parts
joined board [] [] [] h k = tt
joined board [] [] (p ∷ ps) h k = absurd k
joined board [] (a ∷ ss) ps h k = absurd h
joined board (w ∷ ws) [] ps h k = absurd h
joined board (w ∷ ws) (a ∷ ss) [] h k = absurd k
joined board (w ∷ ws) (a ∷ ss) (p ∷ ps) h k = (subst (λ o. IfSome o (IsNetPart board w.net)) k.0 h.0, joined board ws ss ps h.1 k.1)

-- a place of a list, at any default
at_any : (xs : List Work) (j : ℕ) (d e : Work) → j < length xs → get_or xs j d ≡ get_or xs j e
at_any [] j d e lt = absurd (omega arith)
at_any (x ∷ xs) zero d e lt = refl
at_any (x ∷ xs) (suc j) d e lt = at_any xs j d e (omega arith)

-- the parts that the works found are those of their nets
pub gathered : (board : PlainBoard) (works after : List Work) (parts : List PlainNetPart) → AreFound board works after → AllZip (λ (work : Work) (part : PlainNetPart). work.part ≡ Some part) after parts → AllZip (IsNetPart board) (nets_of works) parts
gathered board works after parts f k =
    joined board works after parts
    (zip_of (IsSameWork board) works after f.long (λ j d e lt. subst (λ (w : Work). IfSome w.part (IsNetPart board (get_or works j d).net)) (at_any after j d e (omega (arith, f.long))) (f.each j d lt).2))
    k
