-- A list of works that was written as a whole.
use Rattle.std.proofs.Common.{◌≡◌, ℕ, List, [], ◌++◌, length, take, drop, ap, ◌∙◌, arith}
use Rattle.std.proofs.lemmas.List.{append-nil, take_all, drop_all}
use Rattle.net_groups.specs.declared.works.Work.{Work}

pub whole : (n : ℕ) (xs ys : List Work) → length ys ≡ length xs → n ≡ length xs → take n (ys ++ drop (length ys) xs) ≡ ys
whole n xs ys e f =
    let none : drop (length ys) xs ≡ [] = drop_all (length ys) xs (omega arith) in
    ap (take n) (ap (λ (zs : List Work). ys ++ zs) none ∙ append-nil ys) ∙ take_all n ys (omega arith)
