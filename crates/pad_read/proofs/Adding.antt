-- Parts that were drawn, and those of the drawings that are left.
use Rattle.std.proofs.Common.{◌≡◌, ◌∙◌, refl, ap, sym, List, ◌++◌, append_assoc, Bool, true, false, cond, Option, None, Some}
use Rattle.part_read.specs.There.{both, after}
use Rattle.part_read.proofs.There.{some_same}

after_first : {A : Type 0} (old new : List A) (first rest : Option (List A)) → after old first ≡ Some new → after old (both (λ xs ys. xs ++ ys) first rest) ≡ after new rest
after_first old new None rest h = absurd cc
after_first old new (Some ps) None h = refl
after_first old new (Some ps) (Some qs) h = ap (λ all. Some all) (sym (append_assoc old ps qs) ∙ ap (λ xs. xs ++ qs) (some_same h))

after_missing : {A : Type 0} (old : List A) (first rest : Option (List A)) → after old first ≡ None → after old (both (λ xs ys. xs ++ ys) first rest) ≡ None
after_missing old None rest h = refl
after_missing old (Some ps) rest h = absurd cc

pub next_is : {A : Type 0} (old new : List A) (first rest : Option (List A)) (drew : Bool) → after old first ≡ cond drew (Some new) None
    → after old (both (λ xs ys. xs ++ ys) first rest) ≡ cond drew (after new rest) None
next_is old new first rest true h = after_first old new first rest h
next_is old new first rest false h = after_missing old first rest h
