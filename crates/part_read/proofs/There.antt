-- What was there where something was made of it.
use Rattle.std.proofs.Common.{◌≡◌, refl, sym, Option, None, Some, option_map, option_and_then}
use Rattle.part_read.specs.There.{both}

pub some_same : {A : Type 0} {x y : A} → (let o : Option A = Some x in o) ≡ Some y → x ≡ y
some_same h = cc

pub map_some : {A B : Type 0} (make : A → B) (o : Option A) (z : B) → option_map make o ≡ Some z → (x : A) × (o ≡ Some x) × (z ≡ make x)
map_some make None z h = absurd cc
map_some make (Some x) z h = (x, refl, sym (some_same h))

pub then_some : {A B : Type 0} (make : A → Option B) (o : Option A) (z : B) → option_and_then make o ≡ Some z → (x : A) × (o ≡ Some x) × (make x ≡ Some z)
then_some make None z h = absurd cc
then_some make (Some x) z h = (x, refl, h)

pub both_some : {A B C : Type 0} (make : A → B → C) (o : Option A) (p : Option B) (z : C) → both make o p ≡ Some z
    → (x : A) × (y : B) × (o ≡ Some x) × (p ≡ Some y) × (z ≡ make x y)
both_some make None p z h = absurd cc
both_some make (Some x) None z h = absurd cc
both_some make (Some x) (Some y) z h = (x, y, refl, refl, sym (some_same h))
