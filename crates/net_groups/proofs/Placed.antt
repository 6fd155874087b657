-- Places of ids, and labels that were read.
use Rattle.std.proofs.Common.{◌≡◌, ℕ, ◌<◌, List, length, get_or, Contains, Option, None, Some, Bool, true, false, not, is_some, refl, sym, ◌∙◌, ap}
use Rattle.std.proofs.lemmas.List.{get_or_default, get_or_read}
use Rattle.net_groups.specs.Labels.{label_at, IsLabelled}

-- the place of an id that is there
pub contained_at : (ids : List ℕ) (id : ℕ) → Contains ids id → (k : ℕ) × (k < length ids) × (get_or ids k 0 ≡ id)
contained_at ids id c = (c.0, c.1, get_or_default ids c.0 0 id c.1 ∙ c.2)

-- ---- what is read of a place
no_label : (o : Option ℕ) → is_some o ≡ false → o ≡ None
no_label None e = refl
no_label (Some x) e = absurd (cc)

pub some_label : (o : Option ℕ) → is_some o ≡ true → (x : ℕ) × (o ≡ Some x)
some_label None e = absurd (cc)
some_label (Some x) e = (x, refl)

-- a label that was read
pub read_label : (labels : List (Option ℕ)) (i : ℕ) (o : Option ℕ) → i < length labels → o ≡ get_or labels i o → (none : Bool) → is_some o ≡ not none → none ≡ false → IsLabelled labels i
read_label labels i o lt is none asked e =
    let l = some_label o (asked ∙ ap not e) in
    (l.0, sym (get_or_read labels i o lt is None) ∙ l.1)

pub read_free : (labels : List (Option ℕ)) (i : ℕ) (o : Option ℕ) → i < length labels → o ≡ get_or labels i o → (none : Bool) → is_some o ≡ not none → none ≡ true → label_at labels i ≡ None
read_free labels i o lt is none asked e = sym (get_or_read labels i o lt is None) ∙ no_label o (asked ∙ ap not e)
