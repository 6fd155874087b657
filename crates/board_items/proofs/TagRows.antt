-- The row of tags beside the slots.
use Rattle.std.proofs.Common.{◌≡◌, ◌≢◌, ◌∙◌, ap, sym, subst, refl, ℕ, ◌+◌, ◌<◌, zero, suc, ℤ, Bool, true, false, cond, bytes_eq, List, [], ◌∷◌, ◌++◌, length, get_or, set, drop, Option, None, Some, Vec, arith, add-one, eq-eqb}
use Rattle.std.proofs.lemmas.Bool.{and_from, and_parts, eqb-true}
use Rattle.std.proofs.lemmas.List.{with_items_is}
use Rattle.std.proofs.lemmas.Slice.Eq.{bytes_eq-Decides}
use Rattle.std.specs.Prelude.{MatchBool}
use Rattle.std.specs.Vec.{with_items}
use Rattle.std.specs.List.{AllZip}
use Rattle.std.specs.declared.alloc.Global.{Global}
use Rattle.one_item.specs.declared.item.Item.{Item}
use Rattle.one_item.specs.ItemMoves.{IsShiftedItem}
use Rattle.board_items.specs.UnitMoves.{moves}
use Rattle.board_items.specs.ItemSlots.{present, IsMovedSlot}
use Rattle.board_items.specs.Tags.{tag_of, IsTagIn, AreTagsIn, is_tag_in, are_tags_in, all_named, named_from, only_named}
use Rattle.board_items.proofs.MovedItems.{moved_item}
use Rattle.board_items.proofs.Walking.{left_at}

pub as_many : (slots : List (Option Item)) (tags : List ℕ) → AreTagsIn slots tags → length tags ≡ length slots
as_many [] [] h = refl
as_many [] (t ∷ ts) h = absurd h
as_many (s ∷ ss) [] h = absurd h
as_many (s ∷ ss) (t ∷ ts) h = let e = as_many ss ts h.1 in omega (arith, e)

-- ---- as the board changes
pub tags_added : (slots more : List (Option Item)) (tags others : List ℕ) (item : Item) → AreTagsIn slots tags → more ≡ slots ++ Some item ∷ [] → others ≡ tags ++ tag_of item.name ∷ [] → AreTagsIn more others
tags_added slots more tags others item h e f =
    subst (λ (ss : List (Option Item)). AreTagsIn ss others) (sym e) (subst (λ (ts : List ℕ). AreTagsIn (slots ++ Some item ∷ []) ts) (sym f) (added slots tags h))
  where
    added : (slots : List (Option Item)) (tags : List ℕ) → AreTagsIn slots tags → AreTagsIn (slots ++ Some item ∷ []) (tags ++ tag_of item.name ∷ [])
    added [] [] h = (refl, tt)
    added [] (t ∷ ts) h = absurd h
    added (s ∷ ss) [] h = absurd h
    added (s ∷ ss) (t ∷ ts) h = (h.0, added ss ts h.1)

pub tags_same : (slots more : List (Option Item)) (tags others : List ℕ) → AreTagsIn slots tags → more ≡ slots → others ≡ tags → AreTagsIn more others
tags_same slots more tags others h e f = subst (λ (ss : List (Option Item)). AreTagsIn ss others) (sym e) (subst (λ (ts : List ℕ). AreTagsIn slots ts) (sym f) h)

pub tags_emptied : (slots : List (Option Item)) (tags : List ℕ) (n : ℕ) (s : Option Item) → AreTagsIn slots tags → s ≡ None → AreTagsIn (set slots n s) tags
tags_emptied slots tags n s h e = subst (λ (o : Option Item). AreTagsIn (set slots n o) tags) (sym e) (emptied slots tags n h)
  where
    emptied : (slots : List (Option Item)) (tags : List ℕ) (n : ℕ) → AreTagsIn slots tags → AreTagsIn (set slots n None) tags
    emptied [] tags n h = h
    emptied (s ∷ ss) [] n h = absurd h
    emptied (s ∷ ss) (t ∷ ts) zero h = (tt, h.1)
    emptied (s ∷ ss) (t ∷ ts) (suc n) h = (h.0, emptied ss ts n h.1)

pub tags_put : (slots : List (Option Item)) (tags : List ℕ) (n : ℕ) (item : Item) (tag : ℕ) → AreTagsIn slots tags → tag ≡ tag_of item.name → AreTagsIn (set slots n (Some item)) (set tags n tag)
tags_put slots tags n item tag h e = subst (λ (t : ℕ). AreTagsIn (set slots n (Some item)) (set tags n t)) (sym e) (put slots tags n h)
  where
    put : (slots : List (Option Item)) (tags : List ℕ) (n : ℕ) → AreTagsIn slots tags → AreTagsIn (set slots n (Some item)) (set tags n (tag_of item.name))
    put [] [] n h = tt
    put [] (t ∷ ts) n h = absurd h
    put (s ∷ ss) [] n h = absurd h
    put (s ∷ ss) (t ∷ ts) zero h = (refl, h.1)
    put (s ∷ ss) (t ∷ ts) (suc n) h = (h.0, put ss ts n h.1)

kept_tag : (unit : ℕ) (dx dy : ℤ) (o n : Item) → MatchBool (moves unit o) (IsShiftedItem dx dy o n) (n ≡ o) → tag_of n.name ≡ tag_of o.name
kept_tag unit dx dy o n h = by (moves unit o) h
  where
    by : (b : Bool) → MatchBool b (IsShiftedItem dx dy o n) (n ≡ o) → tag_of n.name ≡ tag_of o.name
    by true k = ap tag_of k.name
    by false k = ap (λ (i : Item). tag_of i.name) k

pub tags_moved : (unit : ℕ) (dx dy : ℤ) (v : Vec (Option Item) Global) (from ws : List (Option Item)) (tags : List ℕ) → AreTagsIn v.items tags → from ≡ v.items → length ws ≡ v.len
    → AllZip (IsMovedSlot unit dx dy) from ws → AreTagsIn (with_items v ws).items tags
tags_moved unit dx dy v from ws tags h f long zip =
    subst (λ (ss : List (Option Item)). AreTagsIn ss tags) (sym (with_items_is v ws long))
    (moved v.items ws tags h (subst (λ (zs : List (Option Item)). AllZip (IsMovedSlot unit dx dy) zs ws) f zip))
  where
    moved : (old new : List (Option Item)) (tags : List ℕ) → AreTagsIn old tags → AllZip (IsMovedSlot unit dx dy) old new → AreTagsIn new tags
    moved [] [] tags h z = h
    moved [] (n ∷ ns) tags h z = absurd z
    moved (o ∷ os) [] tags h z = absurd z
    moved (o ∷ os) (n ∷ ns) [] h z = absurd h
    moved (None ∷ os) (None ∷ ns) (t ∷ ts) h z = (tt, moved os ns ts h.1 z.1)
    moved (None ∷ os) (Some n ∷ ns) (t ∷ ts) h z = absurd z.0
    moved (Some o ∷ os) (None ∷ ns) (t ∷ ts) h z = absurd z.0
    moved (Some o ∷ os) (Some n ∷ ns) (t ∷ ts) h z = (kept_tag unit dx dy o n (moved_item unit dx dy o n z.0) ∙ h.0, moved os ns ts h.1 z.1)

-- ---- the row of tags as a test
shown_in : (s : Option Item) (t : ℕ) → IsTagIn s t → is_tag_in s t ≡ true
shown_in None t h = refl
shown_in (Some x) t h = eq-eqb (tag_of x.name) t h

pub all_shown : (slots : List (Option Item)) (tags : List ℕ) → AreTagsIn slots tags → are_tags_in slots tags ≡ true
all_shown [] [] h = refl
all_shown [] (t ∷ ts) h = absurd h
all_shown (s ∷ ss) [] h = absurd h
all_shown (s ∷ ss) (t ∷ ts) h = and_from _ _ (shown_in s t h.0) (all_shown ss ts h.1)

fits : (slots : List (Option Item)) (tags : List ℕ) → are_tags_in slots tags ≡ true → AreTagsIn slots tags
fits [] [] h = tt
fits [] (t ∷ ts) h = absurd cc
fits (s ∷ ss) [] h = absurd cc
fits (s ∷ ss) (t ∷ ts) h = let parts = and_parts _ _ h in (one s t parts.0, fits ss ts parts.1)
  where
    one : (s : Option Item) (t : ℕ) → is_tag_in s t ≡ true → IsTagIn s t
    one None t h = tt
    one (Some x) t h = eqb-true (tag_of x.name) t h

pub as_many_shown : (slots : List (Option Item)) (tags : List ℕ) → are_tags_in slots tags ≡ true → length tags ≡ length slots
as_many_shown slots tags h = as_many slots tags (fits slots tags h)

-- ---- the items of a name
tag_in : (slots : List (Option Item)) (tags : List ℕ) (k : ℕ) (d : Option Item) (e : ℕ) → AreTagsIn slots tags → k < length slots → IsTagIn (get_or slots k d) (get_or tags k e)
tag_in [] tags k d e h lt = absurd (omega arith)
tag_in (s ∷ ss) [] k d e h lt = absurd h
tag_in (s ∷ ss) (t ∷ ts) zero d e h lt = h.0
tag_in (s ∷ ss) (t ∷ ts) (suc k) d e h lt = tag_in ss ts k d e h.1 (omega arith)

-- an item with another tag has another name
not_tagged : (name : List ℕ) (s : Option Item) (t : ℕ) → IsTagIn s t → t ≢ tag_of name → only_named name s ≡ None
not_tagged name None t h e = refl
not_tagged name (Some x) t h e = by (bytes_eq x.name name) refl
  where
    by : (b : Bool) → bytes_eq x.name name ≡ b → cond b (Some x) None ≡ None
    by true k = absurd (e (sym h ∙ ap tag_of ((bytes_eq-Decides x.name name).0 k)))
    by false k = refl

pub other_tag : (name : List ℕ) (tag k : ℕ) (slots : List (Option Item)) (tags : List ℕ) (d : Option Item) (e : ℕ) → are_tags_in slots tags ≡ true → tag ≡ tag_of name → k < length slots
    → get_or tags k e ≢ tag → only_named name (get_or slots k d) ≡ None
other_tag name tag k slots tags d e h own lt other =
    not_tagged name (get_or slots k d) (get_or tags k e) (tag_in slots tags k d e (fits slots tags h) lt) (λ same. other (same ∙ sym own))

no_named : (name : List ℕ) (k : ℕ) (s : Option Item) (ss : List (Option Item)) → only_named name s ≡ None → all_named name (present k (s ∷ ss)) ≡ all_named name (present (k + 1) ss)
no_named name k None ss e = refl
no_named name k (Some y) ss e = by (bytes_eq y.name name) e
  where
    by : (b : Bool) → cond b (Some y) None ≡ None → cond b ((k, y) ∷ all_named name (present (k + 1) ss)) (all_named name (present (k + 1) ss)) ≡ all_named name (present (k + 1) ss)
    by true h = absurd cc
    by false h = refl

pub not_here : (name : List ℕ) (k : ℕ) (slots : List (Option Item)) (d : Option Item) → k < length slots → only_named name (get_or slots k d) ≡ None → named_from name k slots ≡ named_from name (k + 1) slots
not_here name k slots d lt e =
    ap (λ (ss : List (Option Item)). all_named name (present k ss)) (left_at slots k d lt) ∙ no_named name k (get_or slots k d) (drop (suc k) slots) e
    ∙ ap (λ n. all_named name (present (k + 1) (drop n slots))) (sym (add-one k))
