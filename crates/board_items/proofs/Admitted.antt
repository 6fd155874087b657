-- Items that may stand on a board, as the board changes.
use Rattle.std.proofs.Common.{◌≡◌, ℕ, Bool, true, false, cond, not, ◌&&◌, List, [], ◌∷◌, ◌++◌, Option, None, Some, IfSome, is_some, Bor, nat_eq, bit_and, refl, sym, ◌∙◌, ap, subst, eq-eqb}
use Rattle.std.proofs.lemmas.Bool.{eqb-true, and_from, and_parts}
use Rattle.std.specs.Int.Bits.{and_zero_l, and_zero_r}
use Rattle.std.specs.Option.{option_copied}
use Rattle.std.specs.List.{list_all}
use Rattle.std.specs.Map.{lookup}
use Rattle.board_errors.specs.declared.errors.ItemError.TheVariants.{OutOfBoard, UnknownNet, UnknownLayer, TooMany}
use Rattle.copper_layers.specs.declared.set.LayerSet.{LayerSet}
use Rattle.one_item.specs.declared.parts.Part.{Part}
use Rattle.one_item.specs.declared.item.Item.{Item}
use Rattle.copper_layers.specs.Layers.{is_within}
use Rattle.one_item.specs.ItemParts.{parts_of}
use Rattle.one_item.specs.Positions.{is_on_board}
use Rattle.board_items.specs.Boards.{PlainBoard, name_of, item_at, has_layers_of, is_admitted, AllAdmitted}
use Rattle.board_items.specs.ItemRefusals.{refusal_of}

-- ---- lists of items
pub all_kept : (b c : PlainBoard) → ((item : Item) → is_admitted b item ≡ true → is_admitted c item ≡ true)
    → (xs : List (ℕ × Item)) → AllAdmitted b xs → AllAdmitted c xs
all_kept b c keep [] h = tt
all_kept b c keep (e ∷ es) h = (keep e.1 h.0, all_kept b c keep es h.1)

pub all_added : (b : PlainBoard) (id : ℕ) (item : Item) → is_admitted b item ≡ true → (xs : List (ℕ × Item)) → AllAdmitted b xs → AllAdmitted b (xs ++ (id, item) ∷ [])
all_added b id item may [] h = (may, tt)
all_added b id item may (e ∷ es) h = (h.0, all_added b id item may es h.1)

-- an item that is found by its id is one of them
admitted_at : (b : PlainBoard) (id : ℕ) (item : Item) (xs : List (ℕ × Item)) → AllAdmitted b xs → item_at xs id ≡ Some item → is_admitted b item ≡ true
admitted_at b id item [] h e = absurd cc
admitted_at b id item (x ∷ xs) h e = by (admitted_at b id item xs h.1) (nat_eq id x.0) e
  where
    by : (item_at xs id ≡ Some item → is_admitted b item ≡ true) → (t : Bool) → cond t (Some x.1) (item_at xs id) ≡ Some item → is_admitted b item ≡ true
    by later true k = let same : x.1 ≡ item = cc in subst (λ (i : Item). is_admitted b i ≡ true) same h.0
    by later false k = later k

-- its net is declared
pub net_declared : (b : PlainBoard) (id : ℕ) (item : Item) → AllAdmitted b b.items → item_at b.items id ≡ Some item → name_of b item.net ≡ None → ⊥
net_declared b id item h e absent =
    let own = and_parts (is_on_board item && is_some (name_of b item.net)) (has_layers_of b item) (admitted_at b id item b.items h e) in
    let some = (and_parts (is_on_board item) (is_some (name_of b item.net)) own.0).1 in
    let none : is_some (name_of b item.net) ≡ false = ap is_some absent in
    absurd cc

pub admitted_found : (b : PlainBoard) (id : ℕ) (found : Option (Bor Item)) (xs : List (ℕ × Item)) → AllAdmitted b xs
    → option_copied found ≡ item_at xs id → IfSome found (λ item. is_admitted b item.now ≡ true)
admitted_found b id None xs h e = tt
admitted_found b id (Some r) xs h e = admitted_at b id r.now xs h (sym e)

-- ---- an item that is not refused
unrefused : (near declared layered full : Bool)
    → cond (not near) (Some OutOfBoard) (cond (not declared) (Some UnknownNet) (cond (not layered) (Some UnknownLayer) (cond full (Some TooMany) None))) ≡ None
    → near && declared && layered ≡ true
unrefused true true true full h = refl
unrefused true true false full h = absurd cc
unrefused true false layered full h = absurd cc
unrefused false declared layered full h = absurd cc

pub admitted_unless : (b : PlainBoard) (item : Item) → refusal_of b item ≡ None → is_admitted b item ≡ true
admitted_unless b item h = unrefused (is_on_board item) (is_some (name_of b item.net)) (has_layers_of b item) _ h

-- ---- one more net
pub still_declared : (test : ℕ → Bool) (more nets : List (ℕ × List ℕ)) → is_some (lookup test nets) ≡ true → is_some (lookup test (nets ++ more)) ≡ true
still_declared test more [] h = absurd cc
still_declared test more (e ∷ es) h = by (still_declared test more es) (test e.0) h
  where
    by : (is_some (lookup test es) ≡ true → is_some (lookup test (es ++ more)) ≡ true) → (t : Bool)
        → is_some (cond t (Some e.1) (lookup test es)) ≡ true → is_some (cond t (Some e.1) (lookup test (es ++ more))) ≡ true
    by later true k = refl
    by later false k = later k

pub admitted_declared : (b : PlainBoard) (more : List (ℕ × List ℕ)) (item : Item) → is_admitted b item ≡ true → is_admitted (record b { nets = b.nets ++ more }) item ≡ true
admitted_declared b more item h =
    let all = and_parts (is_on_board item && is_some (name_of b item.net)) (has_layers_of b item) h in
    let first = and_parts (is_on_board item) (is_some (name_of b item.net)) all.0 in
    and_from _ _ (and_from _ _ first.0 (still_declared (nat_eq item.net) more b.nets first.1)) all.1

-- ---- other layers in the place of none
within_none : (s none t : LayerSet) → none.bits ≡ 0 → is_within s none ≡ true → is_within s t ≡ true
within_none s none t e h =
    let empty : s.bits ≡ 0 = sym (eqb-true _ _ h) ∙ ap (bit_and s.bits) e ∙ and_zero_r s.bits in
    eq-eqb _ _ (ap (λ n. bit_and n t.bits) empty ∙ and_zero_l t.bits ∙ sym empty)

parts_kept : (none t : LayerSet) → none.bits ≡ 0 → (ps : List Part) → list_all (λ part. is_within part.layers none) ps ≡ true → list_all (λ part. is_within part.layers t) ps ≡ true
parts_kept none t e [] h = refl
parts_kept none t e (p ∷ ps) h =
    let both = and_parts (is_within p.layers none) (list_all (λ part. is_within part.layers none) ps) h in
    and_from _ _ (within_none p.layers none t e both.0) (parts_kept none t e ps both.1)

pub admitted_layered : (b : PlainBoard) (copper : LayerSet) → b.copper.bits ≡ 0 → (item : Item) → is_admitted b item ≡ true → is_admitted (record b { copper = copper }) item ≡ true
admitted_layered b copper e item h =
    let all = and_parts (is_on_board item && is_some (name_of b item.net)) (has_layers_of b item) h in
    and_from _ _ all.0 (parts_kept b.copper copper e (parts_of item) all.1)
