-- The ids of each net, as the board changes.
use Rattle.std.proofs.Common.{◌≡◌, ◌<◌, ℕ, zero, suc, Bool, true, false, cond, ◌&&◌, List, [], ◌∷◌, ◌++◌, length, get_or, set, map, filter, None, Some, is_some, Vec, vec_len, nat_eq, refl, sym, ◌∙◌, ap, subst, arith, eq-eqb}
use Rattle.std.proofs.lemmas.Bool.{eqb-true, and_parts}
use Rattle.std.proofs.lemmas.Cmp.{nat_eq_equiv}
use Rattle.std.proofs.lemmas.List.{append-nil}
use Rattle.std.proofs.lemmas.List.Quantifiers.{position-Some}
use Rattle.std.specs.List.{position}
use Rattle.std.specs.Map.{lookup}
use Rattle.std.specs.declared.alloc.Global.{Global}
use Rattle.one_item.specs.declared.item.Item.{Item}
use Rattle.one_item.specs.Positions.{is_on_board}
use Rattle.board_items.specs.Boards.{PlainBoard, IsSound, marks_of, AreDistinct, AllAdmitted, name_of, has_layers_of, ids_of_net}
use Rattle.board_items.specs.BoardCaches.{IsNetAt, AreIdsOf, IsKept}
use Rattle.board_items.proofs.Rising.{ids_where-append}
use Rattle.board_items.proofs.Nets.{absent_parts}

-- ---- the place of a net
at_place : (net : ℕ) (nets : List (ℕ × List ℕ)) (place : ℕ) → place < length (map (λ e. e.0) nets) → get_or (map (λ e. e.0) nets) place 0 ≡ net → IsNetAt net nets place
at_place net [] place lt e = absurd (omega arith)
at_place net (n ∷ ns) zero lt e = e
at_place net (n ∷ ns) (suc place) lt e = at_place net ns place (omega arith) e

pub net_at : (net : ℕ) (nets : List (ℕ × List ℕ)) (place : ℕ) → position (nat_eq net) (map (λ e. e.0) nets) ≡ Some place → IsNetAt net nets place
net_at net nets place e =
    let at = position-Some (nat_eq net) (map (λ n. n.0) nets) place 0 e in
    at_place net nets place at.0 (sym (eqb-true net (get_or (map (λ n. n.0) nets) place 0) at.1))

pub place_in : (items : List (ℕ × Item)) (net : ℕ) (nets : List (ℕ × List ℕ)) (lists : List (Vec ℕ Global)) (place : ℕ) → AreIdsOf items nets lists → IsNetAt net nets place → place < length lists
place_in items net [] lists place h at = absurd at
place_in items net (n ∷ ns) [] place h at = absurd h
place_in items net (n ∷ ns) (l ∷ ls) zero h at = omega arith
place_in items net (n ∷ ns) (l ∷ ls) (suc place) h at = let lt = place_in items net ns ls place h.1 at in omega arith

pub ids_at : (items : List (ℕ × Item)) (net : ℕ) (nets : List (ℕ × List ℕ)) (lists : List (Vec ℕ Global)) (place : ℕ) (d : Vec ℕ Global) → AreIdsOf items nets lists → IsNetAt net nets place
    → (get_or lists place d).items ≡ ids_of_net net items
ids_at items net [] lists place d h at = absurd at
ids_at items net (n ∷ ns) [] place d h at = absurd h
ids_at items net (n ∷ ns) (l ∷ ls) zero d h at = h.0 ∙ ap (λ k. ids_of_net k items) at
ids_at items net (n ∷ ns) (l ∷ ls) (suc place) d h at = ids_at items net ns ls place d h.1 at

-- ---- one more item
more_same : (net : ℕ) (items : List (ℕ × Item)) (e : ℕ × Item) → nat_eq e.1.net net ≡ true → ids_of_net net (items ++ e ∷ []) ≡ ids_of_net net items ++ e.0 ∷ []
more_same net items e h =
    ids_where-append (λ item. nat_eq item.net net) items (e ∷ []) ∙ ap (λ b. ids_of_net net items ++ map (λ x. x.0) (cond b (e ∷ []) [])) h

more_other : (net : ℕ) (items : List (ℕ × Item)) (e : ℕ × Item) → nat_eq e.1.net net ≡ false → ids_of_net net (items ++ e ∷ []) ≡ ids_of_net net items
more_other net items e h =
    ids_where-append (λ item. nat_eq item.net net) items (e ∷ []) ∙ ap (λ b. ids_of_net net items ++ map (λ x. x.0) (cond b (e ∷ []) [])) h ∙ append-nil (ids_of_net net items)

others_added : (e : ℕ × Item) (items : List (ℕ × Item)) (nets : List (ℕ × List ℕ)) (lists : List (Vec ℕ Global)) → lookup (nat_eq e.1.net) nets ≡ None → AreIdsOf items nets lists → AreIdsOf (items ++ e ∷ []) nets lists
others_added e items [] [] absent h = tt
others_added e items [] (l ∷ ls) absent h = absurd h
others_added e items (n ∷ ns) [] absent h = absurd h
others_added e items (n ∷ ns) (l ∷ ls) absent h =
    let parts = absent_parts e.1.net n ns absent in
    (h.0 ∙ sym (more_other n.0 items e parts.0), others_added e items ns ls parts.1 h.1)

-- a net that stands in the list is not one that does not
pub differs : (net number : ℕ) (nets : List (ℕ × List ℕ)) (place : ℕ) → lookup (nat_eq number) nets ≡ None → IsNetAt net nets place → nat_eq net number ≡ false
differs net number [] place absent at = absurd at
differs net number (n ∷ ns) zero absent at =
    let other : nat_eq number n.0 ≡ false = (absent_parts number n ns absent).0 in
    nat_eq_equiv.symm net number ∙ subst (λ k. nat_eq number k ≡ false) at other
differs net number (n ∷ ns) (suc place) absent at = differs net number ns place (absent_parts number n ns absent).1 at

pub ids_added : (e : ℕ × Item) (items : List (ℕ × Item)) (nets : List (ℕ × List ℕ)) (lists : List (Vec ℕ Global)) (place : ℕ) (d v : Vec ℕ Global)
    → AreDistinct nets → AreIdsOf items nets lists → IsNetAt e.1.net nets place → v.items ≡ (get_or lists place d).items ++ e.0 ∷ [] → AreIdsOf (items ++ e ∷ []) nets (set lists place v)
ids_added e items [] lists place d v distinct h at f = absurd at
ids_added e items (n ∷ ns) [] place d v distinct h at f = absurd h
ids_added e items (n ∷ ns) (l ∷ ls) zero d v distinct h at f = (
  f ∙ ap (λ xs. xs ++ e.0 ∷ []) h.0 ∙ sym (more_same n.0 items e (eq-eqb e.1.net n.0 (sym at))),
  others_added e items ns ls (subst (λ k. lookup (nat_eq k) ns ≡ None) at distinct.0) h.1,
)
ids_added e items (n ∷ ns) (l ∷ ls) (suc place) d v distinct h at f = (
  h.0 ∙ sym (more_other n.0 items e (differs e.1.net n.0 ns place distinct.0 at)),
  ids_added e items ns ls place d v distinct.1 h.1 at f,
)

-- the list of a net is as it was
pub ids_same : (items : List (ℕ × Item)) (net : ℕ) (nets : List (ℕ × List ℕ)) (lists : List (Vec ℕ Global)) (place : ℕ) (d v : Vec ℕ Global) → AreIdsOf items nets lists → IsNetAt net nets place
    → v.items ≡ (get_or lists place d).items → AreIdsOf items nets (set lists place v)
ids_same items net [] lists place d v h at f = absurd at
ids_same items net (n ∷ ns) [] place d v h at f = absurd h
ids_same items net (n ∷ ns) (l ∷ ls) zero d v h at f = (f ∙ h.0, h.1)
ids_same items net (n ∷ ns) (l ∷ ls) (suc place) d v h at f = (h.0, ids_same items net ns ls place d v h.1 at f)

-- ---- one more net
pub none_of : (b : PlainBoard) (net : ℕ) (xs : List (ℕ × Item)) → AllAdmitted b xs → name_of b net ≡ None → ids_of_net net xs ≡ []
none_of b net [] h absent = refl
none_of b net (e ∷ es) h absent = by (nat_eq e.1.net net) refl (none_of b net es h.1 absent)
  where
    declared : is_some (name_of b e.1.net) ≡ true
    declared = (and_parts (is_on_board e.1) (is_some (name_of b e.1.net)) (and_parts (is_on_board e.1 && is_some (name_of b e.1.net)) (has_layers_of b e.1) h.0).0).1

    by : (t : Bool) → nat_eq e.1.net net ≡ t → ids_of_net net es ≡ [] → map (λ x. x.0) (cond t (e ∷ filter (λ x. nat_eq x.1.net net) es) (filter (λ x. nat_eq x.1.net net) es)) ≡ []
    by true k rest =
        let some : is_some (name_of b net) ≡ true = subst (λ n. is_some (name_of b n) ≡ true) (eqb-true e.1.net net k) declared in
        let none : is_some (name_of b net) ≡ false = ap is_some absent in
        absurd cc
    by false k rest = rest

pub ids_declared : (items : List (ℕ × Item)) (net : ℕ) (name : List ℕ) (v : Vec ℕ Global) (nets : List (ℕ × List ℕ)) (lists : List (Vec ℕ Global)) → ids_of_net net items ≡ [] → v.items ≡ []
    → AreIdsOf items nets lists → AreIdsOf items (nets ++ (net, name) ∷ []) (lists ++ v ∷ [])
ids_declared items net name v [] [] none empty h = (empty ∙ sym none, tt)
ids_declared items net name v [] (l ∷ ls) none empty h = absurd h
ids_declared items net name v (n ∷ ns) [] none empty h = absurd h
ids_declared items net name v (n ∷ ns) (l ∷ ls) none empty h = (h.0, ids_declared items net name v ns ls none empty h.1)

-- ---- other items
pub ids_unchanged : (items others : List (ℕ × Item)) → ((net : ℕ) → ids_of_net net others ≡ ids_of_net net items) → (nets : List (ℕ × List ℕ)) (lists : List (Vec ℕ Global)) → AreIdsOf items nets lists → AreIdsOf others nets lists
ids_unchanged items others law [] [] h = tt
ids_unchanged items others law [] (l ∷ ls) h = absurd h
ids_unchanged items others law (n ∷ ns) [] h = absurd h
ids_unchanged items others law (n ∷ ns) (l ∷ ls) h = (h.0 ∙ sym (law n.0), ids_unchanged items others law ns ls h.1)

-- ---- as the board is changed
pub declared_lists : (b : PlainBoard) (net : ℕ) (name : List ℕ) (v : Vec ℕ Global) (nets : List (ℕ × List ℕ)) (lists more : List (Vec ℕ Global)) → AllAdmitted b b.items → name_of b net ≡ None → v.items ≡ []
    → nets ≡ b.nets ++ (net, name) ∷ [] → more ≡ lists ++ v ∷ [] → AreIdsOf b.items b.nets lists → AreIdsOf b.items nets more
declared_lists b net name v nets lists more admitted absent empty e f h =
    subst (λ (ns : List (ℕ × List ℕ)). AreIdsOf b.items ns more) (sym e) (subst (λ (ls : List (Vec ℕ Global)). AreIdsOf b.items (b.nets ++ (net, name) ∷ []) ls) (sym f)
    (ids_declared b.items net name v b.nets lists (none_of b net b.items admitted absent) empty h))

pub added_lists : (b : PlainBoard) (id : ℕ) (item : Item) (items : List (ℕ × Item)) (lists : List (Vec ℕ Global)) (place : ℕ) (d old v : Vec ℕ Global) → AreDistinct b.nets → AreIdsOf b.items b.nets lists
    → IsNetAt item.net b.nets place → old ≡ get_or lists place d → v.items ≡ old.items ++ id ∷ [] → items ≡ b.items ++ (id, item) ∷ [] → AreIdsOf items b.nets (set lists place v)
added_lists b id item items lists place d old v distinct h at e f g =
    subst (λ (xs : List (ℕ × Item)). AreIdsOf xs b.nets (set lists place v)) (sym g)
    (ids_added (id, item) b.items b.nets lists place d v distinct h at (f ∙ ap (λ (o : Vec ℕ Global). o.items ++ id ∷ []) e))

pub kept_lists : (b : PlainBoard) (net : ℕ) (items : List (ℕ × Item)) (lists : List (Vec ℕ Global)) (place : ℕ) (d old v : Vec ℕ Global) → AreIdsOf b.items b.nets lists → IsNetAt net b.nets place
    → old ≡ get_or lists place d → v.items ≡ old.items → items ≡ b.items → AreIdsOf items b.nets (set lists place v)
kept_lists b net items lists place d old v h at e f g =
    subst (λ (xs : List (ℕ × Item)). AreIdsOf xs b.nets (set lists place v)) (sym g)
    (ids_same b.items net b.nets lists place d v h at (f ∙ ap (λ (o : Vec ℕ Global). o.items) e))

pub kept_same : (b : PlainBoard) (items : List (ℕ × Item)) (next : ℕ) (marks more : List ℕ) (lists : List (Vec ℕ Global)) (live : ℕ) → IsSound b → marks ≡ marks_of b.items → live ≡ length b.items → items ≡ b.items → next ≡ b.next_id
    → more ≡ marks → AreIdsOf items b.nets lists → IsKept (record b { items = items; next_id = next }) more lists live
kept_same b items next marks more lists live s m l e n f h = record {
  sound = subst (λ (z : ℕ). IsSound (record b { items = items; next_id = z })) (sym n) (subst (λ (xs : List (ℕ × Item)). IsSound (record b { items = xs })) (sym e) s);
  marks = f ∙ m ∙ ap marks_of (sym e);
  of_nets = h;
  count = l ∙ ap length (sym e);
}

pub place_fits : (b : PlainBoard) (net : ℕ) (v : Vec (Vec ℕ Global) Global) (place : ℕ) → AreIdsOf b.items b.nets v.items → IsNetAt net b.nets place → place < vec_len v
place_fits b net v place h at = let lt = place_in b.items net b.nets v.items place h at in let ok = v.ok.0 in omega arith
