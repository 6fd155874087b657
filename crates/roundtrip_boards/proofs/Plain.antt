-- Parts that give no items, and that no part says two things.
use Rattle.std.proofs.Common.{◌≡◌, ◌∙◌, refl, sym, ap, subst, ℕ, Bool, true, false, cond, List, [], ◌∷◌, ◌++◌, Option, None, Some, Result, Ok, Err, inl, inr, is_some}
use Rattle.sexpr_read.specs.declared.place.Span.{Span}
use Rattle.sexpr_read.specs.Tree.{Forest, none, atom, list, Tree, leaf, branch, trees}
use Rattle.board_errors.specs.declared.errors.BoardError.{BoardError}
use Rattle.copper_layers.specs.declared.set.LayerSet.{LayerSet}
use Rattle.one_item.specs.declared.item.Item.{Item}
use Rattle.board_items.specs.Boards.{PlainBoard, name_of, with_net}
use Rattle.list_read.specs.FirstRefusals.{◌>>=◌}
use Rattle.list_read.specs.ListHeads.{has_head}
use Rattle.part_read.specs.ElementResults.{atom_of}
use Rattle.part_read.specs.LayersWhere.{layers_of_any}
use Rattle.part_read.specs.BoardLayers.{layer_set, each_set, listed, layers_listed}
use Rattle.footprint_read.proofs.OneAnswer.{one_answer}
use Rattle.roundtrip_lists.specs.Translated.{Translated, TranslatedTrees}
use Rattle.roundtrip_lists.specs.Agreeing.{Agrees, Same, SameAtom}
use Rattle.roundtrip_lists.proofs.Elements.{agrees_bind, agrees_both, atom_translated}
use Rattle.roundtrip_lists.proofs.Numbers.{layer_number_translated}
use Rattle.pcb_read.specs.declared.sorts.Sort.{Sort}
use Rattle.pcb_read.specs.declared.sorts.Sort.TheVariants.{Track, Via, Arc, Graphic, Curve, Text, Zone, Footprint}
use Rattle.pcb_read.specs.Sorts.{sort_by, sort_of}
use Rattle.pcb_read.specs.ItemsOf.{SaysItems}
use Rattle.pcb_read.specs.BoardOf.{Reading, with_items, with_other, with_board, SaysPartBy, SaysPart, SaysParts}
use Rattle.roundtrip_boards.proofs.Following.{branches}

-- ---- no part says two things

one_items : (board : PlainBoard) (unit : ℕ) (tree : Tree) (sort : Sort) (a b : Result (List Item) BoardError) → SaysItems board unit tree sort a → SaysItems board unit tree sort b → a ≡ b
one_items board unit tree Track a b h k = h ∙ sym k
one_items board unit tree Via a b h k = h ∙ sym k
one_items board unit tree Arc a b h k = h ∙ sym k
one_items board unit tree (Graphic kind) a b h k = h ∙ sym k
one_items board unit tree Curve a b h k = h ∙ sym k
one_items board unit tree (Text about) a b h k = h ∙ sym k
one_items board unit tree Zone a b h k = h ∙ sym k
one_items board unit tree Footprint a b h k = one_answer board unit tree a b h k

one_part : (reading : Reading) (tree : Tree) (sort : Option Sort) (a b : Result Reading BoardError) → SaysPartBy reading tree sort a → SaysPartBy reading tree sort b → a ≡ b
one_part reading tree None a b h k = h ∙ sym k
one_part reading tree (Some sort) a b (x, (items, says, with), is) (y, (others, said, and), are) =
    is
    ∙ ap (with_board reading) (with ∙ ap (λ (r : Result (List Item) BoardError). r >>= λ found. Ok (with_items reading.board found)) (one_items reading.board reading.board.next_unit tree sort items others says said) ∙ sym and)
    ∙ sym are

pub one_next : (a next other : Reading) (t : Tree) → SaysPart a t (Ok next) → SaysPart a t (Ok other) → other ≡ next
one_next a next other t h k = let e : (let r : Result Reading BoardError = Ok other in r) ≡ Ok next = one_part a t (sort_of t) (Ok other) (Ok next) k h in cc

-- ---- atoms are passed over

pub atom_sort : (s : Span) (q : Bool) (c : List ℕ) → sort_of (leaf s q c) ≡ None
unfolding sort_of
atom_sort s q c = refl

pub atom_other : (a : Reading) (s : Span) (q : Bool) (c : List ℕ) → with_other a (leaf s q c) ≡ Ok a
unfolding with_other has_head
atom_other a s q c = refl

pub lists_only : (f : Forest) (a : Reading) (r : Result Reading BoardError) → SaysParts a (trees f) r → SaysParts a (branches f) r
lists_only none a r h = h
lists_only (atom s q c others) a r (inl (next, says, more)) =
    let k : Ok next ≡ with_other a (leaf s q c) = subst (λ (o : Option Sort). SaysPartBy a (leaf s q c) o (Ok next)) (atom_sort s q c) says in
    let same : next ≡ a = (let e : (let r : Result Reading BoardError = Ok next in r) ≡ Ok a = k ∙ atom_other a s q c in cc) in
    lists_only others a r (subst (λ (x : Reading). SaysParts x (trees others) r) same more)
lists_only (atom s q c others) a r (inr (e, says, more)) =
    absurd (let k : Err e ≡ with_other a (leaf s q c) = subst (λ (o : Option Sort). SaysPartBy a (leaf s q c) o (Err e)) (atom_sort s q c) says in let l : (let r : Result Reading BoardError = Err e in r) ≡ Ok a = k ∙ atom_other a s q c in cc)
lists_only (list s inside others) a r (inl (next, says, more)) = inl (next, says, lists_only others next r more)
lists_only (list s inside others) a r (inr h) = inr h

pub with_atoms : (f : Forest) (a : Reading) (r : Result Reading BoardError) → SaysParts a (branches f) r → SaysParts a (trees f) r
with_atoms none a r h = h
with_atoms (atom s q c others) a r h =
    inl (a, subst (λ (o : Option Sort). SaysPartBy a (leaf s q c) o (Ok a)) (sym (atom_sort s q c)) (sym (atom_other a s q c)), with_atoms others a r h)
with_atoms (list s inside others) a r (inl (next, says, more)) = inl (next, says, with_atoms others next r more)
with_atoms (list s inside others) a r (inr h) = inr h

-- ---- nets and layers leave the items

net_keeps : (b : PlainBoard) (n : ℕ) (name : List ℕ) → ((with_net b n name).items ≡ b.items) × ((with_net b n name).next_id ≡ b.next_id) × ((with_net b n name).next_unit ≡ b.next_unit)
net_keeps b n name = by_test (is_some (name_of b n))
  where
    by_test : (t : Bool) → let c : PlainBoard = cond t b (record b { nets = b.nets ++ (n, name) ∷ [] }) in (c.items ≡ b.items) × (c.next_id ≡ b.next_id) × (c.next_unit ≡ b.next_unit)
    by_test true = (refl, refl, refl)
    by_test false = (refl, refl, refl)

-- ---- the list of layers

listed_translated : (t u : Tree) → TranslatedTrees None t u → Agrees Same (listed t) (listed u)
unfolding listed
listed_translated (leaf s q c) (leaf r p e) h = refl
listed_translated (leaf s q c) (branch r j) h = absurd h
listed_translated (branch s i) (leaf r p e) h = absurd h
listed_translated (branch s i) (branch r j) h =
    agrees_bind SameAtom Same (atom_of 1 (branch s i)) (atom_of 1 (branch r j)) _ _ (agrees_both SameAtom (atom_of 1 (branch s i)) (atom_of 1 (branch r j)) (atom_translated None 1 (branch s i) (branch r j) h))
    (λ x y k. ap layer_set (layer_number_translated x y k))

each_translated : (f g : Forest) → Translated None f g → Agrees Same (each_set listed (trees f)) (each_set listed (trees g))
each_translated none none h = refl
each_translated none (atom t r e rest) h = absurd h
each_translated none (list t within rest) h = absurd h
each_translated (atom s q c others) none h = absurd h
each_translated (atom s q c others) (list t within rest) h = absurd h
each_translated (list s inside others) none h = absurd h
each_translated (list s inside others) (atom t r e rest) h = absurd h
each_translated (atom s q c others) (atom t r e rest) h =
    agrees_bind Same Same (listed (leaf s q c)) (listed (leaf t r e)) _ _ (listed_translated (leaf s q c) (leaf t r e) (h.0, h.1))
    (λ x y k. agrees_bind Same Same (each_set listed (trees others)) (each_set listed (trees rest)) _ _ (each_translated others rest h.2) (λ z w l. ap (λ (m : List LayerSet). m ++ w) k ∙ ap (λ (m : List LayerSet). x ++ m) l))
each_translated (list s inside others) (list t within rest) h =
    agrees_bind Same Same (listed (branch s inside)) (listed (branch t within)) _ _ (listed_translated (branch s inside) (branch t within) h.0)
    (λ x y k. agrees_bind Same Same (each_set listed (trees others)) (each_set listed (trees rest)) _ _ (each_translated others rest h.1) (λ z w l. ap (λ (m : List LayerSet). m ++ w) k ∙ ap (λ (m : List LayerSet). x ++ m) l))

pub layers_translated : (s r : Span) (i j : Forest) → Translated None i j → Agrees Same (layers_listed (branch s i)) (layers_listed (branch r j))
unfolding layers_listed
layers_translated s r i j h =
    agrees_bind Same Same (each_set listed (trees i)) (each_set listed (trees j)) _ _ (each_translated i j h) (λ x y k. ap layers_of_any k)

-- ---- sorts

sort_leaf : (s t : Span) (q : Bool) (c : List ℕ) → sort_by (leaf t q c) ≡ sort_by (leaf s q c)
sort_leaf s t true c = refl
sort_leaf s t false c = refl
