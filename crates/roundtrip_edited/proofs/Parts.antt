-- The parts of a root: their sorts, and those that give no items.
use Rattle.std.proofs.Common.{◌≡◌, ◌∙◌, refl, sym, ap, subst, ℕ, Bool, true, false, cond, List, [], ◌∷◌, ◌++◌, codes, Option, None, Some, Result, Ok, Err, is_some}
use Rattle.std.specs.Prelude.{unwrap_or}
use Rattle.sexpr_read.specs.declared.place.Span.{Span}
use Rattle.sexpr_read.specs.Tree.{Forest, none, atom, list, Tree, leaf, branch, trees}
use Rattle.board_errors.specs.declared.errors.BoardError.{BoardError}
use Rattle.board_items.specs.Boards.{name_of, with_net}
use Rattle.list_read.specs.FirstRefusals.{◌>>=◌}
use Rattle.list_read.specs.ListHeads.{first_is, has_head, text_of}
use Rattle.part_read.specs.ElementResults.{atom_of}
use Rattle.part_read.specs.BoardNumbers.{number_in}
use Rattle.part_read.specs.BoardLayers.{layers_listed}
use Rattle.roundtrip_text.specs.Pieces.{SameTrees}
use Rattle.pcb_read.specs.Nets.{with_net_of}
use Rattle.pcb_read.specs.Sorts.{sort_by, sort_of}
use Rattle.pcb_read.specs.BoardOf.{Reading, with_layers, with_board, with_other}
use Rattle.roundtrip_lists.specs.Translated.{Shift, place_moved, Translated, TranslatedTrees}
use Rattle.roundtrip_lists.specs.Agreeing.{Agrees, Same, SameAtom}
use Rattle.roundtrip_lists.specs.Moving.{put_if, moved}
use Rattle.roundtrip_lists.proofs.Elements.{agrees_bind, agrees_both, heads_translated, same_value, atom_translated}
use Rattle.roundtrip_lists.proofs.Numbers.{number_translated}
use Rattle.roundtrip_boards.specs.Roots.{SameLayersAndNets, SameItems}
use Rattle.roundtrip_boards.specs.WrittenBoard.{first_at, moved_unit, moved_if}
use Rattle.roundtrip_boards.proofs.Plain.{layers_translated}

-- ---- sorts

leaf_sort : (s t : Span) (q r : Bool) (c e : List ℕ) → q ≡ r → c ≡ e → sort_by (leaf s q c) ≡ sort_by (leaf t r e)
leaf_sort s t q r c e h k = ap (λ (b : Bool). sort_by (leaf s b c)) h ∙ ap (λ (x : List ℕ). sort_by (leaf s r x)) k ∙ by_quotes r
  where
    by_quotes : (b : Bool) → sort_by (leaf s b e) ≡ sort_by (leaf t b e)
    by_quotes true = refl
    by_quotes false = refl

pub plain_sort : (t u : Tree) → TranslatedTrees None t u → sort_of t ≡ sort_of u
unfolding sort_of
plain_sort (leaf s q c) (leaf t r e) h = refl
plain_sort (leaf s q c) (branch r j) h = absurd h
plain_sort (branch s i) (leaf t r e) h = absurd h
plain_sort (branch s i) (branch r j) h = by_first i j h
  where
    by_first : (i j : Forest) → Translated None i j → sort_of (branch s i) ≡ sort_of (branch r j)
    by_first none none h = refl
    by_first none (atom t p e rest) h = absurd h
    by_first none (list t within rest) h = absurd h
    by_first (atom p q c others) none h = absurd h
    by_first (atom p q c others) (atom t v e rest) h = leaf_sort p t q v c e h.0 h.1
    by_first (atom p q c others) (list t within rest) h = absurd h
    by_first (list p inside others) none h = absurd h
    by_first (list p inside others) (atom t v e rest) h = absurd h
    by_first (list p inside others) (list t within rest) h = refl

same_sort : (s r : Span) (i j : Forest) → SameTrees i j → sort_of (branch r j) ≡ sort_of (branch s i)
unfolding sort_of
same_sort s r none none h = refl
same_sort s r none (atom t p e rest) h = absurd h
same_sort s r none (list t within rest) h = absurd h
same_sort s r (atom p q c others) none h = absurd h
same_sort s r (atom p q c others) (atom t v e rest) h = sym (leaf_sort p t q v c e h.0 h.1)
same_sort s r (atom p q c others) (list t within rest) h = absurd h
same_sort s r (list p inside others) none h = absurd h
same_sort s r (list p inside others) (atom t v e rest) h = absurd h
same_sort s r (list p inside others) (list t within rest) h = refl

-- a list that is moved keeps its head
unit_sort : (by : Shift) (s : Span) (i : Forest) (b : Bool) → sort_of (branch s (cond b (first_at by i) (moved by i))) ≡ sort_of (branch s i)
unfolding sort_of
unit_sort by s none true = refl
unit_sort by s none false = refl
unit_sort by s (atom p q c others) true = refl
unit_sort by s (atom p q c others) false = refl
unit_sort by s (list p inside others) false = refl
unit_sort by s (list p inside others) true = by_head (first_is (trees inside) (codes "at"))
  where
    by_head : (b : Bool) → sort_of (branch s (cond b (list p (put_if (place_moved by inside) inside) others) (list p inside (first_at by others)))) ≡ sort_of (branch s (list p inside others))
    by_head true = refl
    by_head false = refl

pub moved_sort : (s r : Span) (i j : Forest) (o : Option Shift) → SameTrees (moved_if o i) j → sort_of (branch r j) ≡ sort_of (branch s i)
moved_sort s r i j None h = same_sort s r i j h
moved_sort s r i j (Some by) h = same_sort s r (moved_unit by i) j h ∙ unit_sort by s i (first_is (trees i) (codes "footprint"))

-- ---- parts that give no items

-- what a part without items leaves as it was, read on this board
pub record Leaves (old new : Reading) : Type 0 where
  pub items : new.board.items ≡ old.board.items
  pub ids : new.board.next_id ≡ old.board.next_id
  pub units : new.board.next_unit ≡ old.board.next_unit

itself : (a : Reading) → Leaves a a
itself a = record { items = refl; ids = refl; units = refl }

net_leaves : (a : Reading) (n : ℕ) (name : List ℕ) (b : Bool) → Leaves a (record a { board = cond b a.board (record a.board { nets = a.board.nets ++ (n, name) ∷ [] }) })
net_leaves a n name true = itself a
net_leaves a n name false = record { items = refl; ids = refl; units = refl }

-- the parts, read on both boards
pub record Both (a b next new : Reading) : Type 0 where
  pub ground : SameLayersAndNets next.board new.board
  pub layered : new.layered ≡ next.layered
  pub first : Leaves a next
  pub second : Leaves b new

module _ (a b : Reading) (ground : SameLayersAndNets a.board b.board) (layered : b.layered ≡ a.layered) where
  both_itself : Both a b a b
  both_itself = record { ground = ground; layered = layered; first = itself a; second = itself b }

  net_both : (n : ℕ) (name : List ℕ) → Both a b (record a { board = with_net a.board n name }) (record b { board = with_net b.board n name })
  net_both n name =
      subst (λ (t : Bool). Both a b (record a { board = with_net a.board n name }) (record b { board = cond t b.board (record b.board { nets = b.board.nets ++ (n, name) ∷ [] }) })) (sym same) (by_test (is_some (name_of a.board n)))
    where
      same : is_some (name_of b.board n) ≡ is_some (name_of a.board n)
      same = ap (λ (l : List (ℕ × List ℕ)). is_some (name_of (record a.board { nets = l }) n)) ground.nets

      by_test : (t : Bool) → Both a b (record a { board = cond t a.board (record a.board { nets = a.board.nets ++ (n, name) ∷ [] }) }) (record b { board = cond t b.board (record b.board { nets = b.board.nets ++ (n, name) ∷ [] }) })
      by_test true = both_itself
      by_test false = record {
        ground = record { copper = ground.copper; nets = ap (λ (l : List (ℕ × List ℕ)). l ++ (n, name) ∷ []) ground.nets };
        layered = layered;
        first = net_leaves a n name false;
        second = net_leaves b n name false;
      }

  nets_both : (s r : Span) (i j : Forest) → Translated None i j → Agrees (Both a b) (with_board a (with_net_of a.board (branch s i))) (with_board b (with_net_of b.board (branch r j)))
  unfolding with_net_of
  nets_both s r i j h = by_first (atom_of 1 (branch s i)) (atom_of 1 (branch r j)) (agrees_both SameAtom (atom_of 1 (branch s i)) (atom_of 1 (branch r j)) (atom_translated None 1 (branch s i) (branch r j) h))
    where
      rest : Reading → ℕ → Result Tree BoardError → Result Reading BoardError
      rest c n second = with_board c (second >>= λ second. Ok (with_net c.board n (text_of second)))

      by_second : (n : ℕ) (x y : Result Tree BoardError) → Agrees SameAtom x y → Agrees (Both a b) (rest a n x) (rest b n y)
      by_second n (Err e) y k = tt
      by_second n (Ok x) (Err e) k = absurd k
      by_second n (Ok x) (Ok y) k =
          subst (λ (v : Option (List ℕ)). Both a b (record a { board = with_net a.board n (text_of x) }) (record b { board = with_net b.board n (unwrap_or v []) })) (same_value x y k) (net_both n (text_of x))

      by_number : (x y : Result ℕ BoardError) → Agrees Same x y
          → Agrees (Both a b) (with_board a (x >>= λ n. (atom_of 2 (branch s i) >>= λ second. Ok (with_net a.board n (text_of second))))) (with_board b (y >>= λ n. (atom_of 2 (branch r j) >>= λ second. Ok (with_net b.board n (text_of second)))))
      by_number (Err e) y k = tt
      by_number (Ok n) (Err e) k = absurd k
      by_number (Ok n) (Ok m) k =
          subst (λ (z : ℕ). Agrees (Both a b) (rest a n (atom_of 2 (branch s i))) (rest b z (atom_of 2 (branch r j)))) (sym k)
          (by_second n (atom_of 2 (branch s i)) (atom_of 2 (branch r j)) (agrees_both SameAtom (atom_of 2 (branch s i)) (atom_of 2 (branch r j)) (atom_translated None 2 (branch s i) (branch r j) h)))

      by_first : (x y : Result Tree BoardError) → Agrees SameAtom x y
          → Agrees (Both a b) (with_board a (x >>= λ first. (number_in first >>= λ n. (atom_of 2 (branch s i) >>= λ second. Ok (with_net a.board n (text_of second)))))) (with_board b (y >>= λ first. (number_in first >>= λ n. (atom_of 2 (branch r j) >>= λ second. Ok (with_net b.board n (text_of second))))))
      by_first (Err e) y k = tt
      by_first (Ok x) (Err e) k = absurd k
      by_first (Ok x) (Ok y) k = by_number (number_in x) (number_in y) (number_translated x y k)

  layers_both : (s r : Span) (i j : Forest) → Translated None i j → Agrees (Both a b) (with_layers a (branch s i)) (with_layers b (branch r j))
  unfolding with_layers
  layers_both s r i j h =
      subst (λ (t : Bool). Agrees (Both a b) (by_layered a.layered a (branch s i)) (by_layered t b (branch r j))) (sym layered) (by_test a.layered)
    where
      by_layered : Bool → Reading → Tree → Result Reading BoardError
      by_layered t c tree = cond t (Ok c) (layers_listed tree >>= λ set. Ok (record { board = record c.board { copper = set }; layered = true }))

      by_test : (t : Bool) → Agrees (Both a b) (by_layered t a (branch s i)) (by_layered t b (branch r j))
      by_test true = both_itself
      by_test false =
          agrees_bind Same (Both a b) (layers_listed (branch s i)) (layers_listed (branch r j)) _ _ (layers_translated s r i j h)
          (λ x y k. record { ground = record { copper = k; nets = ground.nets }; layered = refl; first = record { items = refl; ids = refl; units = refl }; second = record { items = refl; ids = refl; units = refl } })

  others_both : (t u : Tree) → TranslatedTrees None t u → Agrees (Both a b) (with_other a t) (with_other b u)
  unfolding with_other has_head
  others_both (leaf s q c) (leaf r p e) h = both_itself
  others_both (leaf s q c) (branch r j) h = absurd h
  others_both (branch s i) (leaf r p e) h = absurd h
  others_both (branch s i) (branch r j) h =
      subst (λ (t : Bool). Agrees (Both a b) (other_by a (branch s i) (has_head (codes "net") (branch s i)) (has_head (codes "layers") (branch s i))) (other_by b (branch r j) t (has_head (codes "layers") (branch r j))))
      (heads_translated None (branch s i) (branch r j) (codes "net") h)
      (subst (λ (t : Bool). Agrees (Both a b) (other_by a (branch s i) (has_head (codes "net") (branch s i)) (has_head (codes "layers") (branch s i))) (other_by b (branch r j) (has_head (codes "net") (branch s i)) t))
      (heads_translated None (branch s i) (branch r j) (codes "layers") h) (by_tests (has_head (codes "net") (branch s i)) (has_head (codes "layers") (branch s i))))
    where
      other_by : Reading → Tree → Bool → Bool → Result Reading BoardError
      other_by c tree net layers = cond net (with_board c (with_net_of c.board tree)) (cond layers (with_layers c tree) (Ok c))

      by_tests : (net layers : Bool) → Agrees (Both a b) (other_by a (branch s i) net layers) (other_by b (branch r j) net layers)
      by_tests true layers = nets_both s r i j h
      by_tests false true = layers_both s r i j h
      by_tests false false = both_itself

translated_itself : (t : Tree) → TranslatedTrees None t t
translated_itself (leaf s q c) = (refl, refl)
translated_itself (branch s i) = each i
  where
    each : (f : Forest) → Translated None f f
    each none = tt
    each (atom p q c others) = (refl, refl, each others)
    each (list p inside others) = (each inside, each others)

pub other_keeps : (a next : Reading) (t : Tree) → with_other a t ≡ Ok next → (next.board.items ≡ a.board.items) × (next.board.next_unit ≡ a.board.next_unit)
other_keeps a next t h =
    let k : Agrees (Both a a) (Ok next) (with_other a t) = subst (λ (r : Result Reading BoardError). Agrees (Both a a) r (with_other a t)) h (others_both a a (record { copper = refl; nets = refl }) refl t t (translated_itself t)) in
    let m : Both a a next next = subst (λ (r : Result Reading BoardError). Agrees (Both a a) (Ok next) r) h k in
    (m.first.items, m.first.units)

pub others_read : (t u : Tree) (a b next : Reading) → TranslatedTrees None t u → SameLayersAndNets a.board b.board → b.layered ≡ a.layered → with_other a t ≡ Ok next
    → (new : Reading) × (with_other b u ≡ Ok new) × SameLayersAndNets next.board new.board × (new.layered ≡ next.layered) × SameItems b.board new.board
others_read t u a b next translated ground layered h =
    by_answer (with_other b u) refl (subst (λ (r : Result Reading BoardError). Agrees (Both a b) r (with_other b u)) h (others_both a b ground layered t u translated))
  where
    by_answer : (r : Result Reading BoardError) → with_other b u ≡ r → Agrees (Both a b) (Ok next) r
        → (new : Reading) × (with_other b u ≡ Ok new) × SameLayersAndNets next.board new.board × (new.layered ≡ next.layered) × SameItems b.board new.board
    by_answer (Ok new) e k = (new, e, k.ground, k.layered, record { items = k.second.items; ids = k.second.ids; units = k.second.units })
    by_answer (Err f) e k = absurd k
