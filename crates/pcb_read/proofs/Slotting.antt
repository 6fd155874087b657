-- Parts that are read in blocks.
use Rattle.std.proofs.Common.{◌≡◌, ◌∙◌, refl, sym, ap, subst, ◌⊎◌, inl, inr, ℕ, suc, arith, true, is_some, List, [], ◌∷◌, ◌++◌, append-nil, length, map, take, drop, Result, Ok, Err, Some}
use Rattle.std.proofs.lemmas.List.{take_all, drop_all}
use Rattle.sexpr_read.specs.Tree.{Tree}
use Rattle.board_errors.specs.declared.errors.BoardError.{BoardError}
use Rattle.board_errors.specs.declared.errors.BoardError.TheVariants.{OutOfMemory}
use Rattle.copper_layers.specs.declared.set.LayerSet.{LayerSet}
use Rattle.one_item.specs.declared.item.Item.{Item}
use Rattle.board_items.specs.Boards.{PlainBoard, name_of}
use Rattle.part_read.specs.NodeResults.{Gives}
use Rattle.part_read.specs.Graphics.{one_item}
use Rattle.pcb_read.specs.declared.drafts.Draft.{Draft}
use Rattle.pcb_read.specs.declared.slot.Slot.{Slot}
use Rattle.pcb_read.specs.RelatedResults.{LeavesSome}
use Rattle.pcb_read.specs.Sorts.{sort_of}
use Rattle.pcb_read.specs.ItemsOf.{in_capacity}
use Rattle.pcb_read.specs.BoardOf.{Reading, with_found, SaysWith, SaysPart, SaysParts}
use Rattle.pcb_read.specs.Drafts.{item_of, draft_by, IsDraft}
use Rattle.pcb_read.specs.PartSlots.{tree_in, AreSame}
use Rattle.pcb_read.proofs.OneReading.{same_ok}
use Rattle.pcb_read.proofs.Drafting.{said_by}
use Rattle.pcb_read.proofs.Parting.{part_says}

-- ---- a block that was drafted

same_rest : (x y : Slot) (xs ys : List Slot) → AreSame (x ∷ xs) (y ∷ ys) → AreSame xs ys
same_rest x y xs ys h = let long = h.long in record { long = omega (arith, long); each = λ place d lt. h.each (suc place) d (omega (arith, lt)) }

-- its parts have the same trees
same_trees : (old new : List Slot) → AreSame old new → map tree_in new ≡ map tree_in old
same_trees [] [] h = refl
same_trees [] (y ∷ ys) h = let long = h.long in absurd (omega (arith, long))
same_trees (x ∷ xs) [] h = let long = h.long in absurd (omega (arith, long))
same_trees (x ∷ xs) (y ∷ ys) h =
    ap (λ (t : Tree). t ∷ map tree_in ys) (h.each 0 x (omega arith)) ∙ ap (λ (ts : List Tree). tree_in x ∷ ts) (same_trees xs ys (same_rest x y xs ys h))

-- a block that was drafted as a whole
pub whole : (n : ℕ) (old new : List Slot) → AreSame old new → n ≡ length old → map tree_in (take n (new ++ drop (length new) old)) ≡ map tree_in old
whole n old new same count =
    let long = same.long in
    let none : drop (length new) old ≡ [] = drop_all (length new) old (omega (arith, long)) in
    ap (map tree_in) (ap (λ (others : List Slot). take n (new ++ others)) none ∙ (ap (take n) (append-nil new) ∙ take_all n new (omega (arith, long, count)))) ∙ same_trees old new same

no_part : (block : List Slot) → map tree_in block ≡ [] → block ≡ []
no_part [] none = refl
no_part (slot ∷ rest) none = absurd cc

-- a block that was drafted is the next still
pub still_next : (old new : List Slot) (left trees : List Tree) → map tree_in new ≡ map tree_in old → map tree_in old ++ left ≡ trees → (old ≡ [] → trees ≡ [])
    → (map tree_in new ++ left ≡ trees) × (new ≡ [] → trees ≡ [])
still_next old new left trees same is last =
    (ap (λ (block : List Tree). block ++ left) same ∙ is, λ none. last (no_part old (sym same ∙ ap (map tree_in) none)))

-- ---- a part that is read by its draft

leaves : {A : Type 0} {P Q : Result A BoardError → Type 0} (r : Result (Unit {0}) BoardError) (new : A) → ((answer : Result A BoardError) → P answer → Q answer) → LeavesSome r new P → LeavesSome r new Q
leaves (Ok x) new more h = more (Ok new) h
leaves (Err e) new more (inl gone) = inl gone
leaves (Err e) new more (inr h) = inr (more (Err e) h)

pub slot_says : (reading : Reading) (unit : ℕ) (tree : Tree) (copper : LayerSet) (draft : Draft) (answer : Result Item BoardError) (r : Result (Unit {0}) BoardError) (new : PlainBoard)
    → unit ≡ reading.board.next_unit → IsDraft copper tree draft → reading.board.copper ≡ copper → is_some (name_of reading.board draft.net) ≡ true
    → Gives answer (item_of unit tree draft)
    → ((said : Result Item BoardError) → Gives answer said → LeavesSome r new (λ left. left ≡ with_found reading.board (in_capacity reading.board unit tree (one_item said))))
    → LeavesSome r (record { board = new; layered = reading.layered }) (SaysPart reading tree)
slot_says reading unit tree copper draft answer r new own drafted same known given added =
    let board = reading.board in
    let by : draft_by (sort_of tree) board.copper tree ≡ Some draft = subst (λ (set : LayerSet). draft_by (sort_of tree) set tree ≡ Some draft) (sym same) drafted.0 in
    let said = said_by tree board board.next_unit draft (sort_of tree) by known in
    let found = in_capacity board board.next_unit tree (one_item (item_of board.next_unit tree draft)) in
    let is : LeavesSome r new (λ left. left ≡ with_found board found) =
    subst (λ (u : ℕ). LeavesSome r new (λ left. left ≡ with_found board (in_capacity board u tree (one_item (item_of u tree draft))))) own (added (item_of unit tree draft) given) in
    part_says reading tree said.0 new r said.1 (leaves {P = λ left. left ≡ with_found board found} {Q = SaysWith board tree said.0} r new (λ left e. (found, said.2, e)) is)

-- ---- one after the other

-- what parts say, and others behind them
parts_behind : (ts us : List Tree) (start now : Reading) (answer : Result Reading BoardError) → SaysParts start ts (Ok now) → SaysParts now us answer → SaysParts start (ts ++ us) answer
parts_behind [] us start now answer h k = subst (λ (r : Reading). SaysParts r us answer) (same_ok h) k
parts_behind (t ∷ ts) us start now answer (inl h) k = inl (h.0, h.1, parts_behind ts us h.0 now answer h.2 k)
parts_behind (t ∷ ts) us start now answer (inr h) k = let no = h.2 in absurd cc

-- a refusal of parts is one of more parts
parts_refused : (ts us : List Tree) (start : Reading) (e : BoardError) → SaysParts start ts (Err e) → SaysParts start (ts ++ us) (Err e)
parts_refused [] us start e h = absurd cc
parts_refused (t ∷ ts) us start e (inl h) = inl (h.0, h.1, parts_refused ts us h.0 e h.2)
parts_refused (t ∷ ts) us start e (inr h) = inr h

-- a part that is refused
pub part_refused : (start now : Reading) (all parts : List Tree) (t : Tree) (ts : List Tree) (e : BoardError)
    → ((answer : Result Reading BoardError) → SaysParts now parts answer → SaysParts start all answer) → parts ≡ t ∷ ts
    → (e ≡ OutOfMemory) ⊎ SaysPart now t (Err e) → (e ≡ OutOfMemory) ⊎ SaysParts start all (Err e)
part_refused start now all parts t ts e says is (inl gone) = inl gone
part_refused start now all parts t ts e says is (inr h) =
    inr (says (Err e) (subst (λ (left : List Tree). SaysParts now left (Err e)) (sym is) (inr (e, h, refl))))

-- a block that is refused, of what was left
pub block_refused : (start now : Reading) (all ts left : List Tree) (e : BoardError)
    → ((answer : Result Reading BoardError) → SaysParts now (ts ++ left) answer → SaysParts start all answer)
    → (e ≡ OutOfMemory) ⊎ SaysParts now ts (Err e) → (e ≡ OutOfMemory) ⊎ SaysParts start all (Err e)
block_refused start now all ts left e says (inl gone) = inl gone
block_refused start now all ts left e says (inr h) = inr (says (Err e) (parts_refused ts left now e h))

-- a block that was read, and what is ahead then
pub block_read : (start now next : Reading) (all ts left ahead : List Tree)
    → ((answer : Result Reading BoardError) → SaysParts now (ts ++ left) answer → SaysParts start all answer) → ahead ≡ left
    → SaysParts now ts (Ok next) → (answer : Result Reading BoardError) → SaysParts next ahead answer → SaysParts start all answer
block_read start now next all ts left ahead says is read answer h =
    says answer (parts_behind ts left now next answer read (subst (λ (trees : List Tree). SaysParts next trees answer) is h))
