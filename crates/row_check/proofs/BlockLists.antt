-- Blocks of entries, and the ends of lists.
use Rattle.std.proofs.Common.{◌≡◌, ◌⊎◌, inl, inr, ◌∙◌, ap, sym, subst, refl, ℕ, ◌+◌, ◌-◌, ◌*◌, ◌<◌, ◌≤◌, zero, suc, ℤ, ◌≤ℤ◌, Bool, true, false, ◌&&◌, List, [], ◌∷◌, ◌++◌, length, take, drop, get_or, Some, slice_get, arith}
use Rattle.std.specs.List.{filter, All}
use Rattle.std.proofs.lemmas.Int.{ints}
use Rattle.std.proofs.lemmas.List.{append_assoc, length-append, take_more, take-append-drop, take_all, length-drop}
use Rattle.std.proofs.lemmas.List.Elements.{All-weaker, All-push, filter-append}
use Rattle.std.proofs.lemmas.Option.{slice_get_within}
use Rattle.std.proofs.Math.Nat.{add-mul, one-mul, mul-le-mul_right}
use Rattle.geo_seg.specs.declared.boxes.Bounds.{Bounds}
use Rattle.geo_seg.specs.Boxes.{IsPartOf, widened, are_near}
use Rattle.box_index.specs.declared.entry.Entry.{Entry}
use Rattle.box_index.specs.Tiles.{PlainIndex, margin}
use Rattle.box_index.proofs.EntryLists.{filter_none}
use Rattle.box_index.proofs.TileLemmas.{near_sides}
use Rattle.box_index.proofs.Reaching.{meet_true}
use Rattle.row_check.specs.declared.blocks.Boxes.{Boxes}
use Rattle.row_check.specs.Blocks.{AreBlocks, AreBoxes, IsFar}
use Rattle.row_check.specs.EntryWalks.{is_owned, IsEndOf}

-- ---- boxes

pub part_on : (a b c : Bounds) → IsPartOf a b → IsPartOf b c → IsPartOf a c
part_on a b c h k = record {
  left = on c.left b.left a.left k.left h.left;
  top = on c.top b.top a.top k.top h.top;
  right = on a.right b.right c.right h.right k.right;
  bottom = on a.bottom b.bottom c.bottom h.bottom k.bottom;
}
  where
    on : (x y z : ℤ) → x ≤ℤ y → y ≤ℤ z → x ≤ℤ z
    on x y z l m = omega (arith, ints)

-- what is far from a box is far from each part of it
far_part : (m : ℤ) (first part box : Bounds) → IsPartOf part box → are_near m first box ≡ false → are_near m first part ≡ false
far_part m first part box is far = by (are_near m first part) refl
  where
    low : (x y z : ℤ) → x ≤ℤ y → y ≤ℤ z → x ≤ℤ z
    low x y z l k = omega (arith, ints)

    met : are_near m first part ≡ true → are_near m first box ≡ true
    met e =
        let s = near_sides m first part e in
        meet_true (widened first m) box
        (record {
          left = low (widened first m).left part.right box.right s.left is.right;
          right = low box.left part.left (widened first m).right is.left s.right;
          top = low (widened first m).top part.bottom box.bottom s.top is.bottom;
          bottom = low box.top part.top (widened first m).bottom is.top s.bottom;
        })

    unlike : (b : Bool) → b ≡ true → b ≡ false → ⊥
    unlike b e f = cc

    by : (b : Bool) → are_near m first part ≡ b → b ≡ false
    by false e = refl
    by true e = absurd (unlike (are_near m first box) (met e) far)

not_owned : (b c : Bool) → b ≡ false → (b && c) ≡ false
not_owned b c e = cc

-- ---- blocks

no_box : (k : ℕ) (b : Bounds) → slice_get [] k ≡ Some b → ⊥
no_box k b e = let lt = slice_get_within [] k b e in absurd (omega arith)

-- each end has the same blocks
pub blocks_end : (size : ℕ) (boxes : List Bounds) (entries prefix end : List Entry) → entries ≡ prefix ++ end → AreBlocks size boxes entries → AreBlocks size boxes end
blocks_end size boxes entries prefix end split h = record {
  each = λ f e is k b at long. h.each (prefix ++ f) e (split ∙ ap (λ ys. prefix ++ ys) is ∙ sym (append_assoc prefix f e)) k b at long;
}

far_block : (size : ℕ) (index : PlainIndex) (tile : ℕ) (first : Entry) (boxes : List Bounds) (left : List Entry) → AreBlocks size boxes left → IsFar (widened first.bounds (margin index)) size boxes (length left) → filter (is_owned index tile first) (take size left) ≡ []
far_block size index tile first boxes left h far =
    filter_none (is_owned index tile first) (take size left)
    (All-weaker (λ (e : Entry). IsPartOf e.bounds far.box) (λ (e : Entry). is_owned index tile first e ≡ false)
    (λ e part. not_owned (are_near (margin index) first.bounds e.bounds) _ (far_part (margin index) first.bounds e.bounds far.box part far.far)) (take size left) (h.each [] left refl far.k far.box far.stands far.count_is))

pub as_widened : (first : Entry) (index : PlainIndex) (wide : Bounds) (size : ℕ) (boxes : List Bounds) (count : ℕ) → wide ≡ widened first.bounds (margin index) → IsFar wide size boxes count → IsFar (widened first.bounds (margin index)) size boxes count
as_widened first index wide size boxes count e far = subst (λ (w : Bounds). IsFar w size boxes count) e far

-- a block more that is far
pub block_less : (size : ℕ) (index : PlainIndex) (tile : ℕ) (a : Entry) (boxes : List Bounds) (others left rest : List Entry) → rest ≡ drop size left → AreBlocks size boxes left → IsFar (widened a.bounds (margin index)) size boxes (length left) → IsEndOf index tile a others left → IsEndOf index tile a others rest
block_less size index tile a boxes others left rest e blocks far h = record {
  prefix = h.prefix ++ take size left;
  split = h.split ∙ ap (λ ys. h.prefix ++ ys) (sym (take-append-drop size left) ∙ ap (λ ys. take size left ++ ys) (sym e)) ∙ sym (append_assoc h.prefix (take size left) rest);
  none =
      filter-append (is_owned index tile a) h.prefix (take size left)
      ∙ ap (λ ys. ys ++ filter (is_owned index tile a) (take size left)) h.none
      ∙ far_block size index tile a boxes left blocks far;
}

-- both kinds of blocks
pub boxes_end : (boxes : Boxes) (entries prefix end : List Entry) → entries ≡ prefix ++ end → AreBoxes boxes entries → AreBoxes boxes end
boxes_end boxes entries prefix end split h = record {
  short = blocks_end 4 boxes.short.now entries prefix end split h.short;
  long = blocks_end 32 boxes.long.now entries prefix end split h.long;
}

-- what a slice behind the block has
pub behind_block : (size : ℕ) (n : ℕ) (xs : List Entry) → n ≡ length xs → take (n - size) (drop size xs) ≡ drop size xs
behind_block size n xs e = take_all (n - size) (drop size xs) (let long = length-drop size xs in omega (arith, long, e))

-- ---- how the boxes are made

one_block_more : (size n : ℕ) → (n + 1) * size ≡ n * size + size
one_block_more size n = add-mul n 1 size ∙ ap (λ (k : ℕ). n * size + k) (one-mul size)

-- one of fewer than n blocks, with those behind it
block_within : (size k n : ℕ) → k < n → k * size + size ≤ n * size
block_within size k n lt =
    let e = one_block_more size k in
    let one : k + 1 ≤ n = omega (arith, lt) in
    let le = mul-le-mul_right size one in omega (arith, e, le)

pub more_in_box : (first : Entry) (others : List Entry) (i : ℕ) (d : Entry) (old new : Bounds) → i < length others → IsPartOf old new → IsPartOf (get_or others i d).bounds new
    → All (λ (e : Entry). IsPartOf e.bounds old) (first ∷ take i others) → All (λ (e : Entry). IsPartOf e.bounds new) (first ∷ take (i + 1) others)
more_in_box first others i d old new lt wider own all =
    let P : Entry → Type 0 = λ e. IsPartOf e.bounds new in
    subst (λ ys. All P (first ∷ ys)) (sym (take_more others i d lt))
    (All-push P (first ∷ take i others) (get_or others i d) (All-weaker (λ (e : Entry). IsPartOf e.bounds old) P (λ e h. part_on e.bounds old new h wider) (first ∷ take i others) all) own)

cut : {X : Type 0} (prefix end left back : List X) → prefix ++ end ≡ left ++ back → length end ≤ length back → (f : List X) × (back ≡ f ++ end)
cut prefix end [] back e le = (prefix, sym e)
cut [] end (x ∷ left) back e le = let long = ap length e ∙ length-append (x ∷ left) back in absurd (omega (arith, long, le))
cut {X} (y ∷ prefix) end (x ∷ left) back e le = cut prefix end left back (tails y x (prefix ++ end) (left ++ back) e) le
  where
    tails : (y x : X) (ys xs : List X) → y ∷ ys ≡ x ∷ xs → ys ≡ xs
    tails y x ys xs e = cc

whole_end : {X : Type 0} (prefix end all : List X) → all ≡ prefix ++ end → length end ≡ length all → end ≡ all
whole_end [] end all e l = sym e
whole_end (x ∷ prefix) end all e l = let long = ap length e ∙ length-append (x ∷ prefix) end in absurd (omega (arith, long, l))

-- the boxes of the blocks behind some that are left
pub record AreBehind (size : ℕ) (boxes : List Bounds) (entries left : List Entry) : Type 0 where
  pub back : List Entry
  pub split : entries ≡ left ++ back
  pub long : length back ≡ length boxes * size
  pub blocks : AreBlocks size boxes back

get_push : (boxes : List Bounds) (new b : Bounds) (k : ℕ) → slice_get (boxes ++ new ∷ []) k ≡ Some b → (slice_get boxes k ≡ Some b) ⊎ ((k ≡ length boxes) × (new ≡ b))
get_push [] new b zero e = inr (refl, some_same new b e)
  where
    some_same : (x y : Bounds) → Some x ≡ Some y → x ≡ y
    some_same x y e = cc
get_push [] new b (suc k) e = absurd (no_box k b e)
get_push (x ∷ boxes) new b zero e = inl e
get_push (x ∷ boxes) new b (suc k) e = up (get_push boxes new b k e)
  where
    up : (slice_get boxes k ≡ Some b) ⊎ ((k ≡ length boxes) × (new ≡ b)) → (slice_get boxes k ≡ Some b) ⊎ ((suc k ≡ suc (length boxes)) × (new ≡ b))
    up (inl h) = inl h
    up (inr h) = inr (ap suc h.0, h.1)

take_prefix : (xs ys : List Entry) → take (length xs) (xs ++ ys) ≡ xs
take_prefix [] ys = refl
take_prefix (x ∷ xs) ys = ap (λ zs. x ∷ zs) (take_prefix xs ys)

pub more_behind : (size : ℕ) (boxes : List Bounds) (entries left prefix block : List Entry) (new : Bounds) → left ≡ prefix ++ block → length block ≡ size → All (λ (e : Entry). IsPartOf e.bounds new) block
    → AreBehind size boxes entries left → AreBehind size (boxes ++ new ∷ []) entries prefix
more_behind size boxes entries left prefix block new e long all h = record {
  back = block ++ h.back;
  split = h.split ∙ ap (λ ys. ys ++ h.back) e ∙ append_assoc prefix block h.back;
  long = count;
  blocks = record { each = each };
}
  where
    count : length (block ++ h.back) ≡ length (boxes ++ new ∷ []) * size
    count =
        let l = length-append block h.back in
        let m = ap (λ (n : ℕ). n * size) (length-append boxes (new ∷ [])) ∙ one_block_more size (length boxes) in
        let n = h.long in omega (arith, l, m, n, long)

    front_of : (ys : List Entry) → take size (block ++ ys) ≡ block
    front_of ys = ap (λ (n : ℕ). take n (block ++ ys)) (sym long) ∙ take_prefix block ys

    each : (f end : List Entry) → block ++ h.back ≡ f ++ end → (k : ℕ) (b : Bounds) → slice_get (boxes ++ new ∷ []) k ≡ Some b → length end ≡ k * size + size → All (λ (e : Entry). IsPartOf e.bounds b) (take size end)
    each f end is k b at l = by (get_push boxes new b k at)
      where
        by : (slice_get boxes k ≡ Some b) ⊎ ((k ≡ length boxes) × (new ≡ b)) → All (λ (e : Entry). IsPartOf e.bounds b) (take size end)
        by (inl old) =
            let le = block_within size k (length boxes) (slice_get_within boxes k b old) in
            let c = cut f end block h.back (sym is) (let n = h.long in omega (arith, l, le, n)) in
            h.blocks.each c.0 end c.1 k b old l
        by (inr last) =
            let whole = whole_end f end (block ++ h.back) is (let n = h.long in let m = length-append block h.back in let k_is = ap (λ (n : ℕ). n * size) last.0 in omega (arith, l, m, n, long, k_is)) in
            subst (λ ys. All (λ (e : Entry). IsPartOf e.bounds b) (take size ys)) (sym whole)
            (subst (λ ys. All (λ (e : Entry). IsPartOf e.bounds b) ys) (sym (front_of h.back)) (subst (λ x. All (λ (e : Entry). IsPartOf e.bounds x) block) last.1 all))

-- the block at the end of what is left
pub more_cut : (size : ℕ) (boxes : List Bounds) (entries left prefix block : List Entry) (new : Bounds) (n : ℕ) → n ≡ length left - size → size ≤ length left → prefix ≡ take n left → block ≡ drop n left → All (λ (e : Entry). IsPartOf e.bounds new) block
    → AreBehind size boxes entries left → AreBehind size (boxes ++ new ∷ []) entries prefix
more_cut size boxes entries left prefix block new n e le f b all h =
    more_behind size boxes entries left prefix block new (sym (take-append-drop n left) ∙ ap (λ ys. ys ++ drop n left) (sym f) ∙ ap (λ ys. prefix ++ ys) (sym b)) (ap length b ∙ length-drop n left ∙ count (length left) n e le) all h
  where
    count : (m n : ℕ) → n ≡ m - size → size ≤ m → m - n ≡ size
    count m n e le = omega (arith, e, le)

pub all_behind : (size : ℕ) (boxes : List Bounds) (entries left : List Entry) → AreBehind size boxes entries left → AreBlocks size boxes entries
all_behind size boxes entries left h = record { each = each }
  where
    each : (f end : List Entry) → entries ≡ f ++ end → (k : ℕ) (b : Bounds) → slice_get boxes k ≡ Some b → length end ≡ k * size + size → All (λ (e : Entry). IsPartOf e.bounds b) (take size end)
    each f end is k b at l =
        let le = block_within size k (length boxes) (slice_get_within boxes k b at) in
        let c = cut f end left h.back (sym is ∙ h.split) (let n = h.long in omega (arith, l, le, n)) in
        h.blocks.each c.0 end c.1 k b at l
