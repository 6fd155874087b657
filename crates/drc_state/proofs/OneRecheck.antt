-- What is checked has one reach, and after a change one list of tiles is rechecked.
use Rattle.std.proofs.Common.{◌≡◌, ◌⊎◌, inl, inr, sym, subst, ◌∙◌, ℕ, ◌<◌, ℤ, ◌≤ℤ◌, Bool, true, false, List, true≢false, arith}
use Rattle.std.proofs.lemmas.Int.{ints}
use Rattle.std.proofs.lemmas.List.Elements.{All-contains}
use Rattle.std.proofs.lemmas.List.Kept.{AllPairs-from_increasing}
use Rattle.board_items.specs.Boards.{PlainBoard}
use Rattle.rule_pick.specs.Reach.{IsGreatestOf, distances_asked}
use Rattle.box_index.specs.Tiles.{tile_count}
use Rattle.board_index.specs.TilesHeld.{HoldsItem, AreTilesHeld}
use Rattle.board_index.proofs.OneList.{same_lists}
use Rattle.pair_check.specs.Rows.{Checked}
use Rattle.drc_state.specs.Recheck.{IsFarthest, AreHeld, IsDirty, AreDirty, ReachStays, ReachDiffers, AreRechecked, whole, near}

both : (x y : ℤ) → x ≤ℤ y → y ≤ℤ x → x ≡ y
both x y f g = omega (arith, ints)

one_greatest : (values : List ℤ) (n m : ℤ) → IsGreatestOf values n → IsGreatestOf values m → n ≡ m
one_greatest values n m h k = both n m (All-contains (λ v. v ≤ℤ m) values n k.most h.one) (All-contains (λ v. v ≤ℤ n) values m h.most k.one)

pub one_reach : (c : Checked) (a b : ℤ) → IsFarthest c a → IsFarthest c b → a ≡ b
one_reach c a b h k = one_greatest (distances_asked c.board c.classes c.rules) a b h k

pub one_list_held : (one : (board : PlainBoard) (reach : ℤ) (xs ys : List ℕ) → AreTilesHeld board reach xs → AreTilesHeld board reach ys → xs ≡ ys)
    → (c : Checked) (xs ys : List ℕ) → AreHeld c xs → AreHeld c ys → xs ≡ ys
one_list_held one c xs ys h k =
    one c.board k.reach xs ys (subst (λ (n : ℤ). AreTilesHeld c.board n xs) (one_reach c h.reach k.reach h.farthest k.farthest) h.are_held) k.are_held

-- the tile holds an item, and something affected it
abbrev IsFound : Checked → Checked → ℤ → ℕ → Type 0
IsFound old new reach tile = HoldsItem new.board reach tile × IsDirty old new reach tile

one_list_dirty : (old new : Checked) (reach : ℤ) (xs ys : List ℕ) → AreDirty old new reach xs → AreDirty old new reach ys → xs ≡ ys
one_list_dirty old new reach xs ys h k =
    same_lists (λ a b. a < b) (λ a b f g. omega arith) xs ys (AllPairs-from_increasing xs h.rising) (AllPairs-from_increasing ys k.rising)
    (λ t e. k.all t (All-contains (λ tile. tile < tile_count) xs t h.within e) (All-contains (IsFound old new reach) xs t h.only e).0 (All-contains (IsFound old new reach) xs t h.only e).1)
    (λ t e. h.all t (All-contains (λ tile. tile < tile_count) ys t k.within e) (All-contains (IsFound old new reach) ys t k.only e).0 (All-contains (IsFound old new reach) ys t k.only e).1)

not_both : (old new : Checked) (reach : ℤ) → ReachStays old new reach → ReachDiffers old new → ⊥
not_both old new reach s d = d.differ (one_reach old d.before reach d.was s.was ∙ one_reach new reach d.now s.is d.is)

apart : (old new : Checked) (replaced : Bool) (reach : ℤ) → (replaced ≡ true) ⊎ ReachDiffers old new → replaced ≡ false → ReachStays old new reach → ⊥
apart old new replaced reach (inl t) f s = true≢false (sym t ∙ f)
apart old new replaced reach (inr d) f s = not_both old new reach s d

pub one_recheck : ((c : Checked) (xs ys : List ℕ) → AreHeld c xs → AreHeld c ys → xs ≡ ys)
    → (old new : Checked) (replaced : Bool) (xs ys : List ℕ) → AreRechecked old new replaced xs → AreRechecked old new replaced ys → xs ≡ ys
one_recheck one old new replaced xs ys (whole h t) (whole k u) = one new xs ys t u
one_recheck one old new replaced xs ys (whole h t) (near f reach s u) = absurd (apart old new replaced reach h f s)
one_recheck one old new replaced xs ys (near f reach s t) (whole k u) = absurd (apart old new replaced reach k f s)
one_recheck one old new replaced xs ys (near f reach s t) (near g other r u) =
    one_list_dirty old new other xs ys (subst (λ (n : ℤ). AreDirty old new n xs) (one_reach old reach other s.was r.was) t) u
