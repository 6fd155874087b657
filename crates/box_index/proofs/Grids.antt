-- The lists of tiles: what stays where one tile gets another list, and where lists are changed along a walk.
use Rattle.std.proofs.Common.{◌≡◌, ◌≢◌, ◌⊎◌, inl, inr, ◌∙◌, ap, sym, subst, refl, ℕ, ◌<◌, true, List, length, slice_index_or, slice_set, arith}
use Rattle.std.specs.List.{All}
use Rattle.std.specs.Prelude.{Option, None, Some, IfSome}
use Rattle.std.proofs.lemmas.Bool.{cases_eq, cases_order}
use Rattle.std.proofs.lemmas.List.{get_or-set_same, get_or-set_other, length-set}
use Rattle.box_index.specs.declared.area.Area.{Area}
use Rattle.box_index.specs.declared.entry.Entry.{Entry}
use Rattle.box_index.specs.declared.corners.Corner.{Corner}
use Rattle.box_index.specs.declared.parting.Parted.{Parted}
use Rattle.box_index.specs.declared.shared.Shared.{Shared}
use Rattle.box_index.specs.Tiles.{tile_count}
use Rattle.box_index.specs.Areas.{has_tile, end_of, IsSubarea}
use Rattle.box_index.specs.EntryOrigins.{BeginsBy}
use Rattle.box_index.specs.SharedLists.{AreHomed, AreShared, DoStay, HasMoved, HasCapacity, HasSameEntries, IsEqual, IsOf, IsParted, IsReady, list_at}

-- ---- one list
pub of_alike : (entries : List Entry) (old new : Shared) → HasSameEntries old new → IsOf entries old → IsOf entries new
of_alike entries old new a o = record {
  items = a.items ∙ o.items;
  begun = subst (λ (l : Corner). All (BeginsBy l) entries) (sym a.last) o.begun;
}

of_equal : (entries : List Entry) (old new : Shared) → IsEqual old new → IsOf entries old → IsOf entries new
of_equal entries old new a o = of_alike entries old new (record { items = a.items; last = a.last }) o

-- ---- one tile has another list
module _ (tile : ℕ) (tiles tiles' : List ℕ) (lists lists' : List Shared) (m : HasMoved tile tiles lists tiles' lists') (h : AreHomed tiles lists) where
  -- the list of any other tile
  other_list : (other d : ℕ) (s : Shared) → other ≢ tile → list_at tiles' lists' other d s ≡ slice_index_or lists' (slice_index_or tiles other d) s
  other_list other d s ne = ap (λ n. slice_index_or lists' n s) (m.others other d ne)

  other_equal : (other d : ℕ) (s : Shared) → other < tile_count → other ≢ tile → IsEqual (list_at tiles lists other d s) (list_at tiles' lists' other d s)
  other_equal other d s l ne =
      subst (IsEqual (list_at tiles lists other d s)) (sym (other_list other d s ne)) (m.stay.same (slice_index_or tiles other d) s (h.within other d l))

  within_at : (other d : ℕ) → other < tile_count → (other ≡ tile) ⊎ (other ≢ tile) → slice_index_or tiles' other d < length lists'
  within_at other d l (inl e) = subst (λ t. slice_index_or tiles' t d < length lists') (sym e) (m.within d)
  within_at other d l (inr o) =
      let same = m.others other d o in let low = h.within other d l in let long = m.stay.longer in omega (arith, same, low, long)

  home_at : (other d : ℕ) (s : Shared) → other < tile_count → (other ≡ tile) ⊎ (other ≢ tile) → has_tile (list_at tiles' lists' other d s).home other ≡ true
  home_at other d s l (inl e) = subst (λ t. has_tile (list_at tiles' lists' t d s).home t ≡ true) (sym e) (m.home d s)
  home_at other d s l (inr o) =
      subst (λ (a : Area). has_tile a other ≡ true) (sym (other_equal other d s l o).home) (h.home other d s l)

  pub moved_homed : AreHomed tiles' lists'
  moved_homed = record {
    long = m.long ∙ h.long;
    within = λ other d l. within_at other d l (cases_eq other tile);
    home = λ other d s l. home_at other d s l (cases_eq other tile);
  }

  of_at : (entries : List Entry) (other d : ℕ) (s : Shared) → other < tile_count → (other ≡ tile) ⊎ (other ≢ tile) → IsOf entries (list_at tiles lists other d s) → IsOf entries (list_at tiles' lists' other d s)
  of_at entries other d s l (inl e) o =
      of_alike entries _ _ (subst (λ t. HasSameEntries (list_at tiles lists t d s) (list_at tiles' lists' t d s)) (sym e) (m.alike d s)) o
  of_at entries other d s l (inr k) o = of_equal entries _ _ (other_equal other d s l k) o

  pub moved_shared : (near : ℕ → List Entry) → AreShared near tiles lists → AreShared near tiles' lists'
  moved_shared near k = record {
    homed = moved_homed;
    each = λ other d s l. of_at (near other) other d s l (cases_eq other tile) (k.each other d s l);
  }

  pub moved_ready : (area : Area) (other d : ℕ) (s : Shared) → other < tile_count → other ≢ tile → IsReady area (list_at tiles lists other d s) → IsReady area (list_at tiles' lists' other d s)
  moved_ready area other d s l ne r =
      record {
        lies = subst (λ (a : Area). IsSubarea a area) (sym (other_equal other d s l ne).home) r.lies;
        capacity = subst HasCapacity (sym (other_list other d s ne)) (m.stay.capacity (slice_index_or tiles other d) s (h.within other d l) r.capacity);
      }

-- ---- lists of which one is given room
-- lists that were parted stay so
pub parted_stay : (area : Area) (last : Parted) (a b : List Shared) → DoStay a b → IsParted area last a → IsParted area last b
parted_stay area last a b h p = record {
  from = let m = h.longer in let l = p.from in omega (arith, m, l);
  to = let m = h.longer in let l = p.to in omega (arith, m, l);
  alike = λ s. let one = h.same last.from s p.from in let other = h.same last.to s p.to in let both = p.alike s in record {
    items = other.items ∙ both.items ∙ sym one.items;
    last = other.last ∙ both.last ∙ sym one.last;
  };
  ready = λ s. record {
    lies = subst (λ (x : Area). IsSubarea x area) (sym (h.same last.to s p.to).home) (p.ready s).lies;
    capacity = h.capacity last.to s p.to (p.ready s).capacity;
  };
}

pub parted_still : (area : Area) (last : Option Parted) (a b : List Shared) → DoStay a b → IfSome last (λ p. IsParted area p a) → IfSome last (λ p. IsParted area p b)
parted_still area None a b h p = p
parted_still area (Some last) a b h p = parted_stay area last a b h p

-- a list is only given room
module _ (tile : ℕ) (tiles : List ℕ) (lists : List Shared) (h : AreHomed tiles lists) (l : tile < tile_count) (n : ℕ) (is : (d : ℕ) → slice_index_or tiles tile d ≡ n) (x : Shared) (same : (s : Shared) → IsEqual (slice_index_or lists n s) x) (capacity : (s : Shared) → HasCapacity (slice_index_or lists n s) → HasCapacity x) where
  low : n < length lists
  low = let w = h.within tile 0 l in let e = is 0 in omega (arith, w, e)

  equal_at : (m : ℕ) (s : Shared) → m < length lists → (m ≡ n) ⊎ (m ≢ n) → IsEqual (slice_index_or lists m s) (slice_index_or (slice_set lists n x) m s)
  equal_at m s k (inl e) = subst (λ i. IsEqual (slice_index_or lists i s) (slice_index_or (slice_set lists n x) i s)) (sym e) (subst (IsEqual (slice_index_or lists n s)) (sym (get_or-set_same lists n x s low)) (same s))
  equal_at m s k (inr o) = subst (IsEqual (slice_index_or lists m s)) (sym (get_or-set_other lists n m x s o)) (record { items = refl; last = refl; home = refl })

  capacity_at : (m : ℕ) (s : Shared) → (m ≡ n) ⊎ (m ≢ n) → HasCapacity (slice_index_or lists m s) → HasCapacity (slice_index_or (slice_set lists n x) m s)
  capacity_at m s (inl e) r = subst (λ i. HasCapacity (slice_index_or (slice_set lists n x) i s)) (sym e) (subst HasCapacity (sym (get_or-set_same lists n x s low)) (capacity s (subst (λ i. HasCapacity (slice_index_or lists i s)) e r)))
  capacity_at m s (inr o) r = subst HasCapacity (sym (get_or-set_other lists n m x s o)) r

  pub stay_with_capacity_left : DoStay lists (slice_set lists n x)
  stay_with_capacity_left = record {
    longer = let e = length-set lists n x in omega (arith, e);
    same = λ m s k. equal_at m s k (cases_eq m n);
    capacity = λ m s k. capacity_at m s (cases_eq m n);
  }

  here_equal : (d : ℕ) (s : Shared) → IsEqual (list_at tiles lists tile d s) (list_at tiles (slice_set lists n x) tile d s)
  here_equal d s = stay_with_capacity_left.same (slice_index_or tiles tile d) s (h.within tile d l)

  pub moved_with_capacity_left : HasMoved tile tiles lists tiles (slice_set lists n x)
  moved_with_capacity_left = record {
    stay = stay_with_capacity_left;
    long = refl;
    others = λ other d ne. refl;
    within = λ d. let w = h.within tile d l in let e = length-set lists n x in omega (arith, w, e);
    home = λ d s. subst (λ (a : Area). has_tile a tile ≡ true) (sym (here_equal d s).home) (h.home tile d s l);
    alike = λ d s. let e = here_equal d s in record { items = e.items; last = e.last };
  }

-- ---- all tiles of an area, as far as a walk has come that looks at the tile `here` next
pub record AreParted (area : Area) (here : ℕ) (tiles : List ℕ) (lists : List Shared) (tiles' : List ℕ) (lists' : List Shared) (last : Option Parted) : Type 0 where
  pub homed : AreHomed tiles' lists'
  pub shared : (near : ℕ → List Entry) → AreShared near tiles lists → AreShared near tiles' lists'
  pub parted : IfSome last (λ p. IsParted area p lists')
  pub ready : (tile d : ℕ) (s : Shared) → tile < here → has_tile area tile ≡ true → IsReady area (list_at tiles' lists' tile d s)
  pub next : here < end_of area → has_tile area here ≡ true

-- lists are changed by R
pub record AreChangedSoFar (R : Shared → Shared → Type 0) (May : Shared → Type 0) (area : Area) (tiles : List ℕ) (old new : List Shared) (here : ℕ) : Type 0 where
  pub long : length new ≡ length old
  pub next : here < end_of area → has_tile area here ≡ true
  pub inside : (tile d : ℕ) (s : Shared) → tile < here → has_tile area tile ≡ true → R (list_at tiles old tile d s) (list_at tiles new tile d s)
  pub each : (n : ℕ) (s : Shared) → (slice_index_or new n s ≡ slice_index_or old n s) ⊎ (May (slice_index_or old n s) × R (slice_index_or old n s) (slice_index_or new n s))

module _ (R : Shared → Shared → Type 0) (May : Shared → Type 0) (area : Area) (tiles : List ℕ) (old new : List Shared) (here after : ℕ) (k : AreChangedSoFar R May area tiles old new here)
    (n : ℕ) (is : (d : ℕ) → slice_index_or tiles here d ≡ n) (low : n < length new) (x : Shared) (may : (s : Shared) → May (slice_index_or old n s)) (put : (s : Shared) → R (slice_index_or old n s) x) where
  set_at : (m : ℕ) (s : Shared) → (m ≡ n) ⊎ (m ≢ n) → R (slice_index_or old m s) (slice_index_or new m s) → R (slice_index_or old m s) (slice_index_or (slice_set new n x) m s)
  set_at m s (inl e) r = subst (λ i. R (slice_index_or old i s) (slice_index_or (slice_set new n x) i s)) (sym e) (subst (R (slice_index_or old n s)) (sym (get_or-set_same new n x s low)) (put s))
  set_at m s (inr o) r = subst (R (slice_index_or old m s)) (sym (get_or-set_other new n m x s o)) r

  each_at : (m : ℕ) (s : Shared) → (m ≡ n) ⊎ (m ≢ n) → (slice_index_or (slice_set new n x) m s ≡ slice_index_or old m s) ⊎ (May (slice_index_or old m s) × R (slice_index_or old m s) (slice_index_or (slice_set new n x) m s))
  each_at m s (inl e) = subst (λ i. (slice_index_or (slice_set new n x) i s ≡ slice_index_or old i s) ⊎ (May (slice_index_or old i s) × R (slice_index_or old i s) (slice_index_or (slice_set new n x) i s))) (sym e)
      (inr (may s, subst (R (slice_index_or old n s)) (sym (get_or-set_same new n x s low)) (put s)))
  each_at m s (inr o) = subst (λ (y : Shared). (y ≡ slice_index_or old m s) ⊎ (May (slice_index_or old m s) × R (slice_index_or old m s) y)) (sym (get_or-set_other new n m x s o)) (k.each m s)

  at_here : (d : ℕ) (s : Shared) → R (list_at tiles old here d s) (list_at tiles (slice_set new n x) here d s)
  at_here d s = subst (λ i. R (slice_index_or old i s) (slice_index_or (slice_set new n x) i s)) (sym (is d)) (subst (R (slice_index_or old n s)) (sym (get_or-set_same new n x s low)) (put s))

  inside_at : (tile d : ℕ) (s : Shared) → ((other : ℕ) → here < other → other < after → has_tile area other ≡ true → ⊥) → tile < after → has_tile area tile ≡ true → (tile ≡ here) ⊎ ((tile < here) ⊎ (here < tile)) → R (list_at tiles old tile d s) (list_at tiles (slice_set new n x) tile d s)
  inside_at tile d s none l t (inl e) = subst (λ i. R (list_at tiles old i d s) (list_at tiles (slice_set new n x) i d s)) (sym e) (at_here d s)
  inside_at tile d s none l t (inr (inl b)) = set_at (slice_index_or tiles tile d) s (cases_eq (slice_index_or tiles tile d) n) (k.inside tile d s b t)
  inside_at tile d s none l t (inr (inr a)) = absurd (none tile a l t)

  pub changed_more : ((other : ℕ) → here < other → other < after → has_tile area other ≡ true → ⊥) → (after < end_of area → has_tile area after ≡ true) → AreChangedSoFar R May area tiles old (slice_set new n x) after
  changed_more none inside = record {
    long = length-set new n x ∙ k.long;
    next = inside;
    inside = λ tile d s l t. inside_at tile d s none l t (cases_order tile here);
    each = λ m s. each_at m s (cases_eq m n);
  }
