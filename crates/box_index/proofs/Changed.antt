-- Entries that are put into the lists of an area's tiles, or taken out of them.
use Rattle.std.proofs.Common.{◌≡◌, ◌⊎◌, inl, inr, ◌∙◌, ap, sym, subst, ℕ, ◌<◌, ◌≤◌, ◌%◌, ◌/◌, Bool, true, false, not, ◌==◌, ◌&&◌, nat_le, List, slice_index_or, arith, refl}
use Rattle.std.specs.List.{All}
use Rattle.std.proofs.lemmas.Bool.Decides.{nat_tests}
use Rattle.std.proofs.lemmas.List.Elements.{All-filter, filter_passes}
use Rattle.std.proofs.lemmas.List.Kept.{AllPairs-filter}
use Rattle.box_index.specs.declared.area.Area.{Area}
use Rattle.box_index.specs.declared.corners.Corner.{Corner}
use Rattle.box_index.specs.declared.entry.Entry.{Entry}
use Rattle.box_index.specs.declared.shared.Shared.{Shared}
use Rattle.box_index.specs.Tiles.{IsRising, IsAbsent, placed, without, tile_count}
use Rattle.box_index.specs.Areas.{has_tile, IsSubarea}
use Rattle.box_index.specs.EntryOrigins.{BeginsBy}
use Rattle.box_index.specs.SharedLists.{AreListsChanged, AreHomed, AreShared, DoMeetAll, HasCapacity, IsOf, IsOpen, IsPut, IsPutNear, IsEntryRemoved, IsTakenNear, list_at}
use Rattle.box_index.proofs.Buckets.{never_absent, rising_placed}
use Rattle.box_index.proofs.EntryLists.{filter_all}
use Rattle.box_index.proofs.Grids.{AreChangedSoFar}

-- ---- areas within areas
lies_at : (l r t b l' r' t' b' c w : ℕ) → l' ≤ l → t' ≤ t → r ≤ r' → b ≤ b' → (nat_le l c && nat_le c r && nat_le t w && nat_le w b) ≡ true → (nat_le l' c && nat_le c r' && nat_le t' w && nat_le w b') ≡ true
lies_at l r t b l' r' t' b' c w f g h k e = grind (arith, nat_tests)

pub lies_has : (area other : Area) (tile : ℕ) → IsSubarea area other → has_tile area tile ≡ true → has_tile other tile ≡ true
lies_has area other tile lies t = lies_at area.left area.right area.top area.bottom other.left other.right other.top other.bottom (tile % 125) (tile / 125) lies.left lies.top lies.right lies.bottom t

-- ---- one list, as it was, and as it is while a walk goes on
abbrev pub MayBePut : Entry → Area → Shared → Shared → Type 0
MayBePut e area was is = (is ≡ was) ⊎ (IsSubarea was.home area × IsPut e was is)

pub put_rising : (e : Entry) (area : Area) (was is : Shared) → IsOpen e was → MayBePut e area was is → IsRising is.entries.items
put_rising e area was is o (inl same) = subst (λ (l : Shared). IsRising l.entries.items) (sym same) o.rising
put_rising e area was is o (inr both) = subst IsRising (sym both.1.items) (rising_placed e was.entries.items o.rising)

pub put_capacity : (e : Entry) (area : Area) (was is : Shared) → HasCapacity was → MayBePut e area was is → IsAbsent e.id is.entries.items → HasCapacity is
put_capacity e area was is r (inl same) a = subst HasCapacity (sym same) r
put_capacity e area was is r (inr both) a = absurd (never_absent e was.entries.items (subst (λ (es : List Entry). IsAbsent e.id es) both.1.items a))

pub put_once : (e : Entry) (area : Area) (was is now : Shared) → IsOpen e was → MayBePut e area was is → (IsAbsent e.id is.entries.items → IsPut e is now) → ((xs : List Entry) → is.entries.items ≡ placed e xs → now ≡ is) → IsPut e was now
put_once e area was is now o (inl same) put once = subst (λ (l : Shared). IsPut e l now) same (put (subst (λ (l : Shared). IsAbsent e.id l.entries.items) (sym same) o.absent))
put_once e area was is now o (inr both) put once = subst (IsPut e was) (sym (once was.entries.items both.1.items)) both.1

abbrev pub MayBeTaken : ℕ → Shared → Shared → Type 0
MayBeTaken id was is = (is ≡ was) ⊎ (Unit {0} × IsEntryRemoved id was is)

pub taken_rising : (id : ℕ) (was is : Shared) → IsRising was.entries.items → MayBeTaken id was is → IsRising is.entries.items
taken_rising id was is r (inl same) = subst (λ (l : Shared). IsRising l.entries.items) (sym same) r
taken_rising id was is r (inr both) = subst IsRising (sym both.1.items) (AllPairs-filter (λ (y z : Entry). y.id < z.id) (λ (x : Entry). not (x.id == id)) was.entries.items r)

without_twice : (id : ℕ) (xs : List Entry) → without id (without id xs) ≡ without id xs
without_twice id xs = filter_all (λ (x : Entry). not (x.id == id)) (without id xs) (filter_passes (λ (x : Entry). not (x.id == id)) xs)

pub taken_once : (id : ℕ) (was is now : Shared) → MayBeTaken id was is → IsEntryRemoved id is now → IsEntryRemoved id was now
taken_once id was is now (inl same) t = subst (λ (l : Shared). IsEntryRemoved id l now) same t
taken_once id was is now (inr both) t = record {
  items = t.items ∙ ap (without id) both.1.items ∙ without_twice id was.entries.items;
  home = t.home ∙ both.1.home;
  last = t.last ∙ both.1.last;
}

-- ---- a walk that has come to its end
pub changed_all : (R : Shared → Shared → Type 0) (May : Shared → Type 0) (area : Area) (tiles : List ℕ) (old new : List Shared) (here end : ℕ) → AreChangedSoFar R May area tiles old new here → end ≤ here → DoMeetAll area tiles end → AreListsChanged R May area tiles old new
changed_all R May area tiles old new here end k e all = record {
  long = k.long;
  inside = λ tile d s t. let met = all tile d t in subst (λ n. R (slice_index_or old n s) (slice_index_or new n s)) (sym met.3) (k.inside met.0 d s (let l = met.1 in omega (arith, l, e)) met.2);
  each = k.each;
}

-- ---- what each tile has then
kept_home : (R : Shared → Shared → Type 0) (May : Shared → Type 0) (was is : Shared) (tile : ℕ) → ((a b : Shared) → R a b → b.home ≡ a.home) → (is ≡ was) ⊎ (May was × R was is) → has_tile was.home tile ≡ true → has_tile is.home tile ≡ true
kept_home R May was is tile home (inl same) t = subst (λ (l : Shared). has_tile l.home tile ≡ true) (sym same) t
kept_home R May was is tile home (inr both) t = subst (λ (a : Area). has_tile a tile ≡ true) (sym (home was is both.1)) t

changed_homed : (R : Shared → Shared → Type 0) (May : Shared → Type 0) (area : Area) (tiles : List ℕ) (old new : List Shared) → ((a b : Shared) → R a b → b.home ≡ a.home) → AreListsChanged R May area tiles old new → AreHomed tiles old → AreHomed tiles new
changed_homed R May area tiles old new home k h = record {
  long = h.long;
  within = λ tile d l. let w = h.within tile d l in let e = k.long in omega (arith, w, e);
  home = λ tile d s l. kept_home R May (list_at tiles old tile d s) (list_at tiles new tile d s) tile home (k.each (slice_index_or tiles tile d) s) (h.home tile d s l);
}

of_put : (e : Entry) (near now : List Entry) (was is : Shared) → now ≡ placed e near → IsPut e was is → IsOf near was → IsOf now is
of_put e near now was is w p o =
    let items : is.entries.items ≡ now = p.items ∙ ap (placed e) o.items ∙ sym w in
    record { items = items; begun = subst (All (BeginsBy is.last)) items (p.begun (subst (All (BeginsBy was.last)) (sym o.items) o.begun)) }

of_same : (near now : List Entry) (was is : Shared) → now ≡ near → is ≡ was → IsOf near was → IsOf now is
of_same near now was is w same o = subst (λ (l : Shared). IsOf now l) (sym same) (subst (λ (es : List Entry). IsOf es was) (sym w) o)

of_taken : (id : ℕ) (near now : List Entry) (was is : Shared) → now ≡ without id near → IsEntryRemoved id was is → IsOf near was → IsOf now is
of_taken id near now was is w t o = record {
  items = t.items ∙ ap (without id) o.items ∙ sym w;
  begun = subst (λ (l : Corner). All (BeginsBy l) now) (sym t.last) (subst (All (BeginsBy was.last)) (sym w) (All-filter (λ (x : Entry). not (x.id == id)) (BeginsBy was.last) near o.begun));
}

module _ (e : Entry) (area : Area) (tiles : List ℕ) (old new : List Shared) (near now : ℕ → List Entry) (k : AreListsChanged (IsPut e) (λ (l : Shared). IsSubarea l.home area) area tiles old new) (h : AreShared near tiles old) (w : IsPutNear e area near now) where
  -- a list that was put into is at home within the area, so no other tile has it
  put_outside : (tile d : ℕ) (s : Shared) → tile < tile_count → has_tile area tile ≡ false → MayBePut e area (list_at tiles old tile d s) (list_at tiles new tile d s) → IsOf (now tile) (list_at tiles new tile d s)
  put_outside tile d s l f (inl same) = of_same (near tile) (now tile) (list_at tiles old tile d s) (list_at tiles new tile d s) (w.outside tile l f) same (h.each tile d s l)
  put_outside tile d s l f (inr both) =
      let t = lies_has (list_at tiles old tile d s).home area tile both.0 (h.homed.home tile d s l) in
      let never : true ≡ false = sym t ∙ f in cc

  put_at : (tile d : ℕ) (s : Shared) → tile < tile_count → (b : Bool) → has_tile area tile ≡ b → IsOf (now tile) (list_at tiles new tile d s)
  put_at tile d s l true t = of_put e (near tile) (now tile) (list_at tiles old tile d s) (list_at tiles new tile d s) (w.inside tile l t) (k.inside tile d s t) (h.each tile d s l)
  put_at tile d s l false f = put_outside tile d s l f (k.each (slice_index_or tiles tile d) s)

  pub put_shared : AreShared now tiles new
  put_shared = record {
    homed = changed_homed (IsPut e) (λ (l : Shared). IsSubarea l.home area) area tiles old new (λ a b p. p.home) k h.homed;
    each = λ tile d s l. put_at tile d s l (has_tile area tile) refl;
  }

module _ (id : ℕ) (area : Area) (tiles : List ℕ) (old new : List Shared) (near now : ℕ → List Entry) (k : AreListsChanged (IsEntryRemoved id) (λ (l : Shared). Unit {0}) area tiles old new) (h : AreShared near tiles old) (w : IsTakenNear id area near now) where
  taken_outside : (tile d : ℕ) (s : Shared) → tile < tile_count → has_tile area tile ≡ false → MayBeTaken id (list_at tiles old tile d s) (list_at tiles new tile d s) → IsOf (now tile) (list_at tiles new tile d s)
  taken_outside tile d s l f (inl same) = of_same (near tile) (now tile) (list_at tiles old tile d s) (list_at tiles new tile d s) (w.outside tile l f) same (h.each tile d s l)
  taken_outside tile d s l f (inr both) = of_taken id (near tile) (now tile) (list_at tiles old tile d s) (list_at tiles new tile d s) (w.all tile l) both.1 (h.each tile d s l)

  taken_at : (tile d : ℕ) (s : Shared) → tile < tile_count → (b : Bool) → has_tile area tile ≡ b → IsOf (now tile) (list_at tiles new tile d s)
  taken_at tile d s l true t = of_taken id (near tile) (now tile) (list_at tiles old tile d s) (list_at tiles new tile d s) (w.all tile l) (k.inside tile d s t) (h.each tile d s l)
  taken_at tile d s l false f = taken_outside tile d s l f (k.each (slice_index_or tiles tile d) s)

  pub taken_shared : AreShared now tiles new
  taken_shared = record {
    homed = changed_homed (IsEntryRemoved id) (λ (l : Shared). Unit {0}) area tiles old new (λ a b t. t.home) k h.homed;
    each = λ tile d s l. taken_at tile d s l (has_tile area tile) refl;
  }
