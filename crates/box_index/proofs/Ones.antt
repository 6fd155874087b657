-- All tiles of an area, which have one list, get another that is made of it.
use Rattle.std.proofs.Common.{◌≡◌, ◌∙◌, ap, sym, subst, refl, ℕ, ◌<◌, Bool, true, false, List, [], ◌∷◌, ◌++◌, length, slice_index_or, arith}
use Rattle.std.proofs.Math.Seq.{get_or-append_seam}
use Rattle.std.proofs.lemmas.List.{get_or_append_left, length-append}
use Rattle.box_index.specs.declared.area.Area.{Area}
use Rattle.box_index.specs.declared.entry.Entry.{Entry}
use Rattle.box_index.specs.declared.shared.Shared.{Shared}
use Rattle.box_index.specs.Tiles.{tile_count}
use Rattle.box_index.specs.Areas.{has_tile, IsSubarea}
use Rattle.box_index.specs.AreaWalks.{IsChanged}
use Rattle.box_index.specs.SharedLists.{AreHomed, AreReady, AreShared, HasCapacity, HasSameEntries, IsEven, IsOf, IsReady, list_at}
use Rattle.box_index.proofs.Grids.{of_alike}

module _ (area : Area) (tiles tiles' : List ℕ) (lists : List Shared) (made : Shared) (to first : ℕ) (is : to ≡ length lists) (h : AreHomed tiles lists) (even : IsEven area tiles) (has : has_tile area first ≡ true)
    (w : IsChanged (λ (was now : ℕ). now ≡ to) area tiles tiles')
    (alike : (s : Shared) → HasSameEntries (list_at tiles lists first 0 s) made)
    (home : (tile : ℕ) (s : Shared) → has_tile (list_at tiles lists first 0 s).home tile ≡ true → has_tile area tile ≡ true → has_tile made.home tile ≡ true) where
  abbrev lists' : List Shared
  lists' = lists ++ made ∷ []

  at_made : (s : Shared) → slice_index_or lists' to s ≡ made
  at_made s = ap (λ n. slice_index_or lists' n s) is ∙ get_or-append_seam lists made [] s

  inside_at : (tile d : ℕ) (s : Shared) → has_tile area tile ≡ true → list_at tiles' lists' tile d s ≡ made
  inside_at tile d s t = ap (λ n. slice_index_or lists' n s) (w.inside tile d t) ∙ at_made s

  outside_at : (tile d : ℕ) (s : Shared) → tile < tile_count → has_tile area tile ≡ false → list_at tiles' lists' tile d s ≡ list_at tiles lists tile d s
  outside_at tile d s l f = ap (λ n. slice_index_or lists' n s) (w.outside tile d f) ∙ get_or_append_left lists (made ∷ []) s (slice_index_or tiles tile d) (h.within tile d l)

  -- all tiles of the area had the list of the first
  had : (tile : ℕ) (s : Shared) → has_tile area tile ≡ true → list_at tiles lists tile 0 s ≡ list_at tiles lists first 0 s
  had tile s t = ap (λ n. slice_index_or lists n s) (even tile first 0 t has)

  within_by : (tile d : ℕ) → tile < tile_count → (b : Bool) → has_tile area tile ≡ b → slice_index_or tiles' tile d < length lists'
  within_by tile d l true t = let n = w.inside tile d t in let more = length-append lists (made ∷ []) in omega (arith, n, is, more)
  within_by tile d l false f = let n = w.outside tile d f in let low = h.within tile d l in let more = length-append lists (made ∷ []) in omega (arith, n, low, more)

  home_by : (tile d : ℕ) (s : Shared) → tile < tile_count → (b : Bool) → has_tile area tile ≡ b → has_tile (list_at tiles' lists' tile d s).home tile ≡ true
  home_by tile d s l true t =
      subst (λ (x : Shared). has_tile x.home tile ≡ true) (sym (inside_at tile d s t))
      (home tile s (subst (λ (x : Shared). has_tile x.home tile ≡ true) (had tile s t) (h.home tile 0 s l)) t)
  home_by tile d s l false f = subst (λ (x : Shared). has_tile x.home tile ≡ true) (sym (outside_at tile d s l f)) (h.home tile d s l)

  of_by : (entries : List Entry) (tile d : ℕ) (s : Shared) → tile < tile_count → (b : Bool) → has_tile area tile ≡ b → ((e : ℕ) → IsOf entries (list_at tiles lists tile e s)) → IsOf entries (list_at tiles' lists' tile d s)
  of_by entries tile d s l true t o =
      subst (IsOf entries) (sym (inside_at tile d s t)) (of_alike entries (list_at tiles lists first 0 s) made (alike s) (subst (IsOf entries) (had tile s t) (o 0)))
  of_by entries tile d s l false f o = subst (IsOf entries) (sym (outside_at tile d s l f)) (o d)

  pub one_shared : (near : ℕ → List Entry) → AreShared near tiles lists → AreShared near tiles' lists'
  one_shared near k = record {
    homed = record {
      long = w.long ∙ h.long;
      within = λ tile d l. within_by tile d l (has_tile area tile) refl;
      home = λ tile d s l. home_by tile d s l (has_tile area tile) refl;
    };
    each = λ tile d s l. of_by (near tile) tile d s l (has_tile area tile) refl (λ e. k.each tile e s l);
  }

  pub one_ready : IsSubarea made.home area → HasCapacity made → AreReady area tiles' lists'
  one_ready lies capacity tile d s t = subst (IsReady area) (sym (inside_at tile d s t)) (record { lies = lies; capacity = capacity })
