-- Tiles of an area that have no entries, and how many tiles hold one.
use Rattle.std.proofs.Common.{◌≡◌, ◌∙◌, ap, sym, refl, ℕ, ℤ, ◌+◌, ◌<◌, ◌≤◌, Bool, true, false, cond, not, ◌==◌, ◌&&◌, ◌||◌, List, [], ◌∷◌, length, slice_index_or, vec_len, arith}
use Rattle.std.specs.List.{filter, list_any}
use Rattle.std.proofs.lemmas.List.Folds.{list_any-append}
use Rattle.box_index.specs.declared.area.Area.{Area}
use Rattle.box_index.specs.declared.entry.Entry.{Entry}
use Rattle.box_index.specs.declared.shared.Shared.{Shared}
use Rattle.box_index.specs.Areas.{has_tile, end_of}
use Rattle.box_index.specs.Cuts.{IsCut}
use Rattle.box_index.specs.SharedLists.{AreShared, IsEven, is_vacant, list_at, vacant_of}
use Rattle.box_index.specs.Tiles.{IsRising, IsAbsent, held_of, is_held, is_in, near_of, numbers_below, placed, tile_count}
use Rattle.box_index.proofs.Buckets.{has_within, index_of, parts_whole}
use Rattle.box_index.proofs.Numbers.{any_kept, count_joined, count_with, count_without, filter_between, filter_nothing, filter_same, filter_zero}

-- ---- the tiles that hold an entry, with one entry more
pub placed_cut : (e : Entry) (xs : List Entry) → IsRising xs → IsAbsent e.id xs → IsCut (placed e xs) e xs
placed_cut e xs r a = record { prefix = _; back = _; was = refl; is = sym (parts_whole e.id xs r a) }

or_swapped : (a b c : Bool) → (a || (b || c)) ≡ ((a || c) || b)
or_swapped true b c = refl
or_swapped false true true = refl
or_swapped false true false = refl
or_swapped false false true = refl
or_swapped false false false = refl

any_cut : (p : Entry → Bool) (xs ys : List Entry) (e : Entry) → IsCut xs e ys → list_any p xs ≡ (list_any p ys || p e)
any_cut p xs ys e c =
    ap (list_any p) c.was ∙ list_any-append p c.prefix (e ∷ c.back) ∙ or_swapped (list_any p c.prefix) (p e) (list_any p c.back)
    ∙ ap (λ b. b || p e) (sym (ap (list_any p) c.is ∙ list_any-append p c.prefix c.back))

not_twice : (b : Bool) → b ≡ not (not b)
not_twice true = refl
not_twice false = refl

none_kept : (p : Entry → Bool) (xs : List Entry) → (length (filter p xs) == 0) ≡ not (list_any p xs)
none_kept p xs = not_twice (length (filter p xs) == 0) ∙ ap not (any_kept p xs)

-- each tile of the entry's area that had none holds one more
pub held_more : (reach : ℤ) (xs ys : List Entry) (e : Entry) (area : Area) → IsCut xs e ys → ((tile : ℕ) → has_tile area tile ≡ is_in (index_of reach ys) tile e)
    → length (held_of (index_of reach xs)) ≡ length (held_of (index_of reach ys)) + length (vacant_of (near_of (index_of reach ys)) area)
held_more reach xs ys e area cut same =
    let held = is_held (index_of reach ys) in
    ap length (filter_same (is_held (index_of reach xs)) (λ k. held k || has_tile area k) tile_count (λ k l. any_cut (is_in (index_of reach ys) k) xs ys e cut ∙ ap (λ b. held k || b) (sym (same k))))
    ∙ count_joined held (has_tile area) tile_count
    ∙ ap (λ (ks : List ℕ). length (held_of (index_of reach ys)) + length ks)
    (filter_same (λ k. has_tile area k && not (held k)) (is_vacant (near_of (index_of reach ys)) area) tile_count (λ k l. ap (λ b. has_tile area k && b) (sym (none_kept (is_in (index_of reach ys) k) ys))))

pub held_placed : (reach : ℤ) (xs : List Entry) (e : Entry) (area : Area) (held vacant : ℕ) → IsRising xs → IsAbsent e.id xs → ((tile : ℕ) → has_tile area tile ≡ is_in (index_of reach xs) tile e)
    → held ≡ length (held_of (index_of reach xs)) → vacant ≡ length (vacant_of (near_of (index_of reach xs)) area) → held + vacant ≡ length (held_of (index_of reach (placed e xs)))
held_placed reach xs e area held vacant r a same h v =
    ap (λ n. n + vacant) h ∙ ap (λ n. length (held_of (index_of reach xs)) + n) v ∙ sym (held_more reach (placed e xs) xs e area (placed_cut e xs r a) same)

pub held_taken : (reach : ℤ) (xs ys : List Entry) (e : Entry) (area : Area) (held vacant : ℕ) → IsCut xs e ys → ((tile : ℕ) → has_tile area tile ≡ is_in (index_of reach xs) tile e)
    → held ≡ length (held_of (index_of reach xs)) → vacant ≡ length (vacant_of (near_of (index_of reach ys)) area) → held ≡ length (held_of (index_of reach ys)) + vacant
held_taken reach xs ys e area held vacant cut same h v =
    h ∙ held_more reach xs ys e area cut same ∙ ap (λ n. length (held_of (index_of reach ys)) + n) (sym v)

pub none_held : (reach : ℤ) (xs : List Entry) → xs ≡ [] → 0 ≡ length (held_of (index_of reach xs))
none_held reach xs e = sym (ap length (filter_nothing (is_held (index_of reach xs)) tile_count (λ k. ap (list_any (is_in (index_of reach xs) k)) e)))

-- ---- whether a tile has none
vacant_at : (near : ℕ → List Entry) (tiles : List ℕ) (lists : List Shared) (area : Area) (tile : ℕ) (list s : Shared) (b : Bool) → AreShared near tiles lists → has_tile area tile ≡ true → list ≡ list_at tiles lists tile 0 s
    → b ≡ (vec_len list.entries == 0) → is_vacant near area tile ≡ b
vacant_at near tiles lists area tile list s b k has is e =
    let items : list.entries.items ≡ near tile = ap (λ (l : Shared). l.entries.items) is ∙ (k.each tile 0 s (has_within area tile has)).items in
    ap (λ t. t && (length (near tile) == 0)) has
    ∙ sym (e ∙ ap (λ n. n == 0) list.entries.ok.0 ∙ ap (λ (es : List Entry). length es == 0) items)

-- one list of all tiles of the area has an entry
module _ (near : ℕ → List Entry) (tiles : List ℕ) (lists : List Shared) (area : Area) (first : ℕ) (list s : Shared) (k : AreShared near tiles lists) (even : IsEven area tiles) (has : has_tile area first ≡ true)
    (is : list ≡ list_at tiles lists first 0 s) (some : false ≡ (vec_len list.entries == 0)) where
  none_by : (tile : ℕ) (b : Bool) → has_tile area tile ≡ b → is_vacant near area tile ≡ false
  none_by tile true t = vacant_at near tiles lists area tile list s false k t (is ∙ ap (λ n. slice_index_or lists n s) (even first tile 0 has t)) some
  none_by tile false t = ap (λ b. b && (length (near tile) == 0)) t

  pub none_vacant : vacant_of near area ≡ []
  none_vacant = filter_nothing (is_vacant near area) tile_count (λ tile. none_by tile (has_tile area tile) refl)

-- ---- a walk that counts them, as far as it has come where it looks at the tile `here` next
pub record AreCounted (tiles : List ℕ) (lists : List Shared) (area : Area) (count here : ℕ) : Type 0 where
  pub next : here < end_of area → has_tile area here ≡ true
  pub few : count ≤ here
  pub all : (near : ℕ → List Entry) → AreShared near tiles lists → count ≡ length (filter (is_vacant near area) (numbers_below here))

abbrev pub AreOutside : Area → ℕ → ℕ → Type 0
AreOutside area m n = (tile : ℕ) → m ≤ tile → tile < n → has_tile area tile ≡ false

-- no tile of the area is left out
vacant_between : (near : ℕ → List Entry) (area : Area) (m n : ℕ) → m ≤ n → AreOutside area m n → filter (is_vacant near area) (numbers_below m) ≡ filter (is_vacant near area) (numbers_below n)
vacant_between near area m n l none = filter_between (is_vacant near area) m n l (λ tile g h. ap (λ b. b && (length (near tile) == 0)) (none tile g h))

pub counted_none : (tiles : List ℕ) (lists : List Shared) (area : Area) (first : ℕ) → has_tile area first ≡ true → AreOutside area 0 first → AreCounted tiles lists area 0 first
counted_none tiles lists area first has none = record {
  next = λ l. has;
  few = omega arith;
  all = λ near k. ap length (sym (filter_zero (is_vacant near area)) ∙ vacant_between near area 0 first (omega arith) none);
}

one_more : (p : ℕ → Bool) (b : Bool) (count now here : ℕ) → count ≡ length (filter p (numbers_below here)) → p here ≡ b → now ≡ count + cond b 1 0 → now ≡ length (filter p (numbers_below (here + 1)))
one_more p true count now here h t e = e ∙ count_with p here count h t
one_more p false count now here h t e = let w = count_without p here count h t in omega (arith, w, e)

few_more : (b : Bool) (count now here : ℕ) → count ≤ here → now ≡ count + cond b 1 0 → now ≤ here + 1
few_more true count now here l e = omega arith
few_more false count now here l e = omega arith

pub counted_more : (tiles : List ℕ) (lists : List Shared) (area : Area) (list s : Shared) (b : Bool) (count now here after : ℕ) → AreCounted tiles lists area count here → has_tile area here ≡ true → list ≡ list_at tiles lists here 0 s
    → b ≡ (vec_len list.entries == 0) → now ≡ count + cond b 1 0 → here < after → AreOutside area (here + 1) after → (after < end_of area → has_tile area after ≡ true) → AreCounted tiles lists area now after
counted_more tiles lists area list s b count now here after c has is e is_now rises none inside = record {
  next = inside;
  few = let f = few_more b count now here c.few is_now in omega (arith, f, rises);
  all = λ near k.
      one_more (is_vacant near area) b count now here (c.all near k) (vacant_at near tiles lists area here list s b k has is e) is_now
      ∙ ap length (vacant_between near area (here + 1) after (omega (arith, rises)) none);
}

pub counted_all : (tiles : List ℕ) (lists : List Shared) (area : Area) (count here end : ℕ) → AreCounted tiles lists area count here → end ≤ here → end ≤ tile_count → ((tile : ℕ) → end ≤ tile → has_tile area tile ≡ false)
    → (near : ℕ → List Entry) → AreShared near tiles lists → count ≡ length (vacant_of near area)
counted_all tiles lists area count here end c past within none near k =
    c.all near k ∙ ap length (sym (vacant_between near area end here past (λ tile g l. none tile g)) ∙ vacant_between near area end tile_count within (λ tile g l. none tile g))
