-- The pairs of a list: which are tested, and that a tile's entries have all that it answers for.
use Rattle.std.proofs.Common.{◌≡◌, ◌∙◌, ap, sym, subst, refl, ℕ, ℤ, pos, ◌+ℤ◌, ◌-ℤ◌, ◌≤ℤ◌, ◌≤◌, Bool, true, false, cond, ◌&&◌, ◌||◌, ◌==◌, int_le, List, [], ◌∷◌, ◌++◌, map, length, slice_index_or, arith}
use Rattle.std.specs.List.{filter, All}
use Rattle.std.proofs.lemmas.Bool.{false_from_ne_true}
use Rattle.std.proofs.lemmas.Bool.Decides.{nat_tests}
use Rattle.std.proofs.lemmas.Int.{ints}
use Rattle.std.proofs.lemmas.List.Elements.{All-head, All-tail, filter-append, filter_agree}
use Rattle.geo_seg.specs.declared.boxes.Bounds.{Bounds}
use Rattle.geo_seg.specs.Boxes.{FitsWithin, widened, are_near}
use Rattle.box_index.specs.declared.entry.Entry.{Entry}
use Rattle.box_index.specs.Tiles.{PlainIndex, IsSoundIndex, margin, is_in, near_of, owner_of, meets_tile}
use Rattle.box_index.proofs.TileLemmas.{near_sides, owner_first, owner_second}
use Rattle.box_index.proofs.EntryLists.{filter_none}
use Rattle.row_check.specs.RowsOfTile.{pairs_of, is_changed, is_asked, do_meet, most_steps}
use Rattle.row_check.specs.EntryWalks.{is_owned, partners_of}
use Rattle.row_check.proofs.PairLists.{Pair}

-- ---- the pairs that are tested
abbrev pub tested : (Entry → Bool) → (Entry → Entry → Bool) → List Entry → List Pair
tested changed q [] = []
tested changed q (a ∷ later) = map (λ b. (a, b)) (filter (q a) (partners_of changed a later)) ++ tested changed q later

abbrev pub test_of : (Entry → Bool) → (Entry → Entry → Bool) → Pair → Bool
test_of changed q p = (changed p.0 || changed p.1) && q p.0 p.1

filter_map_step : (f : Entry → Pair) (b : Bool) (x : Entry) (xs : List Entry) → cond b (f x ∷ map f xs) (map f xs) ≡ map f (cond b (x ∷ xs) xs)
filter_map_step f true x xs = refl
filter_map_step f false x xs = refl

filter_map_by : (Q : Pair → Bool) (f : Entry → Pair) (xs : List Entry) → filter Q (map f xs) ≡ map f (filter (λ y. Q (f y)) xs)
filter_map_by Q f [] = refl
filter_map_by Q f (x ∷ xs) = ap (λ ys. cond (Q (f x)) (f x ∷ ys) ys) (filter_map_by Q f xs) ∙ filter_map_step f (Q (f x)) x (filter (λ y. Q (f y)) xs)

filter_map : (Q : Pair → Bool) (a : Entry) (xs : List Entry) → filter Q (map (λ y. (a, y)) xs) ≡ map (λ y. (a, y)) (filter (λ y. Q (a, y)) xs)
filter_map Q a xs = let f : Entry → Pair = λ y. (a, y) in filter_map_by Q f xs

and_step : {X : Type 0} (b c : Bool) (x : X) (xs : List X) (q : X → Bool) → q x ≡ c → cond (b && c) (x ∷ xs) xs ≡ cond b (cond c (x ∷ xs) xs) xs
and_step true c x xs q e = refl
and_step false c x xs q e = refl

filter_cond : {X : Type 0} (q : X → Bool) (b : Bool) (x : X) (xs : List X) → filter q (cond b (x ∷ xs) xs) ≡ cond b (filter q (x ∷ xs)) (filter q xs)
filter_cond q true x xs = refl
filter_cond q false x xs = refl

pub filter_and : {X : Type 0} (p q : X → Bool) (xs : List X) → filter (λ x. p x && q x) xs ≡ filter q (filter p xs)
filter_and p q [] = refl
filter_and p q (x ∷ xs) =
    ap (λ ys. cond (p x && q x) (x ∷ ys) ys) (filter_and p q xs) ∙ and_step (p x) (q x) x (filter q (filter p xs)) q refl
    ∙ sym (filter_cond q (p x) x (filter p xs))

partners_kept : (changed : Entry → Bool) (q : Entry → Entry → Bool) (a : Entry) (xs : List Entry) (b : Bool) → changed a ≡ b → filter (λ y. test_of changed q (a, y)) xs ≡ filter (q a) (cond b xs (filter changed xs))
partners_kept changed q a xs true e = filter_agree (λ y. test_of changed q (a, y)) (q a) (λ y. ap (λ b. (b || changed y) && q a y) e) xs
partners_kept changed q a xs false e = filter_agree (λ y. test_of changed q (a, y)) (λ y. changed y && q a y) (λ y. ap (λ b. (b || changed y) && q a y) e) xs ∙ filter_and changed (q a) xs

pub tested_is : (changed : Entry → Bool) (q : Entry → Entry → Bool) (xs : List Entry) → tested changed q xs ≡ filter (test_of changed q) (pairs_of xs)
tested_is changed q [] = refl
tested_is changed q (a ∷ xs) =
    let Q = test_of changed q in
    ap (λ ys. map (λ y. (a, y)) (filter (q a) (partners_of changed a xs)) ++ ys) (tested_is changed q xs)
    ∙ sym (filter-append Q (map (λ y. (a, y)) xs) (pairs_of xs)
    ∙ ap (λ ys. ys ++ filter Q (pairs_of xs)) (filter_map Q a xs ∙ ap (map (λ y. (a, y))) (partners_kept changed q a xs (changed a) refl)))

-- ---- a tile has all pairs that it answers for
-- a test that passes only pairs of which both pass p
record Picks (Good : Entry → Type 0) (p : Entry → Bool) (Q : Pair → Bool) : Type 0 where
  first : (a b : Entry) → Good a → Q (a, b) ≡ true → p a ≡ true
  second : (a b : Entry) → Good b → Q (a, b) ≡ true → p b ≡ true

kept_second : (Good : Entry → Type 0) (p : Entry → Bool) (Q : Pair → Bool) → Picks Good p Q → (a x : Entry) (ys zs : List Entry) → Good x → filter (λ y. Q (a, y)) ys ≡ filter (λ y. Q (a, y)) zs → (b : Bool) → p x ≡ b → filter (λ y. Q (a, y)) (cond b (x ∷ ys) ys) ≡ filter (λ y. Q (a, y)) (x ∷ zs)
kept_second Good p Q h a x ys zs g e true t = ap (λ us. cond (Q (a, x)) (x ∷ us) us) e
kept_second Good p Q h a x ys zs g e false f = e ∙ sym (ap (λ b. cond b (x ∷ filter (λ y. Q (a, y)) zs) (filter (λ y. Q (a, y)) zs)) (false_from_ne_true (Q (a, x)) (λ t. let s = h.second a x g t in cc)))

kept_seconds : (Good : Entry → Type 0) (p : Entry → Bool) (Q : Pair → Bool) → Picks Good p Q → (a : Entry) (xs : List Entry) → All Good xs → filter (λ y. Q (a, y)) (filter p xs) ≡ filter (λ y. Q (a, y)) xs
kept_seconds Good p Q h a [] g = refl
kept_seconds Good p Q h a (x ∷ xs) g = kept_second Good p Q h a x (filter p xs) xs (All-head Good x xs g) (kept_seconds Good p Q h a xs (All-tail Good x xs g)) (p x) refl

pairs_kept_step : (Good : Entry → Type 0) (p : Entry → Bool) (Q : Pair → Bool) → Picks Good p Q → (x : Entry) (xs : List Entry) → Good x → All Good xs → filter Q (pairs_of (filter p xs)) ≡ filter Q (pairs_of xs) → (b : Bool) → p x ≡ b
    → filter Q (pairs_of (cond b (x ∷ filter p xs) (filter p xs))) ≡ filter Q (pairs_of (x ∷ xs))
pairs_kept_step Good p Q h x xs g gs e true t =
    filter-append Q (map (λ y. (x, y)) (filter p xs)) (pairs_of (filter p xs))
    ∙ ap (λ us. us ++ filter Q (pairs_of (filter p xs))) (filter_map Q x (filter p xs) ∙ ap (map (λ y. (x, y))) (kept_seconds Good p Q h x xs gs) ∙ sym (filter_map Q x xs))
    ∙ ap (λ us. filter Q (map (λ y. (x, y)) xs) ++ us) e
    ∙ sym (filter-append Q (map (λ y. (x, y)) xs) (pairs_of xs))
pairs_kept_step Good p Q h x xs g gs e false f =
    e
    ∙ sym (filter-append Q (map (λ y. (x, y)) xs) (pairs_of xs)
    ∙ ap (λ us. us ++ filter Q (pairs_of xs)) (filter_map Q x xs ∙ ap (map (λ y. (x, y))) (filter_none (λ y. Q (x, y)) xs (λ k d l. false_from_ne_true (Q (x, slice_index_or xs k d)) (λ t. let s = h.first x (slice_index_or xs k d) g t in cc)))))

pairs_kept : (Good : Entry → Type 0) (p : Entry → Bool) (Q : Pair → Bool) → Picks Good p Q → (xs : List Entry) → All Good xs → filter Q (pairs_of (filter p xs)) ≡ filter Q (pairs_of xs)
pairs_kept Good p Q h [] g = refl
pairs_kept Good p Q h (x ∷ xs) g = pairs_kept_step Good p Q h x xs (All-head Good x xs g) (All-tail Good x xs g) (pairs_kept Good p Q h xs (All-tail Good x xs g)) (p x) refl

-- ---- fewer pass a test that asks more
more_step : (a b : Bool) (p : Pair) (ps qs : List Pair) → (a ≡ true → b ≡ true) → length ps ≤ length qs → length (cond a (p ∷ ps) ps) ≤ length (cond b (p ∷ qs) qs)
more_step true true p ps qs h l = omega arith
more_step true false p ps qs h l = absurd (let e = h refl in cc)
more_step false true p ps qs h l = omega arith
more_step false false p ps qs h l = l

pub more_pass : (P Q : Pair → Bool) (ps : List Pair) → ((p : Pair) → P p ≡ true → Q p ≡ true) → length (filter P ps) ≤ length (filter Q ps)
more_pass P Q [] h = omega arith
more_pass P Q (p ∷ ps) h = more_step (P p) (Q p) p (filter P ps) (filter Q ps) (h p) (more_pass P Q ps h)

-- ---- for a tile of an index
abbrev pub touches : List ℕ → Entry → Bool
touches changed e = is_changed changed e.id

owned_near : (c n o : Bool) → (c && (n && o)) ≡ true → n ≡ true
owned_near true true o h = refl
owned_near true false o h = h
owned_near false n o h = cc

owned_here : (c n : Bool) (a b : ℕ) → (c && (n && (a == b))) ≡ true → a ≡ b
owned_here c n a b h = grind (arith, nat_tests)

abbrev Fits : Entry → Type 0
Fits e = FitsWithin (pos 2000000000) e.bounds

wide_from : (reach : ℤ) → pos 0 ≤ℤ reach → pos 0 ≤ℤ (reach +ℤ reach)
wide_from reach h = omega (arith, ints)

picks : (index : PlainIndex) (tile : ℕ) (changed : Entry → Bool) → IsSoundIndex index → Picks Fits (is_in index tile) (test_of changed (is_owned index tile))
picks index tile changed s =
    let wide = wide_from index.reach s.reach_from in record {
      first = λ a b f h.
          let c = changed a || changed b in
          let n = owned_near c (are_near (margin index) a.bounds b.bounds) (owner_of (margin index) a.bounds b.bounds == tile) h in
          let o = owned_here c (are_near (margin index) a.bounds b.bounds) (owner_of (margin index) a.bounds b.bounds) tile h in
          subst (λ (t : ℕ). meets_tile (widened a.bounds (margin index)) t ≡ true) o (owner_first (margin index) a.bounds b.bounds wide f.wide f.high (near_sides (margin index) a.bounds b.bounds n));
      second = λ a b f h.
          let c = changed a || changed b in
          let n = owned_near c (are_near (margin index) a.bounds b.bounds) (owner_of (margin index) a.bounds b.bounds == tile) h in
          let o = owned_here c (are_near (margin index) a.bounds b.bounds) (owner_of (margin index) a.bounds b.bounds) tile h in
          subst (λ (t : ℕ). meets_tile (widened b.bounds (margin index)) t ≡ true) o (owner_second (margin index) a.bounds b.bounds wide f.wide f.high (near_sides (margin index) a.bounds b.bounds n));
    }

pub tested_all : (index : PlainIndex) (tile : ℕ) (changed : List ℕ) → IsSoundIndex index → tested (touches changed) (is_owned index tile) (near_of index tile) ≡ filter (test_of (touches changed) (is_owned index tile)) (pairs_of index.entries)
tested_all index tile changed s =
    tested_is (touches changed) (is_owned index tile) (near_of index tile)
    ∙ pairs_kept Fits (is_in index tile) (test_of (touches changed) (is_owned index tile)) (picks index tile (touches changed) s) index.entries s.fit

four_le : (a b c d e f g h : ℤ) → a ≤ℤ b → c ≤ℤ d → e ≤ℤ f → g ≤ℤ h → ((int_le a b && int_le c d) && (int_le e f && int_le g h)) ≡ true
four_le a b c d e f g h s t u v = grind (arith, ints)

near_meets : (m : ℤ) (a b : Bounds) → pos 0 ≤ℤ m → are_near m a b ≡ true → do_meet m a b ≡ true
near_meets m a b h n =
    let s = near_sides m a b n in
    let left = s.left in let right = s.right in let top = s.top in let bottom = s.bottom in
    four_le (a.left -ℤ m) (b.right +ℤ m) (b.left -ℤ m) (a.right +ℤ m) (a.top -ℤ m) (b.bottom +ℤ m) (b.top -ℤ m) (a.bottom +ℤ m) (omega (arith, ints)) (omega (arith, ints)) (omega (arith, ints)) (omega (arith, ints))

asked_met : (c n o t : Bool) → (n ≡ true → t ≡ true) → (c && (n && o)) ≡ true → ((c && o) && t) ≡ true
asked_met true true true t h e = h refl
asked_met true true false t h e = e
asked_met true false o t h e = cc
asked_met false n o t h e = cc

pub steps_are : (index : PlainIndex) (tile : ℕ) (changed : List ℕ) → IsSoundIndex index → length (tested (touches changed) (is_owned index tile) (near_of index tile)) ≤ most_steps index tile changed
steps_are index tile changed s =
    let most = more_pass (test_of (touches changed) (is_owned index tile)) (λ p. is_asked index tile changed p && do_meet (margin index) p.0.bounds p.1.bounds) (pairs_of index.entries)
    (λ p. asked_met (is_changed changed p.0.id || is_changed changed p.1.id) (are_near (margin index) p.0.bounds p.1.bounds) (owner_of (margin index) p.0.bounds p.1.bounds == tile) (do_meet (margin index) p.0.bounds p.1.bounds)
    (near_meets (margin index) p.0.bounds p.1.bounds (wide_from index.reach s.reach_from))) in
    let e = ap length (tested_all index tile changed s) in
    subst (λ (n : ℕ). n ≤ most_steps index tile changed) (sym e) most
