-- Boxes that are kept far past the slots, and lists of entries in two parts.
use Rattle.std.proofs.Common.{◌≡◌, ◌≢◌, ◌∙◌, ap, sym, subst, refl, ℕ, ◌+◌, ◌<◌, ◌≤◌, Bool, true, false, cond, not, ◌==◌, nat_lt, List, [], ◌∷◌, ◌++◌, length, append_assoc, append-nil, arith}
use Rattle.std.specs.Prelude.{Option, None, Some, IfSome, IsSome, slice_get, Result, Ok, Err, OnOk, OnErr}
use Rattle.std.specs.List.{filter, All}
use Rattle.std.specs.Map.{lookup, remove_entry}
use Rattle.std.specs.BTreeMap.{insert_entry, is_at}
use Rattle.std.specs.Ordering.{nat_cmp, match_ordering, is_eq, MatchOrdering}
use Rattle.std.specs.declared.cmp.Ordering.{Ordering}
use Rattle.std.specs.declared.cmp.Ordering.TheVariants.{Less, Equal, Greater}
use Rattle.std.proofs.lemmas.Cmp.{ranked}
use Rattle.std.proofs.lemmas.List.Elements.{All-head, All-cons, All-append, All-filter, All-weaker, filter-append}
use Rattle.std.proofs.lemmas.List.Kept.{AllPairs-filter}
use Rattle.box_index.specs.declared.entry.Entry.{Entry}
use Rattle.box_index.specs.declared.kept.Sides.{Sides}
use Rattle.box_index.specs.Tiles.{IsRising, placed, without}
use Rattle.box_index.specs.Cuts.{IsCut}
use Rattle.box_index.specs.BoxSlots.{entry_of, entries_of, far_entries, all_entries, AreFar}
use Rattle.box_index.proofs.EntryLists.{filter_all, filter_none, none_at, pairs_first, pairs_rest, below_true, below_false}
use Rattle.box_index.proofs.Buckets.{rising_placed}
use Rattle.box_index.proofs.KeptLemmas.{before_all, after_first, in_place, without_first, without_later, later_cut, some_same, all_below, one_put, no_slots}

-- ---- lists of entries in two parts
placed_prefix : (e : Entry) (xs ys : List Entry) → All (λ (y : Entry). e.id < y.id) ys → placed e xs ++ ys ≡ placed e (xs ++ ys)
placed_prefix e xs ys h =
    let p : Entry → Bool = λ y. nat_lt y.id e.id in
    let q : Entry → Bool = λ y. nat_lt e.id y.id in
    let low = filter_none p ys (All-weaker (λ (y : Entry). e.id < y.id) (λ (y : Entry). p y ≡ false) (λ y l. below_false _ _ (omega arith)) ys h) in
    let high = filter_all q ys (All-weaker (λ (y : Entry). e.id < y.id) (λ (y : Entry). q y ≡ true) (λ y l. below_true _ _ l) ys h) in
    append_assoc (filter p xs) (e ∷ filter q xs) ys
    ∙ ap (λ zs. zs ++ e ∷ (filter q xs ++ ys)) (sym (filter-append p xs ys ∙ ap (λ zs. filter p xs ++ zs) low ∙ append-nil (filter p xs)))
    ∙ ap (λ zs. filter p (xs ++ ys) ++ e ∷ zs) (sym (filter-append q xs ys ∙ ap (λ zs. filter q xs ++ zs) high))

placed_back : (e : Entry) (xs ys : List Entry) → All (λ (x : Entry). x.id < e.id) xs → xs ++ placed e ys ≡ placed e (xs ++ ys)
placed_back e xs ys h =
    let p : Entry → Bool = λ y. nat_lt y.id e.id in
    let q : Entry → Bool = λ y. nat_lt e.id y.id in
    let low = filter_all p xs (All-weaker (λ (x : Entry). x.id < e.id) (λ (x : Entry). p x ≡ true) (λ x l. below_true _ _ l) xs h) in
    let high = filter_none q xs (All-weaker (λ (x : Entry). x.id < e.id) (λ (x : Entry). q x ≡ false) (λ x l. below_false _ _ (omega arith)) xs h) in
    sym (append_assoc xs (filter p ys) (e ∷ filter q ys))
    ∙ ap (λ zs. zs ++ e ∷ filter q ys) (sym (filter-append p xs ys ∙ ap (λ zs. zs ++ filter p ys) low))
    ∙ ap (λ zs. filter p (xs ++ ys) ++ e ∷ zs) (sym (filter-append q xs ys ∙ ap (λ zs. zs ++ filter q ys) high))

without_prefix : (id : ℕ) (xs ys : List Entry) → All (λ (y : Entry). id < y.id) ys → without id xs ++ ys ≡ without id (xs ++ ys)
without_prefix id xs ys h =
    ap (λ zs. without id xs ++ zs) (none_at id ys (All-weaker (λ (y : Entry). id < y.id) (λ (y : Entry). y.id ≢ id) (λ y l. omega arith) ys h))
    ∙ sym (filter-append (λ (y : Entry). not (y.id == id)) xs ys)

without_back : (id : ℕ) (xs ys : List Entry) → All (λ (x : Entry). x.id < id) xs → xs ++ without id ys ≡ without id (xs ++ ys)
without_back id xs ys h =
    ap (λ zs. zs ++ without id ys) (none_at id xs (All-weaker (λ (x : Entry). x.id < id) (λ (x : Entry). x.id ≢ id) (λ x l. omega arith) xs h))
    ∙ sym (filter-append (λ (x : Entry). not (x.id == id)) xs ys)

cut_back : (xs ys now : List Entry) (e : Entry) → IsCut ys e now → IsCut (xs ++ ys) e (xs ++ now)
cut_back xs ys now e c = record {
  prefix = xs ++ c.prefix;
  back = c.back;
  was = ap (λ (zs : List Entry). xs ++ zs) c.was ∙ sym (append_assoc xs c.prefix (e ∷ c.back));
  is = ap (λ (zs : List Entry). xs ++ zs) c.is ∙ sym (append_assoc xs c.prefix c.back);
}

pub found_back : (r : Option Entry) (xs ys now : List Entry) → IfSome r (λ e. IsCut ys e now) → IfSome r (λ e. IsCut (xs ++ ys) e (xs ++ now))
found_back None xs ys now h = tt
found_back (Some e) xs ys now h = cut_back xs ys now e h

-- ---- far boxes
abbrev Kept : Type 0
Kept = ℕ × Sides

abbrev far_entry : Kept → Entry
far_entry kept = entry_of kept.0 kept.1

below_first : (e x : Entry) (xs : List Entry) → e.id < x.id → All (λ (y : Entry). x.id < y.id) xs → All (λ (y : Entry). e.id < y.id) (x ∷ xs)
below_first e x xs l h = All-cons (λ (y : Entry). e.id < y.id) x xs l (All-weaker (λ (y : Entry). x.id < y.id) (λ (y : Entry). e.id < y.id) (λ y m. omega arith) xs h)

-- a box put in
put_step : (id : ℕ) (s : Sides) (k : Kept) (ks others : List Kept) (o : Ordering) → MatchOrdering o (id < k.0) (id ≡ k.0) (k.0 < id) → IsRising (far_entries (k ∷ ks))
    → far_entries others ≡ placed (entry_of id s) (far_entries ks) → far_entries (match_ordering o ((id, s) ∷ k ∷ ks) ((k.0, s) ∷ ks) (k ∷ others)) ≡ placed (entry_of id s) (far_entries (k ∷ ks))
put_step id s k ks others Less l r h =
    before_all (entry_of id s) (far_entries (k ∷ ks)) (below_first (entry_of id s) (far_entry k) (far_entries ks) l (pairs_first (λ (x y : Entry). x.id < y.id) (far_entry k) (far_entries ks) r))
put_step id s k ks others Equal l r h =
    let later = pairs_first (λ (x y : Entry). x.id < y.id) (far_entry k) (far_entries ks) r in
    ap (λ i. entry_of i s ∷ far_entries ks) (sym l)
    ∙ before_all (entry_of id s) (far_entries ks) (All-weaker (λ (y : Entry). k.0 < y.id) (λ (y : Entry). id < y.id) (λ y m. omega arith) (far_entries ks) later)
    ∙ in_place (entry_of id s) (far_entry k) (far_entries ks) (sym l)
put_step id s k ks others Greater l r h = ap (λ (ys : List Entry). far_entry k ∷ ys) h ∙ after_first (entry_of id s) (far_entry k) (far_entries ks) l

pub far_placed : (id : ℕ) (s : Sides) (ks : List Kept) → IsRising (far_entries ks) → far_entries (insert_entry nat_cmp ks id s) ≡ placed (entry_of id s) (far_entries ks)
far_placed id s [] r = refl
far_placed id s (k ∷ ks) r =
    put_step id s k ks (insert_entry nat_cmp ks id s) (nat_cmp id k.0) (ranked id k.0 (nat_cmp id k.0) refl) r
    (far_placed id s ks (pairs_rest (λ (x y : Entry). x.id < y.id) (far_entry k) (far_entries ks) r))

-- a box taken out
take_step : (id : ℕ) (k : Kept) (ks others : List Kept) (o : Ordering) → MatchOrdering o (id < k.0) (id ≡ k.0) (k.0 < id) → IsRising (far_entries (k ∷ ks)) → far_entries others ≡ without id (far_entries ks)
    → far_entries (cond (is_eq o) ks (k ∷ others)) ≡ without id (far_entries (k ∷ ks))
take_step id k ks others Less l r h = ap (λ (ys : List Entry). far_entry k ∷ ys) h ∙ without_later id (far_entry k) (far_entries ks) (omega arith)
take_step id k ks others Equal l r h = without_first id (far_entry k) (far_entries ks) l (pairs_first (λ (x y : Entry). x.id < y.id) (far_entry k) (far_entries ks) r)
take_step id k ks others Greater l r h = ap (λ (ys : List Entry). far_entry k ∷ ys) h ∙ without_later id (far_entry k) (far_entries ks) (omega arith)

pub far_without : (id : ℕ) (ks : List Kept) → IsRising (far_entries ks) → far_entries (remove_entry (is_at (nat_cmp id)) ks) ≡ without id (far_entries ks)
far_without id [] r = refl
far_without id (k ∷ ks) r =
    take_step id k ks (remove_entry (is_at (nat_cmp id)) ks) (nat_cmp id k.0) (ranked id k.0 (nat_cmp id k.0) refl) r
    (far_without id ks (pairs_rest (λ (x y : Entry). x.id < y.id) (far_entry k) (far_entries ks) r))

-- which box was taken out
here_same : (id n : ℕ) (s t : Sides) (es : List Entry) → id ≡ n → t ≡ s → entry_of n t ∷ es ≡ entry_of id s ∷ es
here_same id n s t es h e = cc

cut_step : (id : ℕ) (s : Sides) (k : Kept) (ks others : List Kept) (o : Ordering) (found : Option Sides) → MatchOrdering o (id < k.0) (id ≡ k.0) (k.0 < id) → cond (is_eq o) (Some k.1) found ≡ Some s
    → (found ≡ Some s → IsCut (far_entries ks) (entry_of id s) (far_entries others)) → IsCut (far_entries (k ∷ ks)) (entry_of id s) (far_entries (cond (is_eq o) ks (k ∷ others)))
cut_step id s k ks others Less found l h g = later_cut (far_entry k) (entry_of id s) (far_entries ks) (far_entries others) (g h)
cut_step id s k ks others Equal found l h g = record { prefix = []; back = far_entries ks; was = here_same id k.0 s k.1 (far_entries ks) l (some_same k.1 s h); is = refl }
cut_step id s k ks others Greater found l h g = later_cut (far_entry k) (entry_of id s) (far_entries ks) (far_entries others) (g h)

none_found : (s : Sides) → None ≡ Some s → ⊥
none_found s h = cc

pub far_cut : (id : ℕ) (s : Sides) (ks : List Kept) → lookup (is_at (nat_cmp id)) ks ≡ Some s → IsCut (far_entries ks) (entry_of id s) (far_entries (remove_entry (is_at (nat_cmp id)) ks))
far_cut id s [] h = absurd (none_found s h)
far_cut id s (k ∷ ks) h = cut_step id s k ks (remove_entry (is_at (nat_cmp id)) ks) (nat_cmp id k.0) (lookup (is_at (nat_cmp id)) ks) (ranked id k.0 (nat_cmp id k.0) refl) h (far_cut id s ks)

-- ---- the first of them
first_is : (k x : Kept) → slice_get (x ∷ []) 0 ≡ Some k → x ≡ k
first_is k x h = cc

no_first : (k : Kept) → None ≡ Some k → ⊥
no_first k h = cc

-- all lie past what the first does
pub first_far : (bound : ℕ) (first : Kept) (ks : List Kept) → IsRising (far_entries ks) → slice_get ks 0 ≡ Some first → bound ≤ first.0 → AreFar bound ks
first_far bound first [] r h l = absurd (no_first first h)
first_far bound first (k ∷ ks) r h l =
    let at : bound ≤ k.0 = subst (λ (x : Kept). bound ≤ x.0) (sym (first_is first k h)) l in
    record {
      rising = r;
      past = All-cons (λ (e : Entry). bound ≤ e.id) (far_entry k) (far_entries ks) at
          (All-weaker (λ (e : Entry). k.0 < e.id) (λ (e : Entry). bound ≤ e.id) (λ e m. omega arith) (far_entries ks) (pairs_first (λ (x y : Entry). x.id < y.id) (far_entry k) (far_entries ks) r));
    }

pub first_past : (bound : ℕ) (first : Kept) (ks : List Kept) → AreFar bound ks → slice_get ks 0 ≡ Some first → bound ≤ first.0
first_past bound first [] f h = absurd (no_first first h)
first_past bound first (k ∷ ks) f h = subst (λ (x : Kept). bound ≤ x.0) (first_is first k h) (All-head (λ (e : Entry). bound ≤ e.id) (far_entry k) (far_entries ks) f.past)

-- what is left without the first
popped_is : (first p : Kept) (ks rest : List Kept) → slice_get ks 0 ≡ Some first → ks ≡ p ∷ rest → ks ≡ first ∷ rest
popped_is first p ks rest h e = e ∙ ap (λ (k : Kept). k ∷ rest) (first_is first p (sym (ap (λ (xs : List Kept). slice_get xs 0) e) ∙ h))

none_popped : IsSome {T = Kept} None → ⊥
none_popped i = cc

pub popped : (first : Kept) (ks rest : List Kept) (r : Option Kept) → slice_get ks 0 ≡ Some first → IsSome r → IfSome r (λ p. ks ≡ p ∷ rest) → ks ≡ first ∷ rest
popped first ks rest None h i e = absurd (none_popped i)
popped first ks rest (Some p) h i e = popped_is first p ks rest h e

pub rest_far : (bound : ℕ) (first : Kept) (ks rest : List Kept) → ks ≡ first ∷ rest → IsRising (far_entries ks) → bound ≤ first.0 + 1 → AreFar bound rest
rest_far bound first ks rest e r l =
    let rising = subst (λ (xs : List Kept). IsRising (far_entries xs)) e r in
    record {
      rising = pairs_rest (λ (x y : Entry). x.id < y.id) (far_entry first) (far_entries rest) rising;
      past = All-weaker (λ (x : Entry). first.0 < x.id) (λ (x : Entry). bound ≤ x.id) (λ x m. omega arith) (far_entries rest) (pairs_first (λ (x y : Entry). x.id < y.id) (far_entry first) (far_entries rest) rising);
    }

-- the first goes to the end of the row
pub moved : (first : Kept) (slots now : List (Option Sides)) (ks rest : List Kept) → first.0 ≡ length slots → now ≡ slots ++ Some first.1 ∷ [] → ks ≡ first ∷ rest → all_entries now rest ≡ all_entries slots ks
moved first slots now ks rest l n e =
    let entry = far_entry first in
    ap (λ items. entries_of items ++ far_entries rest) n
    ∙ ap (λ (es : List Entry). es ++ far_entries rest) (one_put first.0 first.1 slots l)
    ∙ append_assoc (entries_of slots) (entry ∷ []) (far_entries rest)
    ∙ sym (ap (λ xs. entries_of slots ++ far_entries xs) e)

-- ---- for the code
pub no_entries : (slots : List (Option Sides)) (ks : List Kept) → slots ≡ [] → ks ≡ [] → all_entries slots ks ≡ []
no_entries slots ks h e = ap (λ xs. entries_of slots ++ far_entries xs) e ∙ append-nil (entries_of slots) ∙ no_slots slots h

pub far_sooner : (bound sooner : ℕ) (ks : List Kept) → sooner ≤ bound → AreFar bound ks → AreFar sooner ks
far_sooner bound sooner ks l f = record { rising = f.rising; past = All-weaker (λ (e : Entry). bound ≤ e.id) (λ (e : Entry). sooner ≤ e.id) (λ e m. omega arith) (far_entries ks) f.past }

far_after : (id bound : ℕ) (ks : List Kept) → id < bound → AreFar bound ks → All (λ (e : Entry). id < e.id) (far_entries ks)
far_after id bound ks l f = All-weaker (λ (e : Entry). bound ≤ e.id) (λ (e : Entry). id < e.id) (λ e m. omega arith) (far_entries ks) f.past

pub near_placed : (e : Entry) (bound : ℕ) (xs : List Entry) (ks : List Kept) → e.id < bound → AreFar bound ks → placed e xs ++ far_entries ks ≡ placed e (xs ++ far_entries ks)
near_placed e bound xs ks l f = placed_prefix e xs (far_entries ks) (far_after e.id bound ks l f)

pub behind_placed : (e : Entry) (slots : List (Option Sides)) (ks : List Entry) → length slots ≤ e.id → entries_of slots ++ placed e ks ≡ placed e (entries_of slots ++ ks)
behind_placed e slots ks l = placed_back e (entries_of slots) ks (all_below e.id slots l)

pub near_without : (id bound : ℕ) (xs : List Entry) (ks : List Kept) → id < bound → AreFar bound ks → without id xs ++ far_entries ks ≡ without id (xs ++ far_entries ks)
near_without id bound xs ks l f = without_prefix id xs (far_entries ks) (far_after id bound ks l f)

pub behind_without : (id : ℕ) (slots : List (Option Sides)) (ks : List Entry) → length slots ≤ id → entries_of slots ++ without id ks ≡ without id (entries_of slots ++ ks)
behind_without id slots ks l = without_back id (entries_of slots) ks (all_below id slots l)

one_placed : (bound id : ℕ) (s : Sides) (ks now : List Kept) → far_entries now ≡ placed (entry_of id s) (far_entries ks) → bound ≤ id → AreFar bound ks → AreFar bound now
one_placed bound id s ks now h l f =
    let e : Entry = entry_of id s in
    record {
      rising = subst (λ (xs : List Entry). IsRising xs) (sym h) (rising_placed e (far_entries ks) f.rising);
      past = subst (λ (xs : List Entry). All (λ (x : Entry). bound ≤ x.id) xs) (sym h)
          (All-append (λ (x : Entry). bound ≤ x.id) (filter (λ (x : Entry). nat_lt x.id id) (far_entries ks)) (e ∷ filter (λ (x : Entry). nat_lt id x.id) (far_entries ks))
          (All-filter (λ (x : Entry). nat_lt x.id id) (λ (x : Entry). bound ≤ x.id) (far_entries ks) f.past)
          (All-cons (λ (x : Entry). bound ≤ x.id) e (filter (λ (x : Entry). nat_lt id x.id) (far_entries ks)) l (All-filter (λ (x : Entry). nat_lt id x.id) (λ (x : Entry). bound ≤ x.id) (far_entries ks) f.past)));
    }

pub placed_far : {T E : Type 0} (r : Result T E) (bound id : ℕ) (s : Sides) (ks now : List Kept) → OnOk r (far_entries now ≡ placed (entry_of id s) (far_entries ks)) → OnErr r (now ≡ ks) → bound ≤ id → AreFar bound ks → AreFar bound now
placed_far (Ok v) bound id s ks now h u l f = one_placed bound id s ks now h l f
placed_far (Err e) bound id s ks now h u l f = subst (λ (xs : List Kept). AreFar bound xs) (sym u) f

pub without_far : (bound id : ℕ) (ks now : List Kept) → far_entries now ≡ without id (far_entries ks) → AreFar bound ks → AreFar bound now
without_far bound id ks now h f =
    let test : Entry → Bool = λ x. not (x.id == id) in
    record {
      rising = subst (λ (xs : List Entry). IsRising xs) (sym h) (AllPairs-filter (λ (x y : Entry). x.id < y.id) test (far_entries ks) f.rising);
      past = subst (λ (xs : List Entry). All (λ (x : Entry). bound ≤ x.id) xs) (sym h) (All-filter test (λ (x : Entry). bound ≤ x.id) (far_entries ks) f.past);
    }
