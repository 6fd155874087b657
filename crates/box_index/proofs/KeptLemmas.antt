-- Boxes that are kept in slots, as a list of entries.
use Rattle.std.proofs.Common.{◌≡◌, ◌≢◌, ◌∙◌, ap, sym, refl, ℕ, zero, suc, ◌+◌, ◌<◌, ◌≤◌, Bool, true, false, cond, not, ◌==◌, nat_lt, List, [], ◌∷◌, ◌++◌, length, set, get_or, arith}
use Rattle.std.specs.Prelude.{Option, None, Some}
use Rattle.std.specs.List.{filter, All}
use Rattle.std.proofs.lemmas.List.Elements.{All-nil, All-cons, All-weaker}
use Rattle.box_index.specs.declared.entry.Entry.{Entry}
use Rattle.box_index.specs.declared.kept.Sides.{Sides}
use Rattle.box_index.specs.Tiles.{placed, without}
use Rattle.box_index.specs.Cuts.{IsCut}
use Rattle.box_index.specs.BoxSlots.{entry_of, entries_from, entries_of}
use Rattle.box_index.proofs.EntryLists.{filter_all, filter_none, none_at, below_true, below_false, same_test, other_test}

-- ---- lists of entries
pub before_all : (e : Entry) (xs : List Entry) → All (λ (y : Entry). e.id < y.id) xs → e ∷ xs ≡ placed e xs
before_all e xs h =
    let low = filter_none (λ (y : Entry). nat_lt y.id e.id) xs (All-weaker (λ (y : Entry). e.id < y.id) (λ (y : Entry). nat_lt y.id e.id ≡ false) (λ y l. below_false _ _ (omega arith)) xs h) in
    let high = filter_all (λ (y : Entry). nat_lt e.id y.id) xs (All-weaker (λ (y : Entry). e.id < y.id) (λ (y : Entry). nat_lt e.id y.id ≡ true) (λ y l. below_true _ _ l) xs h) in
    sym (ap (λ (ys : List Entry). ys ++ e ∷ filter (λ (y : Entry). nat_lt e.id y.id) xs) low ∙ ap (λ (ys : List Entry). e ∷ ys) high)

pub after_first : (e x : Entry) (xs : List Entry) → x.id < e.id → x ∷ placed e xs ≡ placed e (x ∷ xs)
after_first e x xs l =
    let p : Entry → Bool = λ y. nat_lt y.id e.id in
    let q : Entry → Bool = λ y. nat_lt e.id y.id in
    let t : nat_lt x.id e.id ≡ true = below_true _ _ l in
    let f : nat_lt e.id x.id ≡ false = below_false _ _ (omega arith) in
    sym (ap (λ b. cond b (x ∷ filter p xs) (filter p xs) ++ e ∷ filter q (x ∷ xs)) t ∙ ap (λ b. (x ∷ filter p xs) ++ e ∷ cond b (x ∷ filter q xs) (filter q xs)) f)

pub in_place : (e x : Entry) (xs : List Entry) → x.id ≡ e.id → placed e xs ≡ placed e (x ∷ xs)
in_place e x xs h =
    let p : Entry → Bool = λ y. nat_lt y.id e.id in
    let q : Entry → Bool = λ y. nat_lt e.id y.id in
    let t : nat_lt x.id e.id ≡ false = below_false _ _ (omega arith) in
    let f : nat_lt e.id x.id ≡ false = below_false _ _ (omega arith) in
    sym (ap (λ b. cond b (x ∷ filter p xs) (filter p xs) ++ e ∷ filter q (x ∷ xs)) t ∙ ap (λ b. filter p xs ++ e ∷ cond b (x ∷ filter q xs) (filter q xs)) f)

pub without_first : (id : ℕ) (x : Entry) (xs : List Entry) → id ≡ x.id → All (λ (y : Entry). x.id < y.id) xs → xs ≡ without id (x ∷ xs)
without_first id x xs e h =
    let test : Entry → Bool = λ y. not (y.id == id) in
    sym (ap (λ b. cond b (x ∷ filter test xs) (filter test xs)) (other_test _ _ (sym e))
    ∙ filter_all test xs (All-weaker (λ (y : Entry). x.id < y.id) (λ (y : Entry). test y ≡ true) (λ y l. same_test _ _ (omega arith)) xs h))

pub without_later : (id : ℕ) (x : Entry) (xs : List Entry) → x.id ≢ id → x ∷ without id xs ≡ without id (x ∷ xs)
without_later id x xs n = let test : Entry → Bool = λ y. not (y.id == id) in sym (ap (λ b. cond b (x ∷ filter test xs) (filter test xs)) (same_test _ _ n))

pub later_cut : (x e : Entry) (xs ys : List Entry) → IsCut xs e ys → IsCut (x ∷ xs) e (x ∷ ys)
later_cut x e xs ys c = record { prefix = x ∷ c.prefix; back = c.back; was = ap (λ (zs : List Entry). x ∷ zs) c.was; is = ap (λ (zs : List Entry). x ∷ zs) c.is }

-- ---- entries of slots
above : (n : ℕ) (slots : List (Option Sides)) → All (λ (e : Entry). n ≤ e.id) (entries_from n slots)
unfolding entries_from
above n [] = All-nil (λ (e : Entry). n ≤ e.id)
above n (None ∷ slots) = All-weaker (λ (e : Entry). n + 1 ≤ e.id) (λ (e : Entry). n ≤ e.id) (λ e l. omega arith) (entries_from (n + 1) slots) (above (n + 1) slots)
above n (Some s ∷ slots) =
    All-cons (λ (e : Entry). n ≤ e.id) (entry_of n s) (entries_from (n + 1) slots) (omega arith)
    (All-weaker (λ (e : Entry). n + 1 ≤ e.id) (λ (e : Entry). n ≤ e.id) (λ e l. omega arith) (entries_from (n + 1) slots) (above (n + 1) slots))

all_above : (n id : ℕ) (slots : List (Option Sides)) → id ≡ n → All (λ (e : Entry). id < e.id) (entries_from (n + 1) slots)
all_above n id slots h = All-weaker (λ (e : Entry). n + 1 ≤ e.id) (λ (e : Entry). id < e.id) (λ e l. omega arith) (entries_from (n + 1) slots) (above (n + 1) slots)

below : (n : ℕ) (slots : List (Option Sides)) → All (λ (e : Entry). e.id < n + length slots) (entries_from n slots)
unfolding entries_from
below n [] = All-nil (λ (e : Entry). e.id < n + 0)
below n (None ∷ slots) =
    All-weaker (λ (e : Entry). e.id < n + 1 + length slots) (λ (e : Entry). e.id < n + suc (length slots)) (λ e l. omega arith) (entries_from (n + 1) slots) (below (n + 1) slots)
below n (Some s ∷ slots) =
    All-cons (λ (e : Entry). e.id < n + suc (length slots)) (entry_of n s) (entries_from (n + 1) slots) (omega arith)
    (All-weaker (λ (e : Entry). e.id < n + 1 + length slots) (λ (e : Entry). e.id < n + suc (length slots)) (λ e l. omega arith) (entries_from (n + 1) slots) (below (n + 1) slots))

pub all_below : (id : ℕ) (slots : List (Option Sides)) → length slots ≤ id → All (λ (e : Entry). e.id < id) (entries_of slots)
all_below id slots h = All-weaker (λ (e : Entry). e.id < 0 + length slots) (λ (e : Entry). e.id < id) (λ e l. omega arith) (entries_of slots) (below 0 slots)

-- an empty slot more changes nothing
one_more : (n : ℕ) (slots : List (Option Sides)) → entries_from n (slots ++ None ∷ []) ≡ entries_from n slots
unfolding entries_from
one_more n [] = refl
one_more n (None ∷ slots) = one_more (n + 1) slots
one_more n (Some s ∷ slots) = ap (λ (es : List Entry). entry_of n s ∷ es) (one_more (n + 1) slots)

pub still : (slots : List (Option Sides)) → entries_of (slots ++ None ∷ []) ≡ entries_of slots
still slots = one_more 0 slots

-- a full slot more adds its entry
full_more : (n id : ℕ) (s : Sides) (slots : List (Option Sides)) → id ≡ n + length slots → entries_from n (slots ++ Some s ∷ []) ≡ entries_from n slots ++ entry_of id s ∷ []
unfolding entries_from
full_more n id s [] h = ap (λ i. entry_of i s ∷ []) (omega arith)
full_more n id s (None ∷ slots) h = full_more (n + 1) id s slots (omega arith)
full_more n id s (Some t ∷ slots) h = ap (λ (es : List Entry). entry_of n t ∷ es) (full_more (n + 1) id s slots (omega arith))

pub one_put : (id : ℕ) (s : Sides) (slots : List (Option Sides)) → id ≡ length slots → entries_of (slots ++ Some s ∷ []) ≡ entries_of slots ++ entry_of id s ∷ []
one_put id s slots h = full_more 0 id s slots (omega arith)

-- a box put into a slot
put_here : (n id : ℕ) (s : Sides) (slots : List (Option Sides)) → id ≡ n → entry_of n s ∷ entries_from (n + 1) slots ≡ placed (entry_of id s) (entries_from (n + 1) slots)
put_here n id s slots h = ap (λ i. entry_of i s ∷ entries_from (n + 1) slots) (sym h) ∙ before_all (entry_of id s) (entries_from (n + 1) slots) (all_above n id slots h)

put_from : (n id k : ℕ) (s : Sides) (slots : List (Option Sides)) → id ≡ n + k → k < length slots → entries_from n (set slots k (Some s)) ≡ placed (entry_of id s) (entries_from n slots)
unfolding entries_from
put_from n id k s [] h l = absurd (omega arith)
put_from n id zero s (None ∷ slots) h l = put_here n id s slots (omega arith)
put_from n id zero s (Some t ∷ slots) h l = put_here n id s slots (omega arith) ∙ in_place (entry_of id s) (entry_of n t) (entries_from (n + 1) slots) (omega arith)
put_from n id (suc k) s (None ∷ slots) h l = put_from (n + 1) id k s slots (omega arith) (omega arith)
put_from n id (suc k) s (Some t ∷ slots) h l =
    ap (λ (es : List Entry). entry_of n t ∷ es) (put_from (n + 1) id k s slots (omega arith) (omega arith)) ∙ after_first (entry_of id s) (entry_of n t) (entries_from (n + 1) slots) (omega arith)

pub put_slot : (id : ℕ) (s : Sides) (slots : List (Option Sides)) → id < length slots → entries_of (set slots id (Some s)) ≡ placed (entry_of id s) (entries_of slots)
put_slot id s slots l = put_from 0 id id s slots (omega arith) l

-- a slot that is emptied
take_from : (n id k : ℕ) (slots : List (Option Sides)) → id ≡ n + k → entries_from n (set slots k None) ≡ without id (entries_from n slots)
unfolding entries_from
take_from n id k [] h = refl
take_from n id zero (None ∷ slots) h =
    none_at id (entries_from (n + 1) slots) (All-weaker (λ (e : Entry). id < e.id) (λ (e : Entry). e.id ≢ id) (λ e l. omega arith) (entries_from (n + 1) slots) (all_above n id slots (omega arith)))
take_from n id zero (Some t ∷ slots) h = without_first id (entry_of n t) (entries_from (n + 1) slots) (omega arith) (all_above n n slots refl)
take_from n id (suc k) (None ∷ slots) h = take_from (n + 1) id k slots (omega arith)
take_from n id (suc k) (Some t ∷ slots) h =
    ap (λ (es : List Entry). entry_of n t ∷ es) (take_from (n + 1) id k slots (omega arith)) ∙ without_later id (entry_of n t) (entries_from (n + 1) slots) (omega arith)

pub take_slot : (id : ℕ) (slots : List (Option Sides)) → entries_of (set slots id None) ≡ without id (entries_of slots)
take_slot id slots = take_from 0 id id slots (omega arith)

-- what was in it
pub some_same : (a b : Sides) → Some a ≡ Some b → a ≡ b
some_same a b h = cc

cut_here : (n id : ℕ) (s t : Sides) (es : List Entry) → id ≡ n → t ≡ s → IsCut (entry_of n t ∷ es) (entry_of id s) es
cut_here n id s t es h e = record { prefix = []; back = es; was = ap (λ i. entry_of i t ∷ es) (sym h) ∙ ap (λ u. entry_of id u ∷ es) e; is = refl }

cut_from : (n id k : ℕ) (s : Sides) (slots : List (Option Sides)) (d : Option Sides) → id ≡ n + k → k < length slots → get_or slots k d ≡ Some s → IsCut (entries_from n slots) (entry_of id s) (entries_from n (set slots k None))
unfolding entries_from
cut_from n id k s [] d h l g = absurd (omega arith)
cut_from n id zero s (None ∷ slots) d h l g = cc
cut_from n id zero s (Some t ∷ slots) d h l g = cut_here n id s t (entries_from (n + 1) slots) (omega arith) (some_same t s g)
cut_from n id (suc k) s (None ∷ slots) d h l g = cut_from (n + 1) id k s slots d (omega arith) (omega arith) g
cut_from n id (suc k) s (Some t ∷ slots) d h l g =
    later_cut (entry_of n t) (entry_of id s) (entries_from (n + 1) slots) (entries_from (n + 1) (set slots k None)) (cut_from (n + 1) id k s slots d (omega arith) (omega arith) g)

pub cut_slot : (id : ℕ) (s : Sides) (slots : List (Option Sides)) (d : Option Sides) → id < length slots → get_or slots id d ≡ Some s → IsCut (entries_of slots) (entry_of id s) (entries_of (set slots id None))
cut_slot id s slots d l g = cut_from 0 id id s slots d (omega arith) l g

none_from : (n k : ℕ) (slots : List (Option Sides)) (d : Option Sides) → get_or slots k d ≡ None → entries_from n (set slots k None) ≡ entries_from n slots
unfolding entries_from
none_from n k [] d g = refl
none_from n zero (None ∷ slots) d g = refl
none_from n zero (Some t ∷ slots) d g = cc
none_from n (suc k) (None ∷ slots) d g = none_from (n + 1) k slots d g
none_from n (suc k) (Some t ∷ slots) d g = ap (λ (es : List Entry). entry_of n t ∷ es) (none_from (n + 1) k slots d g)

pub none_slot : (id : ℕ) (slots : List (Option Sides)) (d : Option Sides) → get_or slots id d ≡ None → entries_of (set slots id None) ≡ entries_of slots
none_slot id slots d g = none_from 0 id slots d g

pub no_slots : (slots : List (Option Sides)) → slots ≡ [] → entries_of slots ≡ []
unfolding entries_from
no_slots slots h = ap entries_of h
