-- The ids that a board keeps of a net.
use Rattle.std.proofs.Common.{◌≡◌, ℕ, ◌+◌, ◌<◌, ◌≤◌, Bool, true, false, cond, nat_eq, List, [], ◌∷◌, length, get_or, take, map, filter, All, Contains, Some, inl, inr, refl, sym, subst, ap, ◌∙◌, arith}
use Rattle.std.proofs.lemmas.Bool.{eqb-true}
use Rattle.std.proofs.lemmas.List.{get_or_default, get_or-take, length-take}
use Rattle.std.proofs.lemmas.List.Kept.{AllPairs-cons}
use Rattle.std.proofs.lemmas.List.Elements.{Contains-get_or}
use Rattle.one_item.specs.declared.item.Item.{Item}
use Rattle.board_items.specs.Boards.{PlainBoard, IsSound, Rise, AllAdmitted, is_admitted, item_at, ids_where, ids_of_net}
use Rattle.board_items.proofs.Rising.{rise_ends}
use Rattle.net_groups.specs.ConnectedClasses.{Rises}
use Rattle.net_groups.proofs.Conductors.{contains_here, contains_later, contains_cases, contains_nothing}

-- ---- ids of the items that pass a test
module _ (test : Item → Bool) where
  from_low : (low high : ℕ) (es : List (ℕ × Item)) → Rise low high es → (a : ℕ) → Contains (ids_where test es) a → low ≤ a
  from_low low high [] rise a c = absurd (contains_nothing a c)
  from_low low high (e ∷ es) rise a c = by (test e.1) c (λ d. let up = from_low (e.0 + 1) high es rise.1 a d in let first = rise.0 in omega arith)
    where
      by : (b : Bool) → Contains (map (λ (x : ℕ × Item). x.0) (cond b (e ∷ filter (λ (x : ℕ × Item). test x.1) es) (filter (λ (x : ℕ × Item). test x.1) es))) a
          → (Contains (ids_where test es) a → low ≤ a) → low ≤ a
      by true d on = elim (contains_cases e.0 (ids_where test es) a d) [
        | inl same ↦ subst (λ (k : ℕ). low ≤ k) same rise.0
        | inr more ↦ on more
      ]
      by false d on = on d

  pub ids_rise : (low high : ℕ) (es : List (ℕ × Item)) → Rise low high es → Rises (ids_where test es)
  ids_rise low high [] rise = λ i j d lt past. absurd (omega arith)
  ids_rise low high (e ∷ es) rise = by (test e.1) (ids_rise (e.0 + 1) high es rise.1)
    where
      above : All (λ b. e.0 < b) (ids_where test es)
      above k d lt = let up = from_low (e.0 + 1) high es rise.1 (get_or (ids_where test es) k d) (Contains-get_or (ids_where test es) k d lt) in omega arith

      by : (b : Bool) → Rises (ids_where test es) → Rises (map (λ (x : ℕ × Item). x.0) (cond b (e ∷ filter (λ (x : ℕ × Item). test x.1) es) (filter (λ (x : ℕ × Item). test x.1) es)))
      by true more = AllPairs-cons (λ a b. a < b) e.0 (ids_where test es) above more
      by false more = more

  pub ids_few : (es : List (ℕ × Item)) → length (ids_where test es) ≤ length es
  ids_few [] = omega arith
  ids_few (e ∷ es) = by (test e.1) (ids_few es)
    where
      by : (b : Bool) → length (ids_where test es) ≤ length es → length (map (λ (x : ℕ × Item). x.0) (cond b (e ∷ filter (λ (x : ℕ × Item). test x.1) es) (filter (λ (x : ℕ × Item). test x.1) es))) ≤ length (e ∷ es)
      by true more = omega arith
      by false more = omega arith

  pub ids_has : (es : List (ℕ × Item)) (id : ℕ) (item : Item) → item_at es id ≡ Some item → test item ≡ true → Contains (ids_where test es) id
  ids_has [] id item found is = absurd (cc)
  ids_has (e ∷ es) id item found is = by_id (nat_eq id e.0) refl found (ids_has es id item)
    where
      by_id : (b : Bool) → nat_eq id e.0 ≡ b → cond b (Some e.1) (item_at es id) ≡ Some item → (item_at es id ≡ Some item → test item ≡ true → Contains (ids_where test es) id)
          → Contains (map (λ (x : ℕ × Item). x.0) (cond (test e.1) (e ∷ filter (λ (x : ℕ × Item). test x.1) es) (filter (λ (x : ℕ × Item). test x.1) es))) id
      by_id true same f on =
          let one : e.1 ≡ item = cc in
          let its : test e.1 ≡ true = ap test one ∙ is in
          subst (λ (b : Bool). Contains (map (λ (x : ℕ × Item). x.0) (cond b (e ∷ filter (λ (x : ℕ × Item). test x.1) es) (filter (λ (x : ℕ × Item). test x.1) es))) id) (sym its)
          (subst (Contains (e.0 ∷ ids_where test es)) (sym (eqb-true id e.0 same)) (contains_here e.0 (ids_where test es)))
      by_id false other f on = by_test (test e.1) (on f is)
        where
          by_test : (b : Bool) → Contains (ids_where test es) id → Contains (map (λ (x : ℕ × Item). x.0) (cond b (e ∷ filter (λ (x : ℕ × Item). test x.1) es) (filter (λ (x : ℕ × Item). test x.1) es))) id
          by_test true c = contains_later e.0 (ids_where test es) id c
          by_test false c = c

-- ---- how many conductors there are
filter_few : (p : ℕ → Bool) (ids : List ℕ) → length (filter p ids) ≤ length ids
filter_few p [] = omega arith
filter_few p (id ∷ ids) = by (p id) (filter_few p ids)
  where
    by : (b : Bool) → length (filter p ids) ≤ length ids → length (cond b (id ∷ filter p ids) (filter p ids)) ≤ length (id ∷ ids)
    by true less = omega arith
    by false less = omega arith

pub conductors_few : (board : PlainBoard) (net : ℕ) → IsSound board → (p : ℕ → Bool) (k : ℕ) (ids : List ℕ) → ids ≡ filter p (take k (ids_of_net net board.items)) → length ids < 4294967296
conductors_few board net sound p k ids e =
    omega (arith, ap length e, filter_few p (take k (ids_of_net net board.items)), length-take k (ids_of_net net board.items), ids_few (λ item. nat_eq item.net net) board.items, sound.few)

-- ---- items of a board
pub found_below : (low high : ℕ) (es : List (ℕ × Item)) → Rise low high es → (id : ℕ) (item : Item) → item_at es id ≡ Some item → id < high
found_below low high [] rise id item f = absurd (cc)
found_below low high (e ∷ es) rise id item f = by (nat_eq id e.0) refl f (found_below (e.0 + 1) high es rise.1 id item)
  where
    by : (b : Bool) → nat_eq id e.0 ≡ b → cond b (Some e.1) (item_at es id) ≡ Some item → (item_at es id ≡ Some item → id < high) → id < high
    by true same g on = let at = eqb-true id e.0 same in let end = rise_ends (e.0 + 1) high es rise.1 in omega arith
    by false other g on = on g

pub found_admitted : (b : PlainBoard) (es : List (ℕ × Item)) → AllAdmitted b es → (id : ℕ) (item : Item) → item_at es id ≡ Some item → is_admitted b item ≡ true
found_admitted b [] h id item f = absurd (cc)
found_admitted b (e ∷ es) h id item f = by (nat_eq id e.0) f (found_admitted b es h.1 id item)
  where
    by : (t : Bool) → cond t (Some e.1) (item_at es id) ≡ Some item → (item_at es id ≡ Some item → is_admitted b item ≡ true) → is_admitted b item ≡ true
    by true g on = let one : e.1 ≡ item = cc in subst (λ (i : Item). is_admitted b i ≡ true) one h.0
    by false g on = on g

-- ---- ids that rise
pub below_next : (ids : List ℕ) (k : ℕ) → Rises ids → k < length ids → (a : ℕ) → Contains (take k ids) a → a < get_or ids k 0
below_next ids k up lt a c =
    let within : c.0 < length (take k ids) = c.1 in
    let before : c.0 < k = let len = length-take k ids in omega arith in
    let is : get_or ids c.0 0 ≡ a = sym (get_or-take k ids c.0 0 before) ∙ (get_or_default (take k ids) c.0 0 a within ∙ c.2) in
    subst (λ b. b < get_or ids k 0) is (up c.0 k 0 before lt)
