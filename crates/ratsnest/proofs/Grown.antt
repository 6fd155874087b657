-- Each step of the search keeps what holds of it.
use Rattle.std.proofs.Common.{◌≡◌, ◌≢◌, ℕ, zero, suc, ◌+◌, ◌*◌, ◌≤◌, ◌<◌, ◌⊎◌, Bool, true, false, cond, List, [], ◌∷◌, length, get_or, set, replicate, count_by, inl, inr, refl, sym, ◌∙◌, ap, subst, arith, true≢false, Contains}
use Rattle.std.proofs.lemmas.Bool.{cases_lt, cases_Bool}
use Rattle.std.proofs.lemmas.List.{get_or-set_same, get_or-replicate, length-set, length-replicate, same_lists, get_or_default, get_or_past}
use Rattle.std.proofs.lemmas.List.Elements.{All-contains}
use Rattle.std.proofs.lemmas.List.Sums.{sum_by-set}
use Rattle.std.proofs.lemmas.List.Folds.{sum_by-replicate}
use Rattle.ratsnest.specs.declared.anchor.Anchor.{Anchor}
use Rattle.ratsnest.specs.declared.link.Link.{Link}
use Rattle.ratsnest.specs.Mem.{Mem, Climbs}
use Rattle.ratsnest.specs.NestOf.{group_at, group_count, AnchorsRise, GroupsOccur, IsLink, InNest, Precedes}
use Rattle.ratsnest.specs.declared.waiting.Waiting.{Waiting}
use Rattle.ratsnest.specs.Grow.{rank, link_at, rank_at, is_reached, StandsFor, IsFromFirst, AreFirst, IsReach, IsHeld, IsGrown, AreChosen}
use Rattle.ratsnest.proofs.Stands.{no_less_to}
use Rattle.ratsnest.proofs.Waits.{IsPlaced, Near, group_is, set_reached, set_reached_back, held_after, whole_after}
use Rattle.ratsnest.proofs.Theory.{chain_keeps}
use Rattle.ratsnest.proofs.Order.{IsLink-at, ends_of, rank_from_first, rank_from_second, same_rank, precedes_rank}

abbrev flag : Bool → ℕ
flag b = cond b 1 0

-- one flag more
counted_more : (xs : List Bool) (i : ℕ) → i < length xs → get_or xs i false ≡ false → count_by (λ b. b) (set xs i true) ≡ count_by (λ b. b) xs + 1
counted_more xs i l h =
    let e : count_by (λ b. b) (set xs i true) + flag (get_or xs i false) ≡ count_by (λ b. b) xs + 1 =
    sum_by-set flag xs i true false l in
    let z : flag (get_or xs i false) ≡ 0 = ap flag h in
    omega arith

pub counted_one : (n i : ℕ) → i < n → count_by (λ b. b) (set (replicate n false) i true) ≡ 1
counted_one n i l =
    let len : length (replicate n false) ≡ n = length-replicate n false in
    let none : count_by (λ b. b) (replicate n false) ≡ n * 0 = sum_by-replicate flag n false in
    let more : count_by (λ b. b) (set (replicate n false) i true) ≡ count_by (λ b. b) (replicate n false) + 1 =
    counted_more (replicate n false) i (omega arith) (get_or-replicate n i false false l) in
    omega arith

pub counted_all : (xs : List Bool) → ((i : ℕ) → i < length xs → get_or xs i false ≡ true) → count_by (λ b. b) xs ≡ length xs
counted_all xs h =
    let e : xs ≡ replicate (length xs) true =
    same_lists xs (replicate (length xs) true) (sym (length-replicate (length xs) true))
    (λ k d l. get_or_default xs k d false l ∙ h k l ∙ sym (get_or-replicate (length xs) k true d l)) in
    let n : count_by (λ b. b) (replicate (length xs) true) ≡ length xs * 1 = sum_by-replicate flag (length xs) true in
    ap (count_by (λ b. b)) e ∙ n ∙ omega arith

-- each anchor's group is below the count
pub group_below : (anchors : List Anchor) (i : ℕ) → i < length anchors → group_at anchors i < group_count anchors
unfolding group_at group_count
group_below [] i h = absurd (omega arith)
group_below (a ∷ more) zero h = omega arith
group_below (a ∷ more) (suc i) h = omega (arith, group_below more i (omega arith))

module _ {anchors : List Anchor} {reached : List Bool} {waiting : List Waiting} {links : List Link} where
  held_at : IsGrown anchors reached waiting links → (w : Waiting) → Contains waiting w → IsHeld anchors reached w
  held_at g w c = All-contains (IsHeld anchors reached) waiting w g.held c

  placed : IsGrown anchors reached waiting links → (w : Waiting) → Contains waiting w → IsPlaced anchors reached w
  placed g w c = ((held_at g w c).within, (held_at g w c).anchor, (held_at g w c).outside)

  near : (group : ℕ) → ((q : ℕ) → get_or reached q false ≡ true → get_or (set reached group true) q false ≡ true) → IsGrown anchors reached waiting links →
      (w : Waiting) → Contains waiting w → Near anchors (set reached group true) w
  near group keep g w c = let n : Near anchors reached w = (held_at g w c).near in (n.0, n.1, keep (group_at anchors n.0) n.2, n.3)

module _ (anchors : List Anchor) (rise : AnchorsRise anchors) (few : length anchors < 4294967296) where
  module _ (reached : List Bool) (i j : ℕ) (hi : i < length anchors) (hj : j < length anchors)
      (inside : is_reached anchors reached i ≡ true) (outside : is_reached anchors reached j ≡ false)
      (least : (a b : ℕ) → a < length anchors → b < length anchors → is_reached anchors reached a ≡ true → is_reached anchors reached b ≡ false →
      rank_at anchors i j ≤ rank_at anchors a b) where
    next_is_link : IsLink anchors (link_at anchors i j)
    next_is_link = IsLink-at anchors i j hi hj (λ q. true≢false (sym inside ∙ ap (λ z. get_or reached z false) q ∙ outside))

    -- the ends of a lesser link are both reached, or both not
    lesser_stays : (f : Link) → IsLink anchors f → rank f < rank_at anchors i j → is_reached anchors reached f.first ≡ is_reached anchors reached f.second
    lesser_stays f k less =
        let low : f.first < f.second = k.in_order in
        let high : f.second < length anchors = k.within in
        elim (cases_Bool (is_reached anchors reached f.first)) [
          | inl a ↦ elim (cases_Bool (is_reached anchors reached f.second)) [
            | inl b ↦ a ∙ sym b
            | inr b ↦ absurd (omega (arith, least f.first f.second (omega arith) high a b, rank_from_first anchors f k))
          ]
          | inr a ↦ elim (cases_Bool (is_reached anchors reached f.second)) [
            | inl b ↦ absurd (omega (arith, least f.second f.first high (omega arith) b a, rank_from_second anchors f k))
            | inr b ↦ a ∙ sym b
          ]
        ]

    -- the least link that leaves what is reached is in the nest
    next_in_nest : InNest anchors (link_at anchors i j)
    next_in_nest =
        let e : Link = link_at anchors i j in
        record {
          link = next_is_link;
          alone = λ c.
              let same : is_reached anchors reached e.first ≡ is_reached anchors reached e.second =
              chain_keeps (λ (l : Link). group_at anchors l.first) (λ (l : Link). group_at anchors l.second)
              (λ m. IsLink anchors m × Precedes anchors m e) (λ q. get_or reached q false)
              (λ f p. lesser_stays f p.0 (precedes_rank anchors rise few f e p.0 next_is_link p.1)) c in
              elim (ends_of anchors i j) [
                | inl q ↦ true≢false (sym inside ∙ sym (ap (is_reached anchors reached) q.0) ∙ same ∙ ap (is_reached anchors reached) q.1 ∙ outside)
                | inr q ↦ true≢false (sym inside ∙ sym (ap (is_reached anchors reached) q.1) ∙ sym same ∙ ap (is_reached anchors reached) q.0 ∙ outside)
              ];
        }

    new_link : (links : List Link) → ((l : Link) → Mem l links → InNest anchors l) →
        ((l : Link) → Mem l links → (is_reached anchors reached l.first ≡ true) × (is_reached anchors reached l.second ≡ true)) →
        (l : Link) → Mem l links → rank l ≢ rank_at anchors i j
    new_link links nest reaches l m q =
        let e : Link = link_at anchors i j in
        let kl : IsLink anchors l = (nest l m).link in
        let lo : l.first < l.second = kl.in_order in
        let lw : l.second < length anchors = kl.within in
        let eo : e.first < e.second = next_is_link.in_order in
        let ew : e.second < length anchors = next_is_link.within in
        let same : l ≡ e = same_rank (length anchors) few l e (omega arith) lw (omega arith) ew q in
        elim (ends_of anchors i j) [
          | inl p ↦ true≢false (sym (reaches l m).1 ∙ ap (λ (z : Link). is_reached anchors reached z.second) same ∙ ap (is_reached anchors reached) p.1 ∙ outside)
          | inr p ↦ true≢false (sym (reaches l m).0 ∙ ap (λ (z : Link). is_reached anchors reached z.first) same ∙ ap (is_reached anchors reached) p.0 ∙ outside)
        ]

    grown_step : group_at anchors j < length reached → (waiting : List Waiting) (links : List Link) → IsGrown anchors reached waiting links →
        (waiting' : List Waiting) (links' : List Link) → IsReach (group_at anchors j) waiting waiting' →
        Climbs rank links' → length links' ≡ length links + 1 →
        ((l : Link) → (Mem l links ⊎ (l ≡ link_at anchors i j)) → Mem l links') →
        ((l : Link) → Mem l links' → Mem l links ⊎ (l ≡ link_at anchors i j)) →
        IsGrown anchors (set reached (group_at anchors j) true) waiting' links'
    grown_step fits waiting links g waiting' links' r climbs more whole sound =
        let here : get_or (set reached (group_at anchors j) true) (group_at anchors j) false ≡ true = get_or-set_same reached (group_at anchors j) true false fits in
        let keep : (q : ℕ) → get_or reached q false ≡ true → get_or (set reached (group_at anchors j) true) q false ≡ true =
        λ q. set_reached reached (group_at anchors j) q fits in
        let base : get_or (set reached (group_at anchors j) true) (group_at anchors i) false ≡ true =
        keep (group_at anchors i) inside in
        record {
          flags = length-set reached (group_at anchors j) true ∙ g.flags;
          counted = counted_more reached (group_at anchors j) fits outside ∙ ap (λ z. z + 1) g.counted ∙ sym (ap (λ z. z + 1) more);
          climbs = climbs;
          nest = λ l m. elim (sound l m) [ inl o ↦ g.nest l o | inr e ↦ subst (λ z. InNest anchors z) (sym e) next_in_nest ];
          inside = λ l m. elim (sound l m) [
            | inl o ↦ (keep _ (g.inside l o).0, keep _ (g.inside l o).1)
            | inr e ↦ elim (ends_of anchors i j) [
              | inl p ↦ (
                ap (λ (z : Link). is_reached anchors (set reached (group_at anchors j) true) z.first) e ∙ ap (is_reached anchors (set reached (group_at anchors j) true)) p.0 ∙ base,
                ap (λ (z : Link). is_reached anchors (set reached (group_at anchors j) true) z.second) e ∙ ap (is_reached anchors (set reached (group_at anchors j) true)) p.1 ∙ here,
              )
              | inr p ↦ (
                ap (λ (z : Link). is_reached anchors (set reached (group_at anchors j) true) z.first) e ∙ ap (is_reached anchors (set reached (group_at anchors j) true)) p.0 ∙ here,
                ap (λ (z : Link). is_reached anchors (set reached (group_at anchors j) true) z.second) e ∙ ap (is_reached anchors (set reached (group_at anchors j) true)) p.1 ∙ base,
              )
            ]
          ];
          joined = λ c resp q r hq hr.
              let e : Link = link_at anchors i j in
              let across : c (group_at anchors e.first) ≡ c (group_at anchors e.second) = resp e (whole e (inr refl)) in
              let over : c (group_at anchors j) ≡ c (group_at anchors i) =
              elim (ends_of anchors i j) [
                | inl p ↦ sym (ap (λ z. c (group_at anchors z)) p.1) ∙ sym across ∙ ap (λ z. c (group_at anchors z)) p.0
                | inr p ↦ sym (ap (λ z. c (group_at anchors z)) p.0) ∙ across ∙ ap (λ z. c (group_at anchors z)) p.1
              ] in
              let to : (s : ℕ) → get_or (set reached (group_at anchors j) true) s false ≡ true → c s ≡ c (group_at anchors i) =
              λ s hs. elim (set_reached_back reached (group_at anchors j) s hs) [
                | inl o ↦ g.joined c (λ l m. resp l (whole l (inl m))) s (group_at anchors i) o inside
                | inr u ↦ ap c u ∙ over
              ] in
              to q hq ∙ sym (to r hr);
          held = held_after anchors reached (group_at anchors j) fits outside waiting waiting' r (placed g) (near (group_at anchors j) keep g) (λ w c. (held_at g w c).least) g.whole;
          whole = whole_after anchors reached (group_at anchors j) fits outside waiting waiting' r (placed g) (near (group_at anchors j) keep g) (λ w c. (held_at g w c).least) g.whole;
        }

  -- the group of what waits with the least link is reached
  module _ (reached : List Bool) (waiting : List Waiting) (links : List Link) (g : IsGrown anchors reached waiting links) (e : Waiting) (c : Contains waiting e)
      (n : (k : ℕ) (d : Waiting) → k < length waiting → rank e.link ≤ rank (get_or waiting k d).link) where
    -- a link from an anchor that is reached to one that is not is no less
    least_leaving : (a b : ℕ) → a < length anchors → b < length anchors → is_reached anchors reached a ≡ true → is_reached anchors reached b ≡ false →
        rank e.link ≤ rank_at anchors a b
    least_leaving a b ha hb ra ub =
        let w : (w : Waiting) × Contains waiting w × StandsFor anchors w.place b = g.whole b hb ub in
        let le : rank e.link ≤ rank w.0.link = subst (λ (z : Waiting). rank e.link ≤ rank z.link) w.1.2 (n w.1.0 w.0 w.1.1) in
        let far : rank w.0.link ≤ rank_at anchors a w.0.place = (held_at g w.0 w.1).least a ha ra in
        omega (arith, le, far, no_less_to anchors w.0.place b a w.2)

    pub next_is_new : (l : Link) → Mem l links → rank l ≢ rank e.link
    next_is_new =
        let h : IsHeld anchors reached e = held_at g e c in
        let least : (a b : ℕ) → a < length anchors → b < length anchors → is_reached anchors reached a ≡ true → is_reached anchors reached b ≡ false →
        rank_at anchors h.near.0 e.place ≤ rank_at anchors a b =
        subst (λ (z : Link). (a b : ℕ) → a < length anchors → b < length anchors → is_reached anchors reached a ≡ true → is_reached anchors reached b ≡ false →
        rank z ≤ rank_at anchors a b) h.near.3 least_leaving in
        subst (λ (z : Link). (l : Link) → Mem l links → rank l ≢ rank z) (sym h.near.3)
        (new_link reached h.near.0 e.place h.near.1 h.within h.near.2 h.outside least links g.nest g.inside)

    pub group_fits : e.anchor.group < length reached
    group_fits =
        let h : IsHeld anchors reached e = held_at g e c in
        subst (λ z. z < length reached) (sym (group_is anchors e h.anchor)) (omega (arith, group_below anchors e.place h.within, g.flags))

    pub grown_taken : (waiting' : List Waiting) (links' : List Link) → IsReach e.anchor.group waiting waiting' →
        Climbs rank links' → length links' ≡ length links + 1 →
        ((l : Link) → (Mem l links ⊎ (l ≡ e.link)) → Mem l links') →
        ((l : Link) → Mem l links' → Mem l links ⊎ (l ≡ e.link)) →
        IsGrown anchors (set reached e.anchor.group true) waiting' links'
    grown_taken waiting' links' r climbs more whole sound =
        let h : IsHeld anchors reached e = held_at g e c in
        let is : e.anchor.group ≡ group_at anchors e.place = group_is anchors e h.anchor in
        let least : (a b : ℕ) → a < length anchors → b < length anchors → is_reached anchors reached a ≡ true → is_reached anchors reached b ≡ false →
        rank_at anchors h.near.0 e.place ≤ rank_at anchors a b =
        subst (λ (z : Link). (a b : ℕ) → a < length anchors → b < length anchors → is_reached anchors reached a ≡ true → is_reached anchors reached b ≡ false →
        rank z ≤ rank_at anchors a b) h.near.3 least_leaving in
        subst (λ z. IsGrown anchors (set reached z true) waiting' links') (sym is)
        (grown_step reached h.near.0 e.place h.near.1 h.within h.near.2 h.outside least
        (subst (λ z. z < length reached) is group_fits) waiting links g waiting' links' (subst (λ z. IsReach z waiting waiting') is r) climbs more
        (subst (λ (z : Link). (l : Link) → (Mem l links ⊎ (l ≡ z)) → Mem l links') h.near.3 whole)
        (subst (λ (z : Link). (l : Link) → Mem l links' → Mem l links ⊎ (l ≡ z)) h.near.3 sound))

none_reached : (m q : ℕ) → get_or (replicate m false) q false ≡ false
none_reached m q = elim (cases_lt q m) [
  | inl h ↦ get_or-replicate m q false false h
  | inr h ↦ get_or_past (replicate m false) q false (omega (arith, length-replicate m false))
]

module _ (anchors : List Anchor) where
  pub grown_start : 0 < length anchors → group_at anchors 0 < group_count anchors → (old new : List Waiting) → AreFirst anchors (length anchors) old → IsReach (group_at anchors 0) old new →
      IsGrown anchors (set (replicate (group_count anchors) false) (group_at anchors 0) true) new []
  grown_start some fits old new first r =
      let m : ℕ = group_count anchors in
      let flags : length (replicate m false) ≡ m = length-replicate m false in
      let in_flags : group_at anchors 0 < length (replicate m false) = omega arith in
      let here : get_or (set (replicate m false) (group_at anchors 0) true) (group_at anchors 0) false ≡ true =
      get_or-set_same (replicate m false) (group_at anchors 0) true false in_flags in
      let only : (q : ℕ) → get_or (set (replicate m false) (group_at anchors 0) true) q false ≡ true → q ≡ group_at anchors 0 =
      λ q h. elim (set_reached_back (replicate m false) (group_at anchors 0) q h) [
        | inl o ↦ absurd (true≢false (sym o ∙ none_reached m q))
        | inr e ↦ e
      ] in
      let first_of : (w : Waiting) → Contains old w → (w.place < length anchors) × IsFromFirst anchors w.place w =
      λ w c. All-contains (λ (w : Waiting). (w.place < length anchors) × IsFromFirst anchors w.place w) old w first.each c in
      let placed : (w : Waiting) → Contains old w → IsPlaced anchors (replicate m false) w =
      λ w c. ((first_of w c).0, (first_of w c).1.anchor, none_reached m (group_at anchors w.place)) in
      let near : (w : Waiting) → Contains old w → Near anchors (set (replicate m false) (group_at anchors 0) true) w =
      λ w c. (0, some, here, (first_of w c).1.link) in
      let least : (w : Waiting) → Contains old w → (i : ℕ) → i < length anchors → is_reached anchors (replicate m false) i ≡ true → rank w.link ≤ rank_at anchors i w.place =
      λ w c i hi re. absurd (true≢false (sym re ∙ none_reached m (group_at anchors i))) in
      let whole : (j : ℕ) → j < length anchors → is_reached anchors (replicate m false) j ≡ false → (w : Waiting) × Contains old w × StandsFor anchors w.place j =
      λ j hj un. first.whole j hj in
      record {
        flags = length-set (replicate m false) (group_at anchors 0) true ∙ flags;
        counted = counted_one m (group_at anchors 0) fits ∙ omega arith;
        climbs = tt;
        nest = λ l z. absurd z;
        inside = λ l z. absurd z;
        joined = λ c resp q r hq hr. ap c (only q hq) ∙ sym (ap c (only r hr));
        held = held_after anchors (replicate m false) (group_at anchors 0) in_flags (none_reached m (group_at anchors 0)) old new r placed near least whole;
        whole = whole_after anchors (replicate m false) (group_at anchors 0) in_flags (none_reached m (group_at anchors 0)) old new r placed near least whole;
      }

  pub grown_end : GroupsOccur anchors → (reached : List Bool) (waiting : List Waiting) (links : List Link) → IsGrown anchors reached waiting links →
      length waiting ≡ 0 → AreChosen anchors links
  grown_end occur reached waiting links g none =
      let all : (k : ℕ) → k < length anchors → is_reached anchors reached k ≡ true =
      λ k hk. elim (cases_Bool (is_reached anchors reached k)) [
        | inl y ↦ y
        | inr u ↦ let w : (w : Waiting) × Contains waiting w × StandsFor anchors w.place k = g.whole k hk u in absurd (omega (arith, w.1.1))
      ] in
      let each : (q : ℕ) → q < group_count anchors → get_or reached q false ≡ true =
      λ q h. let i : (i : ℕ) × (i < length anchors) × (group_at anchors i ≡ q) = occur q h in
      sym (ap (λ z. get_or reached z false) i.2) ∙ all i.0 i.1 in
      let full : count_by (λ b. b) reached ≡ length reached = counted_all reached (λ q h. each q (let f : length reached ≡ group_count anchors = g.flags in omega arith)) in
      record {
        counted = omega (arith, g.counted, full, g.flags);
        climbs = g.climbs;
        nest = g.nest;
        joined = λ c resp q r hq hr. g.joined c resp q r (each q hq) (each r hr);
      }

-- with one group, or none, nothing is chosen
pub chosen_few : (anchors : List Anchor) → group_count anchors < 2 → AreChosen anchors []
chosen_few anchors h = record {
  counted = omega arith;
  climbs = tt;
  nest = λ l m. absurd m;
  joined = λ c resp p q hp hq. ap c (omega arith);
}

none_counted : (anchors : List Anchor) → length anchors ≡ 0 → group_count anchors ≡ 0
unfolding group_count
none_counted [] h = refl
none_counted (a ∷ more) h = absurd (omega arith)

pub some_anchor : (anchors : List Anchor) → 2 ≤ group_count anchors → 0 < length anchors
some_anchor anchors h = elim (cases_lt 0 (length anchors)) [ inl l ↦ l | inr n ↦ let z : group_count anchors ≡ 0 = none_counted anchors (omega arith) in absurd (omega arith) ]
