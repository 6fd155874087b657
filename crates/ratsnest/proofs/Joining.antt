-- Each step of the check keeps what the labels and the links are.
use Rattle.std.proofs.Common.{◌≡◌, ◌≢◌, ℕ, ◌+◌, ◌≤◌, ◌<◌, cond, nat_eq, List, [], ◌∷◌, ◌++◌, length, get_or, take, reverse, sym, ◌∙◌, ap, subst, arith}
use Rattle.std.proofs.lemmas.List.{take_more, reverse-append, take_all, get_or_default}
use Rattle.ratsnest.proofs.Members.{Mem-get_or}
use Rattle.ratsnest.proofs.Grown.{group_below}
use mathlib.Core.List.{reverse-cons}
use Rattle.ratsnest.specs.declared.anchor.Anchor.{Anchor}
use Rattle.ratsnest.specs.declared.link.Link.{Link}
use Rattle.ratsnest.specs.Mem.{Drops}
use Rattle.ratsnest.specs.NestOf.{group_at, group_count, AnchorsRise, IsLink, IsNest}
use Rattle.ratsnest.specs.Grow.{rank, AreAllLinks, AreOwnLabels}
use Rattle.ratsnest.proofs.Theory
use Rattle.ratsnest.proofs.Whole.{from, to, IsListed, greedy_is_nest, nest_from, Climbs-reverse, Drops-reverse, Mem-reverse}

-- the links before the place i, from the greatest down
abbrev pub seen : List Link → ℕ → List Link
seen links i = reverse (take i links)

abbrev pub label : List Anchor → List Link → ℕ → ℕ → ℕ
label anchors links i g = Theory.labels (from anchors) (to anchors) (seen links i) g

-- what the labels and the links are after the links before the place i
pub record IsJoined (anchors : List Anchor) (links : List Link) (i : ℕ) (labels : List ℕ) (nest : List Link) : Type 0 where
  pub count : length labels ≡ group_count anchors
  pub labels_are : (g : ℕ) → g < length labels → get_or labels g 0 ≡ label anchors links i g
  pub nest_is : nest ≡ reverse (Theory.greedy (from anchors) (to anchors) (seen links i))

seen_more : (links : List Link) (i : ℕ) (d : Link) → i < length links → seen links (i + 1) ≡ get_or links i d ∷ seen links i
seen_more links i d h = ap reverse (take_more links i d h) ∙ reverse-append (take i links) (get_or links i d ∷ [])

module _ (anchors : List Anchor) (links : List Link) (i : ℕ) (l : Link) (inside : i < length links) (is : l ≡ get_or links i l) (labels : List ℕ) (nest : List Link)
    (fit : (group_at anchors l.first < length labels) × (group_at anchors l.second < length labels)) (h : IsJoined anchors links i labels nest) where
  next : seen links (i + 1) ≡ l ∷ seen links i
  next = seen_more links i l inside ∙ ap (λ z. z ∷ seen links i) (sym is)

  pub joined_same : get_or labels (group_at anchors l.first) 0 ≡ get_or labels (group_at anchors l.second) 0 → IsJoined anchors links (i + 1) labels nest
  joined_same e =
      let j : label anchors links i (group_at anchors l.first) ≡ label anchors links i (group_at anchors l.second) =
      sym (h.labels_are (group_at anchors l.first) fit.0) ∙ e ∙ h.labels_are (group_at anchors l.second) fit.1 in
      record {
        count = h.count;
        labels_are = λ g k. h.labels_are g k
            ∙ sym (ap (λ z. Theory.labels (from anchors) (to anchors) z g) next ∙ Theory.labels_joined (from anchors) (to anchors) l (seen links i) g j);
        nest_is = h.nest_is ∙ ap reverse (sym (ap (Theory.greedy (from anchors) (to anchors)) next ∙ Theory.greedy_joined (from anchors) (to anchors) l (seen links i) j));
      }

  pub joined_more : get_or labels (group_at anchors l.first) 0 ≢ get_or labels (group_at anchors l.second) 0 → (labels' : List ℕ) → length labels' ≡ length labels →
      ((g : ℕ) → g < length labels' → get_or labels' g 0 ≡
      cond (nat_eq (get_or labels g 0) (get_or labels (group_at anchors l.first) 0)) (get_or labels (group_at anchors l.second) 0) (get_or labels g 0)) →
      IsJoined anchors links (i + 1) labels' (nest ++ l ∷ [])
  joined_more ne labels' len new =
      let a : label anchors links i (group_at anchors l.first) ≢ label anchors links i (group_at anchors l.second) =
      λ e. ne (h.labels_are (group_at anchors l.first) fit.0 ∙ e ∙ sym (h.labels_are (group_at anchors l.second) fit.1)) in
      record {
        count = len ∙ h.count;
        labels_are = λ g k. let kk : g < length labels = omega arith in
            new g k
            ∙ rw (h.labels_are g kk, h.labels_are (group_at anchors l.first) fit.0, h.labels_are (group_at anchors l.second) fit.1)
            (sym (ap (λ z. Theory.labels (from anchors) (to anchors) z g) next ∙ Theory.labels_apart (from anchors) (to anchors) l (seen links i) g));
        nest_is = ap (λ z. z ++ l ∷ []) h.nest_is
            ∙ sym (reverse-cons l (Theory.greedy (from anchors) (to anchors) (seen links i)))
            ∙ ap reverse (sym (ap (Theory.greedy (from anchors) (to anchors)) next ∙ Theory.greedy_apart (from anchors) (to anchors) l (seen links i) a));
      }

pub joined_none : (anchors : List Anchor) (links : List Link) (labels : List ℕ) → AreOwnLabels anchors labels → IsJoined anchors links 0 labels []
joined_none anchors links labels own = record {
  count = own.count;
  labels_are = λ g k. own.own g k ∙ sym (Theory.labels_first (from anchors) (to anchors) g);
  nest_is = ap reverse (sym (Theory.greedy_none (from anchors) (to anchors)));
}

pub joined_all : (anchors : List Anchor) → AnchorsRise anchors → length anchors < 4294967296 → (links : List Link) → AreAllLinks anchors links →
    (i : ℕ) → length links ≤ i → (labels : List ℕ) (nest : List Link) → IsJoined anchors links i labels nest → IsNest anchors nest
joined_all anchors rise few links all i le labels nest h =
    let es : List Link = reverse links in
    let e : nest ≡ reverse (Theory.greedy (from anchors) (to anchors) (reverse links)) =
    h.nest_is ∙ ap (λ z. reverse (Theory.greedy (from anchors) (to anchors) (reverse z))) (take_all i links le) in
    let drops : Drops rank (reverse links) = Drops-reverse rank links all.climbs in
    let listed : IsListed anchors (reverse links) = record {
      drops = drops;
      sound = λ l m. all.sound l ((Mem-reverse links l).0 m);
      whole = λ l k. (Mem-reverse links l).1 (all.whole l k);
    } in
    subst (IsNest anchors) (sym e) (nest_from anchors rise few (reverse (Theory.greedy (from anchors) (to anchors) (reverse links)))
    (Climbs-reverse rank (Theory.greedy (from anchors) (to anchors) (reverse links)) (Theory.greedy_drops (from anchors) (to anchors) rank (reverse links) drops))
    (λ l m. (greedy_is_nest anchors rise few (reverse links) listed l).0 ((Mem-reverse (Theory.greedy (from anchors) (to anchors) (reverse links)) l).0 m))
    (λ l n. (Mem-reverse (Theory.greedy (from anchors) (to anchors) (reverse links)) l).1 ((greedy_is_nest anchors rise few (reverse links) listed l).1 n)))

abbrev pub no_link : Link
no_link = record { square = 0; first = 0; second = 0 }

-- the link at a place is a link of the anchors, and its groups have labels
module _ (anchors : List Anchor) (links : List Link) (all : AreAllLinks anchors links) (i : ℕ) (inside : i < length links) where
  pub link_here : IsLink anchors (get_or links i no_link)
  link_here = all.sound (get_or links i no_link) (Mem-get_or links i no_link inside)

  pub first_within : (get_or links i no_link).first < length anchors
  first_within = omega (arith, link_here.in_order, link_here.within)

  pub groups_fit : (labels : List ℕ) → length labels ≡ group_count anchors →
      (group_at anchors (get_or links i no_link).first < length labels) × (group_at anchors (get_or links i no_link).second < length labels)
  groups_fit labels e = (
    omega (arith, group_below anchors (get_or links i no_link).first first_within),
    omega (arith, group_below anchors (get_or links i no_link).second link_here.within),
  )

  pub itself : get_or links i no_link ≡ get_or links i (get_or links i no_link)
  itself = get_or_default links i no_link (get_or links i no_link) inside
