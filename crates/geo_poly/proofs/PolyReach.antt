-- Two polygons: where some rational points of them are near, some edges are, or one polygon's last corner is inside the other.
use Rattle.std.proofs.Common.{◌≡◌, ℤ, pos, ◌<ℤ◌, ◌⊎◌, ◌↔◌, Bool, true, false, List, [], ◌∷◌, sym, ◌∙◌, inl, inr}
use Rattle.geo_seg.specs.declared.points.Point.{Point}
use Rattle.geo_seg.specs.declared.points.Seg.{Seg}
use Rattle.geo_seg.specs.Points.{RationalPoint, IsOn, rational_point_of}
use Rattle.geo_poly.specs.OutlineEdges.{IsReached, EachApart, SomeReached}
use Rattle.geo_seg.specs.Inside.{edge, path, last_of, outline, SomeEdge}
use Rattle.geo_seg.proofs.Parity.{is_odd}
use Rattle.geo_poly.proofs.Insides.{IsIn, IsPolyApart, IsPolyReached, Enters, Odd}
use Rattle.geo_poly.proofs.Ways.{Crossed, same_or_crossed, SomeEdge-weaker}
use Rattle.geo_poly.proofs.Reach.{Near, Near-sym, Near-between, Touches, touches_within, touches_nearer, Pair, Pair-sym, met_pair, near_pair, not_pair, none_of, each_by, OnEdge}
use Rattle.geo_seg.proofs.BoxLemmas.{start_on, end_on}
use Rattle.geo_poly.proofs.Ray.{IsRight, First, first, either_right, IsClear-left, clear_parity}

abbrev pub SomePair : Bool → ℤ → List Seg → List Seg → Type 0
SomePair t d es fs = SomeEdge (λ e. SomeEdge (λ f. Pair t d e f) fs) es

-- ---- from pairs the other way round
under : (t : Bool) (d : ℤ) (f : Seg) (fs es : List Seg) → SomeEdge (λ e. Pair t d f e) es → SomePair t d es (f ∷ fs)
under t d f fs [] h = h
under t d f fs (e ∷ es) (inl p) = inl (inl (Pair-sym t d f e p))
under t d f fs (e ∷ es) (inr h) = inr (under t d f fs es h)

more : (t : Bool) (d : ℤ) (f : Seg) (fs es : List Seg) → SomePair t d es fs → SomePair t d es (f ∷ fs)
more t d f fs es h = SomeEdge-weaker (λ e x. inr x) es h

SomePair-sym : (t : Bool) (d : ℤ) (fs es : List Seg) → SomePair t d fs es → SomePair t d es fs
SomePair-sym t d [] es h = absurd h
SomePair-sym t d (f ∷ fs) es (inl h) = under t d f fs es h
SomePair-sym t d (f ∷ fs) es (inr h) = more t d f fs es (SomePair-sym t d fs es h)

-- p on an edge of es and q on an edge of fs
nest : (t : Bool) (d : ℤ) (p q : RationalPoint) → Near t d p q → (es fs : List Seg) → SomeEdge (λ e. IsOn e p) es → SomeEdge (λ f. IsOn f q) fs → SomePair t d es fs
nest t d p q h es fs o u = SomeEdge-weaker (λ e x. SomeEdge-weaker (λ f y. record { from = p; to = q; of_first = x; of_second = y; near = h }) fs u) es o

-- ---- an odd rational point on an outline: along the outline the parity stays, or edges meet
walk_to : (t : Bool) (d : ℤ) → Touches t d → (ks : List Point) (s : Seg) (es : List Seg) (q : RationalPoint) → IsOn s q → Odd ks q → (is_odd (rational_point_of s.a) (outline ks) ≡ is_odd q (outline ks)) ⊎ SomeEdge (λ f. Crossed f (rational_point_of s.a) q) (outline ks) → SomePair t d (s ∷ es) (outline ks) ⊎ Odd ks (rational_point_of s.a)
walk_to t d z ks s es q u k (inl e) = inr (e ∙ k)
walk_to t d z ks s es q u k (inr c) = inl (inl (SomeEdge-weaker (λ f x. Pair-sym t d f s (met_pair t d z f s (rational_point_of s.a) q (start_on s) u x)) (outline ks) c))

walk_on : (t : Bool) (d : ℤ) → Touches t d → (ks : List Point) (s : Seg) (es : List Seg) → SomePair t d es (outline ks) ⊎ Odd ks (rational_point_of s.b) → SomePair t d (s ∷ es) (outline ks) ⊎ Odd ks (rational_point_of s.a)
walk_on t d z ks s es (inl x) = inl (inr x)
walk_on t d z ks s es (inr k) = walk_to t d z ks s es (rational_point_of s.b) (end_on s) k (same_or_crossed ks (rational_point_of s.a) (rational_point_of s.b))

walk : (t : Bool) (d : ℤ) → Touches t d → (ks : List Point) (p : RationalPoint) → Odd ks p → (a : Point) (cs : List Point) → SomeEdge (λ e. IsOn e p) (path a cs) → SomePair t d (path a cs) (outline ks) ⊎ Odd ks (rational_point_of a)
walk t d z ks p h a [] o = absurd o
walk t d z ks p h a (b ∷ cs) (inl o) = walk_to t d z ks (edge a b) (path b cs) p o h (same_or_crossed ks (rational_point_of a) p)
walk t d z ks p h a (b ∷ cs) (inr o) = walk_on t d z ks (edge a b) (path b cs) (walk t d z ks p h b cs o)

abbrev pub Joined : Bool → ℤ → List Point → List Point → Type 0
Joined t d cs ks = SomePair t d (outline cs) (outline ks) ⊎ (Enters cs ks ⊎ Enters ks cs)

either_way : {A B C : Type 0} → (A → C) → (B → C) → A ⊎ B → C
either_way f g (inl a) = f a
either_way f g (inr b) = g b

Joined-sym : (t : Bool) (d : ℤ) (cs ks : List Point) → Joined t d cs ks → Joined t d ks cs
Joined-sym t d cs ks (inl h) = inl (SomePair-sym t d (outline cs) (outline ks) h)
Joined-sym t d cs ks (inr (inl h)) = inr (inr h)
Joined-sym t d cs ks (inr (inr h)) = inr (inl h)

on_and_odd : (t : Bool) (d : ℤ) → Touches t d → (cs ks : List Point) (p : RationalPoint) → SomeEdge (λ e. IsOn e p) (outline cs) → Odd ks p → Joined t d cs ks
on_and_odd t d z [] ks p o h = absurd o
on_and_odd t d z (c ∷ cs) ks p o h = either_way inl (λ x. inr (inl x)) (walk t d z ks p h (last_of c cs) (c ∷ cs) o)

-- p on an edge of cs, q inside ks
on_and_inside : (t : Bool) (d : ℤ) → Touches t d → (cs ks : List Point) (p q : RationalPoint) → SomeEdge (λ e. IsOn e p) (outline cs) → Odd ks q → Near t d p q → (is_odd q (outline ks) ≡ is_odd p (outline ks)) ⊎ SomeEdge (λ f. Crossed f q p) (outline ks) → Joined t d cs ks
on_and_inside t d z cs ks p q o k h (inl e) = on_and_odd t d z cs ks p o (sym e ∙ k)
on_and_inside t d z cs ks p q o k h (inr c) = inl (SomeEdge-weaker (λ e x. SomeEdge-weaker (λ f y. Pair-sym t d f e (near_pair t d f e q p x (Near-sym t d p q h) y)) (outline ks) c) (outline cs) o)

-- q inside both: the first edge on the ray from q is inside the other polygon, or meets an edge of it
at_first : (t : Bool) (d : ℤ) → Touches t d → (cs ks : List Point) (q r : RationalPoint) → SomeEdge (λ e. IsOn e r) (outline cs) → Odd ks q → (is_odd q (outline ks) ≡ is_odd r (outline ks)) ⊎ SomeEdge (λ f. IsOn f r) (outline ks) → Joined t d cs ks
at_first t d z cs ks q r o k (inl e) = on_and_odd t d z cs ks r o (sym e ∙ k)
at_first t d z cs ks q r o k (inr u) = inl (nest t d r r (z r) (outline cs) (outline ks) o u)

by_first : (t : Bool) (d : ℤ) → Touches t d → (cs ks : List Point) (q : RationalPoint) → Odd cs q → Odd ks q → (f : First q (outline cs)) (g : First q (outline ks)) → IsRight f.rational_point g.rational_point ⊎ IsRight g.rational_point f.rational_point → Joined t d cs ks
by_first t d z cs ks q h k f g (inl o) = at_first t d z cs ks q f.rational_point f.on k (clear_parity q f.rational_point f.right (outline ks) (IsClear-left q f.rational_point g.rational_point o (outline ks) g.clear))
by_first t d z cs ks q h k f g (inr o) = Joined-sym t d ks cs (at_first t d z ks cs q g.rational_point g.on h (clear_parity q g.rational_point g.right (outline cs) (IsClear-left q g.rational_point f.rational_point o (outline cs) f.clear)))

inside_both : (t : Bool) (d : ℤ) → Touches t d → (cs ks : List Point) (q : RationalPoint) → Odd cs q → Odd ks q → Joined t d cs ks
inside_both t d z cs ks q h k =
    let f = first q (outline cs) h in let g = first q (outline ks) k in
    by_first t d z cs ks q h k f g (either_right q f.rational_point g.rational_point f.right g.right)

-- p inside cs, q inside ks: an edge of cs is met on the way, or q is inside both
both_inside : (t : Bool) (d : ℤ) → Touches t d → (cs ks : List Point) (p q : RationalPoint) → Odd cs p → Odd ks q → Near t d p q → (is_odd p (outline cs) ≡ is_odd q (outline cs)) ⊎ SomeEdge (λ e. Crossed e p q) (outline cs) → Joined t d cs ks
both_inside t d z cs ks p q h k n (inl e) = inside_both t d z cs ks q (sym e ∙ h) k
both_inside t d z cs ks p q h k n (inr c) = let r = crossing (outline cs) c in on_and_inside t d z cs ks r.rational_point q r.on k r.holds (same_or_crossed ks q r.rational_point)
  where
    crossing : (es : List Seg) → SomeEdge (λ e. Crossed e p q) es → OnEdge es (λ r. Near t d r q)
    crossing [] x = absurd x
    crossing (e ∷ es) (inl x) = record { rational_point = x.rational_point; on = inl x.on; holds = Near-between t d p q x.rational_point x.between n }
    crossing (e ∷ es) (inr x) = let r = crossing es x in record { rational_point = r.rational_point; on = inr r.on; holds = r.holds }

pub poly_reach : (t : Bool) (d : ℤ) → Touches t d → (cs ks : List Point) (p q : RationalPoint) → IsIn cs p → IsIn ks q → Near t d p q → Joined t d cs ks
poly_reach t d z cs ks p q (inl o) (inl u) n = inl (nest t d p q n (outline cs) (outline ks) o u)
poly_reach t d z cs ks p q (inl o) (inr k) n = on_and_inside t d z cs ks p q o k n (same_or_crossed ks q p)
poly_reach t d z cs ks p q (inr h) (inl u) n = Joined-sym t d ks cs (on_and_inside t d z ks cs q p u h (Near-sym t d p q n) (same_or_crossed cs p q))
poly_reach t d z cs ks p q (inr h) (inr k) n = both_inside t d z cs ks p q h k n (same_or_crossed cs p q)

-- ---- the two theorems
poly_reached_parts : (d : ℤ) (cs ks : List Point) → Joined false d cs ks → SomeReached d (outline cs) (outline ks) ⊎ (Enters cs ks ⊎ Enters ks cs)
poly_reached_parts d cs ks (inl h) = inl (SomeEdge-weaker (λ e x. SomeEdge-weaker (λ f y. let w = Pair-sym false d e f y in record { from = w.from; to = w.to; of_first = w.of_first; of_second = w.of_second; within = w.near }) (outline ks) x) (outline cs) h)
poly_reached_parts d cs ks (inr h) = inr h

-- the last corner lies on the closing edge
enters_at : (cs ks : List Point) → Enters cs ks → OnEdge (outline cs) (λ r. Odd ks r)
enters_at [] ks h = absurd h
enters_at (c ∷ cs) ks h = record { rational_point = rational_point_of (last_of c cs); on = inl (start_on (edge (last_of c cs) c)); holds = h }

reached_at : (d : ℤ) (e : Seg) (fs : List Seg) → SomeEdge (λ f. IsReached f e d) fs → OnEdge fs (λ q. (p : RationalPoint) × IsOn e p × Near false d p q)
reached_at d e [] h = absurd h
reached_at d e (f ∷ fs) (inl x) = record { rational_point = x.from; on = inl x.of_first; holds = (x.to, x.of_second, Near-sym false d x.from x.to x.within) }
reached_at d e (f ∷ fs) (inr h) = let r = reached_at d e fs h in record { rational_point = r.rational_point; on = inr r.on; holds = r.holds }

pairs_at : (d : ℤ) (es fs : List Seg) → SomeReached d es fs → OnEdge es (λ p. (q : RationalPoint) × SomeEdge (λ f. IsOn f q) fs × Near false d p q)
pairs_at d [] fs h = absurd h
pairs_at d (e ∷ es) fs (inl x) = let r = reached_at d e fs x in record { rational_point = r.holds.0; on = inl r.holds.1; holds = (r.rational_point, r.on, r.holds.2) }
pairs_at d (e ∷ es) fs (inr h) = let r = pairs_at d es fs h in record { rational_point = r.rational_point; on = inr r.on; holds = r.holds }

poly_reached_by : (d : ℤ) (cs ks : List Point) → SomeReached d (outline cs) (outline ks) ⊎ (Enters cs ks ⊎ Enters ks cs) → IsPolyReached cs ks d
poly_reached_by d cs ks (inl h) = let r = pairs_at d (outline cs) (outline ks) h in record { from = r.rational_point; to = r.holds.0; of_first = inl r.on; of_second = inl r.holds.1; within = r.holds.2 }
poly_reached_by d cs ks (inr (inl h)) = let r = enters_at cs ks h in record { from = r.rational_point; to = r.rational_point; of_first = inl r.on; of_second = inr r.holds; within = touches_within d r.rational_point }
poly_reached_by d cs ks (inr (inr h)) = let r = enters_at ks cs h in record { from = r.rational_point; to = r.rational_point; of_first = inr r.holds; of_second = inl r.on; within = touches_within d r.rational_point }

pub poly_reached_where : (d : ℤ) (cs ks : List Point) → IsPolyReached cs ks d ↔ (SomeReached d (outline cs) (outline ks) ⊎ (Enters cs ks ⊎ Enters ks cs))
poly_reached_where d cs ks = (λ h. poly_reached_parts d cs ks (poly_reach false d (touches_within d) cs ks h.from h.to h.of_first h.of_second h.within), poly_reached_by d cs ks)

no_poly_reach : (d : ℤ) (cs ks : List Point) → EachApart d (outline cs) (outline ks) → ¬ (Enters cs ks) → ¬ (Enters ks cs) → Joined true d cs ks → ⊥
no_poly_reach d cs ks h n m (inl x) = none_of (λ e a b. none_of (λ f h' p. not_pair d f e h' (Pair-sym true d e f p)) (outline ks) a b) (outline cs) h x
no_poly_reach d cs ks h n m (inr (inl x)) = n x
no_poly_reach d cs ks h n m (inr (inr x)) = m x

no_entry : (d : ℤ) → pos 0 <ℤ d → (cs ks : List Point) → IsPolyApart cs ks d → Enters cs ks → ⊥
no_entry d hd cs ks h x = let r = enters_at cs ks x in h.apart r.rational_point r.rational_point (inl r.on) (inr r.holds) (touches_nearer d hd r.rational_point)

no_entry_back : (d : ℤ) → pos 0 <ℤ d → (cs ks : List Point) → IsPolyApart cs ks d → Enters ks cs → ⊥
no_entry_back d hd cs ks h x = let r = enters_at ks cs x in h.apart r.rational_point r.rational_point (inr r.holds) (inl r.on) (touches_nearer d hd r.rational_point)

pub poly_apart_where : (d : ℤ) → pos 0 <ℤ d → (cs ks : List Point) → IsPolyApart cs ks d ↔ (EachApart d (outline cs) (outline ks) × (¬ (Enters cs ks)) × (¬ (Enters ks cs)))
poly_apart_where d hd cs ks = (
  λ h. (
    each_by (outline cs) (outline cs) (λ e member. each_by (outline ks) (outline ks) (λ f member'. record { apart = λ q p u o n. h.apart p q (inl (member (λ x. IsOn x p) o)) (inl (member' (λ x. IsOn x q) u)) (Near-sym true d q p n) }) (λ Q x. x)) (λ Q x. x),
    no_entry d hd cs ks h,
    no_entry_back d hd cs ks h,
  ),
  λ h. record { apart = λ p q o u n. no_poly_reach d cs ks h.0 h.1 h.2 (poly_reach true d (touches_nearer d hd) cs ks p q o u n) },
)
