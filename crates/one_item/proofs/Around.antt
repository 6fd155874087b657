-- Boxes around parts.
use Rattle.std.proofs.Common.{◌≡◌, ℕ, ◌+◌, ◌<◌, ◌++◌, length, take, get_or, suc, add-one, List, [], ◌∷◌, Option, None, Some, sym, ◌∙◌, ap, subst}
use Rattle.std.proofs.Math.Seq.{take-suc}
use Rattle.std.proofs.lemmas.List.{append_assoc}
use Rattle.geo_seg.specs.declared.boxes.Bounds.{Bounds}
use Rattle.geo_seg.specs.declared.shapes.Shape.{Shape}
use Rattle.geo_seg.specs.Boxes.{IsPartOf, widened}
use Rattle.geo_seg.specs.Cores.{IsBoundsOf}
use Rattle.geo_seg.proofs.Unions.{part_refl, part_trans, widened_part}
use Rattle.one_item.specs.declared.parts.Part.{Part}
use Rattle.one_item.specs.Extents.{LiesIn, AllLieIn, AreBoundsOf}

-- of two boxes that are the bounds of one shape each lies in the other
bounds_part : (s : Shape) (b c : Bounds) → IsBoundsOf s b → IsBoundsOf s c → IsPartOf b c
bounds_part s b c h k =
    subst (λ (x : Bounds). IsPartOf x c) (sym h.wider)
    (subst (λ (y : Bounds). IsPartOf (widened h.core_box s.radius) y) (sym k.wider)
    (widened_part h.core_box k.core_box s.radius (h.least.least k.core_box k.least.holds)))

-- ---- more parts
all_wider : (b c : Bounds) → IsPartOf b c → (ps : List Part) → AllLieIn b ps → AllLieIn c ps
all_wider b c h [] k = tt
all_wider b c h (p ∷ ps) k = (record { bounds = k.0.bounds; own = k.0.own; inside = part_trans k.0.bounds b c k.0.inside h }, all_wider b c h ps k.1)

all_added : (b : Bounds) (ps : List Part) (p : Part) → AllLieIn b ps → LiesIn b p → AllLieIn b (ps ++ p ∷ [])
all_added b [] p h k = (k, tt)
all_added b (q ∷ qs) p h k = (h.0, all_added b qs p h.1 k)

all_prefix : (b : Bounds) (ps : List Part) (p : Part) → AllLieIn b (ps ++ p ∷ []) → AllLieIn b ps
all_prefix b [] p h = tt
all_prefix b (q ∷ qs) p h = (h.0, all_prefix b qs p h.1)

last_lies : (b : Bounds) (ps : List Part) (p : Part) → AllLieIn b (ps ++ p ∷ []) → LiesIn b p
last_lies b [] p h = h.0
last_lies b (q ∷ qs) p h = last_lies b qs p h.1

-- the bounds of the part lie in each box in which the part does
within_lies : (b c : Bounds) (p : Part) → IsBoundsOf p.shape b → LiesIn c p → IsPartOf b c
within_lies b c p h k = part_trans b k.bounds c (bounds_part p.shape b k.bounds h k.own) k.inside

pub first_part : (ps : List Part) (p : Part) (b : Bounds) → IsBoundsOf p.shape b → AreBoundsOf ps None → AreBoundsOf (ps ++ p ∷ []) (Some b)
first_part [] p b h k = record {
  holds = (record { bounds = b; own = h; inside = part_refl b }, tt);
  least = λ other l. within_lies b other p h l.0;
}
first_part (q ∷ qs) p b h k = absurd k

pub one_more : (ps : List Part) (p : Part) (box b r : Bounds) → IsBoundsOf p.shape b → IsPartOf box r → IsPartOf b r
    → ((c : Bounds) → IsPartOf box c → IsPartOf b c → IsPartOf r c) → AreBoundsOf ps (Some box) → AreBoundsOf (ps ++ p ∷ []) (Some r)
one_more [] p box b r own first second least h = absurd (cc)
one_more (q ∷ qs) p box b r own first second least h = record {
  holds = all_added r (q ∷ qs) p (all_wider box r first (q ∷ qs) h.holds) (record { bounds = b; own = own; inside = second });
  least = λ other all. least other (h.least other (all_prefix other (q ∷ qs) p all)) (within_lies b other p own (last_lies other (q ∷ qs) p all));
}

-- ---- lists of parts
-- one more of the parts that were taken
pub taken : (before ps : List Part) (i : ℕ) (p : Part) (found : Option Bounds) → i < length ps → p ≡ get_or ps i p
    → AreBoundsOf ((before ++ take i ps) ++ p ∷ []) found → AreBoundsOf (before ++ take (i + 1) ps) found
taken before ps i p found lt e h =
    let last : take i ps ++ p ∷ [] ≡ take (suc i) ps = ap (λ q. take i ps ++ q ∷ []) e ∙ sym (take-suc ps i p lt) in
    let whole = append_assoc before (take i ps) (p ∷ []) ∙ ap (λ qs. before ++ qs) last in
    subst (λ (qs : List Part). AreBoundsOf qs found) (whole ∙ ap (λ n. before ++ take n ps) (sym (add-one i))) h

pub four : (given copper hole first second kind : List Part) (found : Option Bounds) → given ≡ copper → first ++ second ≡ kind
    → AreBoundsOf (given ++ hole ++ first ++ second) found → AreBoundsOf (copper ++ (hole ++ kind)) found
four given copper hole first second kind found same both h =
    subst (λ (qs : List Part). AreBoundsOf qs found)
    (append_assoc (given ++ hole) first second ∙ append_assoc given hole (first ++ second) ∙ ap (λ qs. qs ++ (hole ++ (first ++ second))) same ∙ ap (λ qs. copper ++ (hole ++ qs)) both) h
