-- The boxes of runs of edges.
use Rattle.std.proofs.Common.{◌≡◌, ℕ, zero, suc, ◌+◌, ◌-◌, ◌*◌, ◌<◌, ◌≤◌, ◌⊎◌, List, [], ◌∷◌, ◌++◌, length, take, drop, get_or, refl, sym, ap, ◌∙◌, subst, inl, inr, arith, drop-drop, length-drop, zero-mul, suc-mul, add_comm}
use Rattle.std.proofs.lemmas.List.{drop_all, take_all, append-nil, append_assoc, length-take-le}
use Rattle.geo_seg.specs.declared.points.Point.{Point}
use Rattle.geo_seg.specs.declared.points.Seg.{Seg}
use Rattle.geo_seg.specs.declared.boxes.Bounds.{Bounds}
use Rattle.geo_seg.specs.declared.frames.Frame.{Frame}
use Rattle.geo_seg.specs.PolygonCorners.{IsCornerBox}
use Rattle.geo_seg.specs.Inside.{edge, path, last_of, outline}
use Rattle.geo_seg.specs.RunBoxes.{sides_of, IsRunBox, AreRuns}
use Rattle.geo_seg.proofs.CornerBoxes.{box_fits}
use Rattle.geo_seg.proofs.Enclosed.{path_held}

-- ---- the last of some corners
pub last_at : (a x : Point) (cs : List Point) → get_or (a ∷ cs) (length cs) x ≡ last_of a cs
last_at a x [] = refl
last_at a x (b ∷ cs) = last_at b x cs

pub last_is : (a x : Point) (cs : List Point) → 0 < length cs → x ≡ get_or cs (length cs - 1) x → x ≡ last_of a cs
last_is a x [] h e = absurd (omega arith)
last_is a x (c ∷ cs) h e =
    let i : length (c ∷ cs) - 1 ≡ length cs = omega arith in
    e ∙ ap (λ k. get_or (c ∷ cs) k x) i ∙ last_at c x cs

pub outline_is : (cs : List Point) (x : Point) → 0 < length cs → x ≡ get_or cs (length cs - 1) x → outline cs ≡ path x cs
outline_is [] x h e = absurd (omega arith)
outline_is (c ∷ cs) x h e = ap (λ z. path z (c ∷ cs)) (sym (last_is c x (c ∷ cs) h e))

-- ---- parts of a path
pub path_take : (a : Point) (cs : List Point) (n : ℕ) → take n (path a cs) ≡ path a (take n cs)
path_take a cs zero = refl
path_take a [] (suc n) = refl
path_take a (c ∷ cs) (suc n) = ap (λ es. edge a c ∷ es) (path_take c cs n)

pub path_drop : (a : Point) (cs : List Point) (n : ℕ) → n ≤ length cs → drop n (path a cs) ≡ path (last_of a (take n cs)) (drop n cs)
path_drop a cs zero h = refl
path_drop a [] (suc n) h = absurd (omega arith)
path_drop a (c ∷ cs) (suc n) h = path_drop c cs n (omega arith)

pub path_length : (a : Point) (cs : List Point) → length (path a cs) ≡ length cs
path_length a [] = refl
path_length a (c ∷ cs) = ap suc (path_length c cs)

-- the edges from `high` on, where those from `low` on lead from a through the corners from there
pub rest_is : (a b : Point) (cs : List Point) (es : List Seg) (low high : ℕ) → low < high → high ≤ length cs → drop low es ≡ path a (drop low cs) → b ≡ get_or (take (high - low) (drop low cs)) (length (take (high - low) (drop low cs)) - 1) b → drop high es ≡ path b (drop high cs)
rest_is a b cs es low high h k e l =
    let X = drop low cs in let n = high - low in
    let s : low + n ≡ high = omega arith in
    let m : n ≤ length X = rw length-drop (omega arith) in
    let t : length (take n X) ≡ n = length-take-le n X m in
    ap (λ z. drop z es) (sym s) ∙ sym (drop-drop n low es) ∙ ap (drop n) e ∙ path_drop a X n m
    ∙ ap (λ z. path z (drop n X)) (sym (last_is a b (take n X) (subst (λ z. 0 < z) (sym t) (omega arith)) l))
    ∙ ap (path b) (drop-drop n low cs ∙ ap (λ z. drop z cs) s)

-- ---- a run's box
pub run_box : (a : Point) (cs : List Point) (b : Bounds) → IsCornerBox (a ∷ cs) b → IsRunBox (path a cs) b
run_box a cs b h = record { holds = path_held b a cs h.holds.0 h.holds.1; fits = box_fits (a ∷ cs) b h }

-- ---- the frame that a row has at place j
pub run_at : (size : ℕ) (fs : List Frame) (es : List Seg) (j : ℕ) (x : Frame) → j < length fs → x ≡ get_or fs j x → AreRuns size fs es → IsRunBox (take size (drop (j * size) es)) (sides_of x)
run_at size [] es j x h e r = absurd (omega arith)
run_at size (f ∷ fs) es zero x h e r =
    subst (λ k. IsRunBox (take size (drop k es)) (sides_of x)) (sym (zero-mul size)) (subst (λ g. IsRunBox (take size es) (sides_of g)) (sym e) r.0)
run_at size (f ∷ fs) es (suc j) x h e r =
    let z : size + j * size ≡ suc j * size = add_comm size (j * size) ∙ sym (suc-mul j size) in
    subst (λ us. IsRunBox (take size us) (sides_of x)) (drop-drop (j * size) size es ∙ ap (λ k. drop k es) z) (run_at size fs (drop size es) j x (omega arith) e r.1)

-- ---- a row that grows by a frame
-- the run ends where its size says, or with the corners
abbrev pub EndsAt : ℕ → ℕ → ℕ → ℕ → Type 0
EndsAt size all low high = (high ≡ low + size) ⊎ ((high ≡ all) × (all - low ≤ size))

part_is : (size : ℕ) (cs : List Point) (low high : ℕ) → EndsAt size (length cs) low high → take size (drop low cs) ≡ take (high - low) (drop low cs)
part_is size cs low high (inl e) = let s : size ≡ high - low = omega arith in ap (λ z. take z (drop low cs)) s
part_is size cs low high (inr e) =
    let X = drop low cs in
    let l : length X ≤ size = rw length-drop e.1 in
    let m : length X ≤ high - low = rw length-drop (omega (arith, e.0)) in
    take_all size X l ∙ sym (take_all (high - low) X m)

pub run_is : (size : ℕ) (a : Point) (cs : List Point) (es : List Seg) (low high : ℕ) → EndsAt size (length cs) low high → drop low es ≡ path a (drop low cs) → take size (drop low es) ≡ path a (take (high - low) (drop low cs))
run_is size a cs es low high h e = ap (take size) e ∙ path_take a (drop low cs) size ∙ ap (path a) (part_is size cs low high h)

rest_of_run : (size : ℕ) (a : Point) (cs : List Point) (es : List Seg) (low high : ℕ) → low < high → high ≤ length cs → EndsAt size (length cs) low high → drop low es ≡ path a (drop low cs) → drop size (drop low es) ≡ drop high es
rest_of_run size a cs es low high h k (inl e) q = drop-drop size low es ∙ ap (λ z. drop z es) (sym e)
rest_of_run size a cs es low high h k (inr e) q =
    let X = drop low cs in let n = high - low in
    let s : low + n ≡ high = omega arith in
    let l : length (path a X) ≤ size = rw (path_length a X) (rw length-drop e.1) in
    let m : length (path a X) ≤ n = rw (path_length a X) (rw length-drop (omega (arith, e.0))) in
    ap (drop size) q ∙ drop_all size (path a X) l ∙ sym (drop_all n (path a X) m) ∙ ap (drop n) (sym q) ∙ drop-drop n low es ∙ ap (λ z. drop z es) s

abbrev pub IsRowTo : ℕ → List Frame → List Seg → ℕ → Type 0
IsRowTo size row es low = (fs : List Frame) → AreRuns size fs (drop low es) → AreRuns size (row ++ fs) es

pub row_grows : (size : ℕ) (a : Point) (cs : List Point) (es : List Seg) (low high : ℕ) (row : List Frame) (f : Frame) → low < high → high ≤ length cs → EndsAt size (length cs) low high → drop low es ≡ path a (drop low cs) → IsCornerBox (a ∷ take (high - low) (drop low cs)) (sides_of f) → IsRowTo size row es low → IsRowTo size (row ++ f ∷ []) es high
row_grows size a cs es low high row f h k t e b inv = λ fs r.
    let framed = subst (λ us. IsRunBox us (sides_of f)) (sym (run_is size a cs es low high t e)) (run_box a (take (high - low) (drop low cs)) (sides_of f) b) in
    subst (λ z. AreRuns size z es) (sym (append_assoc row (f ∷ []) fs)) (inv (f ∷ fs) (framed, subst (AreRuns size fs) (sym (rest_of_run size a cs es low high h k t e)) r))

pub row_done : (size : ℕ) (row : List Frame) (es : List Seg) (low : ℕ) → IsRowTo size row es low → AreRuns size row es
row_done size row es low inv = subst (λ z. AreRuns size z es) (append-nil row) (inv [] tt)
