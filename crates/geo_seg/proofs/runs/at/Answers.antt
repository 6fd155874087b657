use Rattle.std.proofs.Common.{◌≡◌, ◌*◌, ◌/◌, ℕ, subst, sym, take, drop, div-add-mod', arith}
use Rattle.geo_seg.specs.declared.boxes.Bounds.{Bounds}
use Rattle.geo_seg.specs.RunBoxes.{IsRunBox, sides_of}
use Rattle.geo_seg.proofs.RunBoxes.{run_at}
use Rattle.geo_seg.proofs.runs.at.Goals as goal

pub returns-in-Some : goal.returns-in-Some
returns-in-Some c = λ es r.
    let size = c.args.size in let low = c.args.low in let f = c.in-Some.frame.now in
    let e : (low / size) * size ≡ low = omega (arith, div-add-mod' low size) in
    subst (λ (z : Bounds). IsRunBox (take size (drop low es)) z) (sym c.bounds.ensures)
    (subst (λ (k : ℕ). IsRunBox (take size (drop k es)) (sides_of f)) e (run_at size c.args.frames.now es (low / size) f c.in-Some.ensures.lookup.3.0 c.in-Some.ensures.lookup.1 r))
