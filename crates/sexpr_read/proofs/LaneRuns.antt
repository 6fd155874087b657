-- From the mask of one load to the bytes before its first bit.
use Rattle.std.proofs.Common.{◌≡◌, ℕ, ◌+◌, ◌%◌, ◌^◌, ◌<◌, ◌≤◌, ◌==◌, if◌then◌else◌, Bool, true, not, ◌||◌, List, [], ◌∷◌, map, length, get_or, Fits, w8, refl, sym, ap, ap₂, ◌∙◌, subst, arith}
use Rattle.std.proofs.lemmas.Bool.{agree_below, agree_below_at}
use Rattle.std.proofs.lemmas.Simd.{map-map, mask_l-mod, length-chunk, first_set_mask_l, run_in_chunk_le, run_in_chunk_fails}
use Rattle.std.proofs.lemmas.List.{length-map, get_or_default}
use Rattle.std.specs.List.{prefix_len}
use Rattle.std.specs.Int.{w64, trailing_zeros}
use lib.Lanes.{chunk, zip2, mask_l, top}
use Rattle.sexpr_read.specs.declared.bytes.ByteClass.{ByteClass}
use Rattle.sexpr_read.specs.ByteClasses.{class_of, sign_of}

-- the place of the lowest bit of a mask, or n where none is set
abbrev pub before_first : ℕ → ℕ → ℕ
before_first n mask = if mask == 0 then n else trailing_zeros w64 mask

zip2-map : (h : ℕ → ℕ → ℕ) (f g : ℕ → ℕ) (xs : List ℕ) → zip2 h (map f xs) (map g xs) ≡ map (λ x. h (f x) (g x)) xs
zip2-map h f g [] = refl
zip2-map h f g (x ∷ xs) = ap (λ r. h (f x) (g x) ∷ r) (zip2-map h f g xs)

-- an operation on two vectors that were computed lane by lane from v
pub joined : (h : ℕ → ℕ → ℕ) (f g : ℕ → ℕ) (v : List ℕ) {a b : List ℕ} → a ≡ map f v → b ≡ map g v → zip2 h a b ≡ map (λ x. h (f x) (g x)) v
joined h f g v p q = ap₂ (zip2 h) p q ∙ zip2-map h f g v

-- A text has n bytes from i on, and z is what was computed of them lane by lane; r lanes come before the first whose top bit is set.
module _ (q : ByteClass → Bool) (text : List ℕ) (i n r : ℕ) (z : List ℕ) (cell_estimate : i + n ≤ length text) (few : n ≤ 64)
    (fits : (k : ℕ) → Fits w8 (get_or text k 0)) (found : r ≡ before_first n (mask_l (map (top 7) z) % 2 ^ 64))
    (f : ℕ → ℕ) (lanes : z ≡ map f (chunk i n text)) where
  abbrev stops : ℕ → Bool
  stops x = top 7 (f x)

  counted : r ≡ prefix_len (λ x. not (stops x)) (chunk i n text)
  counted =
      let v = chunk i n text in
      let long = length-chunk i n text cell_estimate in
      let mask = ap (λ l. mask_l l % 2 ^ 64) (ap (map (top 7)) lanes ∙ map-map (top 7) f v) ∙ mask_l-mod (map stops v) 64 (omega (arith, length-map v stops, long)) in
      found ∙ ap (before_first n) mask ∙ first_set_mask_l stops v n long few

  pub at_most : r ≤ n
  at_most = run_in_chunk_le stops text i n r 0 cell_estimate counted

  -- where no lane stops at a byte that fails q, all bytes before the first at which one stops pass it
  pub each_passes : agree_below (λ x. stops x || q (class_of x)) (λ _. true) 256 ≡ true → (k : ℕ) → i ≤ k → k < i + r → q (sign_of text k) ≡ true
  unfolding sign_of
  each_passes all k from to =
      let goes_on = run_in_chunk_fails stops text i n r 0 cell_estimate counted k from to in
      let passes = sym (ap (λ b. b || q (class_of (get_or text k 0))) goes_on) ∙ agree_below_at (λ x. stops x || q (class_of x)) (λ _. true) 256 (get_or text k 0) all (fits k).fits in
      subst (λ x. q (class_of x) ≡ true) (get_or_default text k 0 0x20 (omega (arith, at_most))) passes
