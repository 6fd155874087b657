-- The laws of a commutative ring for ℤ, which the library lacks in part.
use Rattle.std.proofs.Common.{◌≡◌, ◌*◌, ℤ, pos, negsuc, ◌+ℤ◌, ◌-ℤ◌, ◌*ℤ◌, neg_ℤ, sym, ap, ◌∙◌, arith}
use Rattle.std.proofs.lemmas.Int.{ints}
use borrow.Author.Differences.{up, down, product_is, sum_is_lem, same_in}
use Rattle.std.proofs.Math.IntN.{*ℤ_comm}

pub mul_assoc_z : (a b c : ℤ) → a *ℤ b *ℤ c ≡ a *ℤ (b *ℤ c)
mul_assoc_z a b c =
    let e1 = product_is (a *ℤ b) c in
    let e2 = product_is a (b *ℤ c) in
    let ab = product_is a b in
    let bc = product_is b c in
    same_in (a *ℤ b *ℤ c) (a *ℤ (b *ℤ c))
    (rw (e1.0, e2.1, e2.0, e1.1, ab.0, ab.1, bc.0, bc.1) (omega arith))

pub mul_add_z : (a b c : ℤ) → a *ℤ (b +ℤ c) ≡ a *ℤ b +ℤ a *ℤ c
mul_add_z a b c =
    let s = sum_is_lem b c in
    let u = ap (λ n. up a * n) s in
    let d = ap (λ n. down a * n) s in
    omega (arith, ints, u, d)

pub add_mul_z : (a b c : ℤ) → (a +ℤ b) *ℤ c ≡ a *ℤ c +ℤ b *ℤ c
add_mul_z a b c = *ℤ_comm (a +ℤ b) c ∙ mul_add_z c a b ∙ ap (λ x. x +ℤ c *ℤ b) (*ℤ_comm c a) ∙ ap (λ x. a *ℤ c +ℤ x) (*ℤ_comm c b)

pub add_zero_z : (a : ℤ) → a +ℤ pos 0 ≡ a
add_zero_z a = omega (arith, ints)

pub zero_add_z : (a : ℤ) → pos 0 +ℤ a ≡ a
zero_add_z a = omega (arith, ints)

pub mul_one_z : (a : ℤ) → a *ℤ pos 1 ≡ a
mul_one_z a = omega (arith, ints)

pub one_mul_z : (a : ℤ) → pos 1 *ℤ a ≡ a
one_mul_z a = omega (arith, ints)

pub zero_mul_z : (a : ℤ) → pos 0 *ℤ a ≡ pos 0
zero_mul_z a = omega (arith, ints)

pub mul_zero_z : (a : ℤ) → a *ℤ pos 0 ≡ pos 0
mul_zero_z a = omega (arith, ints)

pub minus_one_mul_z : (a : ℤ) → negsuc 0 *ℤ a ≡ neg_ℤ a
minus_one_mul_z a = omega (arith, ints)

pub sub_zero_same : (a b : ℤ) → a -ℤ b ≡ pos 0 → a ≡ b
sub_zero_same a b h = omega (arith, ints)

-- the shapes in which sums are regrouped by the normaliser's proof
pub mul_swap_inner : (a b c d : ℤ) → (a *ℤ b) *ℤ (c *ℤ d) ≡ (a *ℤ c) *ℤ (b *ℤ d)
mul_swap_inner a b c d =
    mul_assoc_z a b (c *ℤ d) ∙ ap (λ x. a *ℤ x) (sym (mul_assoc_z b c d) ∙ ap (λ x. x *ℤ d) (*ℤ_comm b c) ∙ mul_assoc_z c b d) ∙ sym (mul_assoc_z a c (b *ℤ d))

pub regroup_left : (d c l r : ℤ) → d +ℤ (c +ℤ l +ℤ r) ≡ c +ℤ (d +ℤ (l +ℤ r))
regroup_left d c l r = omega (arith, ints)

pub regroup_right : (d c l r : ℤ) → d +ℤ (l +ℤ (c +ℤ r)) ≡ c +ℤ (d +ℤ (l +ℤ r))
regroup_right d c l r = omega (arith, ints)

pub regroup_here : (c d s : ℤ) → c +ℤ d +ℤ s ≡ c +ℤ (d +ℤ s)
regroup_here c d s = omega (arith, ints)

five : (a b c d acc : ℤ) → c +ℤ (b +ℤ (a +ℤ acc)) ≡ a +ℤ (b +ℤ c) +ℤ acc
five a b c d acc = omega (arith, ints)

pub gather : (m k l r acc : ℤ) → m *ℤ r +ℤ (m *ℤ l +ℤ (m *ℤ k +ℤ acc)) ≡ m *ℤ (k +ℤ (l +ℤ r)) +ℤ acc
gather m k l r acc =
    five (m *ℤ k) (m *ℤ l) (m *ℤ r) m acc
    ∙ ap (λ y. m *ℤ k +ℤ y +ℤ acc) (sym (mul_add_z m l r)) ∙ ap (λ y. y +ℤ acc) (sym (mul_add_z m k (l +ℤ r)))

pub gather_right : (k l r q acc : ℤ) → r *ℤ q +ℤ (l *ℤ q +ℤ (k *ℤ q +ℤ acc)) ≡ (k +ℤ (l +ℤ r)) *ℤ q +ℤ acc
gather_right k l r q acc =
    five (k *ℤ q) (l *ℤ q) (r *ℤ q) q acc
    ∙ ap (λ y. k *ℤ q +ℤ y +ℤ acc) (sym (add_mul_z l r q)) ∙ ap (λ y. y +ℤ acc) (sym (add_mul_z k (l +ℤ r) q))

pub add_both : (a b : ℤ) → a ≡ pos 0 → b ≡ pos 0 → a +ℤ b ≡ pos 0
add_both a b h k = omega (arith, ints)

pub same_sub_zero : (a b : ℤ) → a ≡ b → a -ℤ b ≡ pos 0
same_sub_zero a b h = omega (arith, ints)

pub sub_through : (a b s : ℤ) → s ≡ pos 0 → a -ℤ b -ℤ s ≡ pos 0 → a ≡ b
sub_through a b s h k = omega (arith, ints)
