-- The generated board's text as it grows, piece by piece and line by line.
use Rattle.std.proofs.Common.{◌≡◌, ℕ, suc, zero, ◌+◌, List, ◌++◌, refl, add-one, append_assoc, append-nil, arith}
use Rattle.std.specs.Prelude.{codes}
use Rattle.std.specs.List.{flat_map, range_with_len}
use Rattle.made_board.specs.MadeBoard.{site_text, net_and_stamp, via_line, segment_line, two_lines, net_line, net_lines, item_lines}

grown : (f : ℕ → List ℕ) (a n j : ℕ) → a + n ≡ j → flat_map f (range_with_len a (suc n)) ≡ flat_map f (range_with_len a n) ++ f j
grown f a zero j e =
    let same : a ≡ j = omega arith in rw same (append-nil _)
grown f a (suc n) j e =
    rw (grown f (a + 1) n j (omega arith)) (simp append_assoc)

pub no_net_lines : (bs : List ℕ) → bs ++ net_lines 0 ≡ bs
unfolding net_lines
no_net_lines bs = append-nil bs

pub net_lines_grow : (bs : List ℕ) (n : ℕ) → bs ++ net_lines (n + 1) ≡ (bs ++ net_lines n) ++ net_line (1 + n)
unfolding net_lines
net_lines_grow bs n = rw (add-one, grown net_line 1 n (1 + n) refl) (simp append_assoc)

pub no_item_lines : (bs : List ℕ) (a : ℕ) → bs ++ item_lines a 0 ≡ bs
unfolding item_lines
no_item_lines bs a = append-nil bs

pub item_lines_grow : (bs : List ℕ) (a n : ℕ) → bs ++ item_lines a (n + 1) ≡ ((bs ++ item_lines a n) ++ via_line (a + n)) ++ segment_line (a + n)
unfolding item_lines
item_lines_grow bs a n = rw (add-one, grown two_lines a n (a + n) refl) (simp append_assoc)

in_parts : (f : ℕ → List ℕ) (a low high n : ℕ) → low + high ≡ n → flat_map f (range_with_len a n) ≡ flat_map f (range_with_len a low) ++ flat_map f (range_with_len (a + low) high)
in_parts f a zero high n e =
    let all : n ≡ high = omega arith in
    let same : a + zero ≡ a = omega arith in rw (all, same) refl
in_parts f a (suc low) high n e =
    let more : n ≡ suc (low + high) = omega arith in
    let same : a + suc low ≡ a + 1 + low = omega arith in
    rw (more, in_parts f (a + 1) low high (low + high) refl, same) (simp append_assoc)

-- the lines of two runs of numbers, the second behind the first
pub item_lines_in_parts : (bs : List ℕ) (a low high n : ℕ) → low + high ≡ n → (bs ++ item_lines a low) ++ item_lines (a + low) high ≡ bs ++ item_lines a n
unfolding item_lines
item_lines_in_parts bs a low high n e = rw (in_parts two_lines a low high n e) (simp append_assoc)

-- the pieces in which a via's line is appended
pub via_line_pieces : (bs : List ℕ) (k : ℕ)
    → bs ++ via_line k ≡ ((bs ++ codes "(via (at ") ++ site_text k ++ codes ") (size 0.8) (drill 0.4) (layers \"F.Cu\" \"B.Cu\")") ++ net_and_stamp (codes "v") k
unfolding via_line
via_line_pieces bs k = simp append_assoc
