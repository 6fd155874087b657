-- A buffer that is filled piece by piece.
use Rattle.std.proofs.Common.{◌≡◌, ◌≤◌, ℕ, ◌+◌, List, Option, ◌++◌, length, take, subst, sym, ap, ◌∙◌, le_refl, length-take-le}
use lib.Seq.{take-append-le, take-append-add}
use Rattle.std.proofs.lemmas.Slice.{take-put_mid_below}
use Rattle.std.specs.Io.KnownBytes.{Consumes, Keeps}
use Rattle.std.proofs.KnownBytes.{Consumes-trans, Consumes-kept}
use borrow.Rule.Slice.PartMut.{put_mid, post_of}

-- the bytes up to done were read, and then n more behind them
pub take-put-more : (done k n : ℕ) (buf piece : List ℕ) → done ≤ length buf → n ≤ length piece → take (done + n) (put_mid done k buf piece) ≡ take done buf ++ take n piece
take-put-more done k n buf piece within fits =
    let prefix = take done buf in
    let rest = piece ++ post_of done k buf in
    ap (λ m. take (m + n) (prefix ++ rest)) (sym (length-take-le done buf within)) ∙ take-append-add prefix rest n
    ∙ ap (λ l. prefix ++ l) (take-append-le n piece (post_of done k buf) fits)

pub Consumes-piece : (a b c : Option (List ℕ)) (done k n : ℕ) (buf piece : List ℕ) → done ≤ length buf → n ≤ length piece
    → Consumes a b (take done buf) → Consumes b c (take n piece) → Consumes a c (take (done + n) (put_mid done k buf piece))
Consumes-piece a b c done k n buf piece within fits prefix next =
    subst (Consumes a c) (sym (take-put-more done k n buf piece within fits)) (Consumes-trans a b c _ _ prefix next)

-- nothing more was read
pub Consumes-none : (a b c : Option (List ℕ)) (done k : ℕ) (buf piece : List ℕ) → done ≤ length buf
    → Consumes a b (take done buf) → Keeps b c → Consumes a c (take done (put_mid done k buf piece))
Consumes-none a b c done k buf piece within prefix kept =
    subst (Consumes a c) (sym (take-put_mid_below done k buf piece done (le_refl _) within)) (Consumes-kept a b c _ prefix kept)
