-- Bytes that are passed over, and what stands behind bytes that were read.
use Rattle.std.proofs.Common.{◌≡◌, ◌≤◌, ℕ, ◌+◌, List, [], ◌++◌, Option, None, Some, IfSome, IsSomeAnd, length, take, drop, subst, sym, ap, ◌∙◌, arith, length-drop, length-take-le}
use Rattle.std.proofs.lemmas.List.{drop-drop, drop_at, drop_all}
use Rattle.std.specs.Io.KnownBytes.{Consumes, IsAtEnd}
use Rattle.drc_io.specs.Files.{file_of}
use Rattle.drc_outside.specs.FilePositions.{Passes, IsFileAt}

-- behind k bytes n more were read: what is left stands behind all of them
pub left_behind : (xs piece ys : List ℕ) (k n : ℕ) → n ≤ length piece → drop k xs ≡ take n piece ++ ys → ys ≡ drop (k + n) xs
left_behind xs piece ys k n fits e = sym (drop_at (take n piece) ys n (length-take-le n piece fits)) ∙ ap (drop n) (sym e) ∙ drop-drop n k xs

-- after the bytes that were passed over more were read
pub Passes-more : (a b c : Option (List ℕ)) (k n : ℕ) (piece : List ℕ) → n ≤ length piece → Passes a b k → Consumes b c (take n piece) → Passes a c (k + n)
Passes-more None b c k n piece fits before read = tt
Passes-more (Some xs) b c k n piece fits before read = by c (subst (λ o. Consumes o c (take n piece)) before read)
  where
    by : (c : Option (List ℕ)) → Consumes (Some (drop k xs)) c (take n piece) → Passes (Some xs) c (k + n)
    by None none = absurd none
    by (Some ys) e = ap Some (left_behind xs piece ys k n fits e)

-- and the end came
pub Passes-end : (a b c : Option (List ℕ)) (k n count : ℕ) (piece : List ℕ) → n ≤ length piece → k + n ≤ count → Passes a b k → Consumes b c (take n piece) → IsAtEnd c → Passes a c count
Passes-end None b c k n count piece fits within before read end = tt
Passes-end (Some xs) b c k n count piece fits within before read end = by c (subst (λ o. Consumes o c (take n piece)) before read) end
  where
    by : (c : Option (List ℕ)) → Consumes (Some (drop k xs)) c (take n piece) → IsAtEnd c → Passes (Some xs) c count
    by None none end = absurd none
    by (Some ys) e end =
        let all : drop (k + n) xs ≡ [] = sym (left_behind xs piece ys k n fits e) ∙ end in
        let short : length xs ≤ count = omega (arith, length-drop (k + n) xs, ap length all) in
        ap Some (end ∙ sym (drop_all count xs short))

-- a file of which more was read stands behind that too
pub IsFileAt-behind : (told : Option (List (List ℕ × List ℕ))) (name : List ℕ) (at n behind : ℕ) (a b : Option (List ℕ)) (buf : List ℕ) → IsFileAt told name at a
    → n ≤ length buf → Consumes a b (take n buf) → behind ≡ at + n → IsFileAt told name behind b
IsFileAt-behind None name at n behind a b buf stood fits read same = tt
IsFileAt-behind (Some files) name at n behind a b buf stood fits read same = by (file_of files name) stood
  where
    by : (found : Option (List ℕ)) → IsSomeAnd found (λ bytes. a ≡ Some (drop at bytes)) → IsSomeAnd found (λ bytes. b ≡ Some (drop behind bytes))
    by None none = none
    by (Some bytes) e = subst (λ k. b ≡ Some (drop k bytes)) (sym same) (Passes-more (Some bytes) a b at n buf fits e read)

-- so does the file that is kept under its name, if it is kept under any
pub kept_behind : (told : Option (List (List ℕ × List ℕ))) (mine : Option (List ℕ)) (name : List ℕ) (at n behind : ℕ) (a b : Option (List ℕ)) (buf : List ℕ) → IfSome mine (λ known. known ≡ name)
    → IsFileAt told name at a → n ≤ length buf → Consumes a b (take n buf) → behind ≡ at + n → IfSome mine (λ known. IsFileAt told known behind b)
kept_behind told None name at n behind a b buf named stood fits read same = tt
kept_behind told (Some known) name at n behind a b buf named stood fits read same =
    subst (λ (k : List ℕ). IsFileAt told k behind b) (sym named) (IsFileAt-behind told name at n behind a b buf stood fits read same)
