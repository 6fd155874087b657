-- A file that is read piece by piece.
use Rattle.std.proofs.Common.{◌≡◌, ℕ, List, [], Option, None, Some, ◌++◌, length, take, drop, sym, ap, subst, ◌∙◌, append_assoc, take-append-drop}
use Rattle.std.proofs.Math.Seq.{drop-append_seam}
use Rattle.drc_io.specs.Files.{ReadsAt, ReadsFrom, ReadsBehind, IsPrefixOf, IsPrefix, file_of}

pub IsPrefixOf-piece : (file : Option (List ℕ)) (text buf : List ℕ) (n : ℕ) → IsPrefixOf file text → ReadsAt file (length text) n buf → IsPrefixOf file (text ++ take n buf)
IsPrefixOf-piece None text buf n prefix read = absurd read
IsPrefixOf-piece (Some bytes) text buf n prefix read =
    let rest = prefix.0 in
    let left : drop (length text) bytes ≡ rest = ap (drop (length text)) prefix.1 ∙ drop-append_seam text rest in
    let piece : take n buf ≡ take n rest = read.0 ∙ ap (take n) left in
    (drop n rest, prefix.1 ∙ ap (λ l. text ++ l) (sym (take-append-drop n rest)) ∙ ap (λ l. text ++ (l ++ drop n rest)) (sym piece) ∙ sym (append_assoc text (take n buf) (drop n rest)))

pub IsPrefix-piece : (told : Option (List (List ℕ × List ℕ))) (name text buf : List ℕ) (n : ℕ) → IsPrefix told name text → ReadsFrom told name (length text) n buf → IsPrefix told name (text ++ take n buf)
IsPrefix-piece None name text buf n prefix read = tt
IsPrefix-piece (Some files) name text buf n prefix read = IsPrefixOf-piece (file_of files name) text buf n prefix read

nil_of : (file : Option (List ℕ)) (text : List ℕ) → text ≡ [] → IsPrefixOf file text
nil_of None text e = e
nil_of (Some bytes) text e = (bytes, ap (λ l. l ++ bytes) (sym e))

pub IsPrefix-nil : (told : Option (List (List ℕ × List ℕ))) (name text : List ℕ) → text ≡ [] → IsPrefix told name text
IsPrefix-nil None name text e = tt
IsPrefix-nil (Some files) name text e = nil_of (file_of files name) text e

-- one more piece, where the shelf tells the same as at first
pub IsPrefix-behind : (told told' : Option (List (List ℕ × List ℕ))) (name text longer : List ℕ) (n : ℕ) → told' ≡ told → IsPrefix told name text
    → ReadsBehind told' name text n longer → IsPrefix told name longer
IsPrefix-behind told told' name text longer n same prefix (buf, some, within, read, grown) =
    let read' : ReadsFrom told name (length text) n buf = rw same at read in
    subst (IsPrefix told name) (sym grown) (IsPrefix-piece told name text buf n prefix read')
