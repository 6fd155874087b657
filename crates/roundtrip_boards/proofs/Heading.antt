-- The first list of a board's root is the version, which is no unit, so it stays.
use Rattle.std.proofs.Common.{◌≡◌, ◌∙◌, refl, sym, subst, ℕ, Bool, true, false, cond, List, codes, Option, None, Some, Result, Ok, Err}
use Rattle.std.proofs.lemmas.Slice.Eq.{bytes_eq-Decides}
use Rattle.std.specs.Prelude.{nat_eq, bytes_eq}
use Rattle.sexpr_read.specs.declared.place.Span.{Span}
use Rattle.sexpr_read.specs.Tree.{Forest, none, atom, list, Tree, leaf, branch, trees, unescaped}
use Rattle.board_errors.specs.declared.errors.BoardError.{BoardError}
use Rattle.list_read.specs.FirstRefusals.{◌>>=◌, check}
use Rattle.list_read.specs.ListHeads.{has_head}
use Rattle.roundtrip_text.specs.RewrittenText.{Disposition, stays, first_disposition, IsThere, FirstIsThere}
use Rattle.pcb_read.specs.declared.sorts.Sort.{Sort}
use Rattle.pcb_read.specs.Nets.{with_net_of}
use Rattle.pcb_read.specs.Sorts.{sort_by, sort_of}
use Rattle.pcb_read.specs.BoardOf.{Reading, with_layers, with_board, with_other, version_in, header_in, SaysPartBy, SaysPart}
use Rattle.roundtrip_boards.proofs.Ledger.{same_unit}
use Rattle.roundtrip_boards.specs.WrittenBoard.{Draft, unit_disposition, list_disposition, DispositionsAre}

clash : {A : Type 0} {e : BoardError} {x : A} → Err e ≡ Ok x → ⊥
clash e = let c = e in cc

no_version : false ≡ true → ⊥
no_version e = let c = e in cc

pub holds : {A : Type 0} (e : BoardError) (b : Bool) (next : Unit {0} → Result A BoardError) (x : A) → (check e b >>= next) ≡ Ok x → (b ≡ true) × (next tt ≡ Ok x)
holds e true next x h = (refl, h)
holds e false next x h = absurd (clash h)

abbrev ok_of : Reading → Result Reading BoardError
ok_of reading = Ok reading

-- a version changes nothing
abbrev other_by : Reading → Tree → List ℕ → Result Reading BoardError
other_by before tree v =
    cond (bytes_eq v (codes "net")) (with_board before (with_net_of before.board tree)) (cond (bytes_eq v (codes "layers")) (with_layers before tree) (Ok before))

said : (before after : Reading) (tree : Tree) (t : Span) (v : List ℕ) → bytes_eq v (codes "version") ≡ true → with_other before tree ≡ other_by before tree v → SaysPartBy before tree (sort_by (leaf t false v)) (Ok after) → after ≡ before
said before after tree t v h other says =
    let e = (bytes_eq-Decides v (codes "version")).0 h in
    let unsorted : sort_by (leaf t false v) ≡ None = subst (λ (l : List ℕ). sort_by (leaf t false l) ≡ None) (sym e) refl in
    let k : ok_of after ≡ with_other before tree = subst (λ (o : Option Sort). SaysPartBy before tree o (Ok after)) unsorted says in
    let m : other_by before tree v ≡ ok_of before = subst (λ (l : List ℕ). other_by before tree l ≡ ok_of before) (sym e) refl in
    let same : ok_of after ≡ ok_of before = k ∙ (other ∙ m) in
    cc

pub version_part : (before after : Reading) (s : Span) (f : Forest) → has_head (codes "version") (branch s f) ≡ true → SaysPart before (branch s f) (Ok after) → after ≡ before
unfolding has_head sort_of with_other
version_part before after s none h says = absurd (no_version h)
version_part before after s (list t i others) h says = absurd (no_version h)
version_part before after s (atom t true c others) h says = said before after (branch s (atom t true c others)) t (unescaped c) h refl says
version_part before after s (atom t false c others) h says = said before after (branch s (atom t false c others)) t c h refl says

-- the list that stands first has that head
version_first : (s t r : Span) (q : Bool) (c : List ℕ) (i others : Forest) (u : Unit {0}) → header_in (branch s (atom t q c (list r i others))) ≡ Ok u → has_head (codes "version") (branch r i) ≡ true
unfolding header_in version_in
version_first s t r q c i others u h = (holds _ (has_head (codes "version") (branch r i)) _ u (holds _ (has_head (codes "kicad_pcb") (branch s (atom t q c (list r i others)))) _ u h).1).0

pub first_there : (draft : Draft) (a : Reading) (dispositions : List Disposition) (s t : Span) (q : Bool) (c : List ℕ) (f : Forest) (u : Unit {0}) → header_in (branch s (atom t q c f)) ≡ Ok u → DispositionsAre draft a (trees f) dispositions → FirstIsThere dispositions f
first_there draft a dispositions s t q c none u h are = tt
first_there draft a dispositions s t q c (atom r p e others) u h are = tt
first_there draft a dispositions s t q c (list r i others) u h (next, more, says, rest, is) =
    let same : next ≡ a = version_part a next r i (version_first s t r q c i others u h) says in
    subst (λ (l : List Disposition). IsThere (first_disposition l)) (sym is) (subst (λ (x : Reading). IsThere (list_disposition draft a x i)) (sym same) (stays_there (nat_eq a.board.next_unit a.board.next_unit) (same_unit a.board.next_unit a.board.next_unit refl)))
  where
    stays_there : (b : Bool) → b ≡ true → IsThere (cond b stays (unit_disposition draft i (Some a.board.next_unit)))
    stays_there true e = tt
    stays_there false e = absurd (no_version e)
