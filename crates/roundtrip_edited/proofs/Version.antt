-- The version stays the first list of a board's root, also where atoms stand before it.
use Rattle.std.proofs.Common.{◌≡◌, ◌∙◌, refl, sym, ap, subst, ℕ, Bool, true, false, cond, List, ◌∷◌, ◌++◌, codes, find, Option, None, Some, Result, Ok}
use Rattle.std.specs.Prelude.{nat_eq}
use Rattle.sexpr_read.specs.declared.place.Span.{Span}
use Rattle.sexpr_read.specs.Tree.{Forest, none, atom, list, Tree, branch, trees, is_list}
use Rattle.board_errors.specs.declared.errors.BoardError.{BoardError}
use Rattle.board_errors.specs.declared.errors.BoardError.TheVariants.{NotABoard, Version, Missing}
use Rattle.list_read.specs.FirstRefusals.{◌>>=◌, needed, check}
use Rattle.list_read.specs.ListHeads.{place, has_head}
use Rattle.part_read.specs.ElementResults.{atom_of}
use Rattle.roundtrip_text.specs.RewrittenText.{Disposition, stays, inside_by, insides_after}
use Rattle.pcb_read.specs.BoardOf.{Reading, is_version, version_in, header_in}
use Rattle.roundtrip_boards.specs.WrittenBoard.{Draft, unit_disposition, list_disposition, DispositionsAre}
use Rattle.roundtrip_boards.proofs.Heading.{version_part, holds}
use Rattle.roundtrip_boards.proofs.Ledger.{same_unit}

-- ---- the first list has that head

record FirstIsVersion (f : Forest) : Type 0 where
  tree : Tree
  there : find is_list (trees f) ≡ Some tree
  named : has_head (codes "version") tree ≡ true

version_found : (s t : Span) (q : Bool) (c : List ℕ) (f : Forest) (u : Unit {0}) → header_in (branch s (atom t q c f)) ≡ Ok u → FirstIsVersion f
unfolding header_in version_in
version_found s t q c f u h =
    by_found (find is_list (trees f)) refl (holds (NotABoard (place (branch s (atom t q c f)))) (has_head (codes "kicad_pcb") (branch s (atom t q c f))) _ u h).1
  where
    version_of : Tree → Result (Unit {0}) BoardError
    version_of tree = atom_of 1 tree >>= λ atom. check (Version (place atom)) (is_version atom)

    by_found : (o : Option Tree) → find is_list (trees f) ≡ o
        → (needed (Missing (place (branch s (atom t q c f)))) o >>= λ tree. (check (Missing (place (branch s (atom t q c f)))) (has_head (codes "version") tree) >>= λ named. version_of tree)) ≡ Ok u → FirstIsVersion f
    by_found None e k = absurd cc
    by_found (Some tree) e k = record { tree = tree; there = e; named = (holds (Missing (place (branch s (atom t q c f)))) (has_head (codes "version") tree) _ u k).0 }

-- ---- and stays

pub record VersionStays (f : Forest) (dispositions : List Disposition) : Type 0 where
  pub span : Span
  pub inside : Forest
  pub rest : List Forest
  pub there : find is_list (trees f) ≡ Some (branch span inside)
  pub are : insides_after dispositions f ≡ inside ∷ rest

one_tree : {t u : Tree} → Some t ≡ Some u → t ≡ u
one_tree h = cc

no_version : false ≡ true → ⊥
no_version e = let c = e in cc

first_stays : (draft : Draft) (tree : Tree) (f : Forest) (a : Reading) (dispositions : List Disposition) → find is_list (trees f) ≡ Some tree → has_head (codes "version") tree ≡ true → DispositionsAre draft a (trees f) dispositions → VersionStays f dispositions
first_stays draft tree none a dispositions there named are = absurd cc
first_stays draft tree (atom s q c others) a dispositions there named (next, more, says, rest, is) =
    let k = first_stays draft tree others next more there named rest in
    record { span = k.span; inside = k.inside; rest = k.rest; there = k.there; are = ap (λ (l : List Disposition). insides_after l others) is ∙ k.are }
first_stays draft tree (list s i others) a dispositions there named (next, more, says, rest, is) =
    let head : has_head (codes "version") (branch s i) ≡ true = subst (λ (t : Tree). has_head (codes "version") t ≡ true) (sym (one_tree there)) named in
    let same : next ≡ a = version_part a next s i head says in
    record {
      span = s;
      inside = i;
      rest = insides_after more others;
      there = refl;
      are =
          ap (λ (l : List Disposition). insides_after l (list s i others)) is
          ∙ ap (λ (x : Reading). inside_by i (list_disposition draft a x i) ++ insides_after more others) same
          ∙ by_unit (nat_eq a.board.next_unit a.board.next_unit) (same_unit a.board.next_unit a.board.next_unit refl) more;
    }
  where
    by_unit : (b : Bool) → b ≡ true → (more : List Disposition) → inside_by i (cond b stays (unit_disposition draft i (Some a.board.next_unit))) ++ insides_after more others ≡ i ∷ insides_after more others
    by_unit true e more = refl
    by_unit false e more = absurd (no_version e)

pub version_stays : (draft : Draft) (a : Reading) (dispositions : List Disposition) (s t : Span) (q : Bool) (c : List ℕ) (f : Forest) (u : Unit {0}) → header_in (branch s (atom t q c f)) ≡ Ok u → DispositionsAre draft a (trees f) dispositions → VersionStays f dispositions
version_stays draft a dispositions s t q c f u h are =
    let first = version_found s t q c f u h in
    first_stays draft first.tree f a dispositions first.there first.named are
