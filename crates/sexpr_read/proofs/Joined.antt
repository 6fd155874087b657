-- What spells one forest and then another spells both.
use Rattle.std.proofs.Common.{◌≡◌, inl, inr, ℕ, suc, List, max, arith}
use Rattle.std.proofs.lemmas.Bool.{cases_lt}
use Rattle.sexpr_read.specs.declared.bytes.ByteClass.{ByteClass}
use Rattle.sexpr_read.specs.declared.bytes.ByteClass.TheVariants.{Space}
use Rattle.sexpr_read.specs.Tree.{Forest, none, atom, list, levels_in}
use Rattle.sexpr_read.specs.Spelling.{IsSpaceBetween, SpellsForest}
use Rattle.sexpr_read.proofs.CellLemmas.{join}

module _ (sign : ℕ → ByteClass) where
  pub no_gap : (a : ℕ) → IsSpaceBetween sign a a
  no_gap a = record { ordered = omega arith; blank = λ i low high. absurd (omega arith) }

  pub gap_join : (a b c : ℕ) → IsSpaceBetween sign a b → IsSpaceBetween sign b c → IsSpaceBetween sign a c
  gap_join a b c g h = record {
    ordered = omega (arith, g.ordered, h.ordered);
    blank = λ i low high. elim (cases_lt i b) [ inl lt ↦ g.blank i low lt | inr ge ↦ h.blank i ge high ];
  }

  pub gap_space : (a b : ℕ) → IsSpaceBetween sign a b → sign b ≡ Space → IsSpaceBetween sign a (suc b)
  gap_space a b g e = record {
    ordered = omega (arith, g.ordered);
    blank = λ i low high. elim (cases_lt i b) [ inl lt ↦ g.blank i low lt | inr ge ↦ (let same : i ≡ b = omega arith in rw same e) ];
  }

module _ (sign : ℕ → ByteClass) (text : List ℕ) where
  pub spelled_after_gap : (f : Forest) (a b c : ℕ) → IsSpaceBetween sign a b → SpellsForest sign text b c f → SpellsForest sign text a c f
  spelled_after_gap none a b c g h = gap_join sign a b c g h
  spelled_after_gap (atom s q x others) a b c g h = (gap_join sign a b s.at g h.0, h.1, h.2)
  spelled_after_gap (list s inside others) a b c g h = (gap_join sign a b s.at g h.0, h.1, h.2, h.3)

  pub spelled_join : (f g : Forest) (a b c : ℕ) → SpellsForest sign text a b f → SpellsForest sign text b c g → SpellsForest sign text a c (join f g)
  spelled_join none g a b c h k = spelled_after_gap g a b c h k
  spelled_join (atom s q x others) g a b c h k = (h.0, h.1, spelled_join others g s.end b c h.2 k)
  spelled_join (list s inside others) g a b c h k = (h.0, h.1, h.2, spelled_join others g s.end b c h.3 k)

  pub spelled_gap : (f : Forest) (a b c : ℕ) → SpellsForest sign text a b f → IsSpaceBetween sign b c → SpellsForest sign text a c f
  spelled_gap none a b c h g = gap_join sign a b c h g
  spelled_gap (atom s q x others) a b c h g = (h.0, h.1, spelled_gap others s.end b c h.2 g)
  spelled_gap (list s inside others) a b c h g = (h.0, h.1, h.2, spelled_gap others s.end b c h.3 g)

pub levels_in-join : (f g : Forest) → levels_in (join f g) ≡ max (levels_in f) (levels_in g)
levels_in-join none g = omega arith
levels_in-join (atom s q x others) g = levels_in-join others g
levels_in-join (list s inside others) g = omega (arith, levels_in-join others g)
