-- What the tree of a text says, the text says; and it says nothing else, if it has one tree and that says one thing.
use Rattle.std.proofs.Common.{◌≡◌, ◌∙◌, sym, subst, Option, None, Some, Result}
use Rattle.sexpr_read.specs.declared.place.TextError.{TextError}
use Rattle.sexpr_read.specs.Tree.{Tree}
use Rattle.list_read.specs.TextResults.{IsBehindText}

module _ {E A : Type 0} (carried : TextError → E) (Spelled : Tree → Type 0) (Says : Tree → Result A E → Type 0) where
  pub tree_says : (refused : Option TextError) (tree : Tree) (answer : Result A E) → refused ≡ None → Spelled tree → Says tree answer → IsBehindText carried Spelled Says refused answer
  tree_says refused tree answer none spelled says = subst (λ (r : Option TextError). IsBehindText carried Spelled Says r answer) (sym none) (tree, spelled, says)

  pub one_answer : ((s t : Tree) → Spelled s → Spelled t → s ≡ t) → ((tree : Tree) (a b : Result A E) → Says tree a → Says tree b → a ≡ b)
      → (refused : Option TextError) (a b : Result A E) → IsBehindText carried Spelled Says refused a → IsBehindText carried Spelled Says refused b → a ≡ b
  one_answer one_tree one_said (Some e) a b h k = h ∙ sym k
  one_answer one_tree one_said None a b h k = one_said k.0 a b (subst (λ (tree : Tree). Says tree a) (one_tree h.0 k.0 h.1 k.1) h.2) k.2
