use Rattle.std.proofs.Common.{refl, sym, ◌∙◌, ap, subst, ◌≡◌, ℕ, List, Some, true, false, cond, bytes_eq, map, [], ◌∷◌, ◌++◌}
use Rattle.std.proofs.lemmas.List.{map-append}
use Rattle.std.specs.HashSet.{contains_text}
use Rattle.std.specs.String.{string_bytes}
use Rattle.std.proofs.lemmas.Map.Text.{hash_set_updates_text}
use Rattle.net_class.specs.ClassesOf.{Written}
use Rattle.net_class.specs.ProjectWalk.{with_written}
use Rattle.net_class.specs.ClassValues.{written_class, HasNames}
use Rattle.net_class.proofs.Named.{one_more, stays, grows, not_false, not_true}
use Rattle.net_class.proofs.drafts.Drafts.with_named.Goals as goal

pub returns-then-not-added : goal.returns-then-not-added
returns-then-not-added c =
    let known : contains_text c.self.inside.names (string_bytes c.in_ok-key.key) ≡ true = not_false c.in_ok-added.added _ c.in_ok-added.ensures.added c.if-not-added.true in
    let here : contains_text c.self.inside.names c.args.name ≡ true = subst (λ (n : List ℕ). contains_text c.self.inside.names n ≡ true) c.in_ok-key.ensures known in
    stays c.self.inside.names (map written_class c.self.inside.list.items) c.args.name c.args.clearance c.self.invariant here
    ∙ ap (λ (x : List Written). with_written x (Some c.args.name) c.args.clearance) c.self.view_is

pub invariant_of-result-2 : goal.invariant_of-result-2
invariant_of-result-2 c =
    let ws : List Written = map written_class c.self.inside.list.items in
    let w : Written = record { name = c.args.name; clearance = c.args.clearance } in
    let items : map written_class c.push.new.self.items ≡ ws ++ w ∷ [] = ap (map written_class) c.in_ok-push.ensures.items ∙ map-append written_class c.self.inside.list.items _ in
    let grown : (q : List ℕ) → contains_text c.insert.new.self q ≡ cond (bytes_eq c.args.name q) true (contains_text c.self.inside.names q) =
    λ q. subst (λ (n : List ℕ). contains_text c.insert.new.self q ≡ cond (bytes_eq n q) true (contains_text c.self.inside.names q)) c.in_ok-key.ensures
    (hash_set_updates_text (string_bytes c.in_ok-key.key) c.self.inside.names c.insert.new.self true c.in_ok-added.ensures.updates q) in
    subst (λ (x : List Written). HasNames c.insert.new.self x) (sym items) (one_more c.self.inside.names c.insert.new.self ws c.args.name c.self.invariant grown w refl)

pub returns : goal.returns
returns c =
    let ws : List Written = map written_class c.self.inside.list.items in
    let w : Written = record { name = c.args.name; clearance = c.args.clearance } in
    let items : map written_class c.push.new.self.items ≡ ws ++ w ∷ [] = ap (map written_class) c.in_ok-push.ensures.items ∙ map-append written_class c.self.inside.list.items _ in
    let unknown : contains_text c.self.inside.names (string_bytes c.in_ok-key.key) ≡ false = not_true c.in_ok-added.added _ c.in_ok-added.ensures.added c.if-not-added.false in
    let here : contains_text c.self.inside.names c.args.name ≡ false = subst (λ (n : List ℕ). contains_text c.self.inside.names n ≡ false) c.in_ok-key.ensures unknown in
    items ∙ grows c.self.inside.names ws c.args.name c.args.clearance c.self.invariant here
    ∙ ap (λ (x : List Written). with_written x (Some c.args.name) c.args.clearance) c.self.view_is
