use Rattle.std.proofs.Common.{◌≡◌, ◌∙◌, ap, sym, subst}
use Rattle.std.specs.Cmp.Lexicographic.{pointwise}
use Rattle.ratsnest.specs.NestOf.{IsNest}
use Rattle.ratsnest.proofs.Whole.{one_nest}
use Rattle.ratsnest.proofs.Sorting.{link_eq, same_links_from, same_links_itself}
use Rattle.ratsnest.proofs.checking.check_nest.Goals as goal

pub returns : goal.returns
returns c =
    let e : c.eq.result ≡ pointwise link_eq c.in_ok-links.links.items c.args.nest.now.links =
    c.eq.ensures ∙ ap (λ z. pointwise link_eq z c.as_slice-2.result.now) c.as_slice.ensures.value ∙ ap (λ z. pointwise link_eq c.in_ok-links.links.items z) c.as_slice-2.ensures in (
      λ t. subst (IsNest c.args.anchors.now) (same_links_from c.in_ok-links.links.items c.args.nest.now.links (sym e ∙ t)) c.in_ok-links.ensures,
      λ n. e ∙ ap (λ z. pointwise link_eq z c.args.nest.now.links)
          (one_nest c.args.anchors.now c.requires.rise c.requires.few c.in_ok-links.links.items c.args.nest.now.links c.in_ok-links.ensures n)
          ∙ same_links_itself c.args.nest.now.links,
    )
