use Rattle.std.proofs.Common.{◌≡◌, ◌+◌, ◌∷◌, ◌++◌, [], List, length, drop, ap, sym, ◌∙◌, Some}
use Rattle.std.specs.Prelude.{◌==◌}
use Rattle.std.proofs.lemmas.List.Elements.{All-push, All-same}
use Rattle.c_types.specs.declared.extent.Extent.{Extent}
use Rattle.c_types.specs.Extents.{IsExtent}
use Rattle.c_types.specs.Layouts.{extents_of, member_extent}
use Rattle.c_types.proofs.Extended.{after, after-more}
use Rattle.c_types.proofs.members.extents.Goals as goal

pub loop-k-preserved : goal.loop-k-preserved
loop-k-preserved c =
    let tags = c.args.tags.now in
    let members = c.args.members.now in
    let k = c.loop-k.k in
    let member = c.index-members-k.result in
    let extent = c.in-Some.extent in
    let before = c.loop-k.extents in
    let known : member_extent tags c.args.place (k + 1 == length members) member ≡ Some extent = sym c.in-Some.ensures.is in
    let more = after-more tags c.args.place members k member before extent c.loop-k-test.true
    (ap (member_extent tags c.args.place (k + 1 == length members)) (sym c.index-members-k.is) ∙ known) in
    record {
      same = ap (λ (es : List Extent). after es (extents_of tags c.args.place (drop (k + 1) members))) c.in_ok-push.ensures.ok ∙ more ∙ c.loop-k.invariant.same;
      sound = All-same IsExtent c.push.new.self (before ++ extent ∷ []) c.in_ok-push.ensures.ok
          (All-push IsExtent before extent c.loop-k.invariant.sound (c.in-Some.ensures.sound c.requires));
    }
