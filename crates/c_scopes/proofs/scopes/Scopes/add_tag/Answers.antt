use Rattle.std.specs.Option.{ForSome}
use Rattle.std.proofs.lemmas.List.Elements.{All-push, All-same}
use Rattle.c_types.specs.declared.tag.Tag.{Tag}
use Rattle.c_types.specs.declared.tag.Layout.{Layout}
use Rattle.c_types.specs.Extents.{IsAlignment}
use Rattle.c_scopes.proofs.scopes.Scopes.add_tag.Goals as goal

abbrev IsTagAligned : Tag → Type 0
IsTagAligned tag = ForSome tag.layout (λ (l : Layout). IsAlignment l.align)

pub invariant_of-self-2 : goal.invariant_of-self-2
invariant_of-self-2 c = (
  c.self.invariant.0,
  All-same IsTagAligned c.push.new.self _ c.in_ok-push.ensures.ok
      (All-push IsTagAligned c.self.inside.tags.list _ c.self.invariant.1 c.requires),
)
