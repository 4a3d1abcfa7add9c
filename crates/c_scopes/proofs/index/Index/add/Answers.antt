use Rattle.std.proofs.Common.{rules, ◌∷◌, [], ◌++◌}
use Rattle.c_scopes.specs.Head.{head_of}
use Rattle.c_scopes.proofs.Chains.{indexed, linked_more, heads_more}
use Rattle.c_scopes.proofs.index.Index.add.Goals as goal

pub returns-clause-sound : goal.returns-clause-sound
returns-clause-sound c =
    indexed _ (c.args.self.now.declarations.items ++ c.args.declaration ∷ []) (c.args.self.now.links.items ++ c.link_of-link.result ∷ []) (search rules) (search rules)
    (linked_more c.args.self.now.declarations.items c.args.declaration c.args.self.now.links.items c.link_of-link.result c.requires.linked (search rules))
    (heads_more c.args.self.now.declarations.items c.args.declaration (head_of c.args.self.now.heads) (head_of c.set.new.self) c.requires.heads (search rules))
