use Rattle.std.proofs.Common.{rules}
use Rattle.c_scopes.proofs.LastSeen.{is_last_seen}
use Rattle.c_scopes.proofs.scopes.Scopes.declaration.Goals as goal

pub returns-clause-last : goal.returns-clause-last
returns-clause-last c = is_last_seen c.args.space c.args.name.now c.args.place c.args.self.now.declarations _ (search rules)
