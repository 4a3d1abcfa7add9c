use Rattle.std.proofs.Common.{rules}
use Rattle.c_scopes.proofs.Chains.{left_out, gone_on, is_found, goes_back}
use Rattle.c_scopes.proofs.index.Index.last_seen.Goals as goal

pub loop-at-preserved-then-is_outside : goal.loop-at-preserved-then-is_outside
loop-at-preserved-then-is_outside c =
    left_out _ _ c.args.space c.args.name.now c.args.place c.loop-at.at c.index-declaration.result.now c.index.result.now
    (record { linked = c.requires.linked; led = c.loop-at.invariant; some = search rules; read_d = search rules; read_l = search rules }) (search rules)

pub returns-then-is_seen : goal.returns-then-is_seen
returns-then-is_seen c =
    is_found _ c.args.self.now.links.items c.args.space c.args.name.now c.args.place c.loop-at.at c.index-declaration.result.now c.index.result.now
    (record { linked = c.requires.linked; led = c.loop-at.invariant; some = search rules; read_d = search rules; read_l = search rules }) (search rules)

pub loop-at-smaller : goal.loop-at-smaller
loop-at-smaller c =
    (goes_back c.args.self.now.declarations.items c.args.self.now.links.items c.args.space c.args.name.now c.args.place c.loop-at.at c.index-declaration.result.now c.index.result.now
    (record { linked = c.requires.linked; led = c.loop-at.invariant; some = search rules; read_d = search rules; read_l = search rules })).0

pub loop-at-preserved : goal.loop-at-preserved
loop-at-preserved c =
    gone_on _ _ c.args.space c.args.name.now c.args.place c.loop-at.at c.index-declaration.result.now c.index.result.now
    (record { linked = c.requires.linked; led = c.loop-at.invariant; some = search rules; read_d = search rules; read_l = search rules }) (search rules)
