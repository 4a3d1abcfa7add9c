use Rattle.std.proofs.Common.{rules, refl, arith}
use Rattle.c_scopes.proofs.Chains.{IsJoined, begun, joined_back, joined_leads}
use Rattle.c_scopes.specs.declared.chain.Run.{Run}
use Rattle.c_scopes.proofs.index.Index.run_of.Goals as goal

pub loop-run-init : goal.loop-run-init
loop-run-init c =
    let run : Run = record { earliest = c.args.declaration.now.seen.from; latest = c.args.declaration.now.seen.to; length = 1; before = c.args.before } in
    record {
      leads = begun c.args.self.now.declarations.items c.args.declaration.now run refl refl c.requires.before;
      back = c.requires.before.back;
      fits = let p = c.requires.before.back in omega arith;
    }

pub loop-run-smaller : goal.loop-run-smaller
loop-run-smaller c =
    rw c.joined-run.ensures
    (joined_back c.args.self.now.declarations.items c.args.declaration.now c.args.self.now.links.items c.loop-run.run c.joined-run.result c.index.result.now
    (record {
      linked = c.requires.index.linked;
      leads = c.loop-run.invariant.leads;
      back = c.loop-run.invariant.back;
      some = search rules;
      read_l = search rules;
      earliest = search rules;
      latest = search rules;
      before = search rules;
    })).0

pub loop-run-preserved : goal.loop-run-preserved
loop-run-preserved c =
    let j : IsJoined c.args.self.now.declarations.items c.args.declaration.now c.args.self.now.links.items c.loop-run.run c.joined-run.result c.index.result.now =
    record {
      linked = c.requires.index.linked;
      leads = c.loop-run.invariant.leads;
      back = c.loop-run.invariant.back;
      some = search rules;
      read_l = search rules;
      earliest = search rules;
      latest = search rules;
      before = search rules;
    } in
    let back = joined_back _ _ _ _ _ _ j in
    record {
      leads = joined_leads c.args.self.now.declarations.items c.args.declaration.now c.args.self.now.links.items c.loop-run.run c.joined-run.result c.index.result.now j;
      back = search rules;
      fits = search rules;
    }
