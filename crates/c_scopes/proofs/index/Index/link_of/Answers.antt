use Rattle.std.proofs.Common.{rules}
use Rattle.c_scopes.proofs.Chains.{started}
use Rattle.c_scopes.proofs.index.Index.link_of.Goals as goal

pub returns : goal.returns
returns c = record {
  before = started c.args.self.now.declarations.items c.args.declaration.now c.of-before.result (search rules);
  run = c.run_of.ensures.leads;
  back = c.run_of.ensures.back;
  fits = c.run_of.ensures.fits;
}
