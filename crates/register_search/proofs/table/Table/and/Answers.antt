use Rattle.register_search.proofs.Sets.{in_both}
use Rattle.register_search.proofs.table.Table.and.Goals as goal

pub returns : goal.returns
returns c = λ set. in_both c.args.self.sets c.args.other.sets set
