use Rattle.register_search.proofs.Sets.{in_either}
use Rattle.register_search.proofs.table.Table.or.Goals as goal

pub returns : goal.returns
returns c = λ set. in_either c.args.self.sets c.args.other.sets set
