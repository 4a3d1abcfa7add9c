use Rattle.register_search.proofs.Sets.{before_choice_bits}
use Rattle.register_search.proofs.table.Table.before_choice.Goals as goal

pub returns : goal.returns
returns c = λ set s. before_choice_bits c.args.self.sets c.args.choice c.requires set s
