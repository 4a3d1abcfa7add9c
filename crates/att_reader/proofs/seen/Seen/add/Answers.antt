use Rattle.att_reader.proofs.SeenLemmas.{seen_added}
use Rattle.att_reader.proofs.seen.Seen.add.Goals as goal

pub returns : goal.returns
returns c = λ other. rw (← c.in_ok-from_slice.ensures.items) (seen_added c.args.self.now (record { alloc = c.args.self.now.alloc; names = c.insert.new.self }) c.in_ok-from_slice.field-0 c.in_ok-insert.field-0 other c.in_ok-insert.ensures.keys c.in_ok-insert.ensures.added)
