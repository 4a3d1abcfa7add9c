use Rattle.std.proofs.Common.{◌∙◌, sym}
use Rattle.att_reader.proofs.SeenLemmas.{has_seen-keys}
use Rattle.att_reader.proofs.seen.Seen.has.Goals as goal

pub returns : goal.returns
returns c = c.contains.ensures ∙ sym (has_seen-keys c.args.self.now c.args.name.now)
