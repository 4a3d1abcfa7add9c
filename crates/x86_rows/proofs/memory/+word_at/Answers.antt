use Rattle.std.proofs.Common.{◌+◌, ◌*◌, ◌^◌, ◌<◌, arith}
use Rattle.x86_rows.proofs.Words.{byte_below, bytes_small}
use Rattle.x86_rows.proofs.memory.+word_at.Goals as goal

pub overflow_mul-result : goal.overflow_mul-result
overflow_mul-result t c =
    let below : 0 + 256 * c.word_at-rest.result < 256 ^ c.args.count = byte_below c.args.count 0 c.word_at-rest.result (omega arith) c.requires.count (omega arith) c.word_at-rest.ensures.small in
    let small : 0 + 256 * c.word_at-rest.result < 2 ^ 64 = bytes_small c.args.count (0 + 256 * c.word_at-rest.result) c.requires.count below in
    omega arith

pub overflow_add-result : goal.overflow_add-result
overflow_add-result t c =
    let below : c.from.result + 256 * c.word_at-rest.result < 256 ^ c.args.count = byte_below c.args.count c.from.result c.word_at-rest.result (omega arith) c.requires.count (omega arith) c.word_at-rest.ensures.small in
    let small : c.from.result + 256 * c.word_at-rest.result < 2 ^ 64 = bytes_small c.args.count (c.from.result + 256 * c.word_at-rest.result) c.requires.count below in
    omega arith

pub returns-clause-small : goal.returns-clause-small
returns-clause-small t c = byte_below c.args.count c.from.result c.word_at-rest.result (omega arith) c.requires.count (omega arith) c.word_at-rest.ensures.small
