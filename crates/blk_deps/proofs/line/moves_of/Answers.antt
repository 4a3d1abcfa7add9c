use Rattle.std.proofs.Common.{◌≡◌, ◌+◌, [], ◌∷◌, ◌++◌, ◌||◌, ◌∙◌, ap, subst}
use Rattle.std.specs.List.{list_any}
use Rattle.asm_core.specs.declared.row.Access.{Access}
use Rattle.asm_core.specs.declared.row.Write.{Write}
use Rattle.blk_deps.specs.Line.{accesses_in, stored_from, hand_count}
use Rattle.blk_deps.specs.Stack.{is_push, is_pop}
use Rattle.blk_deps.specs.Rules.{is_of_operand, is_address_of}
use Rattle.blk_deps.specs.LineMoves.{AreBits}
use Rattle.blk_deps.proofs.line.moves_of.Goals as goal

pub returns : goal.returns
returns c =
    let are = c.requires.entries.are in
    let writes = c.as_slice-writes.ensures ∙ are.writes in
    let accesses = c.as_slice-accesses.ensures ∙ are.accesses in
    let reads = c.as_slice.ensures ∙ are.reads in
    record {
      reads = c.in_ok-line_reads.ensures;
      puts = c.in_ok-line_puts.ensures;
      used = c.in_ok-used_hands.ensures ∙ ap (λ ws. stored_from 0 ws ++ hand_count ws ∷ (hand_count ws + 1) ∷ []) writes;
      accesses = c.in_ok-from_slice.ensures ∙ accesses;
      addressed =
          subst (λ sources. AreBits c.addressed.result (λ k. list_any (λ (a : Access). is_of_operand k a.to) (accesses_in c.args.x.now.line.now) || list_any (is_address_of k) sources)) reads
          (subst (λ found. AreBits c.addressed.result (λ k. list_any (λ (a : Access). is_of_operand k a.to) found || list_any (is_address_of k) c.as_slice.result.now)) accesses c.addressed.ensures);
      pushes = c.pushes.ensures ∙ ap (λ ws. list_any (λ (w : Write). is_push w.to) ws) writes;
      pops = c.pops.ensures ∙ ap (λ ws. list_any (λ (w : Write). is_pop w.to) ws) writes;
    }
