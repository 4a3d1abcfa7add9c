-- The lists of what a line's writes name are those of its row.
use Rattle.std.proofs.Common.{◌≡◌, ℕ, zero, suc, ◌+◌, ◌<◌, List, [], ◌∷◌, length, slice_get, Bool, true, false, if◌then◌else◌, Option, None, Some, refl, ap, sym, subst, ◌∙◌, arith}
use Rattle.std.specs.List.{filter_map}
use Rattle.asm_core.specs.Entries.{sources_of, by_of, fact_in, line_facts, is_write, is_control, is_of_use, names_where, write_to, write_of, writes_of, write_numbers, named_of, accesses_of}
use Rattle.asm_core.specs.declared.sym.Sym.{Sym}
use Rattle.asm_core.specs.declared.row.Write.{Write}
use Rattle.asm_core.specs.declared.row.By.{By}
use Rattle.asm_core.specs.declared.micro_op.Target.{Target}
use Rattle.asm_core.specs.declared.micro_op.MicroOp.{MicroOp}
use Rattle.asm_core.specs.declared.micro_op.Fact.{Fact}
use Rattle.x86_rows.specs.Entered.{AreEntries, named_by, all_named}
use Rattle.x86_rows.specs.declared.line_entries.LineEntries.{LineEntries}

-- as many as there are writes
abbrev added : Option Write → ℕ → ℕ
added None n = n
added (Some w) n = suc n

written : (s : Sym) (by : By) (t : Target) (n : ℕ) → added (write_to s by t) n ≡ (if is_write t then suc n else n)
written s by (Target.Site site) n = refl
written s by Target.Push n = refl
written s by Target.Pop n = refl
written s by Target.Temporary n = refl
written s by Target.Jump n = refl
written s by Target.Stay n = refl
written s by Target.Turn n = refl
written s by Target.Divide n = refl
written s by (Target.Touch k) n = refl

length-added : (s : Sym) (op : MicroOp) (ops : List MicroOp) → length (filter_map (write_of s) (op ∷ ops))
    ≡ added (write_of s op) (length (filter_map (write_of s) ops))
length-added s op ops = by_write (write_of s op) refl
  where
    by_write : (w : Option Write) → write_of s op ≡ w → length (filter_map (write_of s) (op ∷ ops))
        ≡ added (write_of s op) (length (filter_map (write_of s) ops))
    by_write None e = grind (arith, e)
    by_write (Some w) e = grind (arith, e)

pub named_count : (s : Sym) (facts : List Fact) (ops : List MicroOp) (n : ℕ) → length (all_named s facts ops n)
    ≡ length (filter_map (write_of s) ops)
named_count s facts [] n = refl
named_count s facts (op ∷ ops) n = by_test (named_count s facts ops (n + 1)) (is_write op.target) refl
  where
    by_test : length (all_named s facts ops (n + 1)) ≡ length (filter_map (write_of s) ops)
        → (t : Bool) → is_write op.target ≡ t → length (all_named s facts (op ∷ ops) n)
        ≡ length (filter_map (write_of s) (op ∷ ops))
    by_test rest true e = grind (
      arith,
      e,
      rest,
      length-added s op ops,
      written s (by_of s op.function op.x) op.target
          (length (filter_map (write_of s) ops)),
    )
    by_test rest false e = grind (
      arith,
      e,
      rest,
      length-added s op ops,
      written s (by_of s op.function op.x) op.target
          (length (filter_map (write_of s) ops)),
    )

-- where the k-th of the writes from the n-th micro-operation on is
record IsWritten (s : Sym) (facts : List Fact) (ops : List MicroOp) (n k : ℕ) : Type 0 where
  pub place : ℕ
  pub op : MicroOp
  pub number : slice_get (write_numbers ops n) k ≡ Some (n + place)
  pub there : slice_get ops place ≡ Some op
  pub named : slice_get (all_named s facts ops n) k ≡ Some (named_by s op (fact_in facts (n + place)))

later : (n place : ℕ) → n + 1 + place ≡ n + suc place
later n place = omega arith

here : (n : ℕ) → n ≡ n + 0
here n = omega arith

find : (s : Sym) (facts : List Fact) (ops : List MicroOp) (n k : ℕ) → k < length (all_named s facts ops n)
    → IsWritten s facts ops n k
find s facts [] n k within = absurd (omega arith)
find s facts (op ∷ ops) n k within = by_test (find s facts ops (n + 1)) (is_write op.target) refl k within
  where
    passed : (k j : ℕ) → slice_get (write_numbers (op ∷ ops) n) k ≡ slice_get (write_numbers ops (n + 1)) j
        → slice_get (all_named s facts (op ∷ ops) n) k ≡ slice_get (all_named s facts ops (n + 1)) j
        → IsWritten s facts ops (n + 1) j → IsWritten s facts (op ∷ ops) n k
    passed k j numbers names rest = record {
      place = suc rest.place;
      op = rest.op;
      number = numbers ∙ rest.number ∙ ap Some (later n rest.place);
      there = rest.there;
      named = names ∙ rest.named ∙ ap (λ m. Some (named_by s rest.op (fact_in facts m))) (later n rest.place);
    }

    by_test : ((k : ℕ) → k < length (all_named s facts ops (n + 1)) → IsWritten s facts ops (n + 1) k)
        → (t : Bool) → is_write op.target ≡ t → (k : ℕ) → k < length (all_named s facts (op ∷ ops) n)
        → IsWritten s facts (op ∷ ops) n k
    by_test rest true e zero within = record {
      place = 0;
      op = op;
      number = rw e (ap Some (here n));
      there = refl;
      named = rw e (ap (λ m. Some (named_by s op (fact_in facts m))) (here n));
    }
    by_test rest true e (suc k) within = passed (suc k) k (rw e refl) (rw e refl) (rest k (grind (arith, e, within)))
    by_test rest false e k within = passed k k (rw e refl) (rw e refl) (rest k (grind (arith, e, within)))

pub named_at : (row : List MicroOp) (s : Sym) (k : ℕ) → k < length (writes_of row s)
    → slice_get (all_named s (line_facts row s) row 0) k ≡ Some (named_of row s k)
named_at row s k within = from
    (find s (line_facts row s) row 0 k (grind (arith, named_count s (line_facts row s) row 0, within)))
  where
    same : (m : ℕ) → 0 + m ≡ m
    same m = omega arith

    from : IsWritten s (line_facts row s) row 0 k → slice_get (all_named s (line_facts row s) row 0) k
        ≡ Some (named_of row s k)
    from f =
        let there = subst (λ m. slice_get row m ≡ Some f.op) (sym (same f.place)) f.there in
        f.named ∙ ap Some (sym (rw f.number (rw there refl)))

-- the lists that are made are those of the row
pub entered : (row : List MicroOp) (s : Sym) (facts : List Fact) (e : LineEntries)
    → facts ≡ line_facts row s → e.writes ≡ writes_of row s → e.named ≡ all_named s facts row 0
    → e.uses ≡ sources_of s (names_where is_control row 0 facts 0)
    → e.reads ≡ sources_of s (names_where is_of_use row 0 facts 0)
    → e.accesses ≡ accesses_of row s → AreEntries row s e
entered row s facts e are_facts writes named uses reads accesses = record {
  writes = writes;
  named_count = ap length named ∙ named_count s facts row 0 ∙ sym (ap length writes);
  named = λ k within. ap (λ names. slice_get names k) (named ∙ ap (λ fs. all_named s fs row 0) are_facts)
      ∙ named_at row s k (subst (λ ws. k < length ws) writes within);
  uses = uses ∙ ap (λ fs. sources_of s (names_where is_control row 0 fs 0)) are_facts;
  reads = reads ∙ ap (λ fs. sources_of s (names_where is_of_use row 0 fs 0)) are_facts;
  accesses = accesses;
}
