-- In each byte of each register lies a cell that is intact.
use Rattle.std.proofs.Common.{◌≡◌, ℕ, ◌==◌, ◌&&◌, Bool, true, false, List, [], ◌∷◌, sym, ap, ◌∙◌}
use Rattle.std.proofs.lemmas.Bool.{both_ways, eq-eqb, eqb-true, and_parts, and_from, false_from_ne_true}
use Rattle.blk_deps.specs.Cells.{place_of, byte_of}
use Rattle.blk_deps.specs.Facts as facts
use Rattle.blk_deps.specs.Facts.{Facts, overwrites_after}
use Rattle.blk_deps.specs.declared.step.Read.{Read}
use Rattle.blk_deps.specs.declared.step.Put.{Put}
use Rattle.blk_frame.specs.World.{Placed, ArePlaced, is_register_byte, IsWritable, AreWritable}
use Rattle.blk_frame.specs.Matches.{IsIntact, IsBeside, HasTop}
use Rattle.blk_frame.proofs.Basics.{by_truth, byte_placed}
use Rattle.blk_frame.proofs.PutSteps.{overwrites_kept, none_at_itself}

module _ (x : Placed) (shares : ℕ → ℕ → Bool) (placed : ArePlaced x shares) (s : Facts) (u hand : ℕ)
    (is : is_register_byte x u ≡ true) (tops : HasTop x s) where
  abbrev t : Facts
  t = facts.after_put shares (Put.Place u hand) s

  -- the written cell is the top of its byte, and elsewhere the tops stay
  byte_top : (c : ℕ) → is_register_byte x c ≡ true → (d : ℕ) × IsBeside x c d × IsIntact x t d
  byte_top c in_register = by_truth (x.register_of (place_of u) == x.register_of (place_of c) && byte_of u == byte_of c)
      (λ h. let parts = and_parts _ _ h in (
        u,
        record { in_register = is; register = eqb-true _ _ parts.0; byte = eqb-true _ _ parts.1 },
        λ d dlt over.
            absurd (both_ways _ (none_at_itself x shares s u hand d) over),
      ))
      (λ h. let top = tops.each c in_register in (top.0, top.1, kept top.0 top.1 h top.2))
    where
      kept : (d : ℕ) → IsBeside x c d → (x.register_of (place_of u) == x.register_of
          (place_of c) && byte_of u == byte_of c) ≡ false → IsIntact x s d → IsIntact x t d
      kept d beside apart intact e elt over = by_truth (e == place_of u && byte_of d == byte_of u) written elsewhere
        where
          other : d ≡ u → ⊥
          other same = both_ways (x.register_of (place_of u) == x.register_of
              (place_of c) && byte_of u == byte_of c) apart
              (and_from _ _ (eq-eqb _ _ (ap (λ n. x.register_of (place_of n)) (sym same) ∙ beside.register))
              (eq-eqb _ _ (ap byte_of (sym same) ∙ beside.byte)))

          written : (e == place_of u && byte_of d == byte_of u) ≡ true → x.has (place_of d) (x.register_of e) ≡ false
          written at = false_from_ne_true (x.has (place_of d) (x.register_of e)) (λ has. let parts = and_parts _ _ at in
              both_ways (x.register_of (place_of u) == x.register_of (place_of c) && byte_of u == byte_of c) apart
              (and_from _ _ (eq-eqb _ _ (ap x.register_of (sym (eqb-true _ _ parts.0))
              ∙ placed.alone (place_of d) (x.register_of e) (byte_placed x d beside.in_register) has
              ∙ beside.register))
              (eq-eqb _ _ (sym (eqb-true _ _ parts.1) ∙ beside.byte))))

          elsewhere : (e == place_of u && byte_of d == byte_of u) ≡ false → x.has (place_of d) (x.register_of e) ≡ false
          elsewhere not_at = intact e elt (sym (overwrites_kept x shares s u hand e d other
              (λ a b. both_ways (e == place_of u && byte_of d == byte_of u) not_at
              (and_from _ _ (eq-eqb _ _ a) (eq-eqb _ _ b)))) ∙ over)

module _ (x : Placed) (shares : ℕ → ℕ → Bool) (placed : ArePlaced x shares) where
  put_tops : (put : Put) (s : Facts) → IsWritable x put → HasTop x s → HasTop x (facts.after_put shares put s)
  put_tops (Put.Place u hand) s is tops = record { each = byte_top x shares placed s u hand is tops }
  put_tops (Put.Plain u hand) s is tops = record { each = tops.each }
  put_tops (Put.Store operand first count) s is tops = record { each = tops.each }
  put_tops (Put.Direction on) s is tops = record { each = tops.each }

  puts_top : (puts : List Put) (s : Facts) → AreWritable x puts → HasTop x s → HasTop x (facts.after_puts shares puts s)
  puts_top [] s are tops = tops
  puts_top (put ∷ puts) s are tops = puts_top puts _ are.1 (put_tops put s are.0 tops)

  pub moves_top : (reads : List Read) (puts : List Put) (s : Facts) → AreWritable x puts → HasTop x s
      → HasTop x (facts.after_moves shares reads puts s)
  moves_top reads puts s are tops = record {
    each =
        (puts_top puts (facts.after_reads reads s) are (record { each = tops.each })).each;
  }
