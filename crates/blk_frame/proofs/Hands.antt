-- Hands keep their values while they are put down.
use Rattle.std.proofs.Common.{◌≡◌, ℕ, ◌++◌, true, false, List, [], ◌∷◌, refl, sym, ap, ◌∙◌, arith}
use Rattle.std.proofs.lemmas.Bool.{both_ways, le-leb, ne_eqb, and_parts}
use Rattle.blk_deps.specs.Cells.{is_hand, hand_cell}
use Rattle.blk_deps.specs.declared.step.Put.{Put}
use Rattle.blk_frame.specs.World.{Placed, World, after_put, after_puts, IsWritable, AreWritable}
use Rattle.blk_frame.proofs.Basics.{byte_no_hand}

pub record HoldsHands (given : ℕ → ℕ) (w : World) : Type 0 where
  pub each : (hand : ℕ) → w.cells (hand_cell hand) ≡ given hand

pub hand_is : (hand : ℕ) → is_hand (hand_cell hand) ≡ true
hand_is hand = le-leb 218 (hand_cell hand) (omega arith)

pub hand_other : (u hand : ℕ) → is_hand u ≡ false → hand_cell hand ≡ u → ⊥
hand_other u hand none same = both_ways (is_hand u) none (ap is_hand (sym same) ∙ hand_is hand)

pub put_holds : (x : Placed) (given : ℕ → ℕ) (put : Put) (w : World) → IsWritable x put → HoldsHands given w
    → HoldsHands given (after_put x put w)
put_holds x given (Put.Place u hand) w is holds = record {
  each = λ h. rw
      (ne_eqb (hand_cell h) u (hand_other u h (byte_no_hand u (and_parts _ _ is).0))) (holds.each h);
}
put_holds x given (Put.Plain u hand) w is holds = record {
  each = λ h. rw
      (ne_eqb (hand_cell h) u (hand_other u h is.1)) (holds.each h);
}
put_holds x given (Put.Store operand first count) w is holds = holds
put_holds x given (Put.Direction on) w is holds = holds

pub puts_hold : (x : Placed) (given : ℕ → ℕ) (puts : List Put) (w : World) → AreWritable x puts → HoldsHands given w
    → HoldsHands given (after_puts x puts w)
puts_hold x given [] w are holds = holds
puts_hold x given (put ∷ puts) w are holds = puts_hold x given puts _ are.1 (put_holds x given put w are.0 holds)

pub puts_append : (x : Placed) (first second : List Put) (w : World)
    → after_puts x (first ++ second) w ≡ after_puts x second (after_puts x first w)
puts_append x [] second w = refl
puts_append x (put ∷ puts) second w = puts_append x puts second _

pub writable_append : (x : Placed) (first second : List Put) → AreWritable x first → AreWritable x second
    → AreWritable x (first ++ second)
writable_append x [] second are rest = rest
writable_append x (put ∷ puts) second are rest = (are.0, writable_append x puts second are.1 rest)
