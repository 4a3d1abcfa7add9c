-- Rows that lie one behind the other, of which one is written.
use Rattle.std.proofs.Common.{◌≡◌, ◌≢◌, inl, inr, ℕ, ◌+◌, ◌*◌, ◌-◌, ◌^◌, ◌<◌, ◌≤◌, ◌++◌, List, length, take, drop, Bool, sym, ap, ◌∙◌, arith, length-append, length-take, length-drop}
use Rattle.std.proofs.lemmas.Bool.{cases_lt}
use Rattle.std.proofs.lemmas.List.{take-append-drop}
use Rattle.std.proofs.lemmas.List.Sums.{sum_by-append}
use Rattle.std.proofs.lemmas.Slice.{between_is, between-put_mid, take-put_mid_below, drop-put_mid}
use Rattle.std.proofs.Math.Nat.{mul-le-mul_right}
use borrow.Rule.Slice.PartMut.{put_mid, post_of}
use Rattle.dataflow.specs.Bits.{facts_in, row_of}
use Rattle.dataflow.specs.Joining.{Joins, JoinsRow, room}

-- the row of a lower number ends before a higher one begins
pub row_ends : (low high width : ℕ) → low < high → low * width + width ≤ high * width
row_ends low high width lt =
    let le = mul-le-mul_right {m = low + 1} {n = high} width (omega arith) in
    omega (arith, le)

-- each row lies within the words
pub row_inside : (at count width total : ℕ) → at < count → total ≡ count * width → at * width + width ≤ total
row_inside at count width total lt is = let le = row_ends at count width lt in omega (arith, le)

module _ (at width : ℕ) (words part : List ℕ) (inside : at * width + width ≤ length words)
    (fits : length part ≡ width) where
  abbrev size : ℕ
  size = at * width + width - at * width

  abbrev written : List ℕ
  written = put_mid (at * width) size words part

  written_row : row_of width written at ≡ part
  written_row = between-put_mid (at * width) size words part (at * width + width) (omega arith) (omega arith)

  kept_below : (j : ℕ) → j < at → row_of width written j ≡ row_of width words j
  kept_below j lt =
      let ends = row_ends j at width lt in
      between_is written (j * width) (j * width + width)
      ∙ ap (drop (j * width)) (take-put_mid_below (at * width) size words part (j * width + width) ends (omega arith))
      ∙ sym (between_is words (j * width) (j * width + width))

  kept_above : (j : ℕ) → at < j → row_of width written j ≡ row_of width words j
  kept_above j lt =
      let ends = row_ends at j width lt in
      ap (take (j * width + width - j * width)) (drop-put_mid (at * width) size words part (j * width) (omega arith)
      (omega arith) (omega arith))

  kept_row : (j : ℕ) → j ≢ at → row_of width written j ≡ row_of width words j
  kept_row j differs = elim (cases_lt j at) [ inl lt ↦ kept_below j lt | inr ge ↦ kept_above j (omega arith) ]

  -- the words, cut into what is before the row, the row, and what is behind it
  cut : words ≡ put_mid (at * width) size words (row_of width words at)
  cut = sym (ap (λ rest. take (at * width) words ++ rest) (take-append-drop size (drop (at * width) words))
      ∙ take-append-drop (at * width) words)

  room_cut : (row : List ℕ) → room (put_mid (at * width) size words row)
      ≡ room (take (at * width) words) + (room row + room (post_of (at * width) size words))
  room_cut row = sum_by-append (λ word. 2 ^ 64 - word) (take (at * width) words) _
      ∙ ap (λ n. room (take (at * width) words) + n) (sum_by-append (λ word. 2 ^ 64 - word) row _)

  pub length_written : length written ≡ length words
  length_written = simp (length-append, length-take, length-drop) (omega arith)

  pub joins_row : (more : List ℕ) (grew : Bool) → Joins more grew (row_of width words at) part
      → JoinsRow width at more grew words written
  joins_row more grew joins =
      let all_room = room_cut part in
      let old_room : room words ≡ _ = ap room cut ∙ room_cut (row_of width words at) in
      let r = joins.room in
      record {
        size = length_written;
        each = λ n. ap (λ row. facts_in row n) written_row ∙ joins.each n;
        others = kept_row;
        same = λ e. ap (put_mid (at * width) size words) (joins.same e) ∙ sym cut;
        room = omega arith;
      }
