-- The hands whose values an instruction uses are among those into which it reads, and show what is used.
use Rattle.std.proofs.Common.{◌≡◌, ℕ, zero, suc, ◌+◌, ◌-◌, ◌*◌, ◌<◌, ◌≤◌, ◌||◌, nat_le, List, [], ◌∷◌, ◌++◌, map, length, All, Bool, true, false, IsTrue, Option, Some, slice_get, if◌then◌else◌, refl, sym, ap, subst, ◌∙◌, arith}
use Rattle.std.specs.List.{range_with_len, list_any, between}
use Rattle.std.proofs.lemmas.Bool.{le-leb}
use Rattle.std.proofs.lemmas.List.{length-map, length-append}
use Rattle.std.proofs.lemmas.List.FromFn.{length-map-range_with_len}
use Rattle.std.proofs.lemmas.List.Elements.{All-append, All-nil, All-cons, All-head, All-tail}
use Rattle.std.proofs.lemmas.List.Edits.{length-between}
use Rattle.asm_core.proofs.ShapeLaws.{inside_get}
use Rattle.asm_core.specs.declared.sym.Sym.{Sym}
use Rattle.asm_core.specs.declared.row.Write.{Write}
use Rattle.asm_core.specs.declared.shape.Shape.{Shape}
use Rattle.asm_core.specs.declared.interface.Interface.{Interface}
use Rattle.blk_deps.specs.Cells.{is_hand, hand_cell}
use Rattle.blk_deps.specs.Facts.{Facts, has_read, in_hand, after_reads}
use Rattle.blk_deps.specs.Line.{writes_in, reads_from, read_for, line_reads, is_memory, stored_from, hand_count, used_hands}
use Rattle.blk_deps.specs.Rules.{used_at_line}
use Rattle.blk_deps.specs.Layout.{IsLayout, value_words, block_words, shown_value}
use Rattle.blk_deps.specs.Fits.{is_dependence, held, hand_words, HandsHold, Collects}
use Rattle.blk_deps.specs.Scenes.{ShowsUsed}
use Rattle.blk_deps.specs.declared.layout.Layout.{Layout}
use Rattle.blk_deps.specs.declared.fact.Property.{Property}
use Rattle.blk_deps.specs.declared.fact.Fact.TheVariants.{Here, Has}
use Rattle.blk_deps.specs.declared.step.Read.{Read}
use Rattle.blk_deps.proofs.SourceLemmas.{dependence_held}

-- ---- how many hands there are

range_below : (n hand count : ℕ) → hand + count ≤ n → All (λ h. h < n) (range_with_len hand count)
range_below n hand zero le = All-nil (λ h. h < n)
range_below n hand (suc count) le =
    All-cons (λ h. h < n) hand (range_with_len (hand + 1) count) (omega (arith, le)) (range_below n (hand + 1) count (omega (arith, le)))

range_if : (b : Bool) (n hand count : ℕ) → hand + count ≤ n → All (λ h. h < n) (if b then range_with_len hand count else [])
range_if true n hand count le = range_below n hand count le
range_if false n hand count le = All-nil (λ h. h < n)

stored_below : (n hand : ℕ) (ws : List Write) → hand + hand_count ws ≤ n → All (λ h. h < n) (stored_from hand ws)
stored_below n hand [] le = All-nil (λ h. h < n)
stored_below n hand (w ∷ ws) le =
    All-append (λ h. h < n) (if is_memory w.to then range_with_len hand w.count else []) (stored_from (hand + w.count) ws)
    (range_if (is_memory w.to) n hand w.count (omega (arith, le))) (stored_below n (hand + w.count) ws (omega (arith, le)))

module _ (i : Interface) (s : Shape) (depth : ℕ) (line : Sym) where
  reads_count : (k : ℕ) (ws : List Write) → length (reads_from i s depth line k ws) ≡ hand_count ws
  reads_count k [] = refl
  reads_count k (w ∷ ws) =
      length-append (map (read_for i s depth line k w.by) (range_with_len 0 w.count)) (reads_from i s depth line (k + 1) ws)
      ∙ ap (λ n. n + length (reads_from i s depth line (k + 1) ws)) (length-map-range_with_len (read_for i s depth line k w.by) 0 w.count)
      ∙ ap (λ n. w.count + n) (reads_count (k + 1) ws)

  hands_count : length (line_reads i s depth line) ≡ hand_count (writes_in line) + 2
  hands_count = length-append (reads_from i s depth line 0 (writes_in line)) _ ∙ ap (λ n. n + 2) (reads_count 0 (writes_in line))

  pub used_within : All (λ h. h < length (line_reads i s depth line)) (used_hands line)
  used_within =
      let n = hand_count (writes_in line) in
      subst (λ m. All (λ h. h < m) (used_hands line)) (sym hands_count)
      (All-append (λ h. h < n + 2) (stored_from 0 (writes_in line)) (n ∷ (n + 1) ∷ []) (stored_below (n + 2) 0 (writes_in line) (omega arith))
      (All-cons (λ h. h < n + 2) n ((n + 1) ∷ []) (omega arith) (All-cons (λ h. h < n + 2) (n + 1) [] (omega arith) (All-nil (λ h. h < n + 2)))))

-- ---- what they show

any_same_in : (one other : ℕ → Bool) (xs : List ℕ) → All (λ x. one x ≡ other x) xs → list_any one xs ≡ list_any other xs
any_same_in one other [] all = refl
any_same_in one other (x ∷ xs) all =
    ap (λ b. b || list_any one xs) (All-head (λ x. one x ≡ other x) x xs all)
    ∙ ap (λ b. other x || b) (any_same_in one other xs (All-tail (λ x. one x ≡ other x) x xs all))

pub all_so : {P Q : ℕ → Type 0} (xs : List ℕ) → ((x : ℕ) → P x → Q x) → All P xs → All Q xs
all_so {P = P} {Q = Q} [] so all = All-nil Q
all_so {P = P} {Q = Q} (x ∷ xs) so all = All-cons Q x xs (so x (All-head P x xs all)) (all_so xs so (All-tail P x xs all))

module _ (l : Layout) (is : IsLayout l) (hands : List ℕ) (reads : List Read) (room : length reads * block_words l ≤ length hands) where
  -- the words of a hand are there
  pub hand_inside : (h : ℕ) → h < length reads → h * block_words l + block_words l ≤ length hands
  hand_inside h lt = below h (length reads) (block_words l) (length hands) lt room
    where
      times_suc : (h b : ℕ) → suc h * b ≡ h * b + b
      times_suc h b = omega arith

      grows : (h n b : ℕ) → h ≤ n → h * b ≤ n * b
      grows h n b le = let e : n ≡ (n - h) + h = omega (arith, le) in subst (λ m. h * b ≤ m * b) (sym e) (search arith)

      below : (h n b size : ℕ) → h < n → n * b ≤ size → h * b + b ≤ size
      below h n b size lt fits = let up = grows (suc h) n b lt in let e = times_suc h b in omega (arith, up, e, fits)

  hand_size : (h : ℕ) → h < length reads → length (hand_words l hands h) ≡ value_words l
  hand_size h lt =
      let inside = hand_inside h lt in
      length-between hands (h * block_words l) (h * block_words l + value_words l) (omega (arith, inside)) ∙ (omega arith)

  module _ (facts : Facts) (hold : HandsHold l hands facts reads) where
    hand_shown : (h : ℕ) → h < length reads → (property : Property) → IsTrue (is_dependence property)
        → shown_value l (hand_words l hands h) property ≡ after_reads reads facts (Has (hand_cell h) property)
    hand_shown h lt property depends =
        let read = inside_get reads h lt in
        let same : h ≡ 218 + h - 218 = omega arith in
        sym (dependence_held l (facts Here) (hand_words l hands h) property is (hand_size h lt) depends)
        ∙ hold.each h read.0 read.1 property
        ∙ ap (λ o. in_hand facts o property) (sym read.1 ∙ ap (slice_get reads) same)
        ∙ sym (ap (λ b. if b then in_hand facts (slice_get reads (218 + h - 218)) property else facts (Has (218 + h) property)) (le-leb 218 (218 + h) (omega arith)))

    pub uses_shown : (used words : List ℕ) → All (λ h. h < length reads) used → Collects l hands used words
        → ShowsUsed l words (λ property. list_any (λ hand. after_reads reads facts (Has (hand_cell hand) property)) used)
    uses_shown used words within collects = record {
      each = λ property depends. collects.each property depends
          ∙ any_same_in (λ h. shown_value l (hand_words l hands h) property) (λ hand. after_reads reads facts (Has (hand_cell hand) property)) used
          (all_so used (λ h lt. hand_shown h lt property depends) within);
    }
