-- A flag whose value has a pair hasn't its own value of the entry, along each path: no instruction copies into a flag.
use Rattle.std.proofs.Common.{◌≡◌, ◌⊎◌, inl, inr, ℕ, zero, suc, ◌+◌, ◌-◌, ◌<◌, ◌≤◌, ◌==◌, ◌&&◌, nat_lt, not, Bool, true, false, List, [], ◌∷◌, ◌++◌, map, Option, None, Some, slice_get, slice_index, if◌then◌else◌, refl, sym, ap, subst, ◌∙◌, arith, append_assoc}
use Rattle.std.specs.List.{range_with_len, flat_map, cons_option}
use Rattle.std.proofs.lemmas.Bool.{both_ways, and_parts, not-true, ltb-true, lt-leb, ne_eqb}
use Rattle.asm_core.specs.Entries.{write_to, write_of, writes_of, by_of}
use Rattle.asm_core.specs.Flag.{flag_number}
use Rattle.asm_core.specs.Rows.{entry_row}
use Rattle.asm_core.specs.WellFormed.{IsInterface}
use Rattle.asm_core.specs.declared.flag.Flag.{Flag}
use Rattle.asm_core.specs.declared.sym.Place.{Place}
use Rattle.asm_core.specs.declared.sym.Arg.{Arg}
use Rattle.asm_core.specs.declared.sym.Sym.{Sym}
use Rattle.asm_core.specs.declared.row.By.{By}
use Rattle.asm_core.specs.declared.row.Written.{Written}
use Rattle.asm_core.specs.declared.row.Write.{Write}
use Rattle.asm_core.specs.declared.micro_op.Function.{Function}
use Rattle.asm_core.specs.declared.micro_op.Input.{Input}
use Rattle.asm_core.specs.declared.micro_op.Site.{Site}
use Rattle.asm_core.specs.declared.micro_op.Target.{Target}
use Rattle.asm_core.specs.declared.micro_op.MicroOp.{MicroOp}
use Rattle.asm_core.specs.declared.shape.Shape.{Shape}
use Rattle.asm_core.specs.declared.interface.Interface.{Interface}
use Rattle.blk_deps.specs.Cells.{place_number, byte_cell, flag_cell, word_cell, hand_cell, is_hand, slice_first}
use Rattle.blk_deps.specs.Facts.{Facts, in_hand, after_reads, after_put, after_puts, dropped, after_moves}
use Rattle.blk_deps.specs.Findings.{Setting, moved_by}
use Rattle.blk_deps.specs.Line.{writes_in, reads_from, read_for, line_reads, line_puts, puts_from, puts_to, put_byte, put_word, put_flag, set_direction}
use Rattle.blk_deps.specs.Operands.{is_place}
use Rattle.blk_deps.specs.Start.{at_entry}
use Rattle.blk_deps.specs.declared.fact.Property.{Property}
use Rattle.blk_deps.specs.declared.fact.Property.TheVariants.{NotEntryOf, Pair}
use Rattle.blk_deps.specs.declared.fact.Fact.TheVariants.{Here, Has}
use Rattle.blk_deps.specs.declared.step.Read.{Read}
use Rattle.blk_deps.specs.declared.step.Put.{Put}
use Rattle.blk_frame.specs.Accepted.{facts_on}
use Rattle.blk_frame.specs.Lines.{CopiesNoFlag}
use Rattle.blk_frame.proofs.Hands.{hand_is}
use Rattle.blk_frame.proofs.LoneEntries.{entry_pushes}
use Rattle.blk_frame.proofs.LoneRows.{is_pushed, no_push, pushes_alone}
use Rattle.blk_frame.proofs.Places.{place_small}
use Rattle.blk_frame.proofs.TableRows.{entry_plain}

pub record IsFlagPlain (facts : Facts) : Type 0 where
  pub each : (f : Flag) → flag_number f < 6 → (d u : ℕ) → facts (Has (flag_cell f) (Pair d u)) ≡ true
      → facts (Has (flag_cell f) (NotEntryOf (flag_cell f))) ≡ true

-- ---- the path is taken

here_puts : (shares : ℕ → ℕ → Bool) (puts : List Put) (s : Facts) → after_puts shares puts s Here ≡ s Here
here_puts shares [] s = refl
here_puts shares (Put.Place u hand ∷ puts) s = here_puts shares puts _
here_puts shares (Put.Plain u hand ∷ puts) s = here_puts shares puts _
here_puts shares (Put.Store operand first count ∷ puts) s = here_puts shares puts _
here_puts shares (Put.Direction on ∷ puts) s = here_puts shares puts _

pub here_after : (shares : ℕ → ℕ → Bool) (reads : List Read) (puts : List Put) (s : Facts)
    → after_moves shares reads puts s Here ≡ s Here
here_after shares reads puts s = here_puts shares puts (after_reads reads s)

here_moved : (x : Setting) (n : ℕ) (line : Option Sym) (facts : Facts) → moved_by x n line facts Here ≡ facts Here
here_moved x n None facts = refl
here_moved x n (Some line) facts = here_after x.shares (line_reads x.interface x.shape (slice_index x.depths n) line)
    (line_puts x.interface x.shape (slice_index x.depths n) line) facts

-- what each path shows, it shows of itself
pub here_on : (x : Setting) (path : List ℕ) → facts_on x path Here ≡ true
here_on x [] = refl
here_on x (n ∷ before) = here_moved x n (slice_get x.graph.insts n) (facts_on x before) ∙ here_on x before

-- ---- one flag

flag_no_hand : (f : Flag) → flag_number f < 6 → is_hand (flag_cell f) ≡ false
flag_no_hand f low = lt-leb 218 (flag_cell f) (omega (arith, low))

computed : (s : Facts) (read : Option Read) (e : ℕ) → s Here ≡ true → ((u : ℕ) → read ≡ Some (Read.Copy u) → ⊥)
    → in_hand s read (NotEntryOf e) ≡ true
computed s None e here none = here
computed s (Some (Read.Copy u)) e here none = absurd (none u refl)
computed s (Some (Read.Compute of)) e here none = here

-- a put of a byte of a place, or of a computed value elsewhere
abbrev IsQuiet : List Read → Put → Type 0
IsQuiet reads (Put.Place u hand) = u < 148
IsQuiet reads (Put.Plain u hand) = (u < 218) × ((v : ℕ) → slice_get reads hand ≡ Some (Read.Copy v) → ⊥)
IsQuiet reads put = Unit {0}

abbrev AreQuiet : List Read → List Put → Type 0
AreQuiet reads [] = Unit {0}
AreQuiet reads (put ∷ puts) = IsQuiet reads put × AreQuiet reads puts

-- a put of a byte of a pushed word
abbrev IsWord : Put → Type 0
IsWord (Put.Plain u hand) = 154 ≤ u
IsWord put = ⊥

abbrev AreWords : List Put → Type 0
AreWords [] = Unit {0}
AreWords (put ∷ puts) = IsWord put × AreWords puts

module _ (shares : ℕ → ℕ → Bool) (reads : List Read) (facts : Facts) (here : facts Here ≡ true) (f : Flag)
    (low : flag_number f < 6) where
  abbrev c : ℕ
  c = flag_cell f

  abbrev IsPlainAt : Facts → Type 0
  IsPlainAt s = (d u : ℕ) → s (Has c (Pair d u)) ≡ true → s (Has c (NotEntryOf c)) ≡ true

  -- the flag is plain, and what was read is still in the hands
  record IsMid (s : Facts) : Type 0 where
    plain : IsPlainAt s
    hands : (hand : ℕ) (property : Property)
        → s (Has (hand_cell hand) property) ≡ in_hand facts (slice_get reads hand) property

  read_mid : IsPlainAt facts → IsMid (after_reads reads facts)
  read_mid plain = record {
    plain = λ d u has. let none = flag_no_hand f low in rw none (plain d u (rw none at has));
    hands = λ hand property. let same : hand_cell hand - 218 ≡ hand = omega arith in
        rw (hand_is hand) (ap (λ h. in_hand facts (slice_get reads h) property) same);
  }

  put_mid : (put : Put) (s : Facts) → IsQuiet reads put → IsMid s → IsMid (after_put shares put s)
  put_mid (Put.Place u hand) s quiet mid = record {
    plain = λ d v has. let other = ne_eqb c u (λ e. omega (arith, e, quiet)) in
        rw other (mid.plain d v (rw other at has));
    hands = λ h property. rw (ne_eqb (hand_cell h) u (λ e. omega (arith, e, quiet))) (mid.hands h property);
  }
  put_mid (Put.Plain u hand) s quiet mid = record {
    plain = by (c == u) refl;
    hands = λ h property. let below = quiet.0 in rw (ne_eqb (hand_cell h) u (λ e. omega (arith, e, below)))
        (mid.hands h property);
  } where
    by : (b : Bool) → (c == u) ≡ b → (d v : ℕ)
        → (if b then s (Has (hand_cell hand) (Pair d v)) else s (Has c (Pair d v))) ≡ true
        → after_put shares (Put.Plain u hand) s (Has c (NotEntryOf c)) ≡ true
    by true e d v has = rw e (mid.hands hand (NotEntryOf c) ∙ computed facts (slice_get reads hand) c here quiet.1)
    by false e d v has = rw e (mid.plain d v has)
  put_mid (Put.Store operand first count) s quiet mid = record { plain = mid.plain; hands = mid.hands }
  put_mid (Put.Direction on) s quiet mid = record { plain = mid.plain; hands = mid.hands }

  puts_mid : (puts : List Put) (s : Facts) → AreQuiet reads puts → IsMid s → IsMid (after_puts shares puts s)
  puts_mid [] s are mid = mid
  puts_mid (put ∷ puts) s are mid = puts_mid puts (after_put shares put s) are.1 (put_mid put s are.0 mid)

  word_plain : (put : Put) (s : Facts) → IsWord put → IsPlainAt s → IsPlainAt (after_put shares put s)
  word_plain (Put.Plain u hand) s is plain d v has =
      let other = ne_eqb c u (λ e. omega (arith, e, is, low)) in rw other (plain d v (rw other at has))
  word_plain (Put.Place u hand) s is plain d v has = absurd is
  word_plain (Put.Store operand first count) s is plain d v has = absurd is
  word_plain (Put.Direction on) s is plain d v has = absurd is

  words_plain : (puts : List Put) (s : Facts) → AreWords puts → IsPlainAt s → IsPlainAt (after_puts shares puts s)
  words_plain [] s are plain = plain
  words_plain (put ∷ puts) s are plain = words_plain puts (after_put shares put s) are.1
      (word_plain put s are.0 plain)

  drop_plain : (s : Facts) → IsPlainAt s → IsPlainAt (dropped s)
  drop_plain s plain d v has = let none = flag_no_hand f low in rw none (plain d v (rw none at has))

  quiet_plain : (puts : List Put) → AreQuiet reads puts → IsPlainAt facts
      → IsPlainAt (after_moves shares reads puts facts)
  quiet_plain puts are plain = drop_plain (after_puts shares puts (after_reads reads facts))
      (puts_mid puts (after_reads reads facts) are (read_mid plain)).plain

  alone_plain : (puts : List Put) → AreWords puts → IsPlainAt facts
      → IsPlainAt (after_moves shares reads puts facts)
  alone_plain puts are plain = drop_plain (after_puts shares puts (after_reads reads facts))
      (words_plain puts (after_reads reads facts) are (read_mid plain).plain)

-- ---- the writes of a row

-- a write of a flag is one computed byte, and no word is pushed
abbrev IsByComputed : By → Type 0
IsByComputed (By.Copy source first) = ⊥
IsByComputed by = Unit {0}

abbrev IsQuietTo : ℕ → By → Written → Type 0
IsQuietTo count by (Written.Flag f) = (count ≡ 1) × IsByComputed by
IsQuietTo count by Written.Push = ⊥
IsQuietTo count by to = Unit {0}

abbrev IsQuietWrite : Write → Type 0
IsQuietWrite w = IsQuietTo w.count w.by w.to

abbrev AreQuietWrites : List Write → Type 0
AreQuietWrites [] = Unit {0}
AreQuietWrites (w ∷ ws) = IsQuietWrite w × AreQuietWrites ws

abbrev IsQuietIf : Option Write → Type 0
IsQuietIf None = Unit {0}
IsQuietIf (Some w) = IsQuietWrite w

module _ (line : Sym) where
  flag_by : (f : Flag) (function : Function) (x : Input) → CopiesNoFlag function (Target.Site (Site.Flag f))
      → IsByComputed (by_of line function x)
  flag_by f Function.Copy x none = absurd none
  flag_by f Function.Set (Input.Number n) none = tt
  flag_by f Function.Set x none = tt
  flag_by f function x none = tt

  quiet_op : (op : MicroOp) → CopiesNoFlag op.function op.target → is_pushed op.target ≡ false
      → IsQuietIf (write_of line op)
  quiet_op op none unpushed = by op.target none unpushed
    where
      by : (target : Target) → CopiesNoFlag op.function target → is_pushed target ≡ false
          → IsQuietIf (write_to line (by_of line op.function op.x) target)
      by (Target.Site (Site.Argument k bytes)) none bare = tt
      by (Target.Site (Site.Register r bytes)) none bare = tt
      by (Target.Site (Site.Pointed r)) none bare = tt
      by (Target.Site (Site.Flag f)) none bare = (refl, flag_by f op.function op.x none)
      by Target.Push none bare = cc
      by Target.Pop none bare = tt
      by target none bare = tt

  quiet_cons : (o : Option Write) (ws : List Write) → IsQuietIf o → AreQuietWrites ws
      → AreQuietWrites (cons_option o ws)
  quiet_cons None ws is are = are
  quiet_cons (Some w) ws is are = (is, are)

  row_quiet : (ops : List MicroOp) → no_push ops ≡ true
      → ((k : ℕ) (op : MicroOp) → slice_get ops k ≡ Some op → CopiesNoFlag op.function op.target)
      → AreQuietWrites (writes_of ops line)
  row_quiet [] none plain = tt
  row_quiet (op ∷ ops) none plain =
      let parts = and_parts (not (is_pushed op.target)) (no_push ops) none in
      quiet_cons (write_of line op) (writes_of ops line)
      (quiet_op op (plain 0 op refl) (not-true (is_pushed op.target) parts.0))
      (row_quiet ops parts.1 (λ k. plain (suc k)))

-- a row that pushes has no other write
alone_or_none : (row : List MicroOp) → pushes_alone row ≡ true
    → (no_push row ≡ true) ⊎ ((op : MicroOp) × (row ≡ op ∷ []) × (op.target ≡ Target.Push))
alone_or_none [] is = inl refl
alone_or_none (op ∷ other ∷ more) is = inl is
alone_or_none (op ∷ []) is = by op.target refl
  where
    by : (target : Target) → op.target ≡ target
        → (no_push (op ∷ []) ≡ true) ⊎ ((o : MicroOp) × (op ∷ [] ≡ o ∷ []) × (o.target ≡ Target.Push))
    by Target.Push e = inr (op, refl, e)
    by target e = inl (ap (λ t. not (is_pushed t) && true) e)

-- ---- the puts of a line

quiet_append : (reads : List Read) (xs ys : List Put) → AreQuiet reads xs → AreQuiet reads ys
    → AreQuiet reads (xs ++ ys)
quiet_append reads [] ys first second = second
quiet_append reads (put ∷ puts) ys first second = (first.0, quiet_append reads puts ys first.1 second)

quiet_flat : (reads : List Read) (put : ℕ → List Put) (ns : List ℕ) → ((n : ℕ) → AreQuiet reads (put n))
    → AreQuiet reads (flat_map put ns)
quiet_flat reads put [] each = tt
quiet_flat reads put (n ∷ ns) each = quiet_append reads (put n) (flat_map put ns) (each n)
    (quiet_flat reads put ns each)

words_append : (xs ys : List Put) → AreWords xs → AreWords ys → AreWords (xs ++ ys)
words_append [] ys first second = second
words_append (put ∷ puts) ys first second = (first.0, words_append puts ys first.1 second)

rest_part : {A : Type 0} (f : ℕ → A) (rest : List A) (count from n : ℕ)
    → slice_get (map f (range_with_len from count) ++ rest) (count + n) ≡ slice_get rest n
rest_part f rest zero from n = ap (slice_get rest) (omega arith)
rest_part f rest (suc count) from n = ap (slice_get (map f (range_with_len from (suc count)) ++ rest))
    (suc_sum count n) ∙ rest_part f rest count (from + 1) n
  where
    suc_sum : (count n : ℕ) → suc count + n ≡ suc (count + n)
    suc_sum count n = omega arith

module _ (i : Interface) (s : Shape) (interface : IsInterface i) (depth : ℕ) (line : Sym) where
  word_put : (n hand : ℕ) → AreWords (put_word depth n hand)
  word_put n hand = by (nat_lt n 4)
    where
      by : (b : Bool) → AreWords (if b then Put.Plain (word_cell depth n) hand ∷ [] else [])
      by true = (omega arith, tt)
      by false = tt

  word_puts : (hand : ℕ) (ns : List ℕ) → AreWords (flat_map (λ n. put_word depth n (hand + n)) ns)
  word_puts hand [] = tt
  word_puts hand (n ∷ ns) = words_append (put_word depth n (hand + n))
      (flat_map (λ n. put_word depth n (hand + n)) ns) (word_put n (hand + n)) (word_puts hand ns)

  -- a push alone puts a word
  pushed_words : (op : MicroOp) → op.target ≡ Target.Push
      → AreWords (puts_from i s depth 0 (writes_of (op ∷ []) line))
  pushed_words op is = subst (λ target. AreWords (puts_from i s depth 0
      (cons_option (write_to line (by_of line op.function op.x) target) []))) (sym is)
      (words_append (flat_map (λ n. put_word depth n (0 + n)) (range_with_len 0 4)) []
      (word_puts 0 (range_with_len 0 4)) tt)

  no_copy : (k : ℕ) (by : By) (v : ℕ) → IsByComputed by
      → Some (read_for i s depth line k by 0) ≡ Some (Read.Copy v) → ⊥
  no_copy k (By.Copy source first) v computed is = absurd computed
  no_copy k By.Named v computed is = cc
  no_copy k (By.Set on) v computed is = cc

  module _ (reads : List Read) where
    quiet_byte : (place : Place) (n hand : ℕ) (b : Bool)
        → (nat_lt n 4 && is_place i s (place_number place)) ≡ b
        → AreQuiet reads (if b then Put.Place (byte_cell (place_number place) n) hand ∷ [] else [])
    quiet_byte place n hand false e = tt
    quiet_byte place n hand true e =
        let parts = and_parts (nat_lt n 4) (is_place i s (place_number place)) e in
        let lt = ltb-true n 4 parts.0 in
        let small = place_small i s (place_number place) interface parts.1 in
        (omega (arith, lt, small), tt)

    quiet_store : (w : Write) (k : ℕ) (b : Bool)
        → AreQuiet reads (if b then Put.Store k w.first w.count ∷ [] else [])
    quiet_store w k true = (tt, tt)
    quiet_store w k false = tt

    quiet_direction : (by : By) → AreQuiet reads (set_direction by)
    quiet_direction (By.Set on) = (tt, tt)
    quiet_direction (By.Copy source first) = tt
    quiet_direction By.Named = tt

    quiet_flag : (f : Flag) (hand : ℕ) (by : By)
        → ((v : ℕ) → slice_get reads hand ≡ Some (Read.Copy v) → ⊥) → AreQuiet reads (put_flag f hand by)
    quiet_flag Flag.Df hand by none = quiet_direction by
    quiet_flag Flag.Cf hand by none = ((omega arith, none), tt)
    quiet_flag Flag.Pf hand by none = ((omega arith, none), tt)
    quiet_flag Flag.Af hand by none = ((omega arith, none), tt)
    quiet_flag Flag.Zf hand by none = ((omega arith, none), tt)
    quiet_flag Flag.Sf hand by none = ((omega arith, none), tt)
    quiet_flag Flag.Of hand by none = ((omega arith, none), tt)

    quiet_write : (hand : ℕ) (w : Write) (to : Written) → IsQuietTo w.count w.by to
        → (w.count ≡ 1 → IsByComputed w.by → (v : ℕ) → slice_get reads hand ≡ Some (Read.Copy v) → ⊥)
        → AreQuiet reads (puts_to i s depth hand w to)
    quiet_write hand w (Written.Arg (Arg.Register place slice)) is none = quiet_flat reads
        (λ n. put_byte i s place (slice_first slice + w.first + n) (hand + n)) (range_with_len 0 w.count)
        (λ n. quiet_byte place (slice_first slice + w.first + n) (hand + n) _ refl)
    quiet_write hand w (Written.Arg (Arg.Memory k)) is none = quiet_store w k (is_place i s (7 + k))
    quiet_write hand w (Written.Arg (Arg.Number n)) is none = tt
    quiet_write hand w (Written.Arg (Arg.Hole n)) is none = tt
    quiet_write hand w (Written.Arg (Arg.Address d b n)) is none = tt
    quiet_write hand w (Written.Arg (Arg.Label n)) is none = tt
    quiet_write hand w (Written.Flag f) is none = quiet_flag f hand w.by (none is.0 is.1)
    quiet_write hand w Written.Push is none = absurd is
    quiet_write hand w Written.Pop is none = tt

    -- the writes from the k-th on, where their hands begin with that one
    quiet_puts : (ws : List Write) (k hand : ℕ) (tail : List Read) → AreQuietWrites ws
        → ((n : ℕ) → slice_get reads (hand + n) ≡ slice_get (reads_from i s depth line k ws ++ tail) n)
        → AreQuiet reads (puts_from i s depth hand ws)
    quiet_puts [] k hand tail are same = tt
    quiet_puts (w ∷ ws) k hand tail are same =
        quiet_append reads (puts_to i s depth hand w w.to) (puts_from i s depth (hand + w.count) ws)
        (quiet_write hand w w.to are.0 first) (quiet_puts ws (k + 1) (hand + w.count) tail are.1 rest)
      where
        read : ℕ → Read
        read n = read_for i s depth line k w.by n

        behind : List Read
        behind = reads_from i s depth line (k + 1) ws ++ tail

        split : (n : ℕ) → slice_get reads (hand + n)
            ≡ slice_get (map (read_for i s depth line k w.by) (range_with_len 0 w.count) ++ behind) n
        split n = same n ∙ ap (λ l. slice_get l n) (append_assoc
            (map (read_for i s depth line k w.by) (range_with_len 0 w.count))
            (reads_from i s depth line (k + 1) ws) tail)

        rest : (n : ℕ) → slice_get reads (hand + w.count + n) ≡ slice_get behind n
        rest n = ap (slice_get reads) (sums hand w.count n) ∙ split (w.count + n)
            ∙ rest_part (read_for i s depth line k w.by) behind w.count 0 n
          where
            sums : (a b c : ℕ) → a + b + c ≡ a + (b + c)
            sums a b c = omega arith

        first : w.count ≡ 1 → IsByComputed w.by → (v : ℕ) → slice_get reads hand ≡ Some (Read.Copy v) → ⊥
        first one computed v copy = no_copy k w.by v computed
            (sym (ap (λ m. slice_get (map (read_for i s depth line k w.by) (range_with_len 0 m) ++ behind) 0) one)
            ∙ sym (split 0) ∙ ap (slice_get reads) (plus_zero hand) ∙ copy)
          where
            plus_zero : (a : ℕ) → a + 0 ≡ a
            plus_zero a = omega arith

  quiet_line : no_push (entry_row line) ≡ true → AreQuiet (line_reads i s depth line) (line_puts i s depth line)
  quiet_line none = quiet_puts (line_reads i s depth line) (writes_in line) 0 0 _
      (row_quiet line (entry_row line) none (entry_plain line)) (λ n. ap (slice_get (line_reads i s depth line))
      (zero_plus n))
    where
      zero_plus : (n : ℕ) → 0 + n ≡ n
      zero_plus n = omega arith

  -- flags stay plain behind an instruction
  pub line_plain : (shares : ℕ → ℕ → Bool) (facts : Facts) → facts Here ≡ true → IsFlagPlain facts
      → IsFlagPlain (after_moves shares (line_reads i s depth line) (line_puts i s depth line) facts)
  line_plain shares facts here plain = record {
    each = λ f low. elim (alone_or_none (entry_row line) (entry_pushes line)) [
      | inl none ↦ quiet_plain shares (line_reads i s depth line) facts here f low (line_puts i s depth line)
          (quiet_line none) (plain.each f low)
      | inr one ↦ alone_plain shares (line_reads i s depth line) facts here f low (line_puts i s depth line)
          (subst (λ row. AreWords (puts_from i s depth 0 (writes_of row line))) (sym one.1)
          (pushed_words one.0 one.2)) (plain.each f low)
    ];
  }

-- ---- along a path

entry_flags : (i : Interface) (live : List Shape) (s : Shape) → IsFlagPlain (at_entry i live s)
entry_flags i live s = record { each = λ f low d u has. absurd (both_ways _ (flag_no_hand f low) has) }

moved_plain : (x : Setting) (n : ℕ) (line : Option Sym) (facts : Facts) → IsInterface x.interface
    → facts Here ≡ true → IsFlagPlain facts → IsFlagPlain (moved_by x n line facts)
moved_plain x n None facts interface here plain = plain
moved_plain x n (Some line) facts interface here plain =
    line_plain x.interface x.shape interface (slice_index x.depths n) line x.shares facts here plain

pub flags_plain : (x : Setting) → IsInterface x.interface → (path : List ℕ) → IsFlagPlain (facts_on x path)
flags_plain x interface [] = entry_flags x.interface x.live x.shape
flags_plain x interface (n ∷ before) = moved_plain x n (slice_get x.graph.insts n) (facts_on x before) interface
    (here_on x before) (flags_plain x interface before)
