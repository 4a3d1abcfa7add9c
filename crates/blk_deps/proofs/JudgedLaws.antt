-- From one shape to all, and from the parts of a setting to the whole.
use Rattle.std.proofs.Common.{◌≡◌, ◌⊎◌, inl, inr, ℕ, zero, suc, ◌+◌, ◌-◌, ◌<◌, ◌≤◌, ◌&&◌, nat_lt, Bool, true, false, IsTrue, List, [], ◌∷◌, ◌++◌, map, length, replicate, get_or, Option, None, Some, Result, Ok, Err, IfOk, OnOk, slice_get, slice_index, All, refl, sym, ◌∙◌, ap, subst, arith}
use Rattle.std.specs.List.{flat_map}
use Rattle.std.proofs.lemmas.Bool.{lt-ltb, cases_lt}
use Rattle.std.proofs.lemmas.List.Elements.{All-nil, All-cons, All-append, All-head, All-tail}
use Rattle.std.proofs.lemmas.Option.{slice_get_within, slice_get_cases, get_or_from_slice_get, slice_get-get_or}
use Rattle.x86_rows.proofs.Appended.{slice_get-append_first, slice_get-append_rest}
use Rattle.std.proofs.lemmas.List.{length-append}
use Rattle.asm_core.specs.Lists.{IsMember, count_from}
use Rattle.asm_core.specs.Shape.{IsLive, shapes_of}
use Rattle.asm_core.specs.declared.memory.Memory.{Memory}
use Rattle.asm_core.specs.declared.reg.Reg.{Reg}
use Rattle.asm_core.specs.declared.flag.Flag.{Flag}
use Rattle.asm_core.specs.declared.sym.Sym.{Sym}
use Rattle.asm_core.specs.declared.shape.Shape.{Shape}
use Rattle.asm_core.specs.declared.interface.Interface.{Interface}
use Rattle.asm_core.specs.declared.lines.Graph.{Graph}
use Rattle.asm_core.specs.declared.finding.Rule.{Rule}
use Rattle.asm_core.specs.declared.finding.Cell.{Cell}
use Rattle.asm_core.specs.declared.finding.Finding.{Finding}
use Rattle.blk_deps.specs.Operands.{IsSmall, numbers_in, has_address, is_written_only, is_unseen, size_at}
use Rattle.blk_deps.specs.Rules.{registers, flags}
use Rattle.blk_deps.specs.Ways.{IsGraph, size_of, goes, line_number}
use Rattle.blk_deps.specs.Stack.{pushes, AreDepths, BreaksStack}
use Rattle.blk_deps.specs.StackTable.{IsSound, FitDepths}
use Rattle.blk_deps.specs.Start.{TellsSharing}
use Rattle.blk_deps.specs.Scenes.{IsAbout, names_operand}
use Rattle.blk_deps.specs.Sharing.{shares_by}
use Rattle.blk_deps.specs.Layout.{IsLayout}
use Rattle.blk_deps.specs.Fits as fits
use Rattle.blk_deps.specs.Fitting.{IsMoved, FitsMoves}
use Rattle.blk_deps.specs.LineMoves.{IsLineMoves}
use Rattle.blk_deps.specs.FlowFacts.{sharing_in, setting_of, IsMoving, AreMoves}
use Rattle.blk_deps.specs.Findings.{AreFindings, IsStackBroken, stack_violations, violations_of, place_names, alone, registers_alone, operands_alone, flags_alone, pairs_of, finding_of, IsLeast, Setting, IsSetting, BreaksAt, IsBroken}
use Rattle.blk_deps.specs.Noting.{IsNoted, listed_of}
use Rattle.blk_deps.specs.Judged.{BreaksIn, IsBrokenUnder, IsBrokenBelow, AreMovesOf, AreMovesTo}
use Rattle.blk_deps.specs.declared.context.Context.{Context}
use Rattle.blk_deps.specs.declared.layout.Layout.{Layout}
use Rattle.blk_deps.specs.declared.line.LineMoves.{LineMoves}
use Rattle.blk_deps.specs.declared.violation.Violation.{Violation}
use Rattle.blk_deps.specs.declared.walk.Walk.{Walk}
use Rattle.blk_deps.specs.Walking.{IsWalk, setting_in}
use Rattle.blk_deps.specs.Listing.{AreOfPairs}
use Rattle.blk_deps.specs.Ground.{IsContext}
use Rattle.blk_deps.specs.Blocks.{AreBlocks}
use Rattle.blk_deps.specs.Ruling.{AreMasks}
use Rattle.asm_core.specs.WellFormed.{IsInterface}
use Rattle.blk_deps.proofs.NotingLemmas.{noted_then, noted_as, noted_none, found}
use Rattle.blk_deps.proofs.SameLaws.{one_setting}

-- ---- the stack

none_found : (Broken : Violation → ℕ → Type 0) (v : Violation) (vs : List Violation) → AreFindings Broken (v ∷ vs) [] → ((line : ℕ) → Broken v line → ⊥) × AreFindings Broken vs []
unfolding AreFindings
none_found Broken v vs (inl h) = let some : [] ≡ finding_of v h.0 ∷ h.2 = h.3 in cc
none_found Broken v vs (inr h) = h

pub sound_all : (gs : List Graph) → AreFindings (IsStackBroken gs) stack_violations [] → All IsSound gs
sound_all gs none k d below =
    let s1 = none_found (IsStackBroken gs) (alone Rule.S1 Cell.Nothing) (alone Rule.S2 Cell.Nothing ∷ alone Rule.S3 Cell.Nothing ∷ []) none in
    let s2 = none_found (IsStackBroken gs) (alone Rule.S2 Cell.Nothing) (alone Rule.S3 Cell.Nothing ∷ []) s1.1 in
    let s3 = none_found (IsStackBroken gs) (alone Rule.S3 Cell.Nothing) [] s2.1 in
    let at : slice_get gs k ≡ Some (get_or gs k d) = slice_get-get_or gs k d below in
    record {
      left = λ n breaks. s1.0 (line_number (get_or gs k d) n) (record { number = k; graph = get_or gs k d; is_graph = at; node = n; breaks = breaks; is_line = refl });
      two = λ n breaks. s2.0 (line_number (get_or gs k d) n) (record { number = k; graph = get_or gs k d; is_graph = at; node = n; breaks = breaks; is_line = refl });
      overrun = λ n breaks. s3.0 (line_number (get_or gs k d) n) (record { number = k; graph = get_or gs k d; is_graph = at; node = n; breaks = breaks; is_line = refl });
    }

-- ---- what violations speak of

all_mapped : {A B : Type 0} (P : B → Type 0) (f : A → B) (xs : List A) → ((x : A) → P (f x)) → All P (map f xs)
all_mapped P f [] each = All-nil P
all_mapped P f (x ∷ xs) each = All-cons P (f x) (map f xs) (each x) (all_mapped P f xs each)

all_counted : {A B : Type 0} (P : B → Type 0) (f : ℕ → B) (xs : List A) (m : ℕ) → ((k : ℕ) → k < m + length xs → P (f k)) → All P (map f (count_from m xs))
all_counted P f [] m each = All-nil P
all_counted P f (x ∷ xs) m each =
    All-cons P (f m) (map f (count_from (m + 1) xs)) (each m (omega arith)) (all_counted P f xs (m + 1) (λ k below. each k (omega (arith, below))))

all_flat : {A B : Type 0} (Q : A → Type 0) (P : B → Type 0) (f : A → List B) (xs : List A) → All Q xs → ((x : A) → Q x → All P (f x)) → All P (flat_map f xs)
all_flat Q P f [] of each = All-nil P
all_flat Q P f (x ∷ xs) of each = All-append P (f x) (flat_map f xs) (each x (All-head Q x xs of)) (all_flat Q P f xs (All-tail Q x xs of) each)

all_under : {A B : Type 0} (Q : A → Type 0) (P : B → Type 0) (f : A → B) (xs : List A) → All Q xs → ((x : A) → Q x → P (f x)) → All P (map f xs)
all_under Q P f [] of each = All-nil P
all_under Q P f (x ∷ xs) of each = All-cons P (f x) (map f xs) (each x (All-head Q x xs of)) (all_under Q P f xs (All-tail Q x xs of) each)

module _ (i : Interface) where
  abbrev About : Violation → Type 0
  About v = IsAbout (length i.operands) v

  abbrev IsName : Cell → Type 0
  IsName c = IsTrue (names_operand (length i.operands) c)

  operand_name : (k : ℕ) → k < 0 + length i.operands → IsName (Cell.Operand k)
  operand_name k below = lt-ltb k (length i.operands) (omega (arith, below))

  of_operands : (rule : Rule) → All About (operands_alone rule i)
  of_operands rule = all_counted About (λ k. alone rule (Cell.Operand k)) i.operands 0 (λ k below. record { cell = operand_name k below; other = refl })

  of_registers : (rule : Rule) → All About (registers_alone rule)
  of_registers rule = all_mapped About (λ (r : Reg). alone rule (Cell.Reg r)) registers (λ r. record { cell = refl; other = refl })

  of_flags : (rule : Rule) → All About (flags_alone rule)
  of_flags rule = all_mapped About (λ (f : Flag). alone rule (Cell.Flag f)) flags (λ f. record { cell = refl; other = refl })

  of_one : (rule : Rule) (c : Cell) → IsName c → All About (alone rule c ∷ [])
  of_one rule c name = All-cons About (alone rule c) [] (record { cell = name; other = refl }) (All-nil About)

  all_names : All IsName (place_names i)
  all_names =
      All-append IsName (map Cell.Reg registers) (map Cell.Operand (numbers_in i))
      (all_mapped IsName Cell.Reg registers (λ r. refl))
      (all_counted IsName Cell.Operand i.operands 0 operand_name)

  of_pairs : (rule : Rule) → All About (pairs_of rule (place_names i))
  of_pairs rule =
      all_flat IsName About (λ x. map (λ y. record { rule = rule; cell = x; other = y }) (place_names i)) (place_names i) all_names
      (λ x name. all_under IsName About (λ y. record { rule = rule; cell = x; other = y }) (place_names i) all_names (λ y second. record { cell = name; other = second }))

  all_parts : (a b x y z d f g h k n m p q : List Violation) → All About a → All About b → All About x → All About y → All About z → All About d → All About f → All About g → All About h → All About k → All About n → All About m → All About p → All About q
      → All About (((((((((((((a ++ b) ++ x) ++ y) ++ z) ++ d) ++ f) ++ g) ++ h) ++ k) ++ n) ++ m) ++ p) ++ q)
  all_parts a b x y z d f g h k n m p q of_a of_b of_x of_y of_z of_d of_f of_g of_h of_k of_n of_m of_p of_q =
      All-append About ((((((((((((a ++ b) ++ x) ++ y) ++ z) ++ d) ++ f) ++ g) ++ h) ++ k) ++ n) ++ m) ++ p) q (All-append About (((((((((((a ++ b) ++ x) ++ y) ++ z) ++ d) ++ f) ++ g) ++ h) ++ k) ++ n) ++ m) p (All-append About ((((((((((a ++ b) ++ x) ++ y) ++ z) ++ d) ++ f) ++ g) ++ h) ++ k) ++ n) m (All-append About (((((((((a ++ b) ++ x) ++ y) ++ z) ++ d) ++ f) ++ g) ++ h) ++ k) n (All-append About ((((((((a ++ b) ++ x) ++ y) ++ z) ++ d) ++ f) ++ g) ++ h) k (All-append About (((((((a ++ b) ++ x) ++ y) ++ z) ++ d) ++ f) ++ g) h (All-append About ((((((a ++ b) ++ x) ++ y) ++ z) ++ d) ++ f) g (All-append About (((((a ++ b) ++ x) ++ y) ++ z) ++ d) f (All-append About ((((a ++ b) ++ x) ++ y) ++ z) d (All-append About (((a ++ b) ++ x) ++ y) z (All-append About ((a ++ b) ++ x) y (All-append About (a ++ b) x (All-append About a b of_a of_b) of_x) of_y) of_z) of_d) of_f) of_g) of_h) of_k) of_n) of_m) of_p) of_q

  all_about : All About (violations_of i)
  all_about =
      all_parts (registers_alone Rule.W1) (operands_alone Rule.W2 i) (alone Rule.W3 Cell.Cc ∷ []) (alone Rule.W4 (Cell.Flag Flag.Df) ∷ []) (alone Rule.M1 Cell.Memory ∷ []) (operands_alone Rule.M2 i)
      (registers_alone Rule.R1) (flags_alone Rule.R1) (operands_alone Rule.R2 i) (operands_alone Rule.R3 i) (alone Rule.R3 Cell.Nothing ∷ []) (operands_alone Rule.U2 i)
      (pairs_of Rule.U3 (place_names i)) (operands_alone Rule.U4 i)
      (of_registers Rule.W1) (of_operands Rule.W2) (of_one Rule.W3 Cell.Cc refl) (of_one Rule.W4 (Cell.Flag Flag.Df) refl) (of_one Rule.M1 Cell.Memory refl) (of_operands Rule.M2)
      (of_registers Rule.R1) (of_flags Rule.R1) (of_operands Rule.R2) (of_operands Rule.R3) (of_one Rule.R3 Cell.Nothing refl) (of_operands Rule.U2)
      (of_pairs Rule.U3) (of_operands Rule.U4)

  pub about_each : (vs : List Violation) → vs ≡ violations_of i → (t : ℕ) (v : Violation) → slice_get vs t ≡ Some v → IsAbout (length i.operands) v
  about_each vs same t v at =
      subst About (get_or_from_slice_get vs t v v at) (subst (All About) (sym same) all_about t v (slice_get_within vs t v at))

-- ---- parts of a setting

and_first : (a b : Bool) → IsTrue (a && b) → IsTrue a
and_first true b both = refl
and_first false b both = cc

pub small_here : (x : Context) → IsSmall x.interface.now → IsMember x.shape.now (shapes_of x.interface.now) → fits.IsSmall x
small_here x small member = record {
  each = λ k unseen. small.each x.shape.now k member (and_first (has_address x.interface.now x.shape.now k && is_written_only x.interface.now x.shape.now k) _ unseen);
}

-- the moves of a block are moves
pub moved_all : (x : Context) (g : Graph) (depths : List ℕ) (moves : List LineMoves) → FitDepths g depths → AreMovesOf x g depths moves → All (IsMoved x.interface.now x.shape.now) moves
moved_all x g depths moves fit are k d below =
    let count = are.count in
    let line = line_at k (omega (arith, below, count)) in
    record {
      line = line.0;
      depth = slice_index depths k;
      few = fit.few k;
      room = λ push. fit.push k line.0 line.1 push;
      moves = are.each k line.0 (get_or moves k d) line.1 (slice_get-get_or moves k d below);
    }
  where
    line_at : (k : ℕ) → k < length g.insts → (line : Sym) × (slice_get g.insts k ≡ Some line)
    line_at k lt = elim (slice_get_cases g.insts k).1 [
      | inl there ↦ (there.0, there.2)
      | inr past ↦ absurd (let le = past.0 in omega (arith, le, lt))
    ]

-- one instruction more
pub moves_next : (x : Context) (g : Graph) (depths : List ℕ) (n : ℕ) (line : Sym) (m : LineMoves) (old new : List LineMoves) → slice_get g.insts n ≡ Some line
    → IsLineMoves x.interface.now x.shape.now (slice_index depths n) line m → AreMovesTo x g depths n old → new ≡ old ++ m ∷ [] → AreMovesTo x g depths (n + 1) new
moves_next x g depths n line m old new at is so_far pushed = subst (AreMovesTo x g depths (n + 1)) (sym pushed) (record { count = count; each = each })
  where
    count : length (old ++ m ∷ []) ≡ n + 1
    count = let longer = length-append old (m ∷ []) in let as_many = so_far.count in omega (arith, longer, as_many)

    each : (k : ℕ) (q : Sym) (other : LineMoves) → slice_get g.insts k ≡ Some q → slice_get (old ++ m ∷ []) k ≡ Some other → IsLineMoves x.interface.now x.shape.now (slice_index depths k) q other
    each k q other at_line at_moves = elim (cases_lt k n) [
      | inl less ↦ so_far.each k q other at_line (sym (slice_get-append_first old (m ∷ []) k (let as_many = so_far.count in omega (arith, less, as_many))) ∙ at_moves)
      | inr not_less ↦
          let within = slice_get_within (old ++ m ∷ []) k other at_moves in
          let longer = length-append old (m ∷ []) in
          let as_many = so_far.count in
          let same : k ≡ n = omega (arith, not_less, within, longer, as_many) in
          let last : slice_get (old ++ m ∷ []) k ≡ Some m = slice_get-append_rest old (m ∷ []) k (omega (arith, same, as_many)) ∙ ap (slice_get (m ∷ [])) (let zero_left : k - length old ≡ 0 = omega (arith, same, as_many) in zero_left) in
          let one : Some m ≡ Some other = sym last ∙ at_moves in
          let two : Some line ≡ Some q = sym at ∙ ap (slice_get g.insts) (sym same) ∙ at_line in
          let is_m : m ≡ other = cc in
          let is_line : line ≡ q = cc in
          subst (λ (r : LineMoves). IsLineMoves x.interface.now x.shape.now (slice_index depths k) q r) is_m
          (subst (λ (t : Sym). IsLineMoves x.interface.now x.shape.now (slice_index depths k) t m) is_line
          (subst (λ j. IsLineMoves x.interface.now x.shape.now (slice_index depths j) line m) (sym same) is))
    ]

pub moves_done : (x : Context) (g : Graph) (depths : List ℕ) (n : ℕ) (moves : List LineMoves) → n ≡ length g.insts → AreMovesTo x g depths n moves → AreMovesOf x g depths moves
moves_done x g depths n moves all are = record { count = are.count ∙ all; each = are.each }

pub moves_none : (x : Context) (g : Graph) (depths : List ℕ) → AreMovesTo x g depths 0 []
moves_none x g depths = record { count = refl; each = λ k line m at_line at_moves. cc }

-- ---- the noted lines of one shape and of all

module _ (x : Setting) (is : IsSetting x) where
  pub under : (v : Violation) (line : ℕ) → BreaksIn x v line → IsBrokenUnder x.interface x.live x.shape x.graph v line
  under v line broken = record { depths = x.depths; shares = x.shares; setting = is; broken = broken }

  pub inside : (v : Violation) (line : ℕ) → IsBrokenUnder x.interface x.live x.shape x.graph v line → BreaksIn x v line
  inside v line u = record {
    node = u.broken.node;
    breaks = one_setting x.interface x.live x.shape x.graph u.depths x.depths u.shares x.shares u.setting is v u.broken.node u.broken.breaks;
    is_line = u.broken.is_line;
  }

  pub noted_under : (vs : List Violation) (old new : List ℕ) → IsNoted (BreaksIn x) vs old new → IsNoted (IsBrokenUnder x.interface x.live x.shape x.graph) vs old new
  noted_under vs old new noted = noted_as old new under inside noted

module _ (i : Interface) (live : List Shape) (gs : List Graph) where
  pub noted_start : (vs : List Violation) (xs : List ℕ) → IsNoted (IsBrokenBelow i live gs 0) vs xs xs
  noted_start vs xs = noted_none xs (λ v line broken. let below = broken.below in omega (arith, below))

  -- one shape more
  pub noted_shape : (vs : List Violation) (k : ℕ) (s : Shape) (g : Graph) (start old new : List ℕ) → slice_get live k ≡ Some s → slice_get gs k ≡ Some g
      → IsNoted (IsBrokenBelow i live gs k) vs start old → IsNoted (IsBrokenUnder i live s g) vs old new → IsNoted (IsBrokenBelow i live gs (k + 1)) vs start new
  noted_shape vs k s g start old new at_shape at_graph before here = noted_as start new up down (noted_then start old new before here)
    where
      up : (v : Violation) (line : ℕ) → IsBrokenBelow i live gs k v line ⊎ IsBrokenUnder i live s g v line → IsBrokenBelow i live gs (k + 1) v line
      up v line (inl b) = record { number = b.number; below = (let below = b.below in omega (arith, below)); shape = b.shape; graph = b.graph; is_shape = b.is_shape; is_graph = b.is_graph; broken = b.broken }
      up v line (inr u) = record { number = k; below = omega arith; shape = s; graph = g; is_shape = at_shape; is_graph = at_graph; broken = u }

      down : (v : Violation) (line : ℕ) → IsBrokenBelow i live gs (k + 1) v line → IsBrokenBelow i live gs k v line ⊎ IsBrokenUnder i live s g v line
      down v line b = elim (cases_lt b.number k) [
        | inl less ↦ inl (record { number = b.number; below = less; shape = b.shape; graph = b.graph; is_shape = b.is_shape; is_graph = b.is_graph; broken = b.broken })
        | inr not_less ↦
            let below = b.below in
            let same : b.number ≡ k = omega (arith, below, not_less) in
            let shape : Some b.shape ≡ Some s = sym b.is_shape ∙ ap (slice_get live) same ∙ at_shape in
            let graph : Some b.graph ≡ Some g = sym b.is_graph ∙ ap (slice_get gs) same ∙ at_graph in
            let one : b.shape ≡ s = cc in
            let other : b.graph ≡ g = cc in
            inr (subst (λ t. IsBrokenUnder i live t g v line) one (subst (λ h. IsBrokenUnder i live b.shape h v line) other b.broken))
      ]

  -- below all of them is under one of them
  pub all_found : (vs : List Violation) (entries : List ℕ) → IsNoted (IsBrokenBelow i live gs (length live)) vs (replicate (length vs) 0) entries
      → AreFindings (IsBroken i live gs) vs (listed_of vs entries)
  all_found vs entries noted = found (IsBroken i live gs) vs entries (noted_as (replicate (length vs) 0) entries up down noted)
    where
      up : (v : Violation) (line : ℕ) → IsBrokenBelow i live gs (length live) v line → IsBroken i live gs v line
      up v line b = record {
        number = b.number;
        shape = b.shape;
        graph = b.graph;
        is_shape = b.is_shape;
        is_graph = b.is_graph;
        depths = b.broken.depths;
        shares = b.broken.shares;
        setting = b.broken.setting;
        node = b.broken.broken.node;
        breaks = b.broken.broken.breaks;
        is_line = b.broken.broken.is_line;
      }

      down : (v : Violation) (line : ℕ) → IsBroken i live gs v line → IsBrokenBelow i live gs (length live) v line
      down v line b = record {
        number = b.number;
        below = slice_get_within live b.number b.shape b.is_shape;
        shape = b.shape;
        graph = b.graph;
        is_shape = b.is_shape;
        is_graph = b.is_graph;
        broken = record { depths = b.depths; shares = b.shares; setting = b.setting; broken = record { node = b.node; breaks = b.breaks; is_line = b.is_line } };
      }

  -- what is listed
  pub found_answer : (r : Result (List Finding) Memory) (vs : List Violation) (entries : List ℕ) → vs ≡ violations_of i → IsNoted (IsBrokenBelow i live gs (length live)) vs (replicate (length vs) 0) entries
      → IfOk r (λ found. found ≡ listed_of vs entries) → IfOk r (AreFindings (IsBroken i live gs) (violations_of i))
  found_answer (Ok found) vs entries same noted is =
      subst (AreFindings (IsBroken i live gs) (violations_of i)) (sym is)
      (subst (λ ws. AreFindings (IsBroken i live gs) ws (listed_of vs entries)) same (all_found vs entries noted))
  found_answer (Err end) vs entries same noted is = tt

-- ---- a walk

module _ (w : Walk) where
  abbrev context : Context
  context = w.flow.context.now

  abbrev interface : Interface
  interface = context.interface.now

  moving : AreMovesOf context w.flow.graph.now w.flow.depths.now w.flow.moves.now → All (FitsMoves w.flow.layout.now) w.flow.moves.now → AreMoves w.flow
  moving are fit = record {
    count = are.count;
    each = λ n line m at_line at_moves.
        let is = are.each n line m at_line at_moves in
        let below = slice_get_within w.flow.moves.now n m at_moves in
        record {
          reads = is.reads;
          puts = is.puts;
          fits = subst (FitsMoves w.flow.layout.now) (get_or_from_slice_get w.flow.moves.now n m m at_moves) (fit n m below);
        };
  }

  pub is_walk : IsContext context → IsInterface interface → IsSmall interface → IsMember context.shape.now (shapes_of interface) → IsGraph w.flow.graph.now → AreDepths w.flow.graph.now w.flow.depths.now
      → IsLayout w.flow.layout.now → w.flow.layout.now.operands ≡ length interface.operands → length w.flow.sharers.now ≡ 7 + length interface.operands
      → AreMovesOf context w.flow.graph.now w.flow.depths.now w.flow.moves.now → All (FitsMoves w.flow.layout.now) w.flow.moves.now
      → AreBlocks (size_of w.flow.graph.now) (goes w.flow.graph.now) w.flow.blocks.now
      → AreMasks context.ground.now.names w.names.now.masks → w.violations.now ≡ violations_of interface
      → AreOfPairs w.violations.now w.pairs → IsWalk w
  is_walk known is small member graph depths layout operands sharers moves fit blocks names violations pairs = record {
    flow = record {
      graph = graph;
      layout = layout;
      operands = operands;
      context = known;
      small = small_here context small member;
      sharers = sharers ∙ ap (λ n. 7 + n) (sym operands);
      moves = moving moves fit;
      blocks = blocks;
    };
    interface = is;
    depths = depths.count;
    names = names;
    pairs = pairs;
    about = about_each interface w.violations.now violations;
    moves = moves.each;
  }

-- ---- the answer for one shape

module _ (i : Interface) (live : List Shape) (s : Shape) (g : Graph) (depths : List ℕ) (l : Layout) (sharers : List ℕ) where
  abbrev told : Setting
  told = record { interface = i; live = live; shape = s; graph = g; depths = depths; shares = sharing_in l sharers }

  is_told : AreDepths g depths → l.operands ≡ length i.operands → TellsSharing i s (shares_by sharers (7 + length i.operands)) → IsSetting told
  is_told are operands tells = record {
    depths = are;
    shares = subst (λ n. TellsSharing i s (shares_by sharers (7 + n))) (sym operands) tells;
  }

  pub noted_answer : (r : Result (Unit {0}) Memory) (vs : List Violation) (old new : List ℕ) → AreDepths g depths → l.operands ≡ length i.operands → TellsSharing i s (shares_by sharers (7 + length i.operands))
      → OnOk r (IsNoted (BreaksIn told) vs old new) → OnOk r (IsNoted (IsBrokenUnder i live s g) vs old new)
  noted_answer (Ok u) vs old new are operands tells noted = noted_under told (is_told are operands tells) vs old new noted
  noted_answer (Err end) vs old new are operands tells noted = tt
