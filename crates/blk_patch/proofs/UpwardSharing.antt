-- Which places may share a register is told by some test of two numbers: it can't be that there is none.
use Rattle.std.proofs.Common.{◌≡◌, ◌↔◌, ℕ, zero, suc, ◌+◌, ◌<◌, ◌==◌, ◌&&◌, nat_lt, Bool, true, false, IsTrue, length, refl, sym, subst, arith, if◌then◌else◌, inl, inr}
use Rattle.std.proofs.lemmas.Bool.{false≢true, lt-ltb, ltb-true, eq-eqb, ne_eqb, cases_eq, and_parts, and_from}
use Rattle.asm_core.specs.declared.shape.Shape.{Shape}
use Rattle.asm_core.specs.declared.interface.Interface.{Interface}
use Rattle.blk_deps.specs.Operands.{is_place}
use Rattle.blk_deps.specs.Start.{TellsSharing, MayShare}
use Rattle.blk_deps.proofs.SharingLaws.{place_below}

-- Where each number can't lack an answer, the numbers below a bound can't lack theirs together.
module _ {A : Type 0} (a : A) (Is : ℕ → A → Type 0) (each : (k : ℕ) → (((x : A) × Is k x) → ⊥) → ⊥) where
  abbrev with_answer : (ℕ → A) → ℕ → A → ℕ → A
  with_answer f n x k = if k == n then x else f k

  extended : (n : ℕ) (f : ℕ → A) (x : A) → Is n x → ((k : ℕ) → k < n → Is k (f k)) → (k : ℕ) → k < suc n
      → Is k (with_answer f n x k)
  extended n f x here before k below = elim (cases_eq k n) [
    | inl same ↦ rw (eq-eqb k n same) (subst (λ m. Is m x) (sym same) here)
    | inr other ↦ rw (ne_eqb k n other) (before k (omega (arith, below, other)))
  ]

  all_below : (n : ℕ) → (((f : ℕ → A) × ((k : ℕ) → k < n → Is k (f k))) → ⊥) → ⊥
  all_below zero none = none ((λ k. a), (λ k below. absurd (omega (arith, below))))
  all_below (suc n) none =
      all_below n (λ found. each n (λ x. none (with_answer found.0 n x.0, extended n found.0 x.0 x.1 found.1)))

one_answer : (P : Type 0) → (((b : Bool) × (IsTrue b ↔ P)) → ⊥) → ⊥
one_answer P none =
    none (
      false,
      ((λ wrong. absurd (false≢true wrong)), (λ holds. absurd (none (true, ((λ same. holds), (λ same. refl)))))),
    )

told_below : (P : ℕ → ℕ → Type 0) (n : ℕ)
    → (((f : ℕ → ℕ → Bool) × ((p : ℕ) → p < n → (q : ℕ) → q < n → IsTrue (f p q) ↔ P p q)) → ⊥) → ⊥
told_below P n =
    all_below (λ q. false) (λ p row. (q : ℕ) → q < n → IsTrue (row q) ↔ P p q)
    (λ p. all_below false (λ q b. IsTrue b ↔ P p q) (λ q. one_answer (P p q)) n) n

module _ (i : Interface) (s : Shape) where
  told_all : (n : ℕ) (f : ℕ → ℕ → Bool) → n ≡ 7 + length i.operands
      → ((p : ℕ) → p < n → (q : ℕ) → q < n → IsTrue (f p q) ↔ MayShare i s p q)
      → TellsSharing i s (λ p q. nat_lt p n && (nat_lt q n && f p q))
  told_all n f is told p q = (there, back)
    where
      there : IsTrue (nat_lt p n && (nat_lt q n && f p q)) → MayShare i s p q
      there both =
          let one = and_parts (nat_lt p n) (nat_lt q n && f p q) both in
          let two = and_parts (nat_lt q n) (f p q) one.1 in
          (told p (ltb-true p n one.0) q (ltb-true q n two.0)).0 two.1

      below : (k : ℕ) → IsTrue (is_place i s k) → k < n
      below k place = subst (λ m. k < m) (sym is) (place_below i s k place)

      back : MayShare i s p q → IsTrue (nat_lt p n && (nat_lt q n && f p q))
      back may =
          let first = below p may.first in
          let second = below q may.second in
          and_from (nat_lt p n) (nat_lt q n && f p q) (lt-ltb p n first)
          (and_from (nat_lt q n) (f p q) (lt-ltb q n second) ((told p first q second).1 may))

  pub some_sharing : (((shares : ℕ → ℕ → Bool) × TellsSharing i s shares) → ⊥) → ⊥
  some_sharing none =
      let n : ℕ = 7 + length i.operands in
      told_below (MayShare i s) n
      (λ found. none ((λ p q. nat_lt p n && (nat_lt q n && found.0 p q)), told_all n found.0 refl found.1))
