-- The spellings of conditions (Intel SDM volume 2, "Jcc").
use Rattle.std.specs.Prelude.{ℕ, nat_eq, List, [], ◌∷◌, codes, Option, None, Some, if◌then◌else◌}
use Rattle.std.specs.Cmp.Lexicographic.{pointwise}
use Rattle.asm_core.specs.declared.cond.Cond.{Cond}
use Rattle.asm_core.specs.declared.cond.Cond.TheVariants.{O, No, B, Ae, E, Ne, Be, A, S, Ns, P, Np, L, Ge, Le, G}

-- each spelling with its condition; those of one condition stand together
abbrev pub spellings : List (List ℕ × Cond)
spellings =
    (codes "o", O) ∷ (codes "no", No)
    ∷ (codes "b", B) ∷ (codes "c", B) ∷ (codes "nae", B) ∷ (codes "ae", Ae) ∷ (codes "nb", Ae) ∷ (codes "nc", Ae)
    ∷ (codes "e", E) ∷ (codes "z", E) ∷ (codes "ne", Ne) ∷ (codes "nz", Ne)
    ∷ (codes "be", Be) ∷ (codes "na", Be) ∷ (codes "a", A) ∷ (codes "nbe", A)
    ∷ (codes "s", S) ∷ (codes "ns", Ns)
    ∷ (codes "p", P) ∷ (codes "pe", P) ∷ (codes "np", Np) ∷ (codes "po", Np)
    ∷ (codes "l", L) ∷ (codes "nge", L) ∷ (codes "ge", Ge) ∷ (codes "nl", Ge)
    ∷ (codes "le", Le) ∷ (codes "ng", Le) ∷ (codes "g", G) ∷ (codes "nle", G) ∷ []

-- what the first entry with that text says
abbrev pub entry_named : {A : Type 0} → List ℕ → List (List ℕ × A) → Option A
entry_named text [] = None
entry_named text (x ∷ xs) = if pointwise nat_eq text x.0 then Some x.1 else entry_named text xs

-- the condition of that spelling
abbrev pub cond_named : List ℕ → Option Cond
cond_named text = entry_named text spellings
