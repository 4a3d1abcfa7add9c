-- Bytes written over several calls.
use Rattle.std.proofs.Common.{◌≡◌, ℕ, ◌+◌, ◌-◌, ◌≤◌, List, ◌++◌, length, take, drop, sym, ◌∙◌, ap, arith, append_assoc, length-drop}
use Rattle.std.proofs.Math.Seq.{take-add}
use Rattle.std.proofs.lemmas.List.{append-nil, take_all}
use Rattle.ck_ports.specs.Written.{Written, Writes, WritesPrefix}

-- what is left of the bytes, as a range of them
abbrev rest : List ℕ → ℕ → List ℕ
rest bytes done = take (length bytes - done) (drop done bytes)

whole_rest : (bytes : List ℕ) (done : ℕ) → rest bytes done ≡ drop done bytes
whole_rest bytes done = take_all (length bytes - done) (drop done bytes) (omega (arith, length-drop done bytes))

-- the first bytes, and then some of the others
pub writes_on : (bytes : List ℕ) (done n : ℕ) (old mid new : Written) → Writes (take done bytes) old mid → Writes (take n (rest bytes done)) mid new → Writes (take (done + n) bytes) old new
writes_on bytes done n old mid new before then =
    then
    ∙ ap (λ l. l ++ take n (rest bytes done)) before
    ∙ append_assoc old.bytes (take done bytes) (take n (rest bytes done))
    ∙ ap (λ l. old.bytes ++ (take done bytes ++ take n l)) (whole_rest bytes done)
    ∙ ap (λ l. old.bytes ++ l) (sym (take-add done n bytes))

pub prefix_on : (bytes : List ℕ) (done : ℕ) (old mid new : Written) → done ≤ length bytes → Writes (take done bytes) old mid → WritesPrefix (rest bytes done) mid new → WritesPrefix bytes old new
prefix_on bytes done old mid new within before then =
    let fits : length (rest bytes done) ≡ length bytes - done = ap length (whole_rest bytes done) ∙ length-drop done bytes in
    (done + then.0, omega (arith, then.1, fits), writes_on bytes done then.0 old mid new before then.2)

-- no byte was written
pub prefix_none : (piece : List ℕ) (old new : Written) → new.bytes ≡ old.bytes → WritesPrefix piece old new
prefix_none piece old new same = (0, omega arith, same ∙ sym (append-nil old.bytes))
