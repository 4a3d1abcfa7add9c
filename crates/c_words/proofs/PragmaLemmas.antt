-- One byte in the search for `#pragma pack`.
use Rattle.std.proofs.Common.{◌≡◌, ℕ, ◌+◌, ◌-◌, ◌<◌, ◌≤◌, true, false, List, ◌∷◌, drop, take, length, get_or, Some, None, refl, arith, length-drop}
use Rattle.std.proofs.lemmas.List.{drop_more, drop_all, take_all}
use Rattle.c_words.specs.declared.pragma.Sought.{Sought}
use Rattle.c_words.specs.Pragma.{is_at_pack, pack_from, sought_behind}

pub pack-none : (s : Sought) (i : ℕ) (text : List ℕ) → length text ≤ i → pack_from s i (drop i text) ≡ None
unfolding pack_from
pack-none s i text le = rw (drop_all i text le) refl

pub pack-here : (s : Sought) (i : ℕ) (text : List ℕ) → i < length text → is_at_pack s (drop i text) ≡ true
    → pack_from s i (drop i text) ≡ Some i
unfolding pack_from
pack-here s i text lt = rw (drop_more text i 0 lt) (λ e. rw e refl)

pub pack-later : (s : Sought) (i : ℕ) (text : List ℕ) → i < length text → is_at_pack s (drop i text) ≡ false
    → pack_from s i (drop i text) ≡ pack_from (sought_behind s (drop i text)) (i + 1) (drop (i + 1) text)
unfolding pack_from
pack-later s i text lt = rw (drop_more text i 0 lt) (λ e. rw e refl)

-- the bytes from the offset on, as a slice has them
pub bytes-from : (text : List ℕ) (i : ℕ) → take (length text - i) (drop i text) ≡ drop i text
bytes-from text i = let all : length (drop i text) ≤ length text - i = grind (arith, length-drop) in take_all _ _ all

pub ruleset pack_steps = (pack-none, pack-here, pack-later)
