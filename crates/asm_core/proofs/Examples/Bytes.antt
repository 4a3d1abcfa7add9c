-- Bytes at the edges of two ranges that lie side by side, at 100 to 102 and at 103.
use Rattle.std.proofs.Common.{◌≡◌, [], ◌∷◌, true, false, None, refl}
use Rattle.asm_core.specs.Machine.{covers, byte_at, layouts_of}
use Rattle.asm_core.specs.Memory.{word_at}
use Rattle.asm_core.specs.declared.machine.Range.{Range}

abbrev pub low : Range
low = record { base = 100; bytes = 10 ∷ 20 ∷ 30 ∷ []; writable = true; owner = None }

abbrev pub high : Range
high = record { base = 103; bytes = 40 ∷ []; writable = false; owner = None }

below : covers low 99 ≡ false
below = refl

first : covers low 100 ≡ true
first = refl

last : covers low 102 ≡ true
last = refl

past : covers low 103 ≡ false
past = refl

byte_below : byte_at (low ∷ high ∷ []) 99 ≡ 0
byte_below = refl

byte_first : byte_at (low ∷ high ∷ []) 100 ≡ 10
byte_first = refl

byte_last : byte_at (low ∷ high ∷ []) 102 ≡ 30
byte_last = refl

byte_next : byte_at (low ∷ high ∷ []) 103 ≡ 40
byte_next = refl

byte_past : byte_at (low ∷ high ∷ []) 104 ≡ 0
byte_past = refl

-- four bytes from 100 on, the low one first: 10 + 256 * 20 + 65536 * 30 + 16777216 * 40
word : word_at 4 100 (low ∷ high ∷ []) ≡ 673059850
word = refl

-- an address past 2^32 - 1 begins anew at 0
wrapped : word_at 2 4294967295 (record low { base = 0 } ∷ record high { base = 4294967295 } ∷ []) ≡ 2600
wrapped = refl

-- only what the bytes hold is left out
layouts : layouts_of (low ∷ []) ≡ record { base = 100; size = 3; writable = true; owner = None } ∷ []
layouts = refl
