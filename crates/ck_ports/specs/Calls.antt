-- The calls made on an object in memory, and which of them are to fail.
use Rattle.std.specs.Prelude.{◌≡◌, Contains}
use Rattle.ck_ports.specs.declared.calls.Calls.{Calls}
use Rattle.ck_ports.specs.Saturating.{one_more}

-- the next call is to fail: calls are numbered from 1 on, and the number stays at its greatest value
abbrev pub IsNextToFail : Calls → Type 0
IsNextToFail calls = Contains calls.failing (one_more calls.so_far)

-- one call was made
abbrev pub CallsOnce : Calls → Calls → Type 0
CallsOnce old new = new ≡ record old { so_far = one_more old.so_far }
