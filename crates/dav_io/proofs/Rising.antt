-- Counts of faults that rise, or stand at the greatest.
use Rattle.std.specs.Prelude.{◌≤◌, ℕ}
use Rattle.std.proofs.Common.{inl, inr, arith}
use Rattle.dav_io.specs.Counts.{RefusedNothing, Rose}

pub rose_before : (a b c : ℕ) → a ≤ b → Rose b c → Rose a c
rose_before a b c h r = elim r [ inl low ↦ inl (omega arith) | inr full ↦ inr full ]

pub rose_after : (a b c : ℕ) → Rose a b → b ≤ c → Rose a c
rose_after a b c r h = elim r [ inl low ↦ inl (omega arith) | inr full ↦ inr (omega arith) ]

-- where nothing was refused no count rose
pub no_rise : (a b : ℕ) → RefusedNothing a b → Rose a b → ⊥
no_rise a b nothing (inl more) = let same = nothing.same in omega (arith, same, more)
no_rise a b nothing (inr full) = let room = nothing.room in omega (arith, room, full)
