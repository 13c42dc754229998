-- Times that don't stand after others, and times that stand after others.
use Rattle.std.proofs.Common.{◌≡◌, ◌≤◌, true, arith}
use Rattle.std.proofs.lemmas.Bool.Decides.{nat_tests}
use Rattle.std.proofs.lemmas.Int.{ints}
use Rattle.dav_core.specs.declared.time.FileTime.{FileTime}
use Rattle.dav_core.specs.Edits.{is_later}
use Rattle.dav_core.specs.World.{NotAfter}

pub not_after_itself : (t : FileTime) → NotAfter t t
not_after_itself t = (omega (arith, ints), λ e. omega arith)

pub not_after_then : (a b c : FileTime) → NotAfter a b → NotAfter b c → NotAfter a c
not_after_then a b c (p, f) (q, g) = (
  omega (arith, ints),
  λ e.
      let ab : a.secs ≡ b.secs = omega (arith, ints) in
      let bc : b.secs ≡ c.secs = omega (arith, ints) in
      let x : a.nanos ≤ b.nanos = f ab in
      let y : b.nanos ≤ c.nanos = g bc in
      omega arith,
)

-- a time that stands after another stands after all that aren't after that one
pub later_than : (t a b : FileTime) → NotAfter a b → is_later t b ≡ true → is_later t a ≡ true
later_than t a b (p, f) later = grind (arith, ints, nat_tests)
