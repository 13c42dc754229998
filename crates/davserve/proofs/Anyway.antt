-- What holds of each value holds of one that may be there.
use Rattle.std.specs.Prelude.{Option, None, Some, IfSome}

pub anyway : {A : Type 0} {P : A → Type 0} (o : Option A) → ((a : A) → P a) → IfSome o P
anyway None all = tt
anyway (Some a) all = all a
