-- What follows from what an object tells before and after a call.
use Rattle.std.specs.Prelude.{◌≡◌, Option, None, Some, refl}
use Rattle.dav_io.specs.Told.{Both}

-- what was told before, from what is told after
pub told_before : {A : Type 0} (old new : Option A) (P : A → A → Type 0) (b : A) → Both old new P → new ≡ Some b → (a : A) × (old ≡ Some a) × P a b
told_before None None P b both e = cc
told_before None (Some c) P b both e = absurd both
told_before (Some a) None P b both e = absurd both
told_before (Some a) (Some c) P b both e = (a, refl, (let f : c ≡ b = cc in rw (← f) both))

-- what is told after, from what was told before
pub told_after : {A : Type 0} (old new : Option A) (P : A → A → Type 0) (a : A) → Both old new P → old ≡ Some a → (b : A) × (new ≡ Some b) × P a b
told_after None None P a both e = cc
told_after None (Some c) P a both e = absurd both
told_after (Some c) None P a both e = absurd both
told_after (Some c) (Some b) P a both e = (b, refl, (let f : c ≡ a = cc in rw (← f) both))

-- two calls, one after the other
pub both_then : {A : Type 0} (old mid new : Option A) (P Q R : A → A → Type 0) → ((a b c : A) → P a b → Q b c → R a c) → Both old mid P → Both mid new Q → Both old new R
both_then None None None P Q R h p q = tt
both_then None None (Some c) P Q R h p q = absurd q
both_then None (Some b) new P Q R h p q = absurd p
both_then (Some a) None new P Q R h p q = absurd p
both_then (Some a) (Some b) None P Q R h p q = absurd q
both_then (Some a) (Some b) (Some c) P Q R h p q = h a b c p q

-- a weaker fact
pub both_map : {A : Type 0} (old new : Option A) (P Q : A → A → Type 0) → ((a b : A) → P a b → Q a b) → Both old new P → Both old new Q
both_map None None P Q h p = tt
both_map None (Some b) P Q h p = absurd p
both_map (Some a) None P Q h p = absurd p
both_map (Some a) (Some b) P Q h p = h a b p

-- what is told stays
pub both_same : {A : Type 0} (old new : Option A) (P : A → A → Type 0) → ((a : A) → P a a) → new ≡ old → Both old new P
both_same None new P h e = rw e tt
both_same (Some a) new P h e = rw e (h a)

-- another fact, where it is known what was told before
pub both_known : {A : Type 0} (old new : Option A) (P Q : A → A → Type 0) → ((a b : A) → old ≡ Some a → P a b → Q a b) → Both old new P → Both old new Q
both_known None None P Q h p = tt
both_known None (Some b) P Q h p = absurd p
both_known (Some a) None P Q h p = absurd p
both_known (Some a) (Some b) P Q h p = h a b refl p

-- two facts at once
pub both_and : {A : Type 0} (old new : Option A) (P Q : A → A → Type 0) → Both old new P → Both old new Q → Both old new (λ a b. P a b × Q a b)
both_and None None P Q p q = tt
both_and None (Some b) P Q p q = absurd p
both_and (Some a) None P Q p q = absurd p
both_and (Some a) (Some b) P Q p q = (p, q)
