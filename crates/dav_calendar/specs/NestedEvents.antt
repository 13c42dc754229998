-- Nested things as the list of what they tell, in order, and what such a list gives back.
use Rattle.std.specs.Prelude.{List, [], ◌∷◌, Option, Some, None}
use Rattle.dav_calendar.specs.Nested.{Nested, bare, and_one}

-- one begins, or, where nothing is told, the innermost one ends
abbrev pub events : {A : Type 0} → Nested A → List (Option A) → List (Option A)
events bare es = es
events (and_one said inner others) es = Some said ∷ events inner (None ∷ events others es)

abbrev pub put_one : {A : Type 0} → A → List (Nested A) → List (Nested A)
put_one said [] = []
put_one said (inner ∷ []) = []
put_one said (inner ∷ others ∷ more) = and_one said inner others ∷ more

-- those that are open where these events begin
abbrev pub open_at : {A : Type 0} → List (Option A) → List (Nested A)
open_at [] = bare ∷ []
open_at (None ∷ es) = bare ∷ open_at es
open_at (Some said ∷ es) = put_one said (open_at es)

abbrev pub first_of : {A : Type 0} → List (Nested A) → Nested A
first_of [] = bare
first_of (f ∷ fs) = f
