-- The events of nested things give them back: the law that their code cites, so it stands among the definitions.
use Rattle.std.specs.Prelude.{◌≡◌, List, [], ◌∷◌, Option, None, refl}
use Rattle.std.specs.Coded.{Coded, code_by, coded_list, coded_option}
use Rattle.std.proofs.Common.{ap, ◌∙◌}
use Rattle.dav_calendar.specs.Nested.{Nested, bare, and_one, joined}
use Rattle.dav_calendar.specs.NestedEvents.{events, put_one, open_at, first_of}

pub joined-bare : {A : Type 0} (f : Nested A) → joined f bare ≡ f
joined-bare bare = refl
joined-bare (and_one said inner others) = ap (and_one said inner) (joined-bare others)

open_at-events : {A : Type 0} (f : Nested A) (es : List (Option A)) (g : Nested A) (gs : List (Nested A)) → open_at es ≡ g ∷ gs
    → open_at (events f es) ≡ joined f g ∷ gs
open_at-events bare es g gs h = h
open_at-events (and_one said inner others) es g gs h =
    ap (put_one said) (open_at-events inner (None ∷ events others es) bare (joined others g ∷ gs)
    (ap (λ s. bare ∷ s) (open_at-events others es g gs h)))
    ∙ ap (λ i. and_one said i (joined others g) ∷ gs) (joined-bare inner)

pub events_tell : {A : Type 0} (f : Nested A) → first_of (open_at (events f [])) ≡ f
events_tell f = ap first_of (open_at-events f [] bare [] refl) ∙ joined-bare f

-- how a proof tells nested things apart, where it tells apart what each says: by their events
abbrev pub nested_code : {A : Type 0} → Coded A → Coded (Nested A)
nested_code {A = A} said_code =
    code_by (List (Option A)) (coded_list (coded_option said_code)) (λ f. events f [])
    (λ es. first_of (open_at es)) (λ f. events_tell f)
