-- How a proof tells forests apart: by their events.
use Rattle.std.specs.Prelude.{ℕ, List, []}
use Rattle.std.specs.Coded.{Coded, code_by, coded×, coded⊎, coded_ℕ, coded_list, coded_option}
use Rattle.dav_lock.specs.Pairs.{Table}
use Rattle.dav_lock.specs.Forests.{Forest}
use Rattle.dav_lock.specs.Events.{Event, events, open_at, first_of}
use Rattle.dav_lock.specs.EventsTellForests.{events_tell}

abbrev pub text_code : Coded (List ℕ)
text_code = coded_list coded_ℕ

abbrev pub table_code : Coded Table
table_code = coded_list (coded× text_code text_code)

abbrev pub event_code : Coded Event
event_code =
    coded⊎
    (coded_option (coded× (coded_option text_code)
    (coded× (coded_option text_code) (coded× (coded_option table_code) (coded× text_code table_code)))))
    (coded× coded_ℕ (coded× text_code (coded_option text_code)))

abbrev pub forest_code : Coded Forest
forest_code = code_by (List Event) (coded_list event_code) (λ f. events f []) (λ es. first_of (open_at es)) events_tell
