-- Rows with plain names, and what keeps them so.
use Rattle.std.proofs.Common.{◌≡◌, ◌∷◌, ◌++◌, [], ℕ, List, Bool, true, false, cond, not, length, drop, map, take, ◌∙◌}
use Rattle.std.proofs.lemmas.Bool.{and_from}
use Rattle.std.proofs.lemmas.List.Elements.{All-map, All-cons, All-nil, All-append, All-filter, All-weaker, All-take, All-drop}
use Rattle.std.proofs.lemmas.List.Folds.{list_all-append}
use Rattle.dav_core.specs.declared.tree.Row.{Row}
use Rattle.dav_core.specs.declared.time.FileTime.{FileTime}
use Rattle.dav_core.specs.Path.{Names, is_plain, all_plain, is_front, same_names}
use Rattle.dav_core.specs.World.{IsPlain, ArePlain}
use Rattle.dav_core.specs.Changes.{timed_row, moved_row, without}
use Rattle.dav_core.proofs.Plain.{plain_drop}

-- a row more
pub plain_more : (old new : List Row) (row : Row) → ArePlain old → new ≡ old ++ row ∷ [] → IsPlain row → ArePlain new
plain_more old new row all e here = rw e (All-append IsPlain old (row ∷ []) all (All-cons IsPlain row [] here (All-nil IsPlain)))

-- rows that are taken away
pub plain_without : (path : Names) (rows : List Row) → ArePlain rows → ArePlain (without path rows)
plain_without path rows all = All-filter (λ row. not (is_front path row.path)) IsPlain rows all

each_plain : (f : Row → Row) (rows : List Row) → ((r : Row) → IsPlain r → IsPlain (f r)) → ArePlain rows → ArePlain (map f rows)
each_plain f rows keeps all = All-map IsPlain f rows (All-weaker IsPlain (λ r. IsPlain (f r)) keeps rows all)

pub timed_plain : (b : Bool) (t : FileTime) (r : Row) → IsPlain r → IsPlain (cond b (record r { time = t }) r)
timed_plain true t r plain = plain
timed_plain false t r plain = plain

-- rows that get another time
pub plain_timed : (path : Names) (t : FileTime) (rows : List Row) → ArePlain rows → ArePlain (map (timed_row path t) rows)
plain_timed path t rows all = each_plain (timed_row path t) rows (λ r plain. timed_plain (same_names path r.path) t r plain) all

-- rows of a vector that get another time
pub plain_set : (n : ℕ) (new mid old : List Row) (path : Names) (t : FileTime) → ArePlain old → mid ≡ old → new ≡ map (timed_row path t) mid
    → ArePlain (take n (new ++ drop (length new) old))
plain_set n new mid old path t all same e =
    All-take IsPlain n (new ++ drop (length new) old) (All-append IsPlain new (drop (length new) old) (rw (e, same) (plain_timed path t old all)) (All-drop IsPlain (length new) old all))

plain_path : (to rest : Names) → all_plain to ≡ true → all_plain rest ≡ true → all_plain (to ++ rest) ≡ true
plain_path to rest e f = list_all-append is_plain to rest ∙ and_from (all_plain to) (all_plain rest) e f

moved_by : (b : Bool) (path : Names) (r : Row) → all_plain path ≡ true → IsPlain r → IsPlain (cond b (record r { path = path }) r)
moved_by true path r new plain = new
moved_by false path r new plain = plain

-- rows that are moved to another path
pub plain_moved : (from to : Names) (rows : List Row) → all_plain to ≡ true → ArePlain rows → ArePlain (map (moved_row from to) rows)
plain_moved from to rows new all =
    each_plain (moved_row from to) rows
    (λ r plain. moved_by (is_front from r.path) (to ++ drop (length from) r.path) r (plain_path to (drop (length from) r.path) new (plain_drop (length from) r.path plain)) plain) all
