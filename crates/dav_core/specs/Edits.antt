-- What a writing call of a disk may make of a world: one edit, with the numbers and times that the disk gives.
use Rattle.std.specs.Prelude.{◌≡◌, ◌≢◌, ◌≤◌, ◌<◌, ◌==◌, ◌&&◌, ◌||◌, ◌++◌, ◌⊎◌, ℕ, List, [], ◌∷◌, Bool, true, cond, take, map, nat_lt, int_lt, Option, None, Some}
use Rattle.std.specs.Ordering.{int_eq}
use Rattle.dav_core.specs.declared.tree.Row.{Row}
use Rattle.dav_core.specs.declared.tree.Kind.{Kind}
use Rattle.dav_core.specs.declared.tree.Kind.TheVariants.{Dir, File, Link}
use Rattle.dav_core.specs.declared.time.FileTime.{FileTime}
use Rattle.dav_core.specs.Path.{Names, parent_of}
use Rattle.dav_core.specs.World.{World, Stored, Holds, SameBesidesOpens, NotAfter, put, bytes_of}
use Rattle.dav_core.specs.Changes.{timed_row, without, moved_row}

-- whether a time stands after another
abbrev pub is_later : FileTime → FileTime → Bool
is_later a b = int_lt b.secs a.secs || (int_eq a.secs b.secs && nat_lt b.nanos a.nanos)

-- A time that a disk gives between two worlds: later than all earlier ones.
pub record IsNew (v : World) (t : FileTime) (w : World) : Type 0 where
  pub later : is_later t v.latest ≡ true
  pub used : NotAfter t w.latest
  pub nanos : t.nanos < 1000000000

-- A number likewise: above all earlier ones.
pub record IsNext (v : World) (number : ℕ) (w : World) : Type 0 where
  pub above : v.greatest < number
  pub used : number ≤ w.greatest

-- The same files and listings are open, at the same places.
pub record SameOpens (v w : World) : Type 0 where
  pub opens : w.opens ≡ v.opens
  pub listings : w.listings ≡ v.listings

-- `m` is what an edit makes of `v`, and `w` is `m`, where numbers and times may be used up beside. Of a file that
-- somebody holds in `w`, and that was held in one of the two, bytes and time are those of `m`.
pub record Becomes (v m w : World) : Type 0 where
  pub tree : w.tree ≡ m.tree
  pub files : (number : ℕ) → Holds w number → (Holds v number ⊎ Holds m number) × (w.files number ≡ m.files number)
  pub script : w.script ≡ v.script
  pub greatest : v.greatest ≤ w.greatest
  pub latest : NotAfter v.latest w.latest

-- A directory whose names change gets a time.
abbrev pub touched_to : Names → FileTime → World → World
touched_to path t w = record w { tree = map (timed_row path t) w.tree }

-- what is stored of a row that is made: of a file these bytes, of all else nothing
abbrev pub stored_as : Kind → List ℕ → FileTime → Option Stored
stored_as File bytes t = Some (record { bytes = bytes; time = t })
stored_as Dir bytes t = None
stored_as Link bytes t = None

-- a row more
abbrev pub made : Row → List ℕ → World → World
made row bytes w = record w {
  tree = w.tree ++ row ∷ [];
  files = put row.number (stored_as row.kind bytes row.time) w.files;
}

-- the row of a number with another time
abbrev pub timed_number : ℕ → FileTime → Row → Row
timed_number number t row = cond (row.number == number) (record row { time = t }) row

-- a file's bytes and its time
abbrev pub filled : ℕ → List ℕ → FileTime → World → World
filled number bytes t w = record w {
  tree = map (timed_number number t) w.tree;
  files = put number (Some (record { bytes = bytes; time = t })) w.files;
}

-- what stands at a path goes, with all below it
abbrev pub taken : Names → World → World
taken path w = record w { tree = without path w.tree }

-- what stands at a path stands at another, with all below it, in place of what stood there
abbrev pub moved : Names → Names → World → World
moved from to w = record w { tree = map (moved_row from to) (without to w.tree) }

pub data Edit : Type 0 where
  -- a directory, or a file with these bytes, is made at a path
  makes : Names → Kind → List ℕ → Edit
  -- the file of a number has these bytes in place of its own
  fills : ℕ → List ℕ → Edit
  -- what stands at a path goes, with all below it
  takes : Names → Edit
  -- what stands at a path stands at another, in place of what stood there
  moves : Names → Names → Edit

-- What an edit makes of a world. Bytes that stay equal are no change.
abbrev pub Edited : Edit → World → World → Type 0
Edited (makes path kind bytes) v w = (number : ℕ) × (t u : FileTime) × IsNext v number w × IsNew v t w × IsNew v u w
    × Becomes v (touched_to (parent_of path) u
    (made (record { path = path; kind = kind; number = number; time = t }) bytes v)) w
Edited (fills number bytes) v w = ((bytes ≡ bytes_of v number) × SameBesidesOpens v w)
    ⊎ ((bytes ≢ bytes_of v number) × (t : FileTime) × IsNew v t w × Becomes v (filled number bytes t v) w)
Edited (takes path) v w = (t : FileTime) × IsNew v t w × Becomes v (touched_to (parent_of path) t (taken path v)) w
Edited (moves from to) v w = (t u : FileTime) × IsNew v t w × IsNew v u w
    × Becomes v (touched_to (parent_of to) u (touched_to (parent_of from) t (moved from to v))) w

-- The edit is made, or there is none.
abbrev pub EditedBy : Option Edit → World → World → Type 0
EditedBy None v w = SameBesidesOpens v w
EditedBy (Some e) v w = Edited e v w

-- What of an edit may stand where it was broken off: of a file's bytes a front; of what is moved all.
abbrev pub IsPart : Edit → Edit → Type 0
IsPart (makes path kind bytes) e = (n : ℕ) × (e ≡ makes path kind (take n bytes))
IsPart (fills number bytes) e = (n : ℕ) × (e ≡ fills number (take n bytes))
IsPart (takes path) e = ⊥
IsPart (moves from to) e = e ≡ moves from to
